-- `put_line` meets its contract: a case for each line.
use Rattle.std.proofs.Common.{refl}
use Rattle.text.specs.Put.{place_after, buffer_after}
use Rattle.listing.proofs.lines.put_line.Goals as goal

pub returns-in-Nothing : goal.returns-in-Nothing
unfolding place_after buffer_after
returns-in-Nothing c = rw c.in-Nothing.is (refl, refl)

pub returns-in-Frame : goal.returns-in-Frame
returns-in-Frame c = rw c.in-Frame.is c.put_frame.ensures

pub returns-in-Refused : goal.returns-in-Refused
returns-in-Refused c = rw c.in-Refused.is c.put_refused.ensures

pub returns-in-Bad : goal.returns-in-Bad
returns-in-Bad c = rw c.in-Bad.is c.put_bad.ensures

pub returns-in-End : goal.returns-in-End
returns-in-End c = rw c.in-End.is c.put_end.ensures
