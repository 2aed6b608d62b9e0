-- `show` meets its contract: one test.
use Rattle.sequences.specs.Pick.{took, skipped}
use Rattle.frame.specs.Shown.{shown_of, root_log_of}
use Rattle.frame.proofs.places.show.Goals as goal

pub returns-then-p : goal.returns-then-p
unfolding shown_of root_log_of
returns-then-p c = took _ _ _ _ c.if-p.true (rw (c.amplitude-amplitude.ensures, c.log2.ensures))

pub returns : goal.returns
unfolding shown_of
returns c = skipped _ _ _ _ c.if-p.false c.nothing_shown.ensures
