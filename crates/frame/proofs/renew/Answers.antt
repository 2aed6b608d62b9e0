-- `renew` meets its contract: what is left of the number is a difference of words.
use Rattle.floats.proofs.Words.{difference-is}
use Rattle.frame.specs.Call.{renewed_of}
use Rattle.std.proofs.Common.{rules}
use Rattle.frame.proofs.renew.Goals as goal

pub returns : goal.returns
unfolding renewed_of
returns c = rw (← difference-is _ _ _ (search rules) (search rules) c.wrapping_sub_usize-engine.ensures.value)
