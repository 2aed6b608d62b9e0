-- What the loop of `walk` keeps.
use Rattle.mask_gains.specs.Walk.{Numbers}
use Rattle.mask_gains.proofs.Opens.{Opened}
use Rattle.mask_gains.proofs.touch.walk.Given as goal

abbrev pub invariant-loop-w : goal.invariant-loop-w
invariant-loop-w l = Opened l.w-items l.logs l.w-index l.scratch × Numbers l.scratch
