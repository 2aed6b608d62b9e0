-- `openness` meets its contract: one test in place of two clamps.
use Rattle.windows.specs.Opening.{openness_of, inside_of}
use Rattle.windows.proofs.Lean.{lean}
use Rattle.windows.proofs.openness.Goals as goal

pub returns-then-w : goal.returns-then-w
unfolding openness_of
returns-then-w c = rw c.if-w.true

pub returns : goal.returns
unfolding openness_of inside_of
returns c =
    let s = c.args in
    rw (c.if-w.false, c.bent.ensures, c.pick.ensures, c.abs.ensures, ← lean s.w s.log2_hz c.if-w.false)
