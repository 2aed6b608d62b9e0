-- `powered` meets its contract: one test.
use Rattle.std.proofs.Common.{refl, eq-eqb, ne_eqb}
use Rattle.sequences.specs.Pick.{took, skipped}
use Rattle.frame.specs.Shown.{power_of}
use Rattle.frame.proofs.places.powered.Goals as goal

pub returns-then-power-eq3 : goal.returns-then-power-eq3
unfolding power_of
returns-then-power-eq3 c = took _ _ _ _ (eq-eqb _ _ c.if-power-eq3.true) refl

pub returns : goal.returns
unfolding power_of
returns c = skipped _ _ _ _ (ne_eqb _ _ c.if-power-eq3.false) refl
