-- `envelope` meets its contract: rising before the attack is over, falling after it.
use Rattle.sequences.specs.Pick.{took, skipped}
use Rattle.frame.specs.Shown.{envelope_of}
use Rattle.frame.proofs.places.envelope.Goals as goal

pub returns-then-x-attack : goal.returns-then-x-attack
unfolding envelope_of
returns-then-x-attack c = took _ _ _ _ c.if-x-attack.true c.taper.ensures

pub returns : goal.returns
unfolding envelope_of
returns c = skipped _ _ _ _ c.if-x-attack.false (rw (c.powered.ensures, c.taper-2.ensures))
