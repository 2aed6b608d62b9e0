-- `register_strength` meets its contract.
use Rattle.pitch.specs.Register.{register_strength}
use Rattle.pitch.proofs.registers.register_strength.Goals as goal

pub returns : goal.returns
unfolding register_strength
returns c = rw c.register_height-height.ensures
