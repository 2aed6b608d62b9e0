-- `register_probability` meets its contract.
use Rattle.pitch.specs.Register.{probability_of}
use Rattle.pitch.proofs.registers.register_probability.Goals as goal

pub returns : goal.returns
unfolding probability_of
returns c = rw c.register_height-height.ensures
