-- `packed` meets its contract: a byte is below 256.
use Rattle.oracle_probe.specs.Numbers.{packed_of}
use Rattle.oracle_probe.proofs.packed.Goals as goal

pub returns : goal.returns
unfolding packed_of
returns c = rw (c.wide-3.ensures.0, c.wide-2.ensures.0, c.wide.ensures.0)
