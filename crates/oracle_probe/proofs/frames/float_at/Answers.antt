-- `float_at` meets its contract: within the list the default is not looked at.
use Rattle.std.proofs.Common.{sym}
use lib.Ieee.{nan}
use Rattle.floats.specs.Names.{zero32}
use lib.ListN.{get_or-eq_default}
use Rattle.sequences.specs.Default.{get_d_any}
use Rattle.oracle_probe.proofs.frames.float_at.Goals as goal

pub returns-then-i-flat : goal.returns-then-i-flat
returns-then-i-flat c = let s = c.args in get_d_any s.flat.now s.i nan zero32 c.if-i-flat.true

pub returns : goal.returns
returns c = let s = c.args in sym (get_or-eq_default s.flat.now zero32 c.if-i-flat.false)
