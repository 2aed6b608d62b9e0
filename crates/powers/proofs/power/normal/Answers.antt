-- `normal` meets its contract: `PlacedAt.placed-above`.
use Rattle.std.proofs.Common.{ℕ, ◌+◌, ◌*◌, ◌/◌, ◌<◌, ◌≤◌, sym, ap, arith}
use lib.Ieee.{binary32, of_bits}
use Rattle.floats.proofs.Narrow.{no_nan}
use Rattle.powers.proofs.PlacedAt.{placed-above}
use Rattle.powers.proofs.power.normal.Goals as goal

under : (k m : ℕ) → k < 254 → m < 9223372036854775808 → k * 8388608 + (m + 274877906944) / 549755813888 ≤ 2139095040
under k m h l = omega arith

pub float_from_bits-result : goal.float_from_bits-result
float_from_bits-result c = no_nan binary32 _ (omega arith)

pub returns : goal.returns
returns c = ap (of_bits binary32) (sym (placed-above 8388608 274877906944 2139095040 0x41380001 c.args.k c.args.m (under c.args.k c.args.m c.requires.0 c.requires.1)))
