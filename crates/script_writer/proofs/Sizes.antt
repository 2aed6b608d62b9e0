-- Every event takes three bytes at least: its tag and its length.
use Prim.Native.Nat.{◌≤◌}
use native.Mathlib.Omega.{arith}
use lib.ListN.{length}
use Rattle.script.specs.declared.fields.Field.{Field}
use Rattle.script.specs.declared.fields.Field.TheVariants as F
use Rattle.script_writer.specs.Encoded.{encoded, config_bytes}

pub three_bytes : (f : Field) → 3 ≤ length (encoded f)
unfolding encoded config_bytes
three_bytes (F.Rate x) = omega arith
three_bytes (F.Configure c) = omega arith
three_bytes (F.Source slot frequency strength eligible) = omega arith
three_bytes (F.Retire slot) = omega arith
three_bytes (F.Release slot) = omega arith
three_bytes (F.Trigger slot) = omega arith
three_bytes (F.Seek cycles) = omega arith
three_bytes (F.Advance samples) = omega arith
three_bytes (F.Frame bin seconds) = omega arith
three_bytes (F.NoteInput present) = omega arith
three_bytes F.Reset = omega arith
three_bytes F.Reserve = omega arith
three_bytes (F.ReservedTrigger slot index) = omega arith
