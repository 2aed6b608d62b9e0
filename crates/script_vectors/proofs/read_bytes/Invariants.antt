-- `read_bytes` is safe and ends: the loop stops at the script's end at the latest.
use Rattle.std.proofs.Common.{◌≡◌, ◌-◌, ◌≤◌, length}
use Rattle.script_vectors.proofs.read_bytes.Given as goal

abbrev pub invariant-loop-i : goal.invariant-loop-i
invariant-loop-i l = (l.end ≤ length l.initial.script) × (length l.script ≡ length l.initial.script)
