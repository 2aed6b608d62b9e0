-- `step` meets its contract: the quotient is at most 2^28.
use Prim.Native.Nat.{ℕ, ◌*◌, ◌/◌, ◌≤◌, ◌<◌}
use native.Mathlib.Nat.{div-le_of_le-mul}
use native.Mathlib.Omega.{arith}
use Rattle.elementary.proofs.root.step.Goals as goal

quotient_le : (n g : ℕ) → n < 281474976710656 → 1048576 ≤ g → n / g ≤ 268435456
quotient_le n g h k = div-le_of_le-mul g (linear n g h k)
  where
    linear : (n g : ℕ) → n < 281474976710656 → 1048576 ≤ g → n ≤ g * 268435456
    linear n g h k = omega arith

pub overflow_add-result : goal.overflow_add-result
overflow_add-result c = omega (arith, quotient_le c.args.n c.args.g c.requires.0 c.requires.1)

pub overflow_add-result-2 : goal.overflow_add-result-2
overflow_add-result-2 c = omega (arith, quotient_le c.args.n c.args.g c.requires.0 c.requires.1)

pub returns : goal.returns
returns c = (omega (arith, quotient_le c.args.n c.args.g c.requires.0 c.requires.1), omega arith)
