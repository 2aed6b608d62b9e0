-- `fraction` meets its contract: the cell's numbers, put together; by the table's rule each product and sum fits.
use mathlib.Core.Path.{◌≡◌}
use Prim.Native.Nat.{ℕ, ◌+◌, ◌-◌, ◌*◌, ◌/◌, ◌%◌, ◌≤◌, ◌<◌}
use native.Mathlib.Nat.{le_trans}
use native.Mathlib.Omega.{arith}
use Rattle.elementary.specs.LogCells.{log_top, log_slope, log_bend}
use Rattle.elementary.specs.Log2.{fall_of, cell_of, fraction_of}
use Rattle.elementary.proofs.LogCells.{top_le, fall_le, inner_le, bend_le, cell, back, fraction_lt}
use Rattle.elementary.proofs.logarithm.fraction.Goals as goal
use Rattle.elementary.proofs.logarithm.fraction.Goals.{After-struct_known-1}

-- the products and sums of the code, by the table's rule
record Steps (p e s b : ℕ) : Type 0 where
  bent : b * (131071 - p % 131072) ≤ 4611686018427387903
  inner : s + b * (131071 - p % 131072) ≤ 4611686018427387903
  fall : (131071 - p % 131072) * (s + b * (131071 - p % 131072)) ≤ e
  most : e ≤ 4611686018427387903
  right : (e - (131071 - p % 131072) * (s + b * (131071 - p % 131072))) / 274877906944 ≡ fraction_of p

steps : (p e s b : ℕ) → p < 8388608 → e ≡ log_top (p / 131072) → s ≡ log_slope (p / 131072) → b ≡ log_bend (p / 131072) → Steps p e s b
unfolding fraction_of cell_of fall_of
steps p e s b h q r t =
    let i = cell p h in
    record {
      bent = rw t (le_trans (bend_le (p / 131072) (131071 - p % 131072) i (back p)) (top_le (p / 131072) i));
      inner = rw (t, r) (le_trans (inner_le (p / 131072) (131071 - p % 131072) i (back p)) (top_le (p / 131072) i));
      fall = rw (t, r, q) (fall_le (p / 131072) (131071 - p % 131072) i (back p));
      most = rw q (top_le (p / 131072) i);
      right = rw (t, r, q);
    }

at : (c : After-struct_known-1) → Steps c.args.p c.cell_of-c.result.top c.cell_of-c.result.slope c.cell_of-c.result.bend
at c = let k = c.cell_of-c in steps _ _ _ _ c.requires k.ensures.0 k.ensures.1 k.ensures.2

pub overflow_mul-result : goal.overflow_mul-result
overflow_mul-result c = omega (arith, (at c).bent)

pub overflow_add-result : goal.overflow_add-result
overflow_add-result c = omega (arith, (at (goal.at.overflow_add-result c).After-struct_known-1).inner)

pub overflow_mul-result-2 : goal.overflow_mul-result-2
overflow_mul-result-2 c = omega (arith, (at (goal.at.overflow_mul-result-2 c).After-struct_known-1).fall, (at (goal.at.overflow_mul-result-2 c).After-struct_known-1).most)

pub overflow_sub-result : goal.overflow_sub-result
overflow_sub-result c = (at (goal.at.overflow_sub-result c).After-struct_known-1).fall

pub returns : goal.returns
returns c =
    let a = at (goal.at.returns c).After-struct_known-1 in
    (a.right, rw a.right (fraction_lt c.args.p c.requires))
