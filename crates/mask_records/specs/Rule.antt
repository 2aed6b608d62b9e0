-- Order 5's rule of the table, and what the nearest tenth is, in whole numbers. Definitions only.
use Rattle.std.specs.Prelude.{ℕ, ◌+◌, ◌-◌, ◌*◌, ◌^◌, ◌≤◌, ◌<◌, Float}
use Rattle.std.specs.Float.{nan, inf, fin}
use Rattle.std.specs.Float.Ieee.{up, down}

-- (2e - 1)^200 * 10^n < 65,536^200 < (2e + 1)^200 * 10^n
abbrev pub Entry : ℕ → ℕ → Type 0
Entry n e = ((2 * e - 1) ^ 200 * 10 ^ n < 65536 ^ 200) × (65536 ^ 200 < (2 * e + 1) ^ 200 * 10 ^ n)

-- 2n - 1 <= 20a < 2n + 1, where a is the size of x, the fraction m * up e / down e
abbrev pub Tenth : Float → ℕ → Type 0
Tenth nan n = ⊥
Tenth (inf s) n = ⊥
Tenth (fin s m e) n = (2 * n * down e ≤ 20 * (m * up e) + down e) × (20 * (m * up e) < (2 * n + 1) * down e)
