-- Rounding to a whole number, down and up, and what IEEE 754 says of it, in fractions. Definitions only.
use Rattle.std.specs.Prelude.{◌≡◌, ℕ, ◌+◌, ◌-◌, ◌*◌, ◌/◌, ◌<◌, ◌≤◌, Bool, true, false, ℤ, Float}
use Rattle.std.specs.Float.{nan, inf, fin, Format}
use Rattle.std.specs.Float.Ieee.{up, down, round}
use Rattle.std.specs.Float.Ieee.Exact.{HasValue}

-- m * 2 ^ e cut to a whole number, and brought up to one
abbrev pub cut : ℕ → ℤ → ℕ
cut m e = m * up e / down e

abbrev pub lift : ℕ → ℤ → ℕ
lift m e = (m * up e + (down e - 1)) / down e

-- the whole number next to x, at or below it and at or above it, with x's sign
unfoldable pub floor : Format → Float → Float
floor f nan = nan
floor f (inf s) = inf s
floor f (fin false m e) = round f false (cut m e) 1
floor f (fin true m e) = round f true (lift m e) 1

unfoldable pub ceil : Format → Float → Float
ceil f nan = nan
ceil f (inf s) = inf s
ceil f (fin false m e) = round f false (lift m e) 1
ceil f (fin true m e) = round f true (cut m e) 1

-- ---- what IEEE 754 says of them. x is plus or minus the fraction a / d, where a is m * up e and d is down e.

-- n <= a / d < n + 1, and n - 1 < a / d <= n
abbrev pub Cut : ℕ → ℕ → ℕ → Type 0
Cut a d n = (n * d ≤ a) × (a < (n + 1) * d)

abbrev pub Lifted : ℕ → ℕ → ℕ → Type 0
Lifted a d n = (a ≤ n * d) × (n * d < a + d)

-- y is exactly the whole number n, or -n where s holds, and a zero has that sign too
pub record Whole (near : ℕ → Type 0) (s : Bool) (y : Float) : Type 0 where
  pub n : ℕ
  pub exact : HasValue y s n 1
  pub next : near n

-- y <= x < y + 1
abbrev pub Floored : Float → Float → Type 0
Floored nan y = y ≡ nan
Floored (inf s) y = y ≡ inf s
Floored (fin false m e) y = Whole (Cut (m * up e) (down e)) false y
Floored (fin true m e) y = Whole (Lifted (m * up e) (down e)) true y

-- y - 1 < x <= y
abbrev pub Ceiled : Float → Float → Type 0
Ceiled nan y = y ≡ nan
Ceiled (inf s) y = y ≡ inf s
Ceiled (fin false m e) y = Whole (Lifted (m * up e) (down e)) false y
Ceiled (fin true m e) y = Whole (Cut (m * up e) (down e)) true y
