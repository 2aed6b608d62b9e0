-- A float at another format, and what it means that a fraction is rounded to nearest, a tie to the even one. Definitions only.
use Rattle.std.specs.Prelude.{◌≡◌, ℕ, suc, ◌+◌, ◌-◌, ◌*◌, ◌/◌, ◌%◌, ◌^◌, ◌<◌, ◌≤◌, Bool, T, ◌⊎◌, to_bits, Float}
use Rattle.std.specs.Float.{nan, inf, fin, Format}
use Rattle.std.specs.Float.Ieee.{prec, emax, low, up, down, round, fits}
use Rattle.std.specs.Float.Ieee.Exact.{HasValue}
use Rattle.std.specs.Float.Ieee.Scale.{finite}

-- x at the format f, rounded as Rust's `as` has it
unfoldable pub convert : Format → Float → Float
convert f nan = nan
convert f (inf s) = inf s
convert f (fin s m e) = round f s (m * up e) (down e)

-- ---- IEEE 754, 4.3.1, roundTiesToEven

-- the size of a finite x of the format f, in units of its smallest value, 2 ^ -low
abbrev pub units_in : Format → Float → ℕ
units_in f nan = 0
units_in f (inf s) = 2 ^ (low f + suc (emax f))
units_in f (fin s m e) = m * up e * 2 ^ low f / down e

-- how far n and m lie apart
abbrev pub apart : ℕ → ℕ → ℕ
apart n m = (n - m) + (m - n)

-- y is finite, has the sign s, and no value of the format lies nearer to a / b; where another lies as near, y's last digit is even
pub record Nearest (f : Format) (s : Bool) (a b : ℕ) (y : Float) : Type 0 where
  pub value : HasValue y s (units_in f y) (2 ^ low f)
  pub near : (z : Float) → T (fits f z) → T (finite z) → apart (a * 2 ^ low f) (units_in f y * b) ≤ apart (a * 2 ^ low f) (units_in f z * b)
  pub even : (z : Float) → T (fits f z) → T (finite z) → apart (a * 2 ^ low f) (units_in f y * b) ≡ apart (a * 2 ^ low f) (units_in f z * b) → (units_in f z ≡ units_in f y) ⊎ (to_bits f y % 2 ≡ 0)

-- a / b with the sign s at the format f: from 2 ^ emax * (2 - 2 ^ -prec) on it is an infinity
pub record Rounded (f : Format) (s : Bool) (a b : ℕ) (y : Float) : Type 0 where
  pub under : 2 ^ prec f * a < (2 ^ suc (prec f) - 1) * 2 ^ emax f * b → Nearest f s a b y
  pub past : (2 ^ suc (prec f) - 1) * 2 ^ emax f * b ≤ 2 ^ prec f * a → y ≡ inf s
