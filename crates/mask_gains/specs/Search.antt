-- Where a test fails first among bins 1 up. Definitions only.
use Rattle.std.specs.Prelude.{ℕ, ◌≤◌, ◌<◌, ◌≡◌, Bool, true, false}

-- what holds at a bin holds at each bin from 1 up to it
abbrev pub Falls : (ℕ → Bool) → ℕ → Type 0
Falls P n = (i j : ℕ) → 1 ≤ i → i ≤ j → j < n → P j ≡ true → P i ≡ true

-- r is the first of the bins from 1 to n - 1 that fails, or n
pub record First (P : ℕ → Bool) (n r : ℕ) : Type 0 where
  pub low : 1 ≤ r
  pub high : r ≤ n
  pub before : (i : ℕ) → 1 ≤ i → i < r → P i ≡ true
  pub after : (i : ℕ) → r ≤ i → i < n → P i ≡ false
