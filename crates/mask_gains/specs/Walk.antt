-- What one window makes of scratch, and what its search asks of the logs. Definitions only.
use Rattle.std.specs.Prelude.{ℕ, ◌≤◌, ◌<◌, ◌≡◌, not, List, T, length, get_or, Float}
use Rattle.std.specs.Float.{nan, binary32}
use Rattle.std.specs.Float.Ieee.{lt, le, fits, is_nan}
use Rattle.floats.specs.Choose.{max}
use Rattle.windows.specs.declared.Window.{Window}
use Rattle.windows.specs.Opening.{openness_of}
use Rattle.mask_gains.specs.Opened.{raised_of}
use Rattle.mask_gains.specs.Search.{Falls}

-- the bins are in order: the two tests of a search fall, at any bound
pub record Sorted (logs : List Float) : Type 0 where
  pub under : (x : Float) → T (fits binary32 x) → Falls (λ i. lt (get_or logs i nan) x) (length logs)
  pub upto : (x : Float) → T (fits binary32 x) → Falls (λ i. le (get_or logs i nan) x) (length logs)

-- none is a NaN
abbrev pub Numbers : List Float → Type 0
Numbers xs = (i : ℕ) → i < length xs → T (not (is_nan (get_or xs i nan)))

-- the bins from start up to i are raised, and no others
pub record Part (w : Window) (logs xs : List Float) (start i : ℕ) (ys : List Float) : Type 0 where
  pub same : length ys ≡ length xs
  pub low : start ≤ i
  pub under : (k : ℕ) → k < start → get_or ys k nan ≡ get_or xs k nan
  pub done : (k : ℕ) → start ≤ k → k < i → get_or ys k nan ≡ max (get_or xs k nan) (openness_of w (get_or logs k nan))
  pub over : (k : ℕ) → i ≤ k → get_or ys k nan ≡ get_or xs k nan

-- every bin is as the window leaves it
pub record Raised (w : Window) (logs xs ys : List Float) : Type 0 where
  pub same : length ys ≡ length xs
  pub at : (i : ℕ) → i < length xs → get_or ys i nan ≡ raised_of i (get_or logs i nan) w (get_or xs i nan)
