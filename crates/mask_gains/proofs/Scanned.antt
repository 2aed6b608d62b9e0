-- The scan of the logs, a bin at a time.
use native.Mathlib.Omega.{arith}
use native.Mathlib.Numerals.{add-one}
use Prim.Native.Nat.{ℕ, ◌+◌, ◌-◌, ◌≤◌, ◌<◌}
use mathlib.Core.Path.{◌≡◌, refl, ap, ◌∙◌}
use mathlib.Core.Bool.{Bool, true, false, not, ◌&&◌}
use mathlib.Core.List.{List, [], ◌∷◌}
use borrow.Author.Tests.{le-ltb}
use lib.ListN.{length, get_or}
use lib.Ieee.{Float, nan, lt}
use lib.Ieee.Scale.{finite}
use Rattle.sequences.specs.All.{all}
use Rattle.mask_gains.specs.Logs.{lawful_at, lawful_logs}

-- bin 0 alone is not looked at
pub lawful-short : (logs : List Float) → length logs < 2 → true ≡ lawful_logs logs
unfolding lawful_logs lawful_at
lawful-short [] h = refl
lawful-short (x ∷ []) h = refl
lawful-short (x ∷ y ∷ xs) h = absurd (omega arith)

-- bin 1 has none before it
pub lawful-first : (logs : List Float) → finite (get_or logs 1 nan) ≡ all (lawful_at logs) 2
unfolding lawful_at
lawful-first logs = go (finite (get_or logs 1 nan))
  where
    go : (b : Bool) → b ≡ b && true
    go true = refl
    go false = refl

-- one turn, from ok to r, where t is bin i's test
module _ (logs : List Float) (i : ℕ) (ok : Bool) (m : ok ≡ all (lawful_at logs) i) where
  pub lawful-next : (t r : Bool) → 2 ≤ i → t ≡ (finite (get_or logs i nan) && not (lt (get_or logs i nan) (get_or logs (i - 1) nan))) → r ≡ (ok && t) → r ≡ all (lawful_at logs) (i + 1)
  unfolding lawful_at
  lawful-next t r h e f = rw (add-one, f, e, m) (simp (le-ltb i 1 (omega arith), le-ltb i 2 h))

  pub lawful-all : i ≤ length logs → length logs ≤ i → ok ≡ lawful_logs logs
  unfolding lawful_logs
  lawful-all h k = let e : i ≡ length logs = omega arith in m ∙ ap (all (lawful_at logs)) e
