-- The window of a harmonic by its row in the table of logarithms, and of what is none.
use Rattle.std.proofs.Common.{◌≡◌, ℕ, ◌+◌, ◌*◌, ◌/◌, ◌%◌, ◌<◌, ◌⊎◌, List, get_or, refl, ap, ◌∙◌, ⊎_elim, arith, le-ltb, lt-ltb, eq-eqb, ne_eqb}
use lib.Ieee.{Float, nan}
use Rattle.sequences.specs.Pick.{took, skipped}
use Rattle.floats.specs.Names.{add32}
use Rattle.windows.specs.Opening.{empty_window}
use Rattle.frame.specs.declared.places.Shown.{Shown}
use Rattle.frame.specs.Windows.{center_of, window_by, window_of, past_shown, window_at}

module _ (logs : List Float) (bin_hz maxHz : Float) (s : Shown) (partial : ℕ) where
  pub row_shows : (row : ℕ) → row < 24 → partial ≡ row + 1
      → window_by bin_hz maxHz s (add32 s.root_log (get_or logs row nan)) ≡ window_of logs bin_hz maxHz s partial
  unfolding window_of center_of
  row_shows row h e =
      skipped _ _ _ _ (ne_eqb partial 0 (λ q. omega (arith, e, q)))
      (skipped _ _ _ _ (le-ltb 24 partial (omega (arith, e)))
      (ap (λ (r : ℕ). window_by bin_hz maxHz s (add32 s.root_log (get_or logs r nan))) (omega (arith, e))))

  pub other-shows-none : (partial ≡ 0) ⊎ (24 < partial) → empty_window ≡ window_of logs bin_hz maxHz s partial
  unfolding window_of
  other-shows-none =
      ⊎_elim (λ p. took _ _ _ _ (eq-eqb partial 0 p) refl)
      (λ h. skipped _ _ _ _ (ne_eqb partial 0 (λ q. omega arith)) (took _ _ _ _ (lt-ltb 24 partial h) refl))

-- the window of partial w of place p
pub at_place : (logs : List Float) (bin_hz maxHz : Float) (shown : List Shown) (p w : ℕ) → p < 64
    → window_of logs bin_hz maxHz (get_or shown p past_shown) (get_or (get_or shown p past_shown).partials w 0) ≡ window_at logs bin_hz maxHz shown (p + 64 * w)
unfolding window_at
at_place logs bin_hz maxHz shown p w h =
    let place : p ≡ (p + 64 * w) % 64 = omega arith in
    let window : w ≡ (p + 64 * w) / 64 = omega arith in
    ap (λ (q : ℕ). window_of logs bin_hz maxHz (get_or shown q past_shown) (get_or (get_or shown q past_shown).partials w 0)) place
    ∙ ap (λ (v : ℕ). window_of logs bin_hz maxHz (get_or shown ((p + 64 * w) % 64) past_shown) (get_or (get_or shown ((p + 64 * w) % 64) past_shown).partials v 0)) window
