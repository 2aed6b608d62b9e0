-- Where a window stands: that of partial w of place p at p + 64 w, and a free place shows none.
use Prim.Native.Nat.{ℕ, zero, suc, ◌+◌, ◌*◌, ◌/◌, ◌%◌, ◌<◌}
use native.Mathlib.Omega.{arith}
use mathlib.Core.Path.{◌≡◌, refl, ap, ◌∙◌}
use mathlib.Core.Bool.{false}
use mathlib.Core.List.{List, map}
use lib.Ieee.{Float}
use lib.ListN.{length, get_or}
use Rattle.sequences.specs.Default.{get_d_any}
use Rattle.sequences.specs.Pick.{pick}
use Rattle.sequences.specs.Table.{table_at}
use Rattle.pool.specs.declared.Particle.{Particle}
use Rattle.windows.specs.Opening.{empty_window}
use Rattle.frame.specs.Shown.{nothing, shown_of}
use Rattle.frame.specs.Windows.{window_of, window_at, windows_of, past_shown}
use Rattle.sequences.specs.Copied.{length_map, get_d_map}
use Rattle.frame.specs.declared.places.Shown.{Shown}
use Rattle.windows.specs.declared.Window.{Window}

module _ (logs : List Float) (bin_hz maxHz : Float) (sample : ℕ) (rate : Float) (particles : List Particle) (long : length particles ≡ 64) where
  pub window_of_place : (p w : ℕ) (d : Particle) (o : Window) → p < 64 → w < 3
      → get_or (windows_of logs bin_hz maxHz (map (shown_of sample rate) particles)) (p + 64 * w) o
      ≡ window_of logs bin_hz maxHz (shown_of sample rate (get_or particles p d)) (get_or (shown_of sample rate (get_or particles p d)).partials w 0)
  unfolding windows_of window_at
  window_of_place p w d o h l =
      let shown = map (shown_of sample rate) particles in
      let index : (p + 64 * w) % 64 ≡ p = omega arith in
      let part : (p + 64 * w) / 64 ≡ w = omega arith in
      let here : get_or shown p past_shown ≡ shown_of sample rate (get_or particles p d) = get_d_any shown p past_shown (shown_of sample rate d) (omega (arith, length_map (shown_of sample rate) particles, long)) ∙ get_d_map (shown_of sample rate) particles p d in
      table_at 192 (window_at logs bin_hz maxHz shown) (p + 64 * w) o (omega arith)
      ∙ ap (λ (n : ℕ). window_of logs bin_hz maxHz (get_or shown n past_shown) (get_or (get_or shown n past_shown).partials ((p + 64 * w) / 64) 0)) index
      ∙ ap (λ (n : ℕ). window_of logs bin_hz maxHz (get_or shown p past_shown) (get_or (get_or shown p past_shown).partials n 0)) part
      ∙ ap (λ (s : Shown). window_of logs bin_hz maxHz s (get_or s.partials w 0)) here

pub free-shows-none : (logs : List Float) (bin_hz maxHz : Float) (sample : ℕ) (rate : Float) (p : Particle) (w : ℕ) → p.active ≡ false
    → window_of logs bin_hz maxHz (shown_of sample rate p) (get_or (shown_of sample rate p).partials w 0) ≡ empty_window
unfolding window_of shown_of nothing pick
free-shows-none logs bin_hz maxHz sample rate p w e = rw e (zeros w)
  where
    zeros : (w : ℕ) → window_of logs bin_hz maxHz nothing (get_or nothing.partials w 0) ≡ empty_window
    zeros zero = refl
    zeros (suc zero) = refl
    zeros (suc (suc zero)) = refl
    zeros (suc (suc (suc w))) = refl
