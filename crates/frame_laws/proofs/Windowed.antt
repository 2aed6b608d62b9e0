-- THE CLAIM: each window that a particle such as a birth makes shows has a finite centre, a radius above 0, finite where the bin's width is, and an amplitude from 0 to 1; every other window is the empty one.
use Prim.Native.Nat.{ℕ, zero, suc, ◌≤◌, ◌<◌}
use native.Mathlib.Nat.{zero-lt-suc}
use mathlib.Core.Path.{◌≡◌, refl, subst}
use mathlib.Core.Logic.{◌⊎◌, inl, inr}
use mathlib.Core.Bool.{true}
use mathlib.Core.List.{List}
use lib.Dec.{T, eqb, ltb}
use lib.Ieee.{Float, binary32, lt, le, fits}
use lib.Ieee.Scale.{finite}
use borrow.Author.Tests.{eqb-false, ltb-false}
use Rattle.sequences.specs.Pick.{pick, by-case, picked}
use Rattle.floats_laws.proofs.Mag.{Mag, mag_finite}
use Rattle.floats_laws.proofs.Rising.{nought}
use Rattle.floats_laws.proofs.Rules.{finite_number}
use Rattle.powers.specs.Power.{exp2}
use Rattle.elementary_laws.proofs.PowerValues.{power-fits}
use Rattle.pool.specs.declared.Particle.{Particle}
use Rattle.windows.specs.declared.Window.{Window}
use Rattle.windows.specs.Opening.{empty_window}
use Rattle.frame.specs.declared.places.Shown.{Shown}
use Rattle.frame.specs.Shown.{root_log_of, amplitude_of, nothing, shown_of}
use Rattle.frame.specs.Windows.{center_of, window_by, window_of}
use Rattle.floats_laws.proofs.Proportions.{Proportion}
use Rattle.frame_laws.proofs.Strengths.{Timed, Rated, amplitude_unit}
use Rattle.frame_laws.proofs.Shapes.{Pitched, Logs, root_mag, centre_mag, radius-above, radius-finite}

-- what a birth gives a particle, and no later call takes from it
pub record Fair (p : Particle) : Type 0 where
  pub timed : Timed p
  pub pitched : Pitched p

pub record Good (bin_hz : Float) (w : Window) : Type 0 where
  pub centre : T (finite w.center_log2_hz)
  pub above : T (lt nought w.radius_octaves)
  pub radius : T (fits binary32 bin_hz) → T (finite bin_hz) → T (finite w.radius_octaves)
  pub amplitude : Proportion w.amplitude

-- the same of what it shows
record Fit (s : Shown) : Type 0 where
  root : Mag s.root_log 405
  amplitude : Proportion s.amplitude
  width_fits : T (fits binary32 s.width)
  width_above : T (lt nought s.width)
  width_finite : T (finite s.width)

abbrev pub NoneOrGood : Float → Window → Type 0
NoneOrGood bin_hz w = (w ≡ empty_window) ⊎ Good bin_hz w

module _ (logs : List Float) (l : Logs logs) (bin_hz maxHz : Float) where
  placed : (s : Shown) → Fit s → (partial : ℕ) → 0 < partial → partial ≤ 24 → NoneOrGood bin_hz (window_by bin_hz maxHz s (center_of logs s partial))
  unfolding window_by pick exp2
  placed s f partial h g =
      let c = center_of logs s partial in
      let hz = exp2 c in
      by-case (le maxHz hz) (λ e. rw e (inl refl))
      (λ e.
      rw e
      (inr
      (record {
        centre = mag_finite c 554 (centre_mag logs s partial f.root l h g);
        above = radius-above s.width bin_hz hz f.width_fits f.width_above (finite_number binary32 s.width f.width_finite);
        radius = λ p u. radius-finite s.width bin_hz hz f.width_finite p u (power-fits _ c);
        amplitude = f.amplitude;
      })))

  windowed : (s : Shown) → Fit s → (partial : ℕ) → NoneOrGood bin_hz (window_of logs bin_hz maxHz s partial)
  unfolding window_of pick
  windowed s f partial =
      by-case (eqb partial 0) (λ e. rw e (inl refl))
      (λ e. rw e (by-case (ltb 24 partial) (λ r. rw r (inl refl)) (λ r. rw r (placed s f partial (some partial (eqb-false partial 0 e)) (ltb-false 24 partial r)))))
    where
      some : (n : ℕ) → (n ≡ 0 → ⊥) → 0 < n
      some zero h = absurd (h refl)
      some (suc n) h = zero-lt-suc n

  pub window_good : (rate : Float) → Rated rate → (sample : ℕ) (p : Particle) → p.active ≡ true → Fair p → (partial : ℕ) → NoneOrGood bin_hz (window_of logs bin_hz maxHz (shown_of sample rate p) partial)
  unfolding shown_of
  window_good rate r sample p a f partial =
      let shown : Shown = record { root_log = root_log_of p; amplitude = amplitude_of sample rate p; width = p.width; partials = p.partials } in
      subst (λ (s : Shown). NoneOrGood bin_hz (window_of logs bin_hz maxHz s partial)) (picked p.active shown nothing a)
      (windowed shown
      (record {
        root = root_mag p f.pitched;
        amplitude = amplitude_unit rate r sample p f.timed;
        width_fits = f.pitched.width_fits;
        width_above = f.pitched.width_above;
        width_finite = f.pitched.width_finite;
      })
      partial)
