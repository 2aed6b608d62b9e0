-- A retirement, or a new pitch that sounds, leaves a particle that holds a place as fit as it was.
use Prim.Native.Nat.{ℕ, ◌≤◌}
use native.Mathlib.Nat.{le_refl}
use mathlib.Core.Path.{◌≡◌, refl, sym, ap, ◌∙◌, subst}
use mathlib.Core.Bool.{true, true≢false}
use lib.Dec.{T}
use lib.Ieee.{Float, binary32, fits, lt}
use lib.Ieee.Scale.{finite}
use Rattle.sequences.specs.Pick.{either}
use Rattle.sequences.specs.Every.{in_case}
use Rattle.floats_laws.proofs.Rising.{nought}
use Rattle.pool.specs.declared.Particle.{Particle}
use Rattle.std.specs.Prelude.{Option, Some, None}
use Rattle.pool.specs.Pool.{first_retirement, retired_of, retire_one, retire_bound_one, retuned_of, retune_one}
use Rattle.frame_laws.proofs.Windowed.{Fair}
use Rattle.engine_laws.proofs.Sound.{Fit, FitPlace}

at_of : (a b : ℕ) → Some a ≡ Some b → a ≡ b
at_of a b p = ap (λ (r : Option ℕ). first_retirement r 0) p

first_in : (birth now : ℕ) (r : Option ℕ) → birth ≤ now → ((t : ℕ) → r ≡ Some t → (birth ≤ t) × (t ≤ now)) → (birth ≤ first_retirement r now) × (first_retirement r now ≤ now)
first_in birth now None h k = (h, le_refl now)
first_in birth now (Some t) h k = k t refl

-- neither a retirement nor a new pitch that sounds makes a particle unfair
fair_retired : (now : ℕ) (p : Particle) → Fair p → Fair (retired_of now p)
unfolding retired_of
fair_retired now p f =
    let t = f.timed in
    let w = f.pitched in
    record {
      timed =
          record {
            strength = t.strength;
            attack_fits = t.attack_fits;
            attack_above = t.attack_above;
            attack_below = t.attack_below;
            lifetime_finite = t.lifetime_finite;
            lifetime_above = t.lifetime_above;
          };
      pitched =
          record {
            hz_fits = w.hz_fits;
            hz_above = w.hz_above;
            hz_finite = w.hz_finite;
            octave = w.octave;
            width_fits = w.width_fits;
            width_above = w.width_above;
            width_finite = w.width_finite;
          };
    }

fair_retuned : (hz : Float) (p : Particle) → T (fits binary32 hz) → T (lt nought hz) × T (finite hz) → Fair p → Fair (retuned_of hz p)
unfolding retuned_of
fair_retuned hz p h a f =
    let t = f.timed in
    let w = f.pitched in
    record {
      timed =
          record {
            strength = t.strength;
            attack_fits = t.attack_fits;
            attack_above = t.attack_above;
            attack_below = t.attack_below;
            lifetime_finite = t.lifetime_finite;
            lifetime_above = t.lifetime_above;
          };
      pitched =
          record {
            hz_fits = h;
            hz_above = a.0;
            hz_finite = a.1;
            octave = w.octave;
            width_fits = w.width_fits;
            width_above = w.width_above;
            width_finite = w.width_finite;
          };
    }

fit-retired : (now : ℕ) (p : Particle) → Fit now p → Fit now (retired_of now p)
unfolding retired_of
fit-retired now p f =
    let w = first_in p.birth now p.retirement f.born f.retired in
    record {
      born = f.born;
      retired = λ t r. subst (λ (k : ℕ). (p.birth ≤ k) × (k ≤ now)) (at_of _ t r) w;
      above = f.above;
      most = f.most;
      slot = tt;
      harmonics = f.harmonics;
      fair = fair_retired now p f.fair;
      octave = f.octave;
      octave_fits = f.octave_fits;
      lifetime_fits = f.lifetime_fits;
      power = f.power;
    }

-- what is retired was held
held-retired : (now : ℕ) (p : Particle) → p.active ≡ true → FitPlace now p → FitPlace now (retired_of now p)
unfolding retired_of
held-retired now p q f = (λ a. fit-retired now p (f.0 q), λ a. absurd (true≢false (sym q ∙ a)))

pub held-retire-one : (now : ℕ) (p : Particle) → FitPlace now p → FitPlace now (retire_one now p)
unfolding retire_one
held-retire-one now p f = in_case (FitPlace now) p.active _ _ (λ q. held-retired now p q f) (λ q. f)

pub held-retire-bound : (slot now : ℕ) (p : Particle) → FitPlace now p → FitPlace now (retire_bound_one slot now p)
unfolding retire_bound_one
held-retire-bound slot now p f = in_case (FitPlace now) p.active _ _ (λ q. either (FitPlace now) _ _ _ (held-retired now p q f) f) (λ q. f)

fit_retuned : (now : ℕ) (hz : Float) (p : Particle) → T (fits binary32 hz) → T (lt nought hz) × T (finite hz) → Fit now p → Fit now (retuned_of hz p)
unfolding retuned_of
fit_retuned now hz p h k s =
    record {
      born = s.born;
      retired = s.retired;
      above = s.above;
      most = s.most;
      slot = s.slot;
      harmonics = s.harmonics;
      fair = fair_retuned hz p h k s.fair;
      octave = s.octave;
      octave_fits = s.octave_fits;
      lifetime_fits = s.lifetime_fits;
      power = s.power;
    }

held_retuned : (now : ℕ) (hz : Float) (p : Particle) → p.active ≡ true → T (fits binary32 hz) → T (lt nought hz) × T (finite hz) → FitPlace now p → FitPlace now (retuned_of hz p)
unfolding retuned_of
held_retuned now hz p q h k f = (λ a. fit_retuned now hz p h k (f.0 q), λ a. absurd (true≢false (sym q ∙ a)))

pub held-retune-one : (slot now : ℕ) (hz : Float) → T (fits binary32 hz) → T (lt nought hz) × T (finite hz) → (p : Particle) → FitPlace now p → FitPlace now (retune_one slot hz p)
unfolding retune_one
held-retune-one slot now hz h k p f = in_case (FitPlace now) p.active _ _ (λ q. either (FitPlace now) _ _ _ (held_retuned now hz p q h k f) f) (λ q. f)
