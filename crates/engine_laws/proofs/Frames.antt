-- A frame keeps an engine sound; and of a sound engine each window is empty, or has a finite centre, a radius above 0 (finite where the bin is) and an amplitude from 0 to 1, and the activity lies from 0 to 1.
use Prim.Native.Nat.{ℕ, ◌+◌, ◌*◌, ◌<◌, zero-le}
use mathlib.Core.Path.{◌≡◌, refl, sym, ◌∙◌, subst}
use mathlib.Core.Logic.{inl}
use mathlib.Core.Bool.{true≢false}
use lib.Dec.{T}
use lib.ListN.{length, get_or, length-map}
use lib.Ieee.{Float, binary32, fits, of_bits}
use Rattle.sequences.specs.Pick.{either, by-case}
use Rattle.floats_laws.proofs.Proportions.{Proportion, nought_unit}
use Rattle.pitch.specs.Highest.{max_hz_of}
use Rattle.pool.specs.declared.Particle.{Particle}
use Rattle.pool.specs.Pool.{free_particle}
use Rattle.windows.specs.Opening.{empty_window, empty_frame}
use Rattle.frame.specs.declared.Framed.{Framed}
use Rattle.frame.specs.declared.places.Shown.{Shown}
use Rattle.frame.specs.Freed.{sweep_one}
use Rattle.frame.specs.Shown.{shown_of}
use Rattle.frame.specs.Windows.{window_of}
use Rattle.frame.specs.Frame.{accepted}
use Rattle.frame.specs.Call.{held_of, freed_of, windows_by, renewed_of, taken_of, refused_of, framed_of}
use Rattle.frame_laws.proofs.Background.{activity_unit}
use Rattle.frame_laws.proofs.Newborn.{lawful_rated}
use Rattle.frame_laws.proofs.Places.{window_of_place, free-shows-none}
use Rattle.frame_laws.proofs.Windowed.{window_good, NoneOrGood}
use Rattle.state.specs.declared.Engine.{Engine}
use Rattle.sequences.specs.Every.{Every, every_map, every_at, in_case}
use Rattle.engine_laws.proofs.Sound.{FitPlace, Sound}
use Rattle.engine_laws.proofs.Weighed.{made_logs}
use denote.Floats.{passes}

-- ---- what is left is held
pub free-held : (now : ℕ) → FitPlace now free_particle
unfolding free_particle
free-held now = (λ a. absurd (true≢false (sym a)), λ a. refl)

held_swept : (now : ℕ) (rate : Float) (p : Particle) → FitPlace now p → FitPlace now (sweep_one now rate p)
unfolding sweep_one
held_swept now rate p h = either (FitPlace now) _ _ _ (either (FitPlace now) _ _ _ (free-held now) h) h

all_held : (e : Engine) → Sound e → Every (FitPlace e.clock.sample) (held_of e)
unfolding held_of
all_held e s =
    every_map (FitPlace e.clock.sample) (FitPlace e.clock.sample) _ (held_swept e.clock.sample e.prepared.sample_rate) e.particles s.held

all-places : (e : Engine) → Sound e → length (held_of e) ≡ 64
unfolding held_of
all-places e s = length-map e.particles _ ∙ s.places

-- ---- the engine
pub sound_renewed : (e : Engine) (activity : Float) → Proportion activity → Sound e → Sound (renewed_of e (held_of e) (freed_of e) activity)
unfolding renewed_of
sound_renewed e activity u s =
    record {
      made = s.made;
      settled = s.settled;
      tried = zero-le;
      last = s.last;
      time = s.time;
      places = all-places e s;
      slots = s.slots;
      formed = s.formed;
      active = u;
      held = all_held e s;
      lanes = s.lanes;
      reserved = s.reserved;
      counted = record { births = s.counted.births; dropped = s.counted.dropped; hash = s.counted.hash };
    }

-- ---- the activity that is shown
nothing_active : Proportion empty_frame.activity
unfolding of_bits
nothing_active = nought_unit

pub frame_active : (e : Engine) (bin_hz seconds : Float) → T (fits binary32 seconds) → Sound e → Proportion (framed_of e bin_hz seconds).frame.activity
unfolding framed_of taken_of refused_of
frame_active e bin_hz seconds f s =
    in_case (λ (r : Framed). Proportion r.frame.activity) (accepted seconds) _ _
    (λ q. activity_unit e.activity e.config.enabled seconds f (passes (accepted seconds) q) s.active) (λ q. nothing_active)

-- ---- the windows that are shown
module _ (e : Engine) (s : Sound e) (bin_hz : Float) where
  abbrev rate : Float
  rate = e.prepared.sample_rate

  abbrev show : Particle → Shown
  show = shown_of e.clock.sample rate

  -- of one place
  one : (p : Particle) → FitPlace e.clock.sample p → (w : ℕ) → NoneOrGood bin_hz (window_of e.prepared.partial_logs bin_hz (max_hz_of rate) (show p) (get_or (show p).partials w 0))
  one p h w =
      by-case p.active
      (λ a. window_good e.prepared.partial_logs (made_logs e.prepared s.made) bin_hz (max_hz_of rate) rate (lawful_rated rate s.made.single s.made.lawful) e.clock.sample p a (h.0 a).fair (get_or (show p).partials w 0))
      (λ a. inl (free-shows-none e.prepared.partial_logs bin_hz (max_hz_of rate) e.clock.sample rate p w a))

  -- the window of partial w of place p
  pub window-shown : (p w : ℕ) → p < 64 → w < 3 → NoneOrGood bin_hz (get_or (windows_by e bin_hz) (p + 64 * w) empty_window)
  unfolding windows_by
  window-shown p w h k =
      let held = get_or (held_of e) p free_particle in
      subst (NoneOrGood bin_hz) (sym (window_of_place e.prepared.partial_logs bin_hz (max_hz_of rate) e.clock.sample rate (held_of e) (all-places e s) p w free_particle empty_window h k)) (one held (every_at (FitPlace e.clock.sample) (held_of e) p free_particle (subst (λ (n : ℕ). p < n) (sym (all-places e s)) h) (all_held e s)) w)
