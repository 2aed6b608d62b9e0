-- The choice of a register: the laws of `pitch_laws` at every lawful rate, and every birth of every run inside the limits.
use Prim.Native.Nat.{ℕ}
use Rattle.std.specs.Prelude.{Option, None}
use mathlib.Core.Path.{◌≡◌, sym, ap, ◌∙◌, subst}
use mathlib.Core.List.{◌∷◌}
use lib.Dec.{T}
use lib.Ieee.{Float, binary32, of_bits}
use Rattle.floats_laws.proofs.Fitting.{own-convert}
use Rattle.sequences.specs.Pick.{pick}
use Rattle.settings.specs.declared.Shape.{Shape}
use Rattle.settings.specs.declared.Shape.TheVariants.{Sprinkle, Cloud}
use Rattle.settings.specs.Settings.{lawful_rate}
use Rattle.pitch.specs.Octave.{register_of}
use Rattle.pitch.specs.Cloud.{frequency_of}
use Rattle.pitch_laws.proofs.Octaves.{octaves-few}
use Rattle.pitch_laws.proofs.Tops.{Top, upper_past_40}
use Rattle.pitch_laws.proofs.Unguarded.{ramp-past-epsilon, span-past-ramp, register-same, frequency-same}
use Rattle.births.specs.Voices.{free_hz_of, free_voice_of}
use Rattle.births.specs.Births.{register_by, newborn_of}
use Rattle.births.specs.Birth.{chosen_for, voice_for, newborn_for}
use Rattle.frame_laws.proofs.Newborn.{top_of}
use Rattle.state.specs.declared.Engine.{Engine}
use Rattle.engine_laws.specs.Acts.{birth, perform}
use Rattle.engine_laws.proofs.Sound.{Sound, Sounding}
use Rattle.engine_laws.proofs.Chosen.{birth-fit}
use Rattle.engine_laws.proofs.Moments.{AllMeant, sound_performed, meant_before, meant_after}
use Rattle.promises.specs.Life.{newborn}
use Rattle.promises.specs.RegisterChoice.{Rate, Root, sample_rate_of, RegisterChoice}
use Rattle.promises.proofs.Demand3.{history_meant, begins_sound}
use Rattle.pitch.specs.Highest.{max_hz_of}

-- ---- a lawful rate
top : (rate : Float) → Rate rate → Top (max_hz_of rate)
top rate r = top_of rate (subst (λ (x : Float). T (lawful_rate x)) (sym (own-convert binary32 rate r.0)) r.1)

-- ---- a birth
rooted : (e : Engine) (index : ℕ) (own : Option ℕ) → Sound e → Sounding e.sources own → Root (newborn e index own).frequency_hz
unfolding of_bits
rooted e index own s o = let p = (birth-fit e index own s o).fair.pitched in (p.hz_fits, p.hz_above, p.hz_finite)

-- its register where the shape is Sprinkle, and its frequency where it is the Cloud and there is no source
octave-is : (e : Engine) (index : ℕ) (own : Option ℕ) → e.config.shape ≡ Sprinkle → (newborn e index own).octave ≡ (register_of index (newborn e index own).frequency_hz (max_hz_of (sample_rate_of e)) e.config.direction).octave
unfolding newborn_for newborn_of register_by
octave-is e index own q = ap (λ (s : Shape). (register_by s index (newborn e index own).frequency_hz (max_hz_of (sample_rate_of e)) e.config.direction).octave) q

free-is : (e : Engine) (index : ℕ) (own : Option ℕ) → e.config.shape ≡ Cloud → chosen_for e index own ≡ None → (newborn e index own).frequency_hz ≡ frequency_of index (max_hz_of (sample_rate_of e))
unfolding newborn_for newborn_of voice_for free_voice_of free_hz_of pick
free-is e index own q z = rw (z, q)

-- THE PROMISE
pub register-choice : RegisterChoice
unfolding of_bits
register-choice =
    record {
      octaves = λ rate root r h. let t = top rate r in octaves-few root (max_hz_of rate) h.0 h.1 h.2 t.held t.from;
      top = λ rate r. let t = top rate r in upper_past_40 (max_hz_of rate) t.held t.from;
      ramp_above = ramp-past-epsilon;
      span_above = λ rate r. let t = top rate r in span-past-ramp (max_hz_of rate) t.held t.from;
      highest = λ rate r. let t = top rate r in (t.held, t.from);
      register = λ maxHz root h f index direction. sym (register-same maxHz h.0 h.1 root f index direction);
      frequency = λ maxHz h index. sym (frequency-same maxHz h.0 h.1 index);
      octave = λ e index own r f q.
          let t = top (sample_rate_of e) r in
          octave-is e index own q ∙ ap (λ x. x.octave) (sym (register-same (max_hz_of (sample_rate_of e)) t.held t.from (newborn e index own).frequency_hz f index e.config.direction));
      free = λ e index own r q z. let t = top (sample_rate_of e) r in free-is e index own q z ∙ sym (frequency-same (max_hz_of (sample_rate_of e)) t.held t.from index);
      births = λ start b cs t before after index own split.
          let s = (begins_sound start b).0 in
          let m = subst (AllMeant start) split (history_meant start cs t s) in
          let now = sound_performed start before (meant_before start before (birth index own ∷ after) m) s in
          ((now.made.single, now.made.lawful), rooted (perform start before) index own now (meant_after start before (birth index own ∷ after) m).0);
    }
