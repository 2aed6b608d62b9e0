-- What `new` and our calls keep true of an engine, and that a newborn particle keeps to it.
use Prim.Native.Nat.{ℕ, zero, suc, ◌^◌, ◌≤◌, ◌<◌, zero-le}
use native.Mathlib.Nat.{le_refl, le_trans}
use mathlib.Core.Path.{◌≡◌, refl, sym, ap, ◌∙◌, subst}
use mathlib.Core.Bool.{Bool, true, false, true≢false}
use mathlib.Core.List.{List, [], ◌∷◌}
use borrow.Author.Tests.{ltb-true, ltb-false}
use lib.Dec.{T, ltb, lit≤}
use lib.ListN.{length, get_or}
use lib.Ieee.{Float, binary32, binary64, fits, lt, le}
use lib.Ieee.Fits.{fits_widens}
use Rattle.sequences.specs.Pick.{either, by-case}
use Rattle.floats_laws.proofs.Rising.{nought}
use Rattle.births.specs.declared.voices.Voice.{Voice}
use Rattle.births.specs.Voices.{free_voice_of, source_voice_of}
use Rattle.births.specs.Births.{partials_by, newborn_of}
use Rattle.pitch_laws.proofs.Harmonics.{Picks, picks-lawful}
use Rattle.pitch_laws.proofs.Octaves.{WholeUpto}
use Rattle.pool.specs.declared.Particle.{Particle}
use Rattle.std.specs.Prelude.{Option, Some, None, IfSome}
use Rattle.pool.specs.Pool.{free_particle}
use Rattle.settings.specs.declared.Config.{Config}
use Rattle.settings.specs.declared.Shape.{Shape}
use Rattle.settings.specs.declared.Shape.TheVariants.{Sprinkle, Cloud}
use Rattle.settings.specs.Envelope.{contour_of}
use Rattle.settings.specs.Settings.{max_hop, lawful_rate}
use Rattle.settings.specs.Mending.{mended_of}
use Rattle.settings_laws.proofs.Lifetimes as lifetimes
use Rattle.settings_laws.proofs.Lifetimes.{ten, envelope_sound}
use Rattle.sources.specs.declared.Source.{Source}
use Rattle.sources.specs.Sources.{is_eligible}
use Rattle.frame_laws.proofs.Newborn.{Voiced, top_of, newborn_fair}
use Rattle.frame_laws.proofs.Windowed.{Fair}
use Rattle.floats_laws.proofs.Proportions.{Proportion}
use Rattle.state.specs.declared.Engine.{Engine}
use Rattle.state.specs.State.{past_source}
use Rattle.state.specs.declared.Prepared.{Prepared}
use Rattle.state.specs.declared.Tally.{Tally}
use Rattle.births.specs.Birth.{voice_for, newborn_for}
use Rattle.state.specs.Make.{prepared_of}
use Rattle.sequences.specs.Every.{Every, every_get_or, in_case}
use Rattle.floats_laws.proofs.Fitting.{own-convert}
use Rattle.engine_laws.specs.Acts.{Singles}
use Rattle.engine_laws.proofs.Newborns.{Power, shape-power, shape-octave, octave_fits, lifetime_fits}
use Rattle.engine_laws.proofs.Voices.{FormedSource, source_voiced, free_voiced}
use Rattle.pitch.specs.Highest.{max_hz_of, rate32}

-- ---- the terms
-- three harmonics, each at most 24; 0 for none
pub record Harmonics (ps : List ℕ) : Type 0 where
  pub three : length ps ≡ 3
  pub each : (k : ℕ) → get_or ps k 0 ≤ 24

-- one of the 256, or none
abbrev pub Slot : Option ℕ → Type 0
Slot k = IfSome k (λ s. s < 256)

-- of a particle that holds a place, at the sample `now`
pub record Fit (now : ℕ) (p : Particle) : Type 0 where
  pub born : p.birth ≤ now
  pub retired : (t : ℕ) → p.retirement ≡ Some t → (p.birth ≤ t) × (t ≤ now)
  pub above : T (lt nought p.lifetime)
  pub most : T (le p.lifetime ten)
  pub slot : Slot p.source
  pub harmonics : Harmonics p.partials
  pub fair : Fair p
  pub octave : WholeUpto 256 p.octave
  pub octave_fits : T (fits binary32 p.octave)
  pub lifetime_fits : T (fits binary64 p.lifetime)
  pub power : Power p.decay_power

-- of a place: who holds it is fit, and a free one is empty
abbrev pub FitPlace : ℕ → Particle → Type 0
FitPlace now p = (p.active ≡ true → Fit now p) × (p.active ≡ false → p ≡ free_particle)

-- what the law of lifetimes asks of settings
both_formed : (c : Config) → Singles c → lifetimes.FormedConfig c
both_formed c s = record { rate = s.rate; size = s.size }

-- settings that `configure` has mended, with a lawful hop
pub record Settled (c : Config) : Type 0 where
  pub asked : Config
  pub singles : Singles asked
  pub hop : asked.hop_samples ≤ max_hop
  pub is : c ≡ mended_of asked

-- what follows from a lawful rate
pub record Made (p : Prepared) : Type 0 where
  pub single : T (fits binary32 p.sample_rate)
  pub lawful : T (lawful_rate p.sample_rate)
  pub is : p ≡ prepared_of p.sample_rate

-- the counters of births are words
pub record Counted (t : Tally) : Type 0 where
  pub births : t.births < 2 ^ 64
  pub dropped : t.dropped < 2 ^ 64
  pub hash : t.decision_hash < 2 ^ 64

pub record Sound (e : Engine) : Type 0 where
  pub made : Made e.prepared
  pub settled : Settled e.config
  pub tried : e.tally.attempts ≤ 64
  pub last : Slot e.next.last_source
  pub time : e.clock.sample ≤ 2 ^ 40
  pub places : length e.particles ≡ 64
  pub slots : length e.sources ≡ 256
  pub formed : Every FormedSource e.sources
  pub active : Proportion e.activity
  pub held : Every (FitPlace e.clock.sample) e.particles
  pub lanes : length e.streams ≡ 3
  pub reserved : e.next.immediate_index < 2 ^ 64
  pub counted : Counted e.tally

-- ---- time goes on
pub fit-later : (now later : ℕ) → now ≤ later → (p : Particle) → FitPlace now p → FitPlace later p
fit-later now later h p f = (later-fit, f.1)
  where
    later-fit : p.active ≡ true → Fit later p
    later-fit a =
        let s = f.0 a in
        record {
          born = le_trans s.born h;
          retired = λ t r. ((s.retired t r).0, le_trans (s.retired t r).1 h);
          above = s.above;
          most = s.most;
          slot = s.slot;
          harmonics = s.harmonics;
          fair = s.fair;
          octave = s.octave;
          octave_fits = s.octave_fits;
          lifetime_fits = s.lifetime_fits;
          power = s.power;
        }

-- ---- a newborn
abbrev is_at : Option ℕ → Bool
is_at None = false
is_at (Some t) = true

one-harmonic : Harmonics (1 ∷ 0 ∷ 0 ∷ [])
one-harmonic = record { three = refl; each = each }
  where
    each : (k : ℕ) → get_or {A = ℕ} (1 ∷ 0 ∷ 0 ∷ []) k 0 ≤ 24
    each zero = lit≤ tt
    each (suc zero) = zero-le
    each (suc (suc zero)) = zero-le
    each (suc (suc (suc k))) = zero-le

picked_harmonics : (limit : ℕ) (ratio : Float) (weights : List Float) (ps : List ℕ) → Picks limit ratio weights ps → Harmonics ps
picked_harmonics limit ratio weights ps w = record { three = w.three; each = each }
  where
    each : (k : ℕ) → get_or ps k 0 ≤ 24
    each k = by-case (ltb 0 (get_or ps k 0)) (λ q. (w.each k (ltb-true _ _ q)).most) (λ q. le_trans (ltb-false _ _ q) zero-le)

pub partials_harmonics : (shape : Shape) (index : ℕ) (weights : List Float) (limit : ℕ) (hz octave maxHz : Float) → Harmonics (partials_by shape index weights limit hz octave maxHz)
unfolding partials_by
partials_harmonics Sprinkle index weights limit hz octave maxHz = picked_harmonics limit _ weights _ (picks-lawful index weights limit _)
partials_harmonics Cloud index weights limit hz octave maxHz = one-harmonic

pub newborn-fit : (index : ℕ) (voice : Voice) (config : Config) (rate : Float) (sample : ℕ) (weights : List Float)
    → Settled config → T (fits binary32 rate) → T (lawful_rate rate) → Slot voice.slot → Voiced voice → Fit sample (newborn_of index voice config rate sample weights)
unfolding newborn_of
newborn-fit index voice config rate sample weights s f l v o =
    let same = own-convert binary32 rate f in
    let e : contour_of config index (rate32 rate) ≡ contour_of (mended_of s.asked) index rate = ap (λ (c : Config). contour_of c index (rate32 rate)) s.is ∙ ap (contour_of (mended_of s.asked) index) same in
    let w = subst lifetimes.Sound (sym e) (envelope_sound s.asked index rate (both_formed s.asked s.singles) s.hop l) in
    let r : T (lawful_rate (rate32 rate)) = subst (λ (x : Float). T (lawful_rate x)) (sym same) l in
    record {
      born = le_refl sample;
      retired = λ t r. absurd (true≢false (sym (ap is_at r)));
      above = w.above;
      most = w.most;
      slot = v;
      harmonics = partials_harmonics _ _ _ _ _ _ _;
      octave = shape-octave config.shape index voice.frequency_hz (max_hz_of rate) config.direction o.hz_fits o.hz_above o.hz_finite (top_of rate r);
      octave_fits = octave_fits config.shape index voice.frequency_hz (max_hz_of rate) config.direction;
      lifetime_fits = fits_widens _ (lifetime_fits config index (rate32 rate));
      power = shape-power config.shape;
      fair = subst (λ (c : Config). Fair (newborn_of index voice c rate sample weights)) (sym s.is) (newborn_fair s.asked (both_formed s.asked s.singles) s.hop index voice o rate r sample weights);
    }

voice-slot : (e : Engine) (index : ℕ) (slot : Option ℕ) → Slot slot → Slot (voice_for e index slot).slot
unfolding voice_for source_voice_of free_voice_of
voice-slot e index None h = tt
voice-slot e index (Some k) h = either (λ (v : Voice). Slot v.slot) _ _ _ h tt

-- the slot, where it is one, holds a source that may sound
abbrev pub Sounding : List Source → Option ℕ → Type 0
Sounding ss slot = IfSome slot (λ s. (s < 256) × (is_eligible (get_or ss s past_source) ≡ true))

pub sounding_slot : (ss : List Source) (slot : Option ℕ) → Sounding ss slot → Slot slot
sounding_slot ss None h = tt
sounding_slot ss (Some s) h = h.0

pub past_formed : FormedSource past_source
unfolding fits
past_formed = record { hz = tt; strength = tt }

voice_voiced : (e : Engine) (index : ℕ) (slot : Option ℕ) → Sound e → Sounding e.sources slot → Voiced (voice_for e index slot)
unfolding voice_for
voice_voiced e index None s h = free_voiced e.config.shape index e.clock.phase e.prepared.sample_rate s.made.single s.made.lawful
voice_voiced e index (Some k) s h =
    either Voiced _ _ _ (source_voiced k (get_or e.sources k past_source) h.1 (every_get_or FormedSource e.sources k past_source past_formed s.formed))
    (free_voiced e.config.shape index e.clock.phase e.prepared.sample_rate s.made.single s.made.lawful)

pub engine_newborn : (e : Engine) (index : ℕ) (slot : Option ℕ) → Sound e → Sounding e.sources slot → Fit e.clock.sample (newborn_for e index slot)
unfolding newborn_for
engine_newborn e index slot s o =
    newborn-fit index (voice_for e index slot) e.config e.prepared.sample_rate e.clock.sample e.partial_weights
    s.settled s.made.single s.made.lawful (voice-slot e index slot (sounding_slot e.sources slot o)) (voice_voiced e index slot s o)
