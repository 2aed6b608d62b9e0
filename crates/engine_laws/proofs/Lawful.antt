-- A sound engine within its ranges is lawful: what `Sound`, `Ranged` and `Numbered` come to, number by number.
use Prim.Native.Nat.{ℕ, ◌≤◌}
use native.Mathlib.Omega.{arith}
use mathlib.Core.Path.{◌≡◌, refl, sym, ap, ◌∙◌, subst}
use mathlib.Core.Logic.{◌⊎◌, inl, inr}
use mathlib.Core.Bool.{Bool, true}
use mathlib.Core.List.{List}
use borrow.Author.Tests.{ltb-false}
use lib.IntN.{pos}
use lib.Dec.{T, ltb}
use lib.Ieee.{Float, nan, inf, fin, binary32, eq, fits, of_bits}
use lib.Ieee.Bits.{of_bits-fits}
use Rattle.sequences.specs.Pick.{by-case}
use Rattle.sequences.specs.Every.{every_imp, in_case}
use Rattle.floats.specs.Names.{f32, zero32, one}
use Rattle.pool.specs.declared.Particle.{Particle}
use Rattle.settings.specs.declared.Config.{Config}
use Rattle.settings.specs.Settings.{max_hop}
use Rattle.settings.specs.Mending.{partials_held, phase_of, mended_of}
use Rattle.settings_laws.proofs.Again.{held_fits, phase_fits, whole-phase, mended_but_phase, mended_again}
use Rattle.settings_laws.specs.Phase.{with_phase}
use Rattle.sources.specs.declared.Source.{Source}
use Rattle.timing.specs.declared.SprinkleStream.{SprinkleStream}
use Rattle.timing_laws.proofs.Lanes.{Streamed, streamed_fits, streamed_finite}
use Rattle.engine_laws.proofs.Clocks.{phase-within, offset-within}
use Rattle.state.specs.declared.Engine.{Engine}
use Rattle.state.specs.declared.Prepared.{Prepared}
use Rattle.state.specs.Make.{partial_logs_of, weights_of, prepared_of}
use Rattle.engine_laws.specs.Lawful.{LawfulSettings, LawfulStream, LawfulParticle, LawfulPlace, LawfulSource, Lawful}
use Rattle.engine_laws.specs.Acts.{Singles}
use Rattle.engine_laws.proofs.Sound.{Fit, FitPlace, Settled, Sound}
use Rattle.engine_laws.proofs.Ranged.{Ranged}
use Rattle.engine_laws.proofs.Numbered.{Numbered}
use Rattle.engine_laws.proofs.Voices.{FormedSource}
use Rattle.engine_laws.proofs.Weighed.{Weighed}
use Rattle.floats_laws.proofs.Level.{level}

-- ---- the settings
partials_in : (n : ℕ) → (1 ≤ partials_held n) × (partials_held n ≤ 24)
unfolding partials_held
partials_in n =
    let P : ℕ → Type 0 = λ k. (1 ≤ k) × (k ≤ 24) in
    in_case P (ltb n 1) _ _ (λ q. (omega arith, omega arith))
    (λ q. in_case P (ltb 24 n) _ _ (λ r. (omega arith, omega arith)) (λ r. (ltb-false n 1 q, ltb-false 24 n r)))

-- 1.0 is level with nothing but itself
abbrev digits : Float → ℕ
digits nan = 0
digits (inf s) = 0
digits (fin s m e) = m

not_zero : (s : Bool) → one ≡ fin s 0 (pos 0) → ⊥
unfolding of_bits
not_zero s h = let e : ◌≡◌ {A = ℕ} 1 0 = ap digits h in omega (arith, e)

level-one : (x : Float) → T (fits binary32 x) → eq x one ≡ true → x ≡ one
level-one x p h = elim (level binary32 x one p (of_bits-fits binary32 0x3f800000) h) [ inl e ↦ e | inr z ↦ absurd (not_zero z.1.0 z.1.1) ]

module _ (a : Config) (g : Singles a) where
  abbrev d : Config
  d = mended_of a

  whole_phased : eq d.phase one ≡ true → (d.phase ≡ one) × (mended_of d ≡ with_phase zero32 d)
  unfolding mended_of
  whole_phased q =
      let e = level-one (phase_of a.phase) (phase_fits a.phase g.phase) q in
      (e, mended_but_phase a ∙ ap (λ (x : Float). with_phase x (mended_of a)) (ap phase_of e ∙ whole-phase))

  mends : (mended_of d ≡ d) ⊎ ((d.phase ≡ one) × (mended_of d ≡ with_phase zero32 d))
  mends = by-case (eq d.phase one) (λ q. inr (whole_phased q)) (λ q. inl (mended_again a g.phase q))

mended-settings : (a : Config) → Singles a → a.hop_samples ≤ max_hop → LawfulSettings (mended_of a)
unfolding mended_of
mended-settings a g h =
    let zero = of_bits-fits binary32 0 in
    let unit = of_bits-fits binary32 0x3f800000 in
    let most = of_bits-fits binary32 0x459c4000 in
    record {
      mended = mends a g;
      hop = h;
      partials = partials_in a.partials;
      floats =
          record {
            rate = held_fits a.rate_hz one (f32 0x3c23d70a) (f32 0x42000000) g.rate unit (of_bits-fits binary32 0x3c23d70a) (of_bits-fits binary32 0x42000000);
            size = held_fits a.size_octaves one (f32 0x3e000000) (f32 0x41000000) g.size unit (of_bits-fits binary32 0x3e000000) (of_bits-fits binary32 0x41000000);
            phase = phase_fits a.phase g.phase;
            rolloff = held_fits a.partial_rolloff_db (f32 0x40c00000) zero32 (f32 0x41c00000) g.rolloff (of_bits-fits binary32 0x40c00000) zero (of_bits-fits binary32 0x41c00000);
            attack = held_fits a.attack_ms zero32 zero32 (f32 0x459c4000) g.attack zero zero most;
            release = held_fits a.release_ms (f32 0x428c0000) zero32 (f32 0x459c4000) g.release (of_bits-fits binary32 0x428c0000) zero most;
          };
    }

settings : (c : Config) → Settled c → LawfulSettings c
settings c h = subst LawfulSettings (sym h.is) (mended-settings h.asked h.singles h.hop)

-- ---- a stream, a source, a particle
stream : (s : SprinkleStream) → Streamed s → LawfulStream s
stream s w = let h = w.most in record { index = omega (arith, h); next = streamed_finite s w; next_fits = streamed_fits s w }

source : (s : Source) → FormedSource s → LawfulSource s
source s f = (f.hz, f.strength)

particle : (now : ℕ) (p : Particle) → Fit now p → LawfulParticle now p
unfolding of_bits
particle now p f =
    let t = f.fair.timed in
    let w = f.fair.pitched in
    let o = f.octave in
    record {
      slot = f.slot;
      partials = (f.harmonics.three, f.harmonics.each);
      birth = f.born;
      retirement = f.retired;
      frequency = (w.hz_above, w.hz_finite, w.hz_fits);
      width = (w.width_above, w.width_finite, w.width_fits);
      octave = (o.sign, o.n, o.most, o.is);
      octave_fits = f.octave_fits;
      strength = (t.strength.least, t.strength.most, t.strength.held);
      attack = (t.attack_above, t.attack_below, t.attack_fits);
      power = f.power;
      lifetime = (f.above, f.most, f.lifetime_fits);
    }

at_place : (now : ℕ) (p : Particle) → FitPlace now p → LawfulPlace now p
at_place now p h = (λ a. particle now p (h.0 a), h.1)

-- THE CLAIM
pub lawful : (e : Engine) → Sound e → Ranged e → Numbered e → Lawful e
unfolding of_bits
lawful e s g w =
    let most = g.opportunity in
    record {
      rate = (s.made.lawful, s.made.single);
      settings = settings e.config s.settled;
      clock =
          record {
            elapsed = s.time;
            phase = phase-within e.clock g.clocked s.time;
            offset = offset-within e.clock g.clocked s.time;
            phase_fits = g.clocked.phase_fits;
            offset_fits = g.clocked.offset_fits;
          };
      three = s.lanes;
      streams = every_imp Streamed LawfulStream stream e.streams g.streamed;
      opportunity = omega (arith, most);
      reserved = s.reserved;
      last = s.last;
      attempts = s.tried;
      births = s.counted.births;
      dropped = s.counted.dropped;
      hash = s.counted.hash;
      activity = (s.active.least, s.active.most, s.active.held);
      slots = s.slots;
      sources = every_imp FormedSource LawfulSource source e.sources s.formed;
      places = s.places;
      particles = every_imp (FitPlace e.clock.sample) (LawfulPlace e.clock.sample) (at_place e.clock.sample) e.particles s.held;
      held = w.number;
      prepared = s.made.is;
    }

-- the weights of its rolloff, between two calls
pub own-weights : (e : Engine) → Sound e → Weighed e → e.partial_weights ≡ weights_of partial_logs_of e.config.partial_rolloff_db
unfolding prepared_of
own-weights e s w = w ∙ ap (λ (logs : List Float). weights_of logs e.config.partial_rolloff_db) logs_are
  where
    of_rate : (rate : Float) → (prepared_of rate).partial_logs ≡ partial_logs_of
    of_rate rate = refl

    logs_are : e.prepared.partial_logs ≡ partial_logs_of
    logs_are = ap (λ (p : Prepared). p.partial_logs) s.made.is ∙ of_rate e.prepared.sample_rate
