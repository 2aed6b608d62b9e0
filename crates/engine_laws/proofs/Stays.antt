-- One group of the state after the other, changed as the calls change it, leaves an engine as sound as it was; `new` and `reset` make a sound one.
use Prim.Native.Nat.{ℕ, ◌^◌, ◌≤◌, ◌<◌}
use Rattle.std.specs.Prelude.{Some}
use native.Mathlib.Nat.{le_refl}
use mathlib.Core.Path.{◌≡◌, refl, sym, ◌∙◌, subst}
use mathlib.Core.Bool.{Bool, true}
use mathlib.Core.List.{List, map}
use lib.Dec.{T, lit≤}
use lib.Pow.{pow_pos}
use lib.ListN.{length, length-map, length-set}
use lib.Ieee.{Float, binary32, fits, of_bits, of_fields, rem, add, sum, round, le, lt, eq, odd}
use lib.Ieee.Bits.{of_bits-fits}
use Rattle.state.specs.declared.Clock.{Clock}
use Rattle.sequences.specs.Pick.{pick, both}
use Rattle.floats.specs.Names.{f32}
use Rattle.timing.specs.declared.SprinkleStream.{SprinkleStream}
use Rattle.timing.specs.Streams.{aligned_all}
use Rattle.floats.specs.Choose.{clamp, abs}
use Rattle.floats.specs.Remainder.{rem_euclid}
use Rattle.pool.specs.declared.Particle.{Particle}
use Rattle.pool.specs.Pool.{free_particle}
use Rattle.settings.specs.declared.Config.{Config}
use Rattle.settings.specs.Settings.{is_sprinkle, default_config, lawful_rate}
use Rattle.settings.specs.Mending.{finite_or, held_to, partials_held, phase_of, mended_of}
use Rattle.sources.specs.declared.Source.{Source}
use Rattle.sources.specs.Sources.{no_source}
use Rattle.floats_laws.proofs.Proportions.{nought_unit}
use Rattle.state.specs.declared.Done.{Done}
use Rattle.state.specs.declared.Engine.{Engine}
use Rattle.state.specs.declared.Prepared.{Prepared}
use Rattle.state.specs.State.{with_config, with_particles, with_weights, with_clock, with_streams}
use Rattle.state.specs.Make.{prepared_of, no_particles, no_sources, new_on}
use Rattle.engine.specs.New.{new_engine_of, reset_of}
use Rattle.engine_changes.specs.Changes.{retired_all, prepared_all}
use Rattle.engine_sources.specs.Slots.{with_source}
use Rattle.engine_triggers.specs.Triggers.{is_permitted}
use Rattle.sequences.specs.Every.{every_map, every_set, every_replicate, in_case, every_imp}
use Rattle.engine_laws.specs.Acts.{Singles}
use Rattle.engine_laws.proofs.Sound.{FitPlace, Settled, Made, Sound, Sounding, fit-later}
use Rattle.engine_laws.proofs.Kept.{held-retire-one}
use Rattle.engine_laws.proofs.Voices.{FormedSource}
use Rattle.engine_laws.proofs.Chosen.{sound_particles}
use Rattle.engine_laws.proofs.Frames.{free-held}

-- ---- one group
pub sound_streams : (e : Engine) (ss : List SprinkleStream) → length ss ≡ 3 → Sound e → Sound (with_streams e ss)
sound_streams e ss l s =
    record {
      made = s.made;
      settled = s.settled;
      tried = s.tried;
      last = s.last;
      time = s.time;
      places = s.places;
      slots = s.slots;
      formed = s.formed;
      active = s.active;
      held = s.held;
      lanes = l;
      reserved = s.reserved;
      counted = s.counted;
    }

-- the clock at the same sample or a later one
pub sound_clock : (e : Engine) (k : Clock) → Sound e → e.clock.sample ≤ k.sample → k.sample ≤ 2 ^ 40 → Sound (with_clock e k)
sound_clock e k s h l =
    record {
      made = s.made;
      settled = s.settled;
      tried = s.tried;
      last = s.last;
      time = l;
      places = s.places;
      slots = s.slots;
      formed = s.formed;
      active = s.active;
      held = every_imp (FitPlace e.clock.sample) (FitPlace k.sample) (fit-later e.clock.sample k.sample h) e.particles s.held;
      lanes = s.lanes;
      reserved = s.reserved;
      counted = s.counted;
    }

pub sound_config : (e : Engine) (c : Config) → Sound e → Settled c → Sound (with_config e c)
sound_config e c s h =
    record {
      made = s.made;
      settled = h;
      tried = s.tried;
      last = s.last;
      time = s.time;
      places = s.places;
      slots = s.slots;
      formed = s.formed;
      active = s.active;
      held = s.held;
      lanes = s.lanes;
      reserved = s.reserved;
      counted = s.counted;
    }

pub sound_weights : (e : Engine) (ws : List Float) → Sound e → Sound (with_weights e ws)
sound_weights e ws s =
    record {
      made = s.made;
      settled = s.settled;
      tried = s.tried;
      last = s.last;
      time = s.time;
      places = s.places;
      slots = s.slots;
      formed = s.formed;
      active = s.active;
      held = s.held;
      lanes = s.lanes;
      reserved = s.reserved;
      counted = s.counted;
    }

pub sound_source : (e : Engine) (slot : ℕ) (x : Source) → FormedSource x → Sound e → Sound (with_source e slot x)
sound_source e slot x f s =
    record {
      made = s.made;
      settled = s.settled;
      tried = s.tried;
      last = s.last;
      time = s.time;
      places = s.places;
      slots = length-set e.sources slot x ∙ s.slots;
      formed = every_set FormedSource e.sources slot x f s.formed;
      active = s.active;
      held = s.held;
      lanes = s.lanes;
      reserved = s.reserved;
      counted = s.counted;
    }

-- ---- every place by one function
pub sound_mapped : (e : Engine) (g : Particle → Particle) → Sound e → ((p : Particle) → FitPlace e.clock.sample p → FitPlace e.clock.sample (g p)) → Sound (with_particles e (map g e.particles))
sound_mapped e g s h =
    sound_particles e (map g e.particles) s (length-map e.particles g ∙ s.places)
    (every_map (FitPlace e.clock.sample) (FitPlace e.clock.sample) g h e.particles s.held)

pub sound_retired : (e : Engine) → Sound e → Sound (retired_all e)
unfolding retired_all
sound_retired e s = sound_mapped e _ s (held-retire-one e.clock.sample)

-- ---- new and reset
default_mended : default_config ≡ mended_of default_config
unfolding mended_of held_to finite_or phase_of partials_held rem_euclid clamp rem add sum round of_bits lt eq abs pick
default_mended = refl

pub no_source_formed : FormedSource no_source
no_source_formed = record { hz = of_bits-fits binary32 0; strength = of_bits-fits binary32 0 }

default_singles : Singles default_config
default_singles =
    record {
      rate = of_bits-fits binary32 0x3f800000;
      size = of_bits-fits binary32 0x3f800000;
      phase = of_bits-fits binary32 0;
      rolloff = of_bits-fits binary32 0x40c00000;
      attack = of_bits-fits binary32 0;
      release = of_bits-fits binary32 0x428c0000;
    }

sound_on : (p : Prepared) → Made p → Sound (new_on p)
unfolding new_on no_particles no_sources of_bits
sound_on p m =
    record {
      made = m;
      settled = record { asked = default_config; singles = default_singles; hop = lit≤ tt; is = default_mended };
      tried = lit≤ tt;
      last = tt;
      time = lit≤ tt;
      places = refl;
      slots = refl;
      formed = every_replicate FormedSource 256 no_source no_source_formed;
      active = nought_unit;
      held = every_replicate (FitPlace 0) 64 free_particle (free-held 0);
      lanes = refl;
      reserved = pow_pos 64;
      counted = record { births = pow_pos 64; dropped = pow_pos 64; hash = pow_pos 64 };
    }

made_of : (rate : Float) → T (fits binary32 rate) → T (lawful_rate rate) → Made (prepared_of rate)
unfolding prepared_of
made_of rate f l = record { single = f; lawful = l; is = refl }

lawful_48000 : T (lawful_rate (f32 0x473b8000))
unfolding lawful_rate le lt eq of_bits of_fields odd
lawful_48000 = tt

pub sound_new : (rate : Float) → T (fits binary32 rate) → Sound (new_engine_of rate).engine
unfolding new_engine_of
sound_new rate f =
    in_case (λ (d : Done). Sound d.engine) (lawful_rate rate) _ _ (λ q. sound_on (prepared_of rate) (made_of rate f (subst T (sym q) tt)))
    (λ q. sound_on (prepared_of (f32 0x473b8000)) (made_of (f32 0x473b8000) (of_bits-fits binary32 0x473b8000) lawful_48000))

pub sound_reset : (e : Engine) → Sound e → Sound (reset_of e)
unfolding reset_of
sound_reset e s = sound_on e.prepared s.made

-- ---- what the calls hand on
pub three-aligned : (reference : Float) (sync : Bool) → length (aligned_all reference sync) ≡ 3
unfolding aligned_all
three-aligned reference sync = refl

pub three-prepared : (ss : List SprinkleStream) (sync : Bool) → length (prepared_all ss sync) ≡ 3
unfolding prepared_all
three-prepared ss sync = refl

pub permitted-sounding : (e : Engine) (slot : ℕ) → slot < 256 → is_permitted e slot ≡ true → Sounding e.sources (Some slot)
unfolding is_permitted
permitted-sounding e slot l h = (l, (both (is_sprinkle e.config.shape) _ (both e.config.enabled _ h).1).1)
