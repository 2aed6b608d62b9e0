-- What every run keeps true of an engine, group by group: where each of its numbers lies, that each float is of its format, and that each counter is a word. Definitions only.
use Rattle.std.specs.Prelude.{ℕ, ◌^◌, ◌≤◌, ◌<◌, ◌≡◌, ◌⊎◌, Bool, true, false, T, length, get_or, Some, IfSome}
use Rattle.std.specs.Float.Ieee.{lt, le}
use Rattle.std.specs.Float.Ieee.Exact.{HasValue}
use Rattle.std.specs.Float.Ieee.Scale.{finite}
use Rattle.sources.specs.Sources.{max_sources}
use Rattle.sequences.specs.Every.{Every}
use Rattle.floats.specs.Names.{f64, zero32, one, Single, Double}
use Rattle.pool.specs.declared.Particle.{Particle}
use Rattle.pool.specs.Pool.{free_particle}
use Rattle.pool.specs.Vacancies.{active_count}
use Rattle.settings.specs.declared.Config.{Config}
use Rattle.settings.specs.Settings.{max_hop, lawful_rate}
use Rattle.settings.specs.Mending.{mended_of}
use Rattle.settings_laws.specs.Phase.{with_phase}
use Rattle.sources.specs.declared.Source.{Source}
use Rattle.timing.specs.declared.SprinkleStream.{SprinkleStream}
use Rattle.state.specs.declared.Clock.{Clock}
use Rattle.state.specs.declared.Engine.{Engine}
use Rattle.state.specs.Make.{prepared_of}
use Rattle.engine_laws.specs.Acts.{Singles}

-- settings that `configure` would leave as they are, or would but for a phase of exactly 1.0, which it makes 0.0
pub record LawfulSettings (c : Config) : Type 0 where
  pub mended : (mended_of c ≡ c) ⊎ ((c.phase ≡ one) × (mended_of c ≡ with_phase zero32 c))
  pub hop : c.hop_samples ≤ max_hop
  pub partials : (1 ≤ c.partials) × (c.partials ≤ 24)
  pub floats : Singles c

-- phase from 0 to 2^33, offset from -2^31 to 2^31
pub record LawfulClock (k : Clock) : Type 0 where
  pub elapsed : k.sample ≤ 2 ^ 40
  pub phase : T (le (f64 0) k.phase) × T (le k.phase (f64 0x4200000000000000))
  pub offset : T (le (f64 0xc1e0000000000000) k.phase_offset) × T (le k.phase_offset (f64 0x41e0000000000000))
  pub phase_fits : Double k.phase
  pub offset_fits : Double k.phase_offset

pub record LawfulStream (s : SprinkleStream) : Type 0 where
  pub index : s.index < 2 ^ 59
  pub next : T (finite s.next)
  pub next_fits : Double s.next

-- of a particle that is active, at the sample `now`
pub record LawfulParticle (now : ℕ) (p : Particle) : Type 0 where
  pub slot : IfSome p.source (λ s. s < max_sources)
  pub partials : (length p.partials ≡ 3) × ((k : ℕ) → get_or p.partials k 0 ≤ 24)
  pub birth : p.birth ≤ now
  pub retirement : (t : ℕ) → p.retirement ≡ Some t → (p.birth ≤ t) × (t ≤ now)
  pub frequency : T (lt zero32 p.frequency_hz) × T (finite p.frequency_hz) × Single p.frequency_hz
  pub width : T (lt zero32 p.width) × T (finite p.width) × Single p.width
  pub octave : (s : Bool) × (n : ℕ) × (n ≤ 256) × HasValue p.octave s n 1
  pub octave_fits : Single p.octave
  pub strength : T (le zero32 p.strength) × T (le p.strength one) × Single p.strength
  pub attack : T (lt zero32 p.attack) × T (lt p.attack one) × Single p.attack
  pub power : (p.decay_power ≡ 1) ⊎ (p.decay_power ≡ 3)
  pub lifetime : T (lt (f64 0) p.lifetime) × T (le p.lifetime (f64 0x4024000000000000)) × Double p.lifetime

-- a place that is not active is the free one
abbrev pub LawfulPlace : ℕ → Particle → Type 0
LawfulPlace now p = (p.active ≡ true → LawfulParticle now p) × (p.active ≡ false → p ≡ free_particle)

abbrev pub LawfulSource : Source → Type 0
LawfulSource s = Single s.frequency_hz × Single s.strength

pub record Lawful (e : Engine) : Type 0 where
  pub rate : T (lawful_rate e.prepared.sample_rate) × Single e.prepared.sample_rate
  pub settings : LawfulSettings e.config
  pub clock : LawfulClock e.clock
  pub three : length e.streams ≡ 3
  pub streams : Every LawfulStream e.streams
  pub opportunity : e.next.opportunity < 2 ^ 59
  pub reserved : e.next.immediate_index < 2 ^ 64
  pub last : IfSome e.next.last_source (λ s. s < max_sources)
  pub attempts : e.tally.attempts ≤ 64
  pub births : e.tally.births < 2 ^ 64
  pub dropped : e.tally.dropped < 2 ^ 64
  pub hash : e.tally.decision_hash < 2 ^ 64
  pub activity : T (le zero32 e.activity) × T (le e.activity one) × Single e.activity
  pub slots : length e.sources ≡ max_sources
  pub sources : Every LawfulSource e.sources
  pub places : length e.particles ≡ 64
  pub particles : Every (LawfulPlace e.clock.sample) e.particles
  pub held : e.tally.held ≡ active_count e.particles
  -- the tables that follow from the rate are the engine's
  pub prepared : e.prepared ≡ prepared_of e.prepared.sample_rate
