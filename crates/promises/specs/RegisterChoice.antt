-- THE CHOICE OF A REGISTER, as it is promised. The Rust guards Sprinkle's range of octaves against holding none or one, and against a top below 40 Hz, and the free Cloud's against ending
-- within its ramp. At a lawful sample rate none of these comes, so our definitions have no such guards, and answer what the Rust's text with all of them does (`Guarded.antt` of `pitch_laws`).
use Rattle.std.specs.Prelude.{ℕ, ◌≡◌, ◌⊎◌, List, ◌∷◌, ◌++◌, T, Float, Option, None}
use Rattle.std.specs.Float.Ieee.{lt, le}
use Rattle.std.specs.Float.Ieee.Scale.{finite}
use Rattle.floats.specs.Names.{f32, sub32, zero32, Single}
use Rattle.elementary.specs.Log2.{log2_of}
use Rattle.settings.specs.declared.Direction.{Direction}
use Rattle.settings.specs.declared.Shape.TheVariants.{Sprinkle, Cloud}
use Rattle.settings.specs.Settings.{lawful_rate}
use Rattle.pitch.specs.Register.{min_hz}
use Rattle.pitch.specs.Octave.{first_octave, octaves_of, upper_of, register_of}
use Rattle.pitch.specs.Cloud.{ramp_of, frequency_of}
use Rattle.pitch_laws.specs.Guarded as guarded
use Rattle.pitch.specs.Highest.{max_hz_of}
use Rattle.state.specs.declared.Engine.{Engine}
use Rattle.births.specs.Birth.{chosen_for}
use Rattle.engine_laws.specs.Acts.{Act, birth, perform, Call}
use Rattle.promises.specs.Life.{newborn}
use Rattle.promises.specs.Runs.{history, AllTyped, Begins}

-- ---- the limits
-- a lawful sample rate; a root above 0 and finite; a highest frequency of 4,000 Hz or more
abbrev pub Rate : Float → Type 0
Rate rate = Single rate × T (lawful_rate rate)

abbrev pub Root : Float → Type 0
Root hz = Single hz × T (lt zero32 hz) × T (finite hz)

abbrev pub High : Float → Type 0
High maxHz = Single maxHz × T (le (f32 0x457a0000) maxHz)

abbrev pub sample_rate_of : Engine → Float
sample_rate_of e = e.prepared.sample_rate

-- ---- what the ranges hold
-- the count of octaves of a root from 20 Hz to Sprinkle's top
abbrev pub octaves_on : Float → Float → ℕ
octaves_on maxHz root = octaves_of (log2_of root) (first_octave (log2_of root)) (upper_of maxHz)

-- the free Cloud's octaves from 20 to 440 Hz, and from 20 Hz to the highest frequency
abbrev pub ramp : Float
ramp = ramp_of (log2_of min_hz)

abbrev pub span_to : Float → Float
span_to maxHz = sub32 (log2_of maxHz) (log2_of min_hz)

pub record RegisterChoice : Type 0 where
  -- for every lawful rate and every root above 0 and finite the range holds 7 or 8 octaves
  pub octaves : (rate root : Float) → Rate rate → Root root → (octaves_on (max_hz_of rate) root ≡ 7) ⊎ (octaves_on (max_hz_of rate) root ≡ 8)
  -- its top is at least 40 Hz
  pub top : (rate : Float) → Rate rate → T (le (f32 0x42200000) (upper_of (max_hz_of rate)))
  -- the free Cloud's ramp is more than f32::EPSILON, so above 0, and its span is above the ramp
  pub ramp_above : T (lt guarded.epsilon ramp)
  pub span_above : (rate : Float) → Rate rate → T (lt ramp (span_to (max_hz_of rate)))
  -- at every lawful rate the highest frequency is 4,000 Hz or more, and there the answers are those with every guard, Sprinkle's for any root
  pub highest : (rate : Float) → Rate rate → High (max_hz_of rate)
  pub register : (maxHz root : Float) → High maxHz → Single root → (index : ℕ) (direction : Direction) → register_of index root maxHz direction ≡ guarded.register_of index root maxHz direction
  pub frequency : (maxHz : Float) → High maxHz → (index : ℕ) → frequency_of index maxHz ≡ guarded.frequency_of index maxHz
  -- so the octave of Sprinkle's particle, and the frequency of the Cloud's that has no source, are those with every guard
  pub octave : (e : Engine) (index : ℕ) (own : Option ℕ) → Rate (sample_rate_of e) → Single (newborn e index own).frequency_hz → e.config.shape ≡ Sprinkle
      → (newborn e index own).octave ≡ (guarded.register_of index (newborn e index own).frequency_hz (max_hz_of (sample_rate_of e)) e.config.direction).octave
  pub free : (e : Engine) (index : ℕ) (own : Option ℕ) → Rate (sample_rate_of e) → e.config.shape ≡ Cloud → chosen_for e index own ≡ None → (newborn e index own).frequency_hz ≡ guarded.frequency_of index (max_hz_of (sample_rate_of e))
  -- every birth of every run is inside the limits: the engine's rate is lawful, and the frequency of the birth's particle is above 0 and finite
  pub births : (start : Engine) → Begins start → (cs : List Call) → AllTyped cs → (before after : List Act) (index : ℕ) (own : Option ℕ) → history start cs ≡ before ++ birth index own ∷ after
      → Rate (sample_rate_of (perform start before)) × Root (newborn (perform start before) index own).frequency_hz
