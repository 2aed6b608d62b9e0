-- Which events the form holds, and in which order a script has them; and the scripts that have one pattern for every NaN. Definitions only.
use Rattle.std.specs.Prelude.{ℕ, ◌+◌, ◌<◌, ◌≤◌, ◌≡◌, Bool, true, false, List, [], ◌∷◌, map, drop}
use Rattle.std.specs.Float.{Format, binary32, binary64}
use Rattle.std.specs.Float.Ieee.{nan_bits}
use Rattle.floats.specs.Names.{Single, Double}
use Rattle.sequences.specs.Every.{Every}
use Rattle.settings.specs.declared.Config.{Config}
use Rattle.big_endian.specs.Numbers.{be32, be64}
use Rattle.script.specs.declared.fields.Field.{Field}
use Rattle.script.specs.declared.fields.Field.TheVariants as F
use Rattle.script.specs.Reading.{Placed, Reading}

-- ---- events
-- floats of their format, a hop and partials of 32 bits
pub record WritableConfig (c : Config) : Type 0 where
  pub rate : Single c.rate_hz
  pub size : Single c.size_octaves
  pub phase : Single c.phase
  pub hop : c.hop_samples ≤ 4294967295
  pub partials : c.partials ≤ 4294967295
  pub rolloff : Single c.partial_rolloff_db
  pub attack : Single c.attack_ms
  pub release : Single c.release_ms

abbrev pub Writable : Field → Type 0
Writable (F.Rate x) = Single x
Writable (F.Configure c) = WritableConfig c
Writable (F.Source slot frequency strength eligible) = Single frequency × Single strength
Writable (F.Retire slot) = Unit {0}
Writable (F.Release slot) = Unit {0}
Writable (F.Trigger slot) = Unit {0}
Writable (F.Seek cycles) = Double cycles
Writable (F.Advance samples) = Unit {0}
Writable (F.Frame bin seconds) = Single bin × Single seconds
Writable (F.NoteInput present) = Unit {0}
Writable F.Reset = Unit {0}
Writable F.Reserve = Unit {0}
Writable (F.ReservedTrigger slot index) = Unit {0}

abbrev pub is_rate : Field → Bool
is_rate (F.Rate x) = true
is_rate (F.Configure c) = false
is_rate (F.Source slot frequency strength eligible) = false
is_rate (F.Retire slot) = false
is_rate (F.Release slot) = false
is_rate (F.Trigger slot) = false
is_rate (F.Seek cycles) = false
is_rate (F.Advance samples) = false
is_rate (F.Frame bin seconds) = false
is_rate (F.NoteInput present) = false
is_rate F.Reset = false
is_rate F.Reserve = false
is_rate (F.ReservedTrigger slot index) = false

abbrev pub NoRate : Field → Type 0
NoRate f = is_rate f ≡ false

-- the first is a rate, and no later one is
abbrev pub Ordered : List Field → Type 0
Ordered [] = ⊥
Ordered (f ∷ fs) = (is_rate f ≡ true) × Every NoRate fs

-- the events of a reading, without their places
abbrev pub events : Reading → List Field
events r = map (λ (p : Placed). p.field) r.fields

-- ---- NaNs
-- where these bits are a NaN's, they are the pattern
abbrev pub OneNan : Format → ℕ → ℕ → Type 0
OneNan f pattern n = nan_bits f n ≡ true → n ≡ pattern

-- the number at a place of the value
abbrev pub Nan32 : List ℕ → ℕ → Type 0
Nan32 v i = OneNan binary32 0x7fc00000 (be32 v i)

abbrev pub Nan64 : List ℕ → ℕ → Type 0
Nan64 v i = OneNan binary64 0x7ff8000000000000 (be64 v i)

pub record ConfigNans (v : List ℕ) : Type 0 where
  pub rate : Nan32 v 3
  pub size : Nan32 v 7
  pub phase : Nan32 v 11
  pub rolloff : Nan32 v 25
  pub attack : Nan32 v 29
  pub release : Nan32 v 33

-- the floats of an event, in the bytes of its value
abbrev pub Nans : Field → List ℕ → Type 0
Nans (F.Rate x) v = Nan32 v 0
Nans (F.Configure c) v = ConfigNans v
Nans (F.Source slot frequency strength eligible) v = Nan32 v 2 × Nan32 v 6
Nans (F.Retire slot) v = Unit {0}
Nans (F.Release slot) v = Unit {0}
Nans (F.Trigger slot) v = Unit {0}
Nans (F.Seek cycles) v = Nan64 v 0
Nans (F.Advance samples) v = Unit {0}
Nans (F.Frame bin seconds) v = Nan32 v 0 × Nan32 v 4
Nans (F.NoteInput present) v = Unit {0}
Nans F.Reset v = Unit {0}
Nans F.Reserve v = Unit {0}
Nans (F.ReservedTrigger slot index) v = Unit {0}

-- of a field of a script: its value begins three bytes behind its place
abbrev pub PlainNans : List ℕ → Placed → Type 0
PlainNans s p = Nans p.field (drop (p.place + 3) s)

abbrev pub Byte : ℕ → Type 0
Byte b = b < 256
