-- The source slots, line by line as the Rust has them. Definitions only.
use Rattle.std.specs.Prelude.{ℕ, Bool, false, not, ◌&&◌, Float}
use Rattle.std.specs.Float.Ieee.{lt, eq}
use Rattle.std.specs.Float.Ieee.Scale.{finite}
use Rattle.sequences.specs.Pick.{pick}
use Rattle.floats.specs.Names.{f32}
use Rattle.sources.specs.declared.Source.{Source}

-- MAX_SOURCES
abbrev pub max_sources : ℕ
max_sources = 256

-- Source::default()
abbrev pub no_source : Source
no_source = record { frequency_hz = f32 0; strength = f32 0; eligible = false }

-- the derived equality
abbrev pub same_flag : Bool → Bool → Bool
same_flag a b = pick a b (not b)

unfoldable pub same : Source → Source → Bool
same a b = eq a.frequency_hz b.frequency_hz && (eq a.strength b.strength && same_flag a.eligible b.eligible)

-- x.is_finite() && x > 0.0
unfoldable pub is_pitched : Float → Bool
is_pitched x = pick (finite x) (lt (f32 0) x) false

-- self.eligible && frequency and strength both finite and above 0
unfoldable pub is_eligible : Source → Bool
is_eligible s = pick s.eligible (pick (is_pitched s.frequency_hz) (is_pitched s.strength) false) false

-- self.sources[slot].eligible = false
abbrev pub released_of : Source → Source
released_of s = record { frequency_hz = s.frequency_hz; strength = s.strength; eligible = false }
