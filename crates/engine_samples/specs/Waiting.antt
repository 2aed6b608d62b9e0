-- When the next starts are, whether one is due, and the clock after samples at which none is. Definitions only.
use Rattle.std.specs.Prelude.{◌≡◌, ℕ, zero, suc, ◌+◌, ◌-◌, ◌≤◌, Bool, false, cond, List, slice_index_or, Float}
use Rattle.std.specs.Float.Ieee.{lt}
use Rattle.floats.specs.Word.{grown}
use Rattle.sequences.specs.Pick.{pick}
use Rattle.floats.specs.Names.{f64, add64, div64}
use Rattle.settings.specs.declared.Config.{Config}
use Rattle.settings.specs.declared.Shape.{Shape}
use Rattle.settings.specs.declared.Shape.TheVariants.{Sprinkle, Cloud}
use Rattle.timing.specs.declared.SprinkleStream.{SprinkleStream}
use Rattle.timing.specs.Streams.{reference_of}
use Rattle.state.specs.declared.Clock.{Clock}
use Rattle.state.specs.declared.Engine.{Engine}
use Rattle.state.specs.State.{past_stream, reference_now}
use Rattle.engine_samples.specs.Sample.{glided_of}
use Rattle.engine_samples.specs.declared.waiting.Starts.{Starts}
use Rattle.engine_samples.specs.declared.waiting.Tempo.{Tempo}
use Rattle.engine_samples.specs.declared.waiting.Waited.{Waited}

-- ---- starts
abbrev pub starts_at : Float → Float → Float → Starts
starts_at first second third = record { first = first; second = second; third = third }

-- the start of each lane, or three times the Cloud's
unfoldable pub shape_starts : Shape → List SprinkleStream → ℕ → Starts
shape_starts Sprinkle streams opportunity = starts_at (slice_index_or streams 0 past_stream).next (slice_index_or streams 1 past_stream).next (slice_index_or streams 2 past_stream).next
shape_starts Cloud streams opportunity = starts_at (reference_of opportunity) (reference_of opportunity) (reference_of opportunity)

unfoldable pub starts_of : Bool → Shape → List SprinkleStream → ℕ → Starts
starts_of scheduled shape streams opportunity =
    let never = f64 0x7ff0000000000000 in
    pick scheduled (shape_starts shape streams opportunity) (starts_at never never never)

-- before every start
unfoldable pub nothing_due : Starts → Float → Bool
nothing_due s reference = pick (lt reference s.first) (pick (lt reference s.second) (lt reference s.third) false) false

-- ---- the clock
abbrev pub tempo_of : Config → Float → Float → Tempo
tempo_of config rate alpha = record { scheduled = config.scheduled; step = div64 config.rate_hz rate; phase = config.phase; alpha = alpha }

abbrev pub clock_of : ℕ → Float → Float → Clock
clock_of sample phase offset = record { sample = sample; phase = phase; phase_offset = offset }

-- after a sample
unfoldable pub clock_after : Tempo → Clock → Clock
clock_after t k = clock_of (grown k.sample) (cond t.scheduled (add64 k.phase t.step) k.phase) (glided_of k.phase_offset t.phase t.alpha)

-- ---- `wait`
abbrev pub waited_at : Clock → ℕ → Waited
waited_at k count = record { clock = k; count = count }

-- with so many samples before it
abbrev pub since : ℕ → Waited → Waited
since a w = waited_at w.clock (a + w.count)

-- n samples at most: where one is left and nothing is due, it and what follows; else no more
unfoldable pub waited_of : Starts → Tempo → ℕ → Clock → Waited
waited_of s t zero k = waited_at k 0
waited_of s t (suc n) k = pick (nothing_due s (reference_now k)) (since 1 (waited_of s t n (clock_after t k))) (waited_at k 0)

-- so far `count` samples, to the clock m; the whole is these and what is left from there
pub record Underway (s : Starts) (t : Tempo) (n : ℕ) (k : Clock) (count : ℕ) (m : Clock) : Type 0 where
  pub few : count ≤ n
  pub is : since count (waited_of s t (n - count) m) ≡ waited_of s t n k

-- ---- of an engine
abbrev pub starts_for : Engine → Starts
starts_for e = starts_of e.config.scheduled e.config.shape e.streams e.next.opportunity

abbrev pub tempo_for : Engine → Tempo
tempo_for e = tempo_of e.config e.prepared.sample_rate e.prepared.phase_alpha
