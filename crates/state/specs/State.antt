-- The engine with one group of its state in place of another, and what a call hands back. Definitions only.
use Rattle.std.specs.Prelude.{false, List, Float, Ok, Err}
use Rattle.std.specs.Float.{nan}
use Rattle.floats.specs.Names.{add64}
use Rattle.pool.specs.declared.Particle.{Particle}
use Rattle.refusals.specs.declared.Refusal.{Refusal}
use Rattle.settings.specs.declared.Config.{Config}
use Rattle.sources.specs.declared.Source.{Source}
use Rattle.timing.specs.declared.SprinkleStream.{SprinkleStream}
use Rattle.state.specs.declared.Clock.{Clock}
use Rattle.state.specs.declared.Done.{Done}
use Rattle.state.specs.declared.Engine.{Engine}
use Rattle.state.specs.declared.Next.{Next}
use Rattle.state.specs.declared.Tally.{Tally}

-- ---- one group of the state
abbrev pub with_particles : Engine → List Particle → Engine
with_particles e x =
    record {
      particles = x;
      sources = e.sources;
      prepared = e.prepared;
      clock = e.clock;
      next = e.next;
      streams = e.streams;
      partial_weights = e.partial_weights;
      tally = e.tally;
      config = e.config;
      activity = e.activity;
    }

abbrev pub with_sources : Engine → List Source → Engine
with_sources e x =
    record {
      particles = e.particles;
      sources = x;
      prepared = e.prepared;
      clock = e.clock;
      next = e.next;
      streams = e.streams;
      partial_weights = e.partial_weights;
      tally = e.tally;
      config = e.config;
      activity = e.activity;
    }

abbrev pub with_clock : Engine → Clock → Engine
with_clock e x =
    record {
      particles = e.particles;
      sources = e.sources;
      prepared = e.prepared;
      clock = x;
      next = e.next;
      streams = e.streams;
      partial_weights = e.partial_weights;
      tally = e.tally;
      config = e.config;
      activity = e.activity;
    }

abbrev pub with_next : Engine → Next → Engine
with_next e x =
    record {
      particles = e.particles;
      sources = e.sources;
      prepared = e.prepared;
      clock = e.clock;
      next = x;
      streams = e.streams;
      partial_weights = e.partial_weights;
      tally = e.tally;
      config = e.config;
      activity = e.activity;
    }

abbrev pub with_streams : Engine → List SprinkleStream → Engine
with_streams e x =
    record {
      particles = e.particles;
      sources = e.sources;
      prepared = e.prepared;
      clock = e.clock;
      next = e.next;
      streams = x;
      partial_weights = e.partial_weights;
      tally = e.tally;
      config = e.config;
      activity = e.activity;
    }

abbrev pub with_weights : Engine → List Float → Engine
with_weights e x =
    record {
      particles = e.particles;
      sources = e.sources;
      prepared = e.prepared;
      clock = e.clock;
      next = e.next;
      streams = e.streams;
      partial_weights = x;
      tally = e.tally;
      config = e.config;
      activity = e.activity;
    }

abbrev pub with_tally : Engine → Tally → Engine
with_tally e x =
    record {
      particles = e.particles;
      sources = e.sources;
      prepared = e.prepared;
      clock = e.clock;
      next = e.next;
      streams = e.streams;
      partial_weights = e.partial_weights;
      tally = x;
      config = e.config;
      activity = e.activity;
    }

abbrev pub with_config : Engine → Config → Engine
with_config e x =
    record {
      particles = e.particles;
      sources = e.sources;
      prepared = e.prepared;
      clock = e.clock;
      next = e.next;
      streams = e.streams;
      partial_weights = e.partial_weights;
      tally = e.tally;
      config = x;
      activity = e.activity;
    }

-- ---- answers
abbrev pub taken : Engine → Done
taken e = record { answer = Ok tt; engine = e }

abbrev pub refused : Refusal → Engine → Done
refused r e = record { answer = Err r; engine = e }

-- ---- what stands past the end of a list, where no call looks
abbrev pub past_source : Source
past_source = record { frequency_hz = nan; strength = nan; eligible = false }

abbrev pub past_stream : SprinkleStream
past_stream = record { index = 0; next = nan; emit = false }

-- ---- where the Rate clock stands
-- self.phase + self.phase_offset
abbrev pub reference_now : Clock → Float
reference_now k = add64 k.phase k.phase_offset
