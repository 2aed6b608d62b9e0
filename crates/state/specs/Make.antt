-- What follows from the sample rate, and an engine as it starts, line by line as the Rust has them. Definitions only.
use Rattle.std.specs.Prelude.{◌+◌, false, List, [], ◌∷◌, replicate, pos, slice_index_or, Float, None}
use Rattle.std.specs.Float.{nan, binary32}
use Rattle.std.specs.Float.Ieee.{of_int, neg}
use Rattle.sequences.specs.Table.{table}
use Rattle.floats.specs.Names.{f32, f64, mul32, sub64, mul64, div64}
use Rattle.powers.specs.Exp64.{exp64}
use Rattle.elementary.specs.Log2.{log2_of}
use Rattle.powers.specs.Power.{db_to_gain}
use Rattle.pool.specs.declared.Particle.{Particle}
use Rattle.pool.specs.Pool.{free_particle}
use Rattle.settings.specs.Settings.{default_config}
use Rattle.sources.specs.declared.Source.{Source}
use Rattle.sources.specs.Sources.{no_source, max_sources}
use Rattle.timing.specs.Streams.{new_of}
use Rattle.state.specs.declared.Engine.{Engine}
use Rattle.state.specs.declared.Prepared.{Prepared}

-- ---- Prepared
-- std::array::from_fn(|i| ((i + 1) as f32).log2())
unfoldable pub partial_logs_of : List Float
partial_logs_of = table 24 (λ i. log2_of (of_int binary32 (pos (i + 1))))

-- partial_logs.map(|log| db_to_gain(-rolloff * log))
unfoldable pub weights_of : List Float → Float → List Float
weights_of logs rolloff = table 24 (λ i. db_to_gain (mul32 (neg rolloff) (slice_index_or logs i nan)))

-- 1.0 - (-1.0 / (0.05 * sample_rate as f64)).exp()
unfoldable pub alpha_of : Float → Float
alpha_of rate = sub64 (f64 0x3ff0000000000000) (exp64 (div64 (neg (f64 0x3ff0000000000000)) (mul64 (f64 0x3fa999999999999a) rate)))

unfoldable pub prepared_of : Float → Prepared
prepared_of rate =
    record {
      sample_rate = rate;
      phase_alpha = alpha_of rate;
      partial_logs = partial_logs_of;
      default_partial_weights = weights_of partial_logs_of (f32 0x40c00000);
    }

-- ---- from_prepared
unfoldable pub no_particles : List Particle
no_particles = replicate 64 free_particle

unfoldable pub no_sources : List Source
no_sources = replicate max_sources no_source

unfoldable pub new_on : Prepared → Engine
new_on p =
    record {
      particles = no_particles;
      sources = no_sources;
      prepared = p;
      clock = record { sample = 0; phase = f64 0; phase_offset = f64 0 };
      next = record { opportunity = 0; immediate_index = 0; last_source = None; note_input_present = false };
      streams = new_of 0 false ∷ new_of 1 false ∷ new_of 2 false ∷ [];
      partial_weights = p.default_partial_weights;
      tally = record { attempts = 0; births = 0; dropped = 0; decision_hash = 0; held = 0 };
      config = default_config;
      activity = f32 0;
    }
