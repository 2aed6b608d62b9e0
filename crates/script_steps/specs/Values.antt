-- What the line of an accepted frame says of the engine. Definitions only.
use Rattle.std.specs.Prelude.{ℕ, ◌*◌, ◌/◌, Float}
use Rattle.std.specs.Float.{binary32}
use Rattle.std.specs.Float.Ieee.{to_bits}
use Rattle.std.specs.Float.Ieee.Positive.{num, den}
use Rattle.sequences.specs.Pick.{pick}
use Rattle.floats.specs.Convert.{convert}
use Rattle.settings.specs.Settings.{lawful_rate}
use Rattle.state.specs.declared.Engine.{Engine}
use Rattle.script_steps.specs.declared.values.Values.{Values}

-- samples * 1000 / rate, rounded down: the rate is exactly the fraction num / den. An engine has a lawful one; at any other it is 0
unfoldable pub milliseconds_of : ℕ → Float → ℕ
milliseconds_of samples rate = pick (lawful_rate rate) (samples * 1000 * den rate / num rate) 0

-- the rate's float is the f32 that the engine's f64 was made of
unfoldable pub values_of : Engine → Float → Values
values_of e activity =
    record {
      sample = e.clock.sample;
      ms = milliseconds_of e.clock.sample (convert binary32 e.prepared.sample_rate);
      active = e.tally.held;
      births = e.tally.births;
      dropped = e.tally.dropped;
      hash = e.tally.decision_hash;
      activity = to_bits binary32 activity;
    }
