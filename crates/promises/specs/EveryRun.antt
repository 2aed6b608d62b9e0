-- WHAT EVERY RUN KEEPS, as it is promised: of any engine that calls have made of a new or a reset one. Its terms are those of `Lawful.antt` of `engine_laws`, where each number's range stands.
use Rattle.std.specs.Prelude.{◌≡◌, List, ◌++◌}
use Rattle.state.specs.declared.Engine.{Engine}
use Rattle.state.specs.Make.{partial_logs_of, weights_of}
use Rattle.engine_laws.specs.Acts.{Act, perform, Call}
use Rattle.engine_laws.specs.Lawful.{Lawful}
use Rattle.promises.specs.Runs.{run, history, AllTyped, Begins}

pub record EveryRun : Type 0 where
  -- after every call each number lies in its range
  pub lawful : (start : Engine) → Begins start → (cs : List Call) → AllTyped cs → Lawful (run start cs)
  -- and at every moment within a call, between two births of one sample too
  pub lawful_within : (start : Engine) → Begins start → (cs : List Call) → AllTyped cs → (before after : List Act) → history start cs ≡ before ++ after → Lawful (perform start before)
  -- after every call the weights of the harmonics are those of the settings' rolloff
  pub weighed : (start : Engine) → Begins start → (cs : List Call) → AllTyped cs
      → (run start cs).partial_weights ≡ weights_of partial_logs_of (run start cs).config.partial_rolloff_db
