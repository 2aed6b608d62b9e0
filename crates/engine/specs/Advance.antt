-- `advance`. Definitions only.
use Rattle.std.specs.Prelude.{ℕ, ◌+◌, ◌^◌, leb}
use Rattle.sequences.specs.Pick.{pick}
use Rattle.sequences.specs.Times.{iterate}
use Rattle.engine_samples.specs.Sample.{stepped_of}
use Rattle.refusals.specs.declared.Refusal.TheVariants.{Elapsed}
use Rattle.state.specs.declared.Done.{Done}
use Rattle.state.specs.declared.Engine.{Engine}
use Rattle.state.specs.State.{taken, refused}

-- n samples, or refusal 4 where they would lead past 2 ^ 40
unfoldable pub advanced_of : Engine → ℕ → Done
advanced_of e n = pick (leb (e.clock.sample + n) (2 ^ 40)) (taken (iterate stepped_of n e)) (refused Elapsed e)
