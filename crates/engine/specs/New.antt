-- A new engine and a reset one. Definitions only.
use Rattle.std.specs.Prelude.{Float}
use Rattle.sequences.specs.Pick.{pick}
use Rattle.floats.specs.Names.{f32}
use Rattle.refusals.specs.declared.Refusal.TheVariants.{Rate}
use Rattle.settings.specs.Settings.{lawful_rate}
use Rattle.state.specs.declared.Done.{Done}
use Rattle.state.specs.declared.Engine.{Engine}
use Rattle.state.specs.State.{taken, refused}
use Rattle.state.specs.Make.{prepared_of, new_on}

-- refusal 1 hands back a new engine at 48,000
unfoldable pub new_engine_of : Float → Done
new_engine_of rate = pick (lawful_rate rate) (taken (new_on (prepared_of rate))) (refused Rate (new_on (prepared_of (f32 0x473b8000))))

unfoldable pub reset_of : Engine → Engine
reset_of e = new_on e.prepared
