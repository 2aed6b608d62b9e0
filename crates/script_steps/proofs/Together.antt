-- The run put together once with a reply is the run of each case.
use Rattle.std.specs.Prelude.{Ok, Err}
use mathlib.Core.Path.{◌≡◌, refl}
use Rattle.refusals.specs.Numbers.{Answer}
use Rattle.engine_triggers.specs.Triggers.{Fired}
use Rattle.engine_triggers.specs.declared.Outcome.TheVariants.{Born, NotEligible, Dropped}
use Rattle.state.specs.declared.Engine.{Engine}
use Rattle.script_steps.specs.Replies.{Reply, reply_of}
use Rattle.script_steps.specs.declared.Run.{Run}
use Rattle.script_steps.specs.declared.Stepped.{Stepped}
use Rattle.script_steps.specs.Steps.{with_engine, answered_of, outcome_step}

abbrev pub stepped : Run → Engine → Reply → Stepped
stepped run e r = record { run = with_engine run e; reply = r }

pub answered-is : (run : Run) (e : Engine) (a : Answer) → stepped run e (reply_of a) ≡ answered_of run e a
answered-is run e (Ok tt) = refl
answered-is run e (Err r) = refl

pub outcome-is : (run : Run) (e : Engine) (o : Fired) → stepped run e (reply_of o) ≡ outcome_step run e o
outcome-is run e (Ok Born) = refl
outcome-is run e (Ok NotEligible) = refl
outcome-is run e (Ok Dropped) = refl
outcome-is run e (Err r) = refl
