-- What one field does to the run: 01's table, one line a tag. Definitions only.
use Rattle.std.specs.Prelude.{Bool, Float, Some, None, Ok, Err}
use Rattle.floats.specs.Names.{f32}
use Rattle.refusals.specs.declared.Refusal.{Refusal}
use Rattle.refusals.specs.Numbers.{Answer}
use Rattle.script.specs.declared.fields.Field.{Field}
use Rattle.script.specs.declared.fields.Field.TheVariants as F
use Rattle.sources.specs.declared.Source.{Source}
use Rattle.windows.specs.declared.Frame.{Frame}
use Rattle.windows.specs.Opening.{empty_frame}
use Rattle.state.specs.declared.Engine.{Engine}
use Rattle.state.specs.declared.Done.{Done}
use Rattle.engine_triggers.specs.declared.Triggered.{Triggered}
use Rattle.engine_triggers.specs.Triggers.{Fired, triggered_of, reserved_of, triggered_by}
use Rattle.engine_triggers.specs.declared.Outcome.TheVariants.{Born, NotEligible, Dropped}
use Rattle.engine.specs.New.{new_engine_of, reset_of}
use Rattle.engine_changes.specs.Changes.{configured_of, notes_of, sought_of}
use Rattle.engine_sources.specs.Slots.{set_source_of, retire_source_of, release_source_of}
use Rattle.engine.specs.Advance.{advanced_of}
use Rattle.script_steps.specs.Values.{values_of}
use Rattle.frame.specs.declared.Framed.{Framed}
use Rattle.frame.specs.Call.{framed_of as take_frame_of}
use Rattle.script_steps.specs.declared.Run.{Run}
use Rattle.script_steps.specs.declared.Stepped.{Stepped}

-- before the first field, whose rate makes the engine anew
unfoldable pub fresh : Run
fresh = record { engine = (new_engine_of (f32 0x473b8000)).engine; frame = empty_frame }

-- the engine after the call, the last accepted frame as it was
abbrev pub with_engine : Run → Engine → Run
with_engine run e = record { engine = e; frame = run.frame }

abbrev pub quiet_step : Run → Engine → Stepped
quiet_step run e = record { run = with_engine run e; reply = (Ok None) }

abbrev pub refused_step : Run → Engine → Refusal → Stepped
refused_step run e r = record { run = with_engine run e; reply = (Err r) }

abbrev pub answered_of : Run → Engine → Answer → Stepped
answered_of run e (Ok tt) = quiet_step run e
answered_of run e (Err r) = refused_step run e r

abbrev pub done_of : Run → Done → Stepped
done_of run d = answered_of run d.engine d.answer

-- born, not eligible and dropped print nothing
abbrev pub outcome_step : Run → Engine → Fired → Stepped
outcome_step run e (Ok Born) = quiet_step run e
outcome_step run e (Ok NotEligible) = quiet_step run e
outcome_step run e (Ok Dropped) = quiet_step run e
outcome_step run e (Err r) = refused_step run e r

abbrev pub fired_of : Run → Triggered → Stepped
fired_of run t = outcome_step run t.engine t.outcome

abbrev pub shown_step : Engine → Frame → Stepped
shown_step e f = record { run = record { engine = e; frame = f }; reply = (Ok (Some (values_of e f.activity))) }

abbrev pub frame_step_of : Run → Engine → Frame → Answer → Stepped
frame_step_of run e f (Ok tt) = shown_step e f
frame_step_of run e f (Err r) = refused_step run e r

abbrev pub framed_step : Run → Framed → Stepped
framed_step run f = frame_step_of run f.engine f.frame f.answer

abbrev pub source_of : Float → Float → Bool → Source
source_of frequency strength eligible = record { frequency_hz = frequency; strength = strength; eligible = eligible }

unfoldable pub step_of : Run → Field → Stepped
step_of run (F.Rate x) = done_of run (new_engine_of x)
step_of run (F.Configure c) = done_of run (configured_of run.engine c)
step_of run (F.Source s f g b) = done_of run (set_source_of run.engine s (source_of f g b))
step_of run (F.Retire s) = done_of run (retire_source_of run.engine s)
step_of run (F.Release s) = done_of run (release_source_of run.engine s)
step_of run (F.Trigger s) = fired_of run (triggered_of run.engine s)
step_of run (F.Seek x) = quiet_step run (sought_of run.engine x)
step_of run (F.Advance n) = done_of run (advanced_of run.engine n)
step_of run (F.Frame b x) = framed_step run (take_frame_of run.engine b x)
step_of run (F.NoteInput b) = quiet_step run (notes_of run.engine b)
step_of run F.Reset = quiet_step run (reset_of run.engine)
step_of run F.Reserve = quiet_step run (reserved_of run.engine).engine
step_of run (F.ReservedTrigger s i) = fired_of run (triggered_by run.engine s i)
