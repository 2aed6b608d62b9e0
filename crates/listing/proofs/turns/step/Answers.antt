-- `step` meets its contract: a call for each field, and its line of `step_of`.
use Rattle.std.proofs.Common.{ap}
use Rattle.script_steps.specs.Steps.{quiet_step, step_of}
use Rattle.listing.proofs.Fields.{by-done, by-trigger}
use Rattle.listing.proofs.turns.step.Goals as goal

pub returns-in-Rate : goal.returns-in-Rate
unfolding step_of
returns-in-Rate c = rw c.in-Rate.is c.make.ensures

pub returns-in-Configure : goal.returns-in-Configure
unfolding step_of
returns-in-Configure c = rw c.in-Configure.is (by-done c.args.run.now _ _ _ _ c.configure.ensures.answer c.configure.ensures.engine c.answered.ensures)

pub returns-in-Source : goal.returns-in-Source
unfolding step_of
returns-in-Source c = rw c.in-Source.is (by-done c.args.run.now _ _ _ _ c.set_source.ensures.answer c.set_source.ensures.engine c.answered-in-Source.ensures)

pub returns-in-Retire : goal.returns-in-Retire
unfolding step_of
returns-in-Retire c = rw c.in-Retire.is (by-done c.args.run.now _ _ _ _ c.retire_source.ensures.answer c.retire_source.ensures.engine c.answered-in-Retire.ensures)

pub returns-in-Release : goal.returns-in-Release
unfolding step_of
returns-in-Release c = rw c.in-Release.is (by-done c.args.run.now _ _ _ _ c.release_source.ensures.answer c.release_source.ensures.engine c.answered-in-Release.ensures)

pub returns-in-Trigger : goal.returns-in-Trigger
unfolding step_of
returns-in-Trigger c = rw c.in-Trigger.is (by-trigger c.args.run.now _ _ _ _ c.trigger.ensures.outcome c.trigger.ensures.engine c.answered-in-Trigger.ensures)

pub returns-in-Seek : goal.returns-in-Seek
unfolding step_of
returns-in-Seek c = rw c.in-Seek.is (ap (quiet_step c.args.run.now) c.seek.ensures)

pub returns-in-Advance : goal.returns-in-Advance
unfolding step_of
returns-in-Advance c = rw c.in-Advance.is (by-done c.args.run.now _ _ _ _ c.advance.ensures.answer c.advance.ensures.engine c.answered-in-Advance.ensures)

pub returns-in-Frame : goal.returns-in-Frame
unfolding step_of
returns-in-Frame c = rw c.in-Frame.is c.show.ensures

pub returns-in-NoteInput : goal.returns-in-NoteInput
unfolding step_of
returns-in-NoteInput c = rw c.in-NoteInput.is (ap (quiet_step c.args.run.now) c.set_note_input_present.ensures)

pub returns-in-Reset : goal.returns-in-Reset
unfolding step_of
returns-in-Reset c = rw c.in-Reset.is (ap (quiet_step c.args.run.now) c.reset.ensures)

pub returns-in-Reserve : goal.returns-in-Reserve
unfolding step_of
returns-in-Reserve c = rw c.in-Reserve.is (ap (quiet_step c.args.run.now) c.reserve_trigger.ensures.engine)

pub returns-in-ReservedTrigger : goal.returns-in-ReservedTrigger
unfolding step_of
returns-in-ReservedTrigger c = rw c.in-ReservedTrigger.is (by-trigger c.args.run.now _ _ _ _ c.trigger_reserved.ensures.outcome c.trigger_reserved.ensures.engine c.answered-in-ReservedTrigger.ensures)
