-- `write_field` meets its contract: a case for each event.
use Rattle.script_writer.proofs.write_field.Goals as goal

pub returns-in-Rate : goal.returns-in-Rate
returns-in-Rate c = rw c.in-Rate.is c.write_rate.ensures

pub returns-in-Configure : goal.returns-in-Configure
returns-in-Configure c = rw c.in-Configure.is c.write_configure.ensures

pub returns-in-Source : goal.returns-in-Source
returns-in-Source c = rw c.in-Source.is c.write_source.ensures

pub returns-in-Retire : goal.returns-in-Retire
returns-in-Retire c = rw c.in-Retire.is c.write_retire.ensures

pub returns-in-Release : goal.returns-in-Release
returns-in-Release c = rw c.in-Release.is c.write_release.ensures

pub returns-in-Trigger : goal.returns-in-Trigger
returns-in-Trigger c = rw c.in-Trigger.is c.write_trigger.ensures

pub returns-in-Seek : goal.returns-in-Seek
returns-in-Seek c = rw c.in-Seek.is c.write_seek.ensures

pub returns-in-Advance : goal.returns-in-Advance
returns-in-Advance c = rw c.in-Advance.is c.write_advance.ensures

pub returns-in-Frame : goal.returns-in-Frame
returns-in-Frame c = rw c.in-Frame.is c.write_frame.ensures

pub returns-in-NoteInput : goal.returns-in-NoteInput
returns-in-NoteInput c = rw c.in-NoteInput.is c.write_note_input.ensures

pub returns-in-Reset : goal.returns-in-Reset
returns-in-Reset c = rw c.in-Reset.is c.write_reset.ensures

pub returns-in-Reserve : goal.returns-in-Reserve
returns-in-Reserve c = rw c.in-Reserve.is c.write_reserve.ensures

pub returns-in-ReservedTrigger : goal.returns-in-ReservedTrigger
returns-in-ReservedTrigger c = rw c.in-ReservedTrigger.is c.write_reserved_trigger.ensures
