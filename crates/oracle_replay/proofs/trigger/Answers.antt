-- `trigger` meets its contract: a case for each field.
use Rattle.oracle_replay.specs.Replay.{trigger_of}
use Rattle.oracle_replay.proofs.trigger.Goals as goal

pub returns-in-Rate : goal.returns-in-Rate
unfolding trigger_of
returns-in-Rate c = rw c.in-Rate.is

pub returns-in-Configure : goal.returns-in-Configure
unfolding trigger_of
returns-in-Configure c = rw c.in-Configure.is

pub returns-in-Source : goal.returns-in-Source
unfolding trigger_of
returns-in-Source c = rw c.in-Source.is

pub returns-in-Retire : goal.returns-in-Retire
unfolding trigger_of
returns-in-Retire c = rw c.in-Retire.is

pub returns-in-Release : goal.returns-in-Release
unfolding trigger_of
returns-in-Release c = rw c.in-Release.is

pub returns-in-Trigger : goal.returns-in-Trigger
unfolding trigger_of
returns-in-Trigger c = rw (c.in-Trigger.is, c.outcome.ensures, c.trigger.ensures.outcome)

pub returns-in-Seek : goal.returns-in-Seek
unfolding trigger_of
returns-in-Seek c = rw c.in-Seek.is

pub returns-in-Advance : goal.returns-in-Advance
unfolding trigger_of
returns-in-Advance c = rw c.in-Advance.is

pub returns-in-Frame : goal.returns-in-Frame
unfolding trigger_of
returns-in-Frame c = rw c.in-Frame.is

pub returns-in-NoteInput : goal.returns-in-NoteInput
unfolding trigger_of
returns-in-NoteInput c = rw c.in-NoteInput.is

pub returns-in-Reset : goal.returns-in-Reset
unfolding trigger_of
returns-in-Reset c = rw c.in-Reset.is

pub returns-in-Reserve : goal.returns-in-Reserve
unfolding trigger_of
returns-in-Reserve c = rw c.in-Reserve.is

pub returns-in-ReservedTrigger : goal.returns-in-ReservedTrigger
unfolding trigger_of
returns-in-ReservedTrigger c = rw (c.in-ReservedTrigger.is, c.outcome-in-ReservedTrigger.ensures, c.trigger_reserved.ensures.outcome)
