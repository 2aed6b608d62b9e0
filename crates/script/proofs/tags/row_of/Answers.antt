-- `row_of` meets its contract: a row for each kind.
use Rattle.script.proofs.tags.row_of.Goals as goal

pub returns-in-Unknown : goal.returns-in-Unknown
returns-in-Unknown c = rw c.in-Unknown.is c.row.ensures

pub returns-in-Rate : goal.returns-in-Rate
returns-in-Rate c = rw (c.in-Rate.is, ← c.f32_at.ensures) c.row-in-Rate.ensures

pub returns-in-Configure : goal.returns-in-Configure
returns-in-Configure c = rw (c.in-Configure.is, ← c.config_of.ensures, ← c.is_lawful_config.ensures) c.row-in-Configure.ensures

pub returns-in-Source : goal.returns-in-Source
returns-in-Source c = rw (c.in-Source.is, ← c.flag_at.ensures, ← c.f32_at-in-Source-2.ensures, ← c.f32_at-in-Source.ensures, ← c.be16_at.ensures, ← c.up_to.ensures) c.row-in-Source.ensures

pub returns-in-Retire : goal.returns-in-Retire
returns-in-Retire c = rw (c.in-Retire.is, ← c.be16_at-in-Retire.ensures) c.row-in-Retire.ensures

pub returns-in-Release : goal.returns-in-Release
returns-in-Release c = rw (c.in-Release.is, ← c.be16_at-in-Release.ensures) c.row-in-Release.ensures

pub returns-in-Trigger : goal.returns-in-Trigger
returns-in-Trigger c = rw (c.in-Trigger.is, ← c.be16_at-in-Trigger.ensures) c.row-in-Trigger.ensures

pub returns-in-Seek : goal.returns-in-Seek
returns-in-Seek c = rw (c.in-Seek.is, ← c.f64_at.ensures) c.row-in-Seek.ensures

pub returns-in-Advance : goal.returns-in-Advance
returns-in-Advance c = rw (c.in-Advance.is, ← c.be32_at.ensures) c.row-in-Advance.ensures

pub returns-in-Frame : goal.returns-in-Frame
returns-in-Frame c = rw (c.in-Frame.is, ← c.f32_at-in-Frame-2.ensures, ← c.f32_at-in-Frame.ensures) c.row-in-Frame.ensures

pub returns-in-NoteInput : goal.returns-in-NoteInput
returns-in-NoteInput c = rw (c.in-NoteInput.is, ← c.flag_at-in-NoteInput.ensures, ← c.up_to-in-NoteInput.ensures) c.row-in-NoteInput.ensures

pub returns-in-Reset : goal.returns-in-Reset
returns-in-Reset c = rw c.in-Reset.is c.row-in-Reset.ensures

pub returns-in-Reserve : goal.returns-in-Reserve
returns-in-Reserve c = rw c.in-Reserve.is c.row-in-Reserve.ensures

pub returns-in-ReservedTrigger : goal.returns-in-ReservedTrigger
returns-in-ReservedTrigger c = rw (c.in-ReservedTrigger.is, ← c.be64_at.ensures, ← c.be16_at-in-ReservedTrigger.ensures) c.row-in-ReservedTrigger.ensures
