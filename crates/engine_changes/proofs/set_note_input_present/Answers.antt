-- `set_note_input_present` meets its contract: one field.
use Rattle.std.proofs.Common.{refl}
use Rattle.engine_changes.specs.Changes.{notes_of}
use Rattle.engine_changes.proofs.set_note_input_present.Goals as goal

pub returns : goal.returns
unfolding notes_of
returns c = refl
