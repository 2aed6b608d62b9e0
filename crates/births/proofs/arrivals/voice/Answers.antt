-- `voice` meets its contract: a slot that there is, or none.
use Rattle.std.proofs.Common.{le-ltb, lt-ltb}
use Rattle.sequences.specs.Pick.{took, skipped}
use Rattle.births.proofs.arrivals.voice.Goals as goal
use Rattle.births.proofs.arrivals.voice.Goals.{in_default-via-in-Some+else-slot-lt-MAX_SOURCES, in_default-via-in_default}

pub returns-in-Some : goal.returns-in-Some
returns-in-Some c = rw c.in-Some.is (took _ _ _ _ (lt-ltb _ _ c.if-slot-lt-MAX_SOURCES.true) c.source_voice.ensures)

pub returns-in_default : goal.returns-in_default
returns-in_default c =
    elim c.in_default.branch [
      | in_default-via-in-Some+else-slot-lt-MAX_SOURCES w ↦ rw w.in-Some.is (skipped _ _ _ _ (le-ltb _ _ w.if-slot-lt-MAX_SOURCES.false) c.free_voice.ensures)
      | in_default-via-in_default w ↦ rw w.in_default.is c.free_voice.ensures
    ]
