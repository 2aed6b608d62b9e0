-- `release_source` meets its contract: one test.
use Rattle.std.proofs.Common.{refl, le-ltb, lt-ltb}
use Rattle.sequences.specs.Pick.{pick}
use Rattle.engine_sources.specs.Slots.{release_source_of}
use Rattle.engine_sources.proofs.release_source.Goals as goal

pub returns-then-slot-ge-MAX_SOURCES : goal.returns-then-slot-ge-MAX_SOURCES
unfolding release_source_of pick
returns-then-slot-ge-MAX_SOURCES c = rw (le-ltb _ _ c.if-slot-ge-MAX_SOURCES.true) (record { answer = refl; engine = refl })

pub returns : goal.returns
unfolding release_source_of pick
returns c = rw (lt-ltb _ _ c.if-slot-ge-MAX_SOURCES.false) (record { answer = refl; engine = rw c.released.ensures })
