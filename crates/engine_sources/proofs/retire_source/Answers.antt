-- `retire_source` meets its contract: one test.
use Rattle.std.proofs.Common.{refl, le-ltb, lt-ltb}
use Rattle.sequences.specs.Pick.{pick}
use Rattle.engine_sources.specs.Slots.{retire_source_of}
use Rattle.engine_sources.proofs.retire_source.Goals as goal

pub returns-then-slot-ge-MAX_SOURCES : goal.returns-then-slot-ge-MAX_SOURCES
unfolding retire_source_of pick
returns-then-slot-ge-MAX_SOURCES c = rw (le-ltb _ _ c.if-slot-ge-MAX_SOURCES.true) (record { answer = refl; engine = refl })

pub returns : goal.returns
unfolding retire_source_of pick
returns c = rw (lt-ltb _ _ c.if-slot-ge-MAX_SOURCES.false) (record { answer = refl; engine = rw (c.retire_bound-engine.ensures, c.default.ensures) })
