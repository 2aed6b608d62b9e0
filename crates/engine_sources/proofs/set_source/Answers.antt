-- `set_source` meets its contract: the slot, then whether it changes.
use Rattle.std.proofs.Common.{refl, sym, ◌∙◌, le-ltb, lt-ltb}
use Rattle.sequences.specs.Pick.{pick, took, skipped}
use Rattle.engine_sources.specs.Slots.{set_source_of}
use Rattle.engine_sources.proofs.set_source.Goals as goal

pub returns-then-slot-ge-MAX_SOURCES : goal.returns-then-slot-ge-MAX_SOURCES
unfolding set_source_of pick
returns-then-slot-ge-MAX_SOURCES c = rw (le-ltb _ _ c.if-slot-ge-MAX_SOURCES.true) (record { answer = refl; engine = refl })

pub returns-then-not-same : goal.returns-then-not-same
unfolding set_source_of pick
returns-then-not-same c = rw (lt-ltb _ _ c.if-slot-ge-MAX_SOURCES.false) (record { answer = refl; engine = skipped _ _ _ _ (sym c.same.ensures ∙ c.if-not-same.true) c.place_source.ensures })

pub returns-else-not-same : goal.returns-else-not-same
unfolding set_source_of pick
returns-else-not-same c = rw (lt-ltb _ _ c.if-slot-ge-MAX_SOURCES.false) (record { answer = refl; engine = took _ _ _ _ (sym c.same.ensures ∙ c.if-not-same.false) refl })
