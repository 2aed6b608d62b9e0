-- `rk_probe_rewritten` meets its contract: a script that is too long has no field, and of any other all are written.
use mathlib.Core.Path.{refl}
use borrow.Author.Tests.{le-leb, lt-leb}
use Rattle.script.specs.Reading.{reading_of}
use Rattle.script_writer_laws.specs.InARow.{count_after, bytes_after}
use Rattle.oracle_rewrite.proofs.rk_probe_rewritten.Goals as goal

pub returns-then-script-gt-MAX_SCRIPT_BYTES : goal.returns-then-script-gt-MAX_SCRIPT_BYTES
unfolding reading_of count_after bytes_after
returns-then-script-gt-MAX_SCRIPT_BYTES c = rw (lt-leb _ _ c.if-script-gt-MAX_SCRIPT_BYTES.true) (refl, refl)

pub returns : goal.returns
unfolding reading_of
returns c = rw (le-leb _ _ c.if-script-gt-MAX_SCRIPT_BYTES.false) c.rewrite_fields.ensures
