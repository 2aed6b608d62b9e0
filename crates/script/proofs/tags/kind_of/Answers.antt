-- `kind_of` meets its contract: the table by its index.
use mathlib.Core.Path.{sym}
use lib.ListN.{get_or-eq_default}
use Rattle.script.specs.Table.{kinds}
use Rattle.script.specs.declared.tags.Kind.TheVariants.{Unknown}
use Rattle.script.proofs.tags.kind_of.Goals as goal

pub returns-else-tag-le-LAST_TAG : goal.returns-else-tag-le-LAST_TAG
returns-else-tag-le-LAST_TAG c = sym (get_or-eq_default kinds Unknown c.if-tag-le-LAST_TAG.false)
