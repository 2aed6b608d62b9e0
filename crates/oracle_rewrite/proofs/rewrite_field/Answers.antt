-- `rewrite_field` meets its contract: a case for each reading.
use Rattle.std.proofs.Common.{rules}
use Rattle.script_writer_laws.specs.InARow.{count_after, bytes_after}
use Rattle.oracle_rewrite.proofs.rewrite_field.Goals as goal

pub returns-in-Ok-Some : goal.returns-in-Ok-Some
unfolding count_after bytes_after
returns-in-Ok-Some c = search rules

pub returns-in-Err : goal.returns-in-Err
unfolding count_after bytes_after
returns-in-Err c = search rules

pub returns-in-Ok-None : goal.returns-in-Ok-None
unfolding count_after bytes_after
returns-in-Ok-None c = search rules
