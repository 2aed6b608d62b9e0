-- `rk_probe_entry` meets its contract: past the table's end the default.
use Rattle.std.proofs.Common.{sym}
use lib.ListN.{get_or-eq_default}
use Rattle.mask_records.specs.Decibels.{entries}
use Rattle.oracle_probe.proofs.records.rk_probe_entry.Goals as goal

pub returns-then-n-lt601 : goal.returns-then-n-lt601
returns-then-n-lt601 c = rw c.table-gains.ensures

pub returns : goal.returns
unfolding entries
returns c = sym (get_or-eq_default entries 0 c.if-n-lt601.false)
