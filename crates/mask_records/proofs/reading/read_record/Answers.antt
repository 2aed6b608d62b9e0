-- `read_record` meets its contract: the end, then a test for each refusal in order.
use lib.Seq.{length-take-le}
use Rattle.mask_records.proofs.Records.{count_most, at_end, no_head, unknown-entry, no_places, read_found}
use native.Mathlib.Omega.{arith}
use mathlib.Core.Path.{sym, ◌∙◌}
use Rattle.mask_records.proofs.reading.read_record.Goals as goal

pub returns-then-s-eq0 : goal.returns-then-s-eq0
returns-then-s-eq0 c = at_end _ _ c.if-s-eq0.true

pub all_entries-requires : goal.all_entries-requires
all_entries-requires c = let m = count_most _ (sym c.is_headed.ensures ∙ c.if-is_headed.true) in (c.table-gains.ensures, omega (arith, m, c.be16_at-n.ensures))

pub slice_bounds-hand_out-end-then-n-lent : goal.slice_bounds-hand_out-end-then-n-lent
slice_bounds-hand_out-end-then-n-lent c = sym (length-take-le _ _ c.if-n-lent.true)

pub hand_out-requires : goal.hand_out-requires
hand_out-requires c = let m = count_most _ (sym c.is_headed.ensures ∙ c.if-is_headed.true) in
    let l = length-take-le c.be16_at-n.result c.args.lent.now c.if-n-lent.true in
    omega (arith, m, c.be16_at-n.ensures, l)

pub returns-then-n-lent : goal.returns-then-n-lent
returns-then-n-lent c = read_found _ _ c.if-s-eq0.false (sym c.is_headed.ensures ∙ c.if-is_headed.true) _ c.be16_at-n.ensures (sym c.all_entries.ensures ∙ c.if-all_entries.true) c.if-n-lent.true _ _ c.be64_at.ensures c.hand_out.ensures

pub returns-then-all_entries : goal.returns-then-all_entries
returns-then-all_entries c = no_places _ _ c.if-s-eq0.false (sym c.is_headed.ensures ∙ c.if-is_headed.true) _ c.be16_at-n.ensures (sym c.all_entries.ensures ∙ c.if-all_entries.true) c.if-n-lent.false

pub returns-then-is_headed : goal.returns-then-is_headed
returns-then-is_headed c = unknown-entry _ _ c.if-s-eq0.false (sym c.is_headed.ensures ∙ c.if-is_headed.true) _ c.be16_at-n.ensures (sym c.all_entries.ensures ∙ c.if-all_entries.false)

pub returns : goal.returns
returns c = no_head _ _ c.if-s-eq0.false (sym c.is_headed.ensures ∙ c.if-is_headed.false)
