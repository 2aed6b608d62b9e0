-- `measure` meets its contract: what is counted and what is left are the whole.
use Rattle.std.proofs.Common.{◌≡◌, ◌+◌, ◌^◌, ◌<◌, Ok, length, sym, refl, ◌∙◌, subst, arith, rules}
use Rattle.std.proofs.lemmas.Result.{err_from_is_err_and}
use Rattle.mask_files.proofs.Steps.{Bins, Tells, told}
use Rattle.mask_files.proofs.Passes.{measuring_starts, after_most, measuring_on, measuring_ends, measuring_stops}
use Rattle.mask_files.proofs.file.measure.Goals as goal

pub loop-after-init : goal.loop-after-init
loop-after-init c = let a = c.args in (refl, refl, measuring_starts a.depth_db a.logs.now a.script.now _ c.start-walk.ensures)

pub overflow_add-bytes : goal.overflow_add-bytes
overflow_add-bytes c =
    let a = c.args in
    let pre = c.requires in
    let l = c.loop-after in
    let n = c.next_record-step in
    let s = a.script.now in
    let top : length s + 1 < 2 ^ 64 = omega (arith, pre.script_fits) in
    let bins : Bins a.logs.now l.scratch = record { some = pre.logs_lawful.0; few = pre.logs_lawful.1; lawful = pre.logs_lawful.2; places = l.invariant.0 ∙ pre.logs_lawful.3 } in
    let tells = told a.depth_db a.logs.now s top l.walk l.invariant.2.stands l.scratch bins l.lent 0 n.result n.new.scratch n.new.out n.ensures in
    let w = subst (Tells a.depth_db a.logs.now s l.walk n.result.walk l.lent n.new.out 0) c.in-Record.is tells in
    let most = after_most a.depth_db a.logs.now s l.walk l.bytes l.invariant.2 n.result.walk l.lent n.new.out _ pre.logs_lawful.1 w in
    omega (arith, most, l.invariant.2.most, l.invariant.2.stands.inside, pre.script_fits)

pub loop-after-smaller : goal.loop-after-smaller
loop-after-smaller c =
    let a = c.args in
    let pre = c.requires in
    let l = c.loop-after in
    let n = c.next_record-step in
    let s = a.script.now in
    let top : length s + 1 < 2 ^ 64 = omega (arith, pre.script_fits) in
    let bins : Bins a.logs.now l.scratch = record { some = pre.logs_lawful.0; few = pre.logs_lawful.1; lawful = pre.logs_lawful.2; places = l.invariant.0 ∙ pre.logs_lawful.3 } in
    let tells = told a.depth_db a.logs.now s top l.walk l.invariant.2.stands l.scratch bins l.lent 0 n.result n.new.scratch n.new.out n.ensures in
    let w = subst (Tells a.depth_db a.logs.now s l.walk n.result.walk l.lent n.new.out 0) c.in-Record.is tells in
    omega (arith, w.further, w.stands.inside)

pub loop-after-preserved : goal.loop-after-preserved
loop-after-preserved c =
    let a = c.args in
    let pre = c.requires in
    let l = c.loop-after in
    let n = c.next_record-step in
    let s = a.script.now in
    let top : length s + 1 < 2 ^ 64 = omega (arith, pre.script_fits) in
    let bins : Bins a.logs.now l.scratch = record { some = pre.logs_lawful.0; few = pre.logs_lawful.1; lawful = pre.logs_lawful.2; places = l.invariant.0 ∙ pre.logs_lawful.3 } in
    let tells = told a.depth_db a.logs.now s top l.walk l.invariant.2.stands l.scratch bins l.lent 0 n.result n.new.scratch n.new.out n.ensures in
    let w = subst (Tells a.depth_db a.logs.now s l.walk n.result.walk l.lent n.new.out 0) c.in-Record.is tells in
    let places : length n.new.scratch ≡ length l.scratch = search rules in
    let same : length n.new.out ≡ length l.lent = search rules in
    (places ∙ l.invariant.0, same ∙ l.invariant.1, measuring_on a.depth_db a.logs.now s l.walk l.bytes l.invariant.2 n.result.walk l.lent n.new.out _ pre.logs_lawful.1 w)

pub returns-in-Refused : goal.returns-in-Refused
returns-in-Refused c =
    let a = c.args in
    let pre = c.requires in
    let l = c.loop-after in
    let n = c.next_record-step in
    let s = a.script.now in
    let top : length s + 1 < 2 ^ 64 = omega (arith, pre.script_fits) in
    let bins : Bins a.logs.now l.scratch = record { some = pre.logs_lawful.0; few = pre.logs_lawful.1; lawful = pre.logs_lawful.2; places = l.invariant.0 ∙ pre.logs_lawful.3 } in
    let tells = told a.depth_db a.logs.now s top l.walk l.invariant.2.stands l.scratch bins l.lent 0 n.result n.new.scratch n.new.out n.ensures in
    let w = subst (Tells a.depth_db a.logs.now s l.walk n.result.walk l.lent n.new.out 0) c.in-Refused.is tells in
    measuring_stops a.depth_db a.logs.now s l.walk l.bytes l.invariant.2 (length l.lent) _ (omega (arith, pre.lent_fits, l.invariant.1)) w

pub returns-in_err-bad_of-in-Last : goal.returns-in_err-bad_of-in-Last
returns-in_err-bad_of-in-Last c =
    let a = c.args in
    let pre = c.requires in
    let l = c.loop-after in
    let n = c.next_record-step in
    let s = a.script.now in
    let top : length s + 1 < 2 ^ 64 = omega (arith, pre.script_fits) in
    let bins : Bins a.logs.now l.scratch = record { some = pre.logs_lawful.0; few = pre.logs_lawful.1; lawful = pre.logs_lawful.2; places = l.invariant.0 ∙ pre.logs_lawful.3 } in
    let tells = told a.depth_db a.logs.now s top l.walk l.invariant.2.stands l.scratch bins l.lent 0 n.result n.new.scratch n.new.out n.ensures in
    let w = subst (Tells a.depth_db a.logs.now s l.walk n.result.walk l.lent n.new.out 0) c.in-Last.is tells in
    let p = err_from_is_err_and c.from_residual.result c.from_residual.ensures.1 in
    rw (p.1, p.2) (measuring_ends a.depth_db a.logs.now s l.walk l.bytes l.invariant.2 _ _ (sym c.in_err-bad_of-in-Last.was ∙ c.bad_of.ensures) w.1)

pub returns-in-Last : goal.returns-in-Last
returns-in-Last c =
    let a = c.args in
    let pre = c.requires in
    let l = c.loop-after in
    let n = c.next_record-step in
    let s = a.script.now in
    let top : length s + 1 < 2 ^ 64 = omega (arith, pre.script_fits) in
    let bins : Bins a.logs.now l.scratch = record { some = pre.logs_lawful.0; few = pre.logs_lawful.1; lawful = pre.logs_lawful.2; places = l.invariant.0 ∙ pre.logs_lawful.3 } in
    let tells = told a.depth_db a.logs.now s top l.walk l.invariant.2.stands l.scratch bins l.lent 0 n.result n.new.scratch n.new.out n.ensures in
    let w = subst (Tells a.depth_db a.logs.now s l.walk n.result.walk l.lent n.new.out 0) c.in-Last.is tells in
    measuring_ends a.depth_db a.logs.now s l.walk l.bytes l.invariant.2 (Ok tt) _ (sym c.in_ok-bad_of-in-Last.was ∙ c.bad_of.ensures) w.1
