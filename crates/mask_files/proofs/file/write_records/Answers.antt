-- `write_records` meets its contract: whatever writes what is left completes the file.
use Rattle.std.proofs.Common.{◌≡◌, ◌+◌, ◌^◌, ◌<◌, length, refl, ◌∙◌, subst, arith, rules}
use Rattle.mask_files.proofs.Steps.{Bins, Tells, told}
use Rattle.mask_files.proofs.Passes.{writing_starts, writing-on, writing-ends, writing_stops}
use Rattle.mask_files.proofs.file.write_records.Goals as goal

pub loop-after-init : goal.loop-after-init
loop-after-init c = let a = c.args in let pre = c.requires in (refl, refl, writing_starts a.depth_db a.logs.now a.script.now a.out.now a.at _ c.start-walk.ensures pre.taken_with_room.0 pre.taken_with_room.1)

pub loop-after-smaller : goal.loop-after-smaller
loop-after-smaller c =
    let a = c.args in
    let pre = c.requires in
    let l = c.loop-after in
    let n = c.next_record-step in
    let s = a.script.now in
    let top : length s + 1 < 2 ^ 64 = omega (arith, pre.script_fits) in
    let bins : Bins a.logs.now l.scratch = record { some = pre.logs_lawful.0; few = pre.logs_lawful.1; lawful = pre.logs_lawful.2; places = l.invariant.0 ∙ pre.logs_lawful.3 } in
    let tells = told a.depth_db a.logs.now s top l.walk l.invariant.2.stands l.scratch bins l.out l.at n.result n.new.scratch n.new.out n.ensures in
    let w = subst (Tells a.depth_db a.logs.now s l.walk n.result.walk l.out n.new.out l.at) c.in-Record.is tells in
    omega (arith, w.further, w.stands.inside)

pub loop-after-preserved : goal.loop-after-preserved
loop-after-preserved c =
    let a = c.args in
    let pre = c.requires in
    let l = c.loop-after in
    let n = c.next_record-step in
    let s = a.script.now in
    let top : length s + 1 < 2 ^ 64 = omega (arith, pre.script_fits) in
    let bins : Bins a.logs.now l.scratch = record { some = pre.logs_lawful.0; few = pre.logs_lawful.1; lawful = pre.logs_lawful.2; places = l.invariant.0 ∙ pre.logs_lawful.3 } in
    let tells = told a.depth_db a.logs.now s top l.walk l.invariant.2.stands l.scratch bins l.out l.at n.result n.new.scratch n.new.out n.ensures in
    let w = subst (Tells a.depth_db a.logs.now s l.walk n.result.walk l.out n.new.out l.at) c.in-Record.is tells in
    let places : length n.new.scratch ≡ length l.scratch = search rules in
    let same : length n.new.out ≡ length l.out = search rules in
    (places ∙ l.invariant.0, same ∙ l.invariant.1, writing-on a.depth_db a.logs.now s a.out.now a.at l.out l.walk l.at l.invariant.2 n.result.walk n.new.out _ w)

pub returns-in-Refused : goal.returns-in-Refused
returns-in-Refused c =
    let a = c.args in
    let pre = c.requires in
    let l = c.loop-after in
    let n = c.next_record-step in
    let s = a.script.now in
    let top : length s + 1 < 2 ^ 64 = omega (arith, pre.script_fits) in
    let bins : Bins a.logs.now l.scratch = record { some = pre.logs_lawful.0; few = pre.logs_lawful.1; lawful = pre.logs_lawful.2; places = l.invariant.0 ∙ pre.logs_lawful.3 } in
    let tells = told a.depth_db a.logs.now s top l.walk l.invariant.2.stands l.scratch bins l.out l.at n.result n.new.scratch n.new.out n.ensures in
    let w = subst (Tells a.depth_db a.logs.now s l.walk n.result.walk l.out n.new.out l.at) c.in-Refused.is tells in
    absurd (writing_stops a.depth_db a.logs.now s a.out.now a.at l.out l.walk l.at l.invariant.2 _ w)

pub returns-in-Last : goal.returns-in-Last
returns-in-Last c =
    let a = c.args in
    let pre = c.requires in
    let l = c.loop-after in
    let n = c.next_record-step in
    let s = a.script.now in
    let top : length s + 1 < 2 ^ 64 = omega (arith, pre.script_fits) in
    let bins : Bins a.logs.now l.scratch = record { some = pre.logs_lawful.0; few = pre.logs_lawful.1; lawful = pre.logs_lawful.2; places = l.invariant.0 ∙ pre.logs_lawful.3 } in
    let tells = told a.depth_db a.logs.now s top l.walk l.invariant.2.stands l.scratch bins l.out l.at n.result n.new.scratch n.new.out n.ensures in
    let w = subst (Tells a.depth_db a.logs.now s l.walk n.result.walk l.out n.new.out l.at) c.in-Last.is tells in
    let e = writing-ends a.depth_db a.logs.now s a.out.now a.at l.out l.walk l.at l.invariant.2 _ pre.taken_with_room.1 w.1 in
    (e.0, w.0 ∙ e.1)
