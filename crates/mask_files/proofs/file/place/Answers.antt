-- `place` meets its contract: how the records end, and then the room.
use Rattle.std.proofs.Common.{◌≡◌, length, ◌∙◌, arith, rules, Ok}
use Rattle.std.proofs.lemmas.Result.{err_from_is_err_and}
use Rattle.mask_files.proofs.Passes.{whole_of}
use Rattle.mask_files.proofs.Placing.{ended_so, refused_end, no_room, room, written}
use Rattle.mask_files.proofs.file.place.Goals as goal

pub returns-then-out-at : goal.returns-then-out-at
returns-then-out-at c =
    let a = c.args in
    let pre = c.requires in
    let m = c.measure in
    let whole = whole_of a.depth_db a.logs.now a.script.now in
    no_room whole m.result m.ensures a.out.now a.at _ c.in_ok-bytes.was (omega (arith, c.if-out-at.true))

pub returns-then-out-at-2 : goal.returns-then-out-at-2
returns-then-out-at-2 c =
    let a = c.args in
    let pre = c.requires in
    let m = c.measure in
    let whole = whole_of a.depth_db a.logs.now a.script.now in
    no_room whole m.result m.ensures a.out.now a.at _ c.in_ok-bytes.was (omega (arith, c.if-out-at-2.true, c.if-out-at.false))

pub write_records-requires : goal.write_records-requires
write_records-requires c =
    let a = c.args in
    let pre = c.requires in
    let m = c.measure in
    let whole = whole_of a.depth_db a.logs.now a.script.now in
    let fits = room whole m.result m.ensures a.out.now a.at _ c.in_ok-bytes.was (omega (arith, c.if-out-at-2.false, c.if-out-at.false)) in
    let places : length m.new.scratch ≡ length a.scratch.now = search rules in
    record { script_fits = pre.script_fits; logs_lawful = (pre.logs_lawful.0, pre.logs_lawful.1, pre.logs_lawful.2, places ∙ pre.logs_lawful.3); taken_with_room = (ended_so whole m.result m.ensures a.out.now a.at _ c.in_ok-bytes.was, fits) }

pub returns-in_err-bytes : goal.returns-in_err-bytes
returns-in_err-bytes c =
    let a = c.args in
    let pre = c.requires in
    let m = c.measure in
    let whole = whole_of a.depth_db a.logs.now a.script.now in
    let p = err_from_is_err_and c.from_residual.result c.from_residual.ensures.1 in
    rw (p.1, p.2) (refused_end whole m.result m.ensures a.out.now a.at _ c.in_err-bytes.was)

pub returns : goal.returns
returns c =
    let a = c.args in
    let pre = c.requires in
    let m = c.measure in
    let whole = whole_of a.depth_db a.logs.now a.script.now in
    written whole m.result m.ensures a.out.now a.at _ c.in_ok-bytes.was (omega (arith, c.if-out-at-2.false, c.if-out-at.false)) _ _ c.write_records.ensures
