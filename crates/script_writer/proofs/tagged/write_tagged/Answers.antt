-- `write_tagged` meets its contract: there is room, and the field is written; or there is none.
use mathlib.Core.Path.{sym, ◌∙◌}
use native.Mathlib.Omega.{arith}
use Rattle.text.proofs.Laws.{piece, seq}
use Rattle.big_endian.specs.Bytes.{tagged}
use Rattle.script_writer.proofs.Room.{no_room, with_room}
use Rattle.script_writer.proofs.tagged.write_tagged.Goals as goal

pub returns-then-has_room : goal.returns-then-has_room
returns-then-has_room c =
    let a = c.args in
    let head = piece (rw c.bytes16-size.ensures at c.put-behind.ensures) in
    with_room a.out.now a.at (tagged a.tag a.value.now) (omega arith) (sym c.has_room.ensures ∙ c.if-has_room.true) (seq head (piece c.put-end.ensures))

pub returns : goal.returns
returns c =
    let a = c.args in
    no_room a.out.now a.at (tagged a.tag a.value.now) (omega arith) (sym c.has_room.ensures ∙ c.if-has_room.false)
