-- `rk_probe_fields_from` meets its contract: two tests, and what the fields leave from the first on.
use native.Mathlib.Omega.{arith}
use Rattle.oracle_replay.proofs.Left.{too_long, no_room, all-fields}
use Rattle.oracle_replay.proofs.rk_probe_fields_from.Goals as goal

pub returns-then-script-gt-MAX_SCRIPT_BYTES : goal.returns-then-script-gt-MAX_SCRIPT_BYTES
returns-then-script-gt-MAX_SCRIPT_BYTES c =
    let a = c.args in
    too_long a.start a.script.now a.out.now (omega (arith, c.if-script-gt-MAX_SCRIPT_BYTES.true))

pub returns-then-out-script : goal.returns-then-out-script
returns-then-out-script c =
    let a = c.args in
    no_room a.start a.script.now a.out.now c.if-script-gt-MAX_SCRIPT_BYTES.false (omega (arith, c.if-out-script.true))

pub returns : goal.returns
returns c =
    let a = c.args in
    let put = rw c.fresh.ensures at c.put_fields.ensures in
    all-fields a.start a.script.now a.out.now c.if-script-gt-MAX_SCRIPT_BYTES.false c.if-out-script.false put
