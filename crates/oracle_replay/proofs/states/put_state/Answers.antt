-- `put_state` meets its contract: two tests of the room, and then the state.
use native.Mathlib.Omega.{arith}
use Rattle.text.proofs.Laws.{no_room, with_room}
use Rattle.oracle_replay.specs.State.{state_bytes}
use Rattle.oracle_replay.proofs.Whole.{state_length}
use Rattle.oracle_replay.proofs.states.put_state.Goals as goal

pub returns-then-out-at : goal.returns-then-out-at
returns-then-out-at c =
    let a = c.args in
    no_room a.out.now a.at (state_bytes a.engine) (omega (arith, c.if-out-at.true, state_length a.engine))

pub returns-then-out-at-lt14184 : goal.returns-then-out-at-lt14184
returns-then-out-at-lt14184 c =
    let a = c.args in
    no_room a.out.now a.at (state_bytes a.engine) (omega (arith, c.if-out-at.false, c.if-out-at-lt14184.true, state_length a.engine))

pub returns : goal.returns
returns c =
    let a = c.args in
    with_room
    (omega (arith, c.if-out-at.false, c.if-out-at-lt14184.false, state_length a.engine))
    c.put_engine.ensures
