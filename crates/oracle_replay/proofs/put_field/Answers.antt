-- `put_field` meets its contract: three pieces in a row.
use Rattle.text.proofs.Laws.{one, next}
use Rattle.oracle_replay.specs.Replay.{left_by}
use Rattle.oracle_replay.proofs.put_field.Goals as goal

pub returns : goal.returns
unfolding left_by
returns c =
    let state = one c.put_state-at.ensures in
    let frame = one c.put_frame-at.ensures in
    let all = next state (next frame (one c.put.ensures)) in
    (all.place, all.buffer)
