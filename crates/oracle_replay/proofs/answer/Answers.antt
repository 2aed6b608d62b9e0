-- `answer` meets its contract: a case for each reading.
use Rattle.std.proofs.Common.{rules}
use Rattle.oracle_replay.specs.Replay.{answer_byte}
use Rattle.oracle_replay.proofs.answer.Goals as goal

pub returns-in-Ok-Some : goal.returns-in-Ok-Some
unfolding answer_byte
returns-in-Ok-Some c = search rules

pub returns-in-Ok-None : goal.returns-in-Ok-None
unfolding answer_byte
returns-in-Ok-None c = search rules

pub returns-in-Ok-None-2 : goal.returns-in-Ok-None-2
unfolding answer_byte
returns-in-Ok-None-2 c = search rules
