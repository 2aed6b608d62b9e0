-- `rate` meets its contract: a case for each reading.
use Rattle.std.proofs.Common.{rules}
use Rattle.mask_files.specs.Masks.{script_rate}
use Rattle.mask_files.proofs.rate.rate.Goals as goal

pub returns-in-Ok-Some : goal.returns-in-Ok-Some
unfolding script_rate
returns-in-Ok-Some c = search rules

pub returns-in-Ok-None : goal.returns-in-Ok-None
unfolding script_rate
returns-in-Ok-None c = search rules

pub returns-in-Ok-None-2 : goal.returns-in-Ok-None-2
unfolding script_rate
returns-in-Ok-None-2 c = search rules
