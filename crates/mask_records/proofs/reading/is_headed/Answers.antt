-- `is_headed` meets its contract: the tests in a row.
use Rattle.mask_records.specs.Found.{headed}
use Rattle.mask_records.proofs.reading.is_headed.Goals as goal

pub returns : goal.returns
unfolding headed
returns c = cc
