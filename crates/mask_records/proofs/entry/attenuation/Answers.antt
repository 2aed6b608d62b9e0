-- `attenuation` meets its contract.
use Rattle.mask_records.specs.Entries.{entry_attenuation}
use mathlib.Core.Path.{refl}
use Rattle.mask_records.proofs.entry.attenuation.Goals as goal

pub returns : goal.returns
unfolding entry_attenuation
returns c = refl
