-- `tenths` meets its contract: the product and the sum keep the nearest tenth.
use denote.Floats.{passes}
use Rattle.mask_records.proofs.Nearest.{tenths-code}
use Rattle.mask_records.proofs.decibels.tenths.Goals as goal

pub returns : goal.returns
returns c =
    let e = tenths-code c.args.attenuation_db (passes _ c.well_formed.0.1) in
    cc
