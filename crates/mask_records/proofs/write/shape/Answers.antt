-- `shape` meets its contract: what is open under lawful logs.
use mathlib.Core.List.{List}
use lib.Ieee.{Float}
use Rattle.mask_records.specs.Finished.{finished_of}
use Rattle.mask_records.proofs.Ways.{opened-is}
use mathlib.Core.Path.{ap, ◌∙◌}
use Rattle.mask_records.proofs.write.shape.Goals as goal

pub returns : goal.returns
returns c = let a = c.args in
    c.finish.ensures
    ∙ ap (λ (xs : List Float). finished_of a.sample a.level xs a.scratch.now a.out.now a.at) (opened-is _ _ _ _ _ c.requires.1 c.requires.4 c.open_bins.ensures)
