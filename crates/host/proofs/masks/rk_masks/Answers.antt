-- `rk_masks` meets its contract: the records, and then the count.
use Prim.Native.Nat.{ℕ}
use mathlib.Core.Path.{ap, ◌∙◌}
use mathlib.Core.List.{List}
use Rattle.mask_files.specs.Masks.{Filed, filed_number}
use Rattle.host.specs.Masks.{place_by}
use Rattle.host.proofs.masks.rk_masks.Goals as goal

pub returns : goal.returns
returns c =
    let a = c.args in
    let e = c.masks-filed.ensures in
    let t = c.told.ensures in
    let number = t.0 ∙ ap (λ (x : Filed × List ℕ). filed_number x.0) e in
    let place = t.1 ∙ ap (λ (x : Filed × List ℕ). place_by a.at.now x.0) e in
    λ i. (number i, (e i).1, place i)
