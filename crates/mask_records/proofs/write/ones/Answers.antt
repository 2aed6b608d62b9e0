-- `ones` meets its contract: the record of the entries that were filled.
use mathlib.Core.List.{List}
use Rattle.mask_records.specs.Placed.{placed_of}
use Prim.Native.Nat.{ℕ}
use mathlib.Core.Path.{ap, ◌∙◌}
use Rattle.mask_records.proofs.write.ones.Goals as goal

pub returns : goal.returns
returns c = let a = c.args in c.put_record.ensures ∙ ap (λ (es : List ℕ). placed_of a.sample es a.out.now a.at) c.fill_ones.ensures
