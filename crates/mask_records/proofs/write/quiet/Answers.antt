-- `quiet` meets its contract: the first n of the places.
use lib.Seq.{length-take-le}
use Rattle.sequences.specs.Table.{table}
use Rattle.mask_records.specs.Placed.{placed_of}
use native.Mathlib.Omega.{arith}
use Prim.Native.Nat.{ℕ}
use mathlib.Core.Path.{sym, ap, ◌∙◌}
use Rattle.mask_records.proofs.write.quiet.Goals as goal

pub slice_bounds-ones-end : goal.slice_bounds-ones-end
slice_bounds-ones-end c = sym (length-take-le _ _ (omega (arith, c.entry_places-entries.ensures, c.requires)))

pub ones-requires : goal.ones-requires
ones-requires c = omega (arith, c.entry_places-entries.ensures, c.requires, length-take-le c.args.n c.entry_places-entries.result (omega (arith, c.entry_places-entries.ensures, c.requires)))

pub returns : goal.returns
returns c = let a = c.args in c.ones.ensures ∙ ap (λ (n : ℕ). placed_of a.sample (table n (λ i. 32768)) a.out.now a.at) (length-take-le _ _ (omega (arith, c.entry_places-entries.ensures, c.requires)))
