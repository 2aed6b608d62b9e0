-- `all_numbers` meets its contract: one test a bin.
use native.Mathlib.Numerals.{add-one}
use lib.ListN.{length, get_or}
use lib.Ieee.{nan}
use Rattle.sequences.specs.All.{all}
use Rattle.mask_records.specs.Entries.{entry_attenuation, is_number}
use native.Mathlib.Omega.{arith}
use Prim.Native.Nat.{ℕ}
use mathlib.Core.Path.{◌≡◌, refl, ap, ◌∙◌}
use borrow.Author.Rules.{rules}
use Rattle.mask_records.proofs.entry.all_numbers.Goals as goal

pub loop-openness-init : goal.loop-openness-init
loop-openness-init c = (refl, search rules)

pub loop-openness-preserved : goal.loop-openness-preserved
loop-openness-preserved c = (rw add-one (cc), omega arith)

pub returns : goal.returns
returns c = let l = c.loop-openness in
    let e : l.openness-index ≡ length c.args.opened.now = omega arith in
    l.invariant.0 ∙ ap (all (λ (j : ℕ). is_number (entry_attenuation c.args.level (get_or c.args.opened.now j nan)))) e
