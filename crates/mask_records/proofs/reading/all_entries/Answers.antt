-- `all_entries` meets its contract: one search a bin.
use Rattle.std.proofs.Common.{refl, ◌∙◌, arith, rules, tests}
use Rattle.std.proofs.lemmas.Iterator.{YieldsList-from_range}
use Rattle.std.proofs.lemmas.Iterator.Search.{all_from_yields_List}
use Rattle.sequences.specs.Chains.{all_in}
use Rattle.mask_records.specs.Decibels.{is_entry}
use Rattle.mask_records.specs.Found.{entry_in}
use Rattle.mask_records.proofs.reading.all_entries.Goals as goal

pub returns : goal.returns
returns c =
    all_from_yields_List (λ i. is_entry (entry_in c.args.s.now i)) _ _ _ c.all.ensures.ran (YieldsList-from_range 0 c.args.n c.args.n refl (omega arith)) (λ x b q k. search (rules, tests))
    ∙ all_in (λ i. is_entry (entry_in c.args.s.now i)) c.args.n
