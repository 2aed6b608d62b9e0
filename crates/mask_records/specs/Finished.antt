-- The record of bins that are opened so far, at a level: refusals 18 and 13, in this order. Definitions only.
use Rattle.std.specs.Prelude.{ℕ, ◌+◌, List, leb, length, get_or, Float, Ok, Err}
use Rattle.std.specs.Float.{nan}
use Rattle.sequences.specs.All.{all}
use Rattle.sequences.specs.Pick.{pick}
use Rattle.sequences.specs.Table.{table}
use Rattle.text.specs.Put.{splice}
use Rattle.refusals.specs.declared.Refusal.TheVariants.{Room, Attenuation}
use Rattle.mask_records.specs.Placed.{Written, record_size}
use Rattle.mask_records.specs.Bytes.{record_of}
use Rattle.mask_records.specs.Entries.{entry_attenuation, is_number, entry_for}

unfoldable pub filled_of : Float → List Float → List ℕ
filled_of level opened = table (length opened) (λ i. entry_for (entry_attenuation level (get_or opened i nan)))

-- the answer, and then scratch and out afterwards
unfoldable pub finished_of : ℕ → Float → List Float → List Float → List ℕ → ℕ → Written × List Float × List ℕ
finished_of sample level opened scratch out at =
    let n = length opened in
    pick (all (λ i. is_number (entry_attenuation level (get_or opened i nan))) n)
    (pick (leb (at + record_size n) (length out)) (Ok (at + record_size n), opened, splice out at (record_of sample (filled_of level opened))) (Err Room, scratch, out))
    (Err Attenuation, scratch, out)
