-- A record of given entries at a place of a lent buffer. Definitions only.
use Rattle.std.specs.Prelude.{ℕ, ◌+◌, ◌*◌, List, leb, length, Result, Ok, Err}
use Rattle.sequences.specs.Pick.{pick}
use Rattle.text.specs.Put.{splice}
use Rattle.refusals.specs.declared.Refusal.{Refusal}
use Rattle.refusals.specs.declared.Refusal.TheVariants.{Room}
use Rattle.mask_records.specs.Bytes.{record_of}

-- a record of n bins has 16 bytes and two for each bin
abbrev pub record_size : ℕ → ℕ
record_size n = 16 + 2 * n

-- the place after what was written, or why nothing was
abbrev pub Written : Type 0
Written = Result ℕ Refusal

-- the place after the record, and the buffer afterwards
unfoldable pub placed_of : ℕ → List ℕ → List ℕ → ℕ → Written × List ℕ
placed_of sample es out at =
    let n = record_size (length es) in
    pick (leb (at + n) (length out)) (Ok (at + n), splice out at (record_of sample es)) (Err Room, out)
