-- What a reader finds in a mask file. Definitions only.
use Rattle.std.specs.Prelude.{ℕ, ◌≤◌, ◌<◌, ◌≡◌, true, List, [], ◌∷◌, ◌++◌, length, get_or, drop, Some, None, Ok}
use Rattle.mask_records.specs.Decibels.{is_entry}
use Rattle.mask_records.specs.Placed.{record_size}
use Rattle.mask_records.specs.Found.{record_read, found}

-- a record's sample and its entries
abbrev pub Record : Type 0
Record = ℕ × List ℕ

-- a record that the reader may find: 1 to 8,193 entries, each of them in the table
abbrev pub WholeRecord : Record → Type 0
WholeRecord r = (1 ≤ length r.1) × (length r.1 ≤ 8193) × ((i : ℕ) → i < length r.1 → is_entry (get_or r.1 i 0) ≡ true)

-- the reader finds these records in the bytes, one after the other, each behind the bytes that the last one took, and then the end: a slice that is lent with places enough gets the entries, and keeps what stands behind them
abbrev pub ReadsAs : List ℕ → List Record → Type 0
ReadsAs s [] = (lent : List ℕ) → record_read s lent ≡ (Ok None, lent)
ReadsAs s (r ∷ rs) =
    let n = length r.1 in
    ((lent : List ℕ) → n ≤ length lent → record_read s lent ≡ (Ok (Some (found r.0 n (record_size n))), r.1 ++ drop n lent)) × ReadsAs (drop (record_size n) s) rs
