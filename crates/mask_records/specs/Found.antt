-- A record read from the start of bytes: order 5's refusals 19 and 13, in this order. Definitions only.
use Rattle.std.specs.Prelude.{ℕ, ◌+◌, ◌*◌, Bool, ◌&&◌, List, ◌++◌, eqb, leb, length, get_or, drop, Option, Some, None, Result, Ok, Err}
use Rattle.sequences.specs.All.{all}
use Rattle.sequences.specs.Pick.{pick}
use Rattle.sequences.specs.Table.{table}
use Rattle.big_endian.specs.Numbers.{be16, be64}
use Rattle.mask_records.specs.Decibels.{is_entry}
use Rattle.refusals.specs.declared.Refusal.{Refusal}
use Rattle.refusals.specs.declared.Refusal.TheVariants.{Room, Record}
use Rattle.mask_records.specs.declared.Found.{Found}
use Rattle.mask_records.specs.Placed.{record_size}

abbrev pub count_in : List ℕ → ℕ
count_in s = be16 s 11

abbrev pub entry_in : List ℕ → ℕ → ℕ
entry_in s bin = be16 s (16 + 2 * bin)

-- tag 32 with ten bytes, a count of 1 to 8,193, tag 33 with two bytes a bin, and all of them there
unfoldable pub headed : List ℕ → Bool
headed s =
    let n = count_in s in
    (eqb (get_or s 0 0) 32 && eqb (be16 s 1) 10)
    && ((leb 1 n && leb n 8193) && ((eqb (get_or s 13 0) 33 && eqb (be16 s 14) (2 * n)) && leb (record_size n) (length s)))

-- what a read comes to: none at the end
abbrev pub Read : Type 0
Read = Result (Option Found) Refusal

abbrev pub found : ℕ → ℕ → ℕ → Found
found sample count size = record { sample = sample; count = count; size = size }

-- sample, count and how many bytes the record takes; and the lent entries afterwards. No bytes at all is the end.
unfoldable pub record_read : List ℕ → List ℕ → Read × List ℕ
record_read s lent =
    let n = count_in s in
    pick (eqb (length s) 0) (Ok None, lent)
    (pick (headed s)
    (pick (all (λ i. is_entry (entry_in s i)) n)
    (pick (leb n (length lent)) (Ok (Some (found (be64 s 3) n (record_size n))), table n (entry_in s) ++ drop n lent) (Err Room, lent))
    (Err Record, lent))
    (Err Record, lent))
