-- What is seen of a record that is written or read: the answer by its number, and the lent numbers. Definitions only.
use Rattle.std.specs.Prelude.{ℕ, List, Float, Some, None, Ok, Err}
use Rattle.refusals.specs.Numbers.{number_of}
use Rattle.mask_records.specs.Placed.{Written}
use Rattle.mask_records.specs.Found.{Read, found}

-- 0 and the place after the record, or the refusal's number and the place as it was
abbrev pub told_place : ℕ → Written → ℕ × ℕ
told_place at (Ok after) = (0, after)
told_place at (Err refusal) = (number_of refusal, at)

abbrev pub told_record : ℕ → Written × List Float × List ℕ → ℕ × ℕ × List Float × List ℕ
told_record at (written, scratch, out) = let told = told_place at written in (told.0, told.1, scratch, out)

-- 0 and the record's sample, count and size; 255 at the end of a file, or the refusal's number, and these as they were
abbrev pub told_numbers : ℕ → ℕ → ℕ → Read → ℕ × ℕ × ℕ × ℕ
told_numbers sample count taken (Ok None) = (255, sample, count, taken)
told_numbers sample count taken (Ok (Some f)) = (0, f.sample, f.count, f.size)
told_numbers sample count taken (Err refusal) = (number_of refusal, sample, count, taken)

abbrev pub found_of : ℕ → ℕ → ℕ → Read × List ℕ → ℕ × ℕ × ℕ × ℕ × List ℕ
found_of sample count taken (read, entries) =
    let told = told_numbers sample count taken read in
    (told.0, told.1, told.2, told.3, entries)
