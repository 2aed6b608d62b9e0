-- What a host sees of a script's mask file. Definitions only.
use Rattle.std.specs.Prelude.{ℕ, List, Float}
use Rattle.std.specs.Result.{result_unwrap_or}
use Rattle.mask_files.specs.Masks.{Filed, filed_number, masks_of}

-- a refusal leaves the count as it was
abbrev pub place_by : ℕ → Filed → ℕ
place_by at filed = result_unwrap_or filed at

-- the number of the answer, the buffer, and the count behind its reference
abbrev pub masks_at : List ℕ → ℕ → Float → List ℕ → ℕ → ℕ × List ℕ × ℕ
masks_at script size depth out at =
    let filed = masks_of script size depth out at in
    (filed_number filed.0, filed.1, place_by at filed.0)
