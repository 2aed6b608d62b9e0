-- The mask file of a whole script, written at a place of a lent buffer. Definitions only.
use Rattle.std.specs.Prelude.{ℕ, ◌+◌, ◌/◌, true, List, length, nat_le, nat_lt, Float, Some, None, Result, Ok, Err}
use Rattle.sequences.specs.Pick.{pick}
use Rattle.text.specs.Put.{splice}
use Rattle.floats.specs.Names.{f32, div32, as_float}
use Rattle.refusals.specs.Numbers.{Answer, answer_of}
use Rattle.refusals.specs.declared.Refusal.{Refusal}
use Rattle.refusals.specs.declared.Refusal.TheVariants.{Size, Script, Room}
use Rattle.settings.specs.Settings.{lawful_rate}
use Rattle.mask_gains.specs.Bins.{logs_of}
use Rattle.script.specs.declared.fields.Field.{Field}
use Rattle.script.specs.declared.fields.Field.TheVariants as F
use Rattle.script.specs.Field.{Read, read_of}
use Rattle.listing.specs.Turns.{turns_of}
use Rattle.mask_laws.specs.Files.{Record}
use Rattle.mask_files.specs.Records.{filed_of, records_in}

-- the place after the records, or why there are none
abbrev pub Filed : Type 0
Filed = Result ℕ Refusal

-- the rate of a run before its first field
abbrev pub standard : Float
standard = f32 0x473b8000

abbrev pub rate_in : Field → Float
rate_in (F.Rate x) = pick (lawful_rate x) x standard
rate_in (F.Configure c) = standard
rate_in (F.Source s f g b) = standard
rate_in (F.Retire s) = standard
rate_in (F.Release s) = standard
rate_in (F.Trigger s) = standard
rate_in (F.Seek x) = standard
rate_in (F.Advance n) = standard
rate_in (F.Frame b x) = standard
rate_in (F.NoteInput b) = standard
rate_in F.Reset = standard
rate_in F.Reserve = standard
rate_in (F.ReservedTrigger s i) = standard

abbrev pub rate_by : Read → Float
rate_by (Ok (Some (f, k))) = rate_in f
rate_by (Err r) = standard
rate_by (Ok None) = standard

-- the rate that the script's first field gives. A script whose first field gives no lawful rate goes bad there and has no frame: which rate its bins go by is then of no consequence.
unfoldable pub script_rate : List ℕ → Float
script_rate script = rate_by (read_of script true)

abbrev pub bins_of : ℕ → ℕ
bins_of size = size / 2 + 1

-- the logarithms of the bins, as the mask call has them
unfoldable pub logs_for : List ℕ → ℕ → List Float
logs_for script size = logs_of (div32 (script_rate script) (as_float size)) (bins_of size)

-- the records of the script's accepted frames, in order
abbrev pub records_of : List ℕ → ℕ → Float → List Record
records_of script size depth = records_in depth (logs_for script size) (turns_of script)

-- 0 where the records are written
abbrev pub filed_number : Filed → ℕ
filed_number filed = answer_of filed

-- what ended the records, and then 13
abbrev pub placed_by : List ℕ → Answer → List ℕ → ℕ → Filed × List ℕ
placed_by bytes (Err r) out at = (Err r, out)
placed_by bytes (Ok tt) out at =
    pick (nat_le (at + length bytes) (length out)) (Ok (at + length bytes), splice out at bytes) (Err Room, out)

abbrev pub filed_into : List ℕ × Answer → List ℕ → ℕ → Filed × List ℕ
filed_into filed out at = placed_by filed.0 filed.1 out at

-- the place after the records, and the buffer afterwards; a refusal leaves it as it was
unfoldable pub masks_of : List ℕ → ℕ → Float → List ℕ → ℕ → Filed × List ℕ
masks_of script size depth out at =
    pick (nat_lt size 1) (Err Size, out)
    (pick (nat_lt 16384 size) (Err Size, out)
    (pick (nat_lt 60000 (length script)) (Err Script, out)
    (filed_into (filed_of depth (logs_for script size) (turns_of script)) out at)))
