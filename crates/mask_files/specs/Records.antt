-- The records of a script's accepted frames, one behind the other (order 5). Definitions only.
use Rattle.std.specs.Prelude.{ℕ, Bool, List, [], ◌∷◌, ◌++◌, length, Float, Ok, Err}
use Rattle.sequences.specs.All.{all}
use Rattle.sequences.specs.Pick.{pick}
use Rattle.refusals.specs.Numbers.{Answer}
use Rattle.refusals.specs.declared.Refusal.TheVariants.{Attenuation}
use Rattle.windows.specs.declared.Frame.{Frame}
use Rattle.listing.specs.declared.lines.Line.{Line}
use Rattle.listing.specs.declared.lines.Line.TheVariants as L
use Rattle.listing.specs.declared.turns.Turn.{Turn}
use Rattle.mask_records.specs.Bytes.{record_of}
use Rattle.mask_records.specs.Entries.{attenuation_at, is_number}
use Rattle.mask_records.specs.Written.{entries_of}
use Rattle.mask_laws.specs.Files.{Record}

-- refusal 18 hangs on any bin
unfoldable pub all_numbers : Frame → Float → List Float → Bool
all_numbers f depth logs = all (λ i. is_number (attenuation_at f depth logs i)) (length logs)

-- what a line puts before what follows it; f is the last accepted frame, which is the line's own where it has one
abbrev pub filed_by : Float → List Float → Frame → Line → List ℕ × Answer → List ℕ × Answer
filed_by depth logs f L.Nothing rest = rest
filed_by depth logs f (L.Frame n v) rest =
    pick (all_numbers f depth logs) (record_of v.sample (entries_of f depth logs) ++ rest.0, rest.1) ([], Err Attenuation)
filed_by depth logs f (L.Refused n r) rest = rest
filed_by depth logs f (L.Bad n r p) rest = ([], Err r)
filed_by depth logs f (L.End n) rest = rest

-- the bytes of the records, and how they end: at the end of the turns, at a bad field, or at a frame that has no record
unfoldable pub filed_of : Float → List Float → List Turn → List ℕ × Answer
filed_of depth logs [] = ([], Ok tt)
filed_of depth logs (t ∷ ts) = filed_by depth logs t.run.frame t.line (filed_of depth logs ts)

-- ---- the same as a list of records: the sample and the entries of each accepted frame
abbrev pub record_by : Float → List Float → Frame → Line → List Record → List Record
record_by depth logs f L.Nothing rest = rest
record_by depth logs f (L.Frame n v) rest = (v.sample, entries_of f depth logs) ∷ rest
record_by depth logs f (L.Refused n r) rest = rest
record_by depth logs f (L.Bad n r p) rest = rest
record_by depth logs f (L.End n) rest = rest

unfoldable pub records_in : Float → List Float → List Turn → List Record
records_in depth logs [] = []
records_in depth logs (t ∷ ts) = record_by depth logs t.run.frame t.line (records_in depth logs ts)
