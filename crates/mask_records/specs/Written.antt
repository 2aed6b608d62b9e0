-- The record of a frame, written at a place of a lent buffer: 01's refusals 5 and 6, then order 5's 19, 18 and 13, in this order. Definitions only.
use Rattle.std.specs.Prelude.{ℕ, ◌+◌, List, eqb, ltb, leb, length, Float, Ok, Err}
use Rattle.sequences.specs.All.{all}
use Rattle.sequences.specs.Pick.{pick}
use Rattle.sequences.specs.Table.{table}
use Rattle.text.specs.Put.{splice}
use Rattle.refusals.specs.declared.Refusal.TheVariants.{Lengths, Logs, Room, Attenuation, Record}
use Rattle.windows.specs.declared.Frame.{Frame}
use Rattle.mask_gains.specs.Logs.{lawful_logs}
use Rattle.mask_gains.specs.Opened.{open_at}
use Rattle.mask_gains.specs.Gains.{quiet_of}
use Rattle.mask_records.specs.Placed.{Written, record_size}
use Rattle.mask_records.specs.Bytes.{record_of}
use Rattle.mask_records.specs.Entries.{attenuation_at, is_number, entry_for}

-- the entries of a frame's record, one a bin
unfoldable pub entries_of : Frame → Float → List Float → List ℕ
entries_of f depth logs = table (length logs) (λ i. entry_for (attenuation_at f depth logs i))

-- scratch as the mask call leaves it
unfoldable pub scratch_of : Frame → Float → List Float → List Float → List Float
scratch_of f depth logs scratch = pick (quiet_of depth f.activity) scratch (table (length logs) (open_at f.windows logs))

-- the answer, and then scratch and out afterwards
unfoldable pub record_written : ℕ → Frame → Float → List Float → List Float → List ℕ → ℕ → Written × List Float × List ℕ
record_written sample f depth logs scratch out at =
    let n = length logs in
    pick (eqb (length scratch) n)
    (pick (lawful_logs logs)
    (pick (ltb n 1) (Err Record, scratch, out)
    (pick (ltb 8193 n) (Err Record, scratch, out)
    (pick (all (λ i. is_number (attenuation_at f depth logs i)) n)
    (pick (leb (at + record_size n) (length out))
    (Ok (at + record_size n), scratch_of f depth logs scratch, splice out at (record_of sample (entries_of f depth logs)))
    (Err Room, scratch, out))
    (Err Attenuation, scratch, out))))
    (Err Logs, scratch, out))
    (Err Lengths, scratch, out)
