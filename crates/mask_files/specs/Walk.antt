-- A walk over the accepted frames of a script, a record a step. Definitions only.
use Rattle.std.specs.Prelude.{ℕ, ◌+◌, List, length, Float, Result, Ok, Err}
use Rattle.refusals.specs.declared.Refusal.{Refusal}
use Rattle.refusals.specs.Numbers.{Answer}
use Rattle.floats.specs.Word.{grown}
use Rattle.script_steps.specs.Steps.{fresh}
use Rattle.windows.specs.declared.Frame.{Frame}
use Rattle.listing.specs.declared.lines.Line.{Line}
use Rattle.listing.specs.declared.lines.Line.TheVariants as L
use Rattle.listing.specs.declared.turns.Reached.{Reached}
use Rattle.listing.specs.declared.turns.Until.TheVariants as U
use Rattle.listing.specs.Reaching.{inside_of, reached_of}
use Rattle.mask_records.specs.Placed.{Written}
use Rattle.mask_records.specs.Written.{record_written}
use Rattle.mask_files.specs.declared.Made.{Made}
use Rattle.mask_files.specs.declared.Made.TheVariants as M
use Rattle.mask_files.specs.declared.Step.{Step}
use Rattle.mask_files.specs.declared.Walk.{Walk}

-- before the first field
unfoldable pub walk_start : Walk
walk_start = record { run = fresh; n = 1; at = 0 }

-- behind the field that was reached. Its number counts on as a word of 64 bits; its place is in the script.
abbrev pub walk_after : Reached → Walk
walk_after r = record { run = r.turn.run; n = grown r.n; at = r.at + r.turn.taken }

abbrev pub walk_stepped : Walk → Made → Step
walk_stepped walk made = record { walk = walk; made = made }

-- a record's refusal is told with the number of the frame's field
abbrev pub made_of : ℕ → Written → Made
made_of n (Ok after) = M.Record after
made_of n (Err r) = M.Refused n r

-- the step, and then scratch and out afterwards
abbrev pub written_by : Walk → ℕ → Written × List Float × List ℕ → Step × List Float × List ℕ
written_by walk n w = (walk_stepped walk (made_of n w.0), w.1, w.2)

-- by the line of the field that was reached: an accepted frame's, or the script's last
abbrev pub step_by : Walk → Frame → Line → Float → List Float → List Float → List ℕ → ℕ → Step × List Float × List ℕ
step_by walk f (L.Frame n v) depth logs scratch out at = written_by walk n (record_written v.sample f depth logs scratch out at)
step_by walk f L.Nothing depth logs scratch out at = (walk_stepped walk (M.Last L.Nothing), scratch, out)
step_by walk f (L.Refused n r) depth logs scratch out at = (walk_stepped walk (M.Last (L.Refused n r)), scratch, out)
step_by walk f (L.Bad n r p) depth logs scratch out at = (walk_stepped walk (M.Last (L.Bad n r p)), scratch, out)
step_by walk f (L.End n) depth logs scratch out at = (walk_stepped walk (M.Last (L.End n)), scratch, out)

abbrev pub reach_of : Walk → List ℕ → Reached
reach_of walk script = reached_of U.Frame walk.run walk.n (inside_of walk.at script) script

unfoldable pub walk_step : Walk → List ℕ → Float → List Float → List Float → List ℕ → ℕ → Step × List Float × List ℕ
walk_step walk script depth logs scratch out at =
    let r = reach_of walk script in
    step_by (walk_after r) r.turn.run.frame r.turn.line depth logs scratch out at

-- so many bytes, where they end well
abbrev pub counted_as : Answer → ℕ → Result ℕ Refusal
counted_as (Ok tt) n = Ok n
counted_as (Err r) n = Err r

-- how many bytes there are, or what ended them
abbrev pub measured_of : List ℕ × Answer → Result ℕ Refusal
measured_of filed = counted_as filed.1 (length filed.0)
