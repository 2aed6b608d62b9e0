-- The gains of a mask, line by line as the Rust's `Mask::gains`, with 01's refusals 5 and 6 in this order. Definitions only.
use Rattle.std.specs.Prelude.{Bool, ◌||◌, List, eqb, length, Float, Ok, Err}
use Rattle.std.specs.Float.Ieee.{neg, le, eq}
use Rattle.sequences.specs.Pick.{pick}
use Rattle.sequences.specs.Table.{table}
use Rattle.floats.specs.Names.{f32, sub32, mul32, zero32, one}
use Rattle.floats.specs.Choose.{clamp}
use Rattle.powers.specs.Power.{db_to_gain}
use Rattle.refusals.specs.Numbers.{Answer}
use Rattle.refusals.specs.declared.Refusal.TheVariants.{Lengths, Logs}
use Rattle.windows.specs.declared.Window.{Window}
use Rattle.windows.specs.declared.Frame.{Frame}
use Rattle.mask_gains.specs.Logs.{lawful_logs}
use Rattle.mask_gains.specs.Opened.{open_at}

-- -depth_db.clamp(0.0, 60.0) * frame.activity
unfoldable pub level_of : Float → Float → Float
level_of depth activity = mul32 (neg (clamp depth zero32 (f32 0x42700000))) activity

-- db_to_gain(level * (1.0 - openness))
unfoldable pub gain_of : Float → Float → Float
gain_of level o = db_to_gain (mul32 level (sub32 one o))

-- if depth_db <= 0.0 || frame.activity == 0.0
unfoldable pub quiet_of : Float → Float → Bool
quiet_of depth activity = le depth zero32 || eq activity zero32

-- output.fill(1.0), under logs that refusal 6 lets pass
unfoldable pub ones_of : List Float → List Float → Answer × List Float
ones_of logs output = pick (lawful_logs logs) (Ok tt, table (length output) (λ i. one)) (Err Logs, output)

-- the openness of each bin and its gain, under such logs
unfoldable pub shaped_of : List Window → Float → List Float → List Float → List Float → Answer × List Float × List Float
shaped_of ws level logs scratch output =
    let n = length output in
    pick (lawful_logs logs)
    (Ok tt, table n (open_at ws logs), table n (λ i. gain_of level (open_at ws logs i)))
    (Err Logs, scratch, output)

-- the answer, and then scratch and output afterwards
unfoldable pub gains_of : Frame → Float → List Float → List Float → List Float → Answer × List Float × List Float
gains_of f depth logs scratch output =
    let n = length output in
    let ones : Answer × List Float × List Float = (Ok tt, scratch, table n (λ i. one)) in
    pick (eqb n (length scratch))
    (pick (eqb n (length logs))
    (pick (lawful_logs logs)
    (pick (le depth zero32) ones
    (pick (eq f.activity zero32) ones
    (Ok tt, table n (open_at f.windows logs), table n (λ i. gain_of (level_of depth f.activity) (open_at f.windows logs i)))))
    (Err Logs, scratch, output))
    (Err Lengths, scratch, output))
    (Err Lengths, scratch, output)
