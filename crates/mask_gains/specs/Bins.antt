-- The bin table, line by line as the Rust's `MaskWorkspace::prepare`, with 01's refusals 1, 3 and 5 in this order. Definitions only.
use Rattle.std.specs.Prelude.{ℕ, ◌+◌, ◌/◌, List, eqb, ltb, length, Float, Ok, Err}
use Rattle.sequences.specs.Pick.{pick}
use Rattle.sequences.specs.Table.{table}
use Rattle.floats.specs.Names.{mul32, div32, zero32, as_float}
use Rattle.elementary.specs.Log2.{log2_of}
use Rattle.refusals.specs.Numbers.{Answer}
use Rattle.refusals.specs.declared.Refusal.TheVariants.{Rate, Size, Lengths}
use Rattle.settings.specs.Settings.{lawful_rate}

-- (bin as f32 * bin_hz).log2(), from bin 1 on
unfoldable pub log_at : Float → ℕ → Float
log_at hz bin = pick (eqb bin 0) zero32 (log2_of (mul32 (as_float bin) hz))

unfoldable pub logs_of : Float → ℕ → List Float
logs_of hz n = table n (log_at hz)

-- the answer, and the table afterwards
unfoldable pub bin_table_of : Float → ℕ → List Float → Answer × List Float
bin_table_of rate size old =
    pick (lawful_rate rate)
    (pick (ltb size 1) (Err Size, old)
    (pick (ltb 16384 size) (Err Size, old)
    (pick (eqb (length old) (size / 2 + 1))
    -- let bin_hz = sample_rate / fft_size as f32;
    (Ok tt, logs_of (div32 rate (as_float size)) (length old))
    (Err Lengths, old))))
    (Err Rate, old)
