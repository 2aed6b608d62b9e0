-- DEMAND 1, as it is promised: for each call the tests of the scope, or of its order, one after the other, each with the number that it gives, and what a refusal leaves.
-- Its terms are those of Tests.antt, of Triggers.antt (what a trigger answers besides) and of Stops.antt (how a script stops).
use Rattle.std.specs.Prelude.{ℕ, ◌+◌, ◌-◌, ◌*◌, ◌/◌, ◌^◌, ◌≡◌, ◌↔◌, Bool, true, not, ◌&&◌, ◌||◌, List, [], ◌∷◌, eqb, ltb, leb, length, get_or, drop, Float, Ok, Err}
use Rattle.std.specs.Int.Bits.{bit_xor}
use Rattle.std.specs.Float.Ieee.{is_nan}
use Rattle.sequences.specs.All.{all}
use Rattle.floats.specs.Names.{f32}
use Rattle.sequences.specs.Pick.{pick}
use Rattle.refusals.specs.declared.Refusal.{Refusal}
use Rattle.refusals.specs.Numbers.{number_of, answer_of}
use Rattle.settings.specs.declared.Config.{Config}
use Rattle.sources.specs.declared.Source.{Source}
use Rattle.state.specs.declared.Engine.{Engine}
use Rattle.state.specs.Make.{prepared_of, new_on}
use Rattle.engine.specs.New.{new_engine_of}
use Rattle.engine.specs.Advance.{advanced_of}
use Rattle.engine_sources.specs.Slots.{set_source_of, retire_source_of, release_source_of}
use Rattle.engine_changes.specs.Changes.{configured_of}
use Rattle.engine_triggers.specs.declared.Outcome.TheVariants.{Born}
use Rattle.engine_triggers.specs.Triggers.{outcome_number, reserved_of, triggered_by, triggered_of}
use Rattle.windows.specs.declared.Frame.{Frame}
use Rattle.windows.specs.Opening.{empty_frame}
use Rattle.frame.specs.Call.{framed_of}
use Rattle.mask_gains.specs.Bins as bins
use Rattle.mask_gains.specs.Logs.{lawful_logs}
use Rattle.mask_gains.specs.Gains.{gains_of}
use Rattle.mask_records.specs.Entries.{attenuation_at}
use Rattle.mask_records.specs.Written as records
use Rattle.mask_records.specs.Found as records-in
use Rattle.mask_files.specs.Records.{filed_of}
use Rattle.mask_files.specs.Masks.{logs_for, filed_number, masks_of}
use Rattle.big_endian.specs.Numbers.{be16}
use Rattle.script.specs.Table.{kind_of, length_of, lawful}
use Rattle.script.specs.Field.{misplaced, unknown, read_of}
use Rattle.script.specs.declared.fields.Field.{Field}
use Rattle.script_steps.specs.declared.Run.{Run}
use Rattle.script_steps.specs.Steps.{step_of}
use Rattle.text.specs.Put.{buffer_of}
use Rattle.script_writer.specs.Encoded.{encoded}
use Rattle.script_writer.specs.Written.{written_of}
use Rattle.listing.specs.Listed.{room_for, listed_of, left_in}
use Rattle.listing.specs.declared.lines.Line.TheVariants as L
use Rattle.listing.specs.Turns.{turn_of, turns_of}
use Rattle.entry.specs.Entry.{entry_answer, entry_bytes}
use Rattle.promises.specs.Tests.{Row, first_of, Given, bad_rate, bad_slot, past_limit, bad_seconds, bad_record, tests_of, reply_number, read_number, listed_number, record_number, found_number, Kept}
use Rattle.promises.specs.Triggers.{Places, answered, Settled}
use Rattle.promises.specs.Stops.{stop_rows, Stops}

pub record Demand1 : Type 0 where
  -- an equation with `first_of` is the exact condition both ways
  pub exactly : (rows : List Row) (k : ℕ) → (k ≡ 0 → ⊥) → (first_of rows ≡ k) ↔ Given rows k
  pub new : (rate : Float) → answer_of (new_engine_of rate).answer ≡ first_of ((bad_rate rate, 1) ∷ [])
  pub new_leaves : (rate : Float) → bad_rate rate ≡ true → (new_engine_of rate).engine ≡ new_on (prepared_of (f32 0x473b8000))
  pub configure : (e : Engine) (c : Config) → answer_of (configured_of e c).answer ≡ first_of ((ltb 16384 c.hop_samples, 3) ∷ [])
  pub configure_leaves : (e : Engine) (c : Config) → Kept e (configured_of e c)
  pub set_source_lem : (e : Engine) (slot : ℕ) (s : Source) → answer_of (set_source_of e slot s).answer ≡ first_of ((bad_slot slot, 2) ∷ [])
  pub set_source_leaves : (e : Engine) (slot : ℕ) (s : Source) → Kept e (set_source_of e slot s)
  pub retire_source_lem : (e : Engine) (slot : ℕ) → answer_of (retire_source_of e slot).answer ≡ first_of ((bad_slot slot, 2) ∷ [])
  pub retire_source_leaves : (e : Engine) (slot : ℕ) → Kept e (retire_source_of e slot)
  pub release_source_lem : (e : Engine) (slot : ℕ) → answer_of (release_source_of e slot).answer ≡ first_of ((bad_slot slot, 2) ∷ [])
  pub release_source_leaves : (e : Engine) (slot : ℕ) → Kept e (release_source_of e slot)
  pub advance : (e : Engine) (n : ℕ) → answer_of (advanced_of e n).answer ≡ first_of ((past_limit e n, 4) ∷ [])
  pub advance_leaves : (e : Engine) (n : ℕ) → Kept e (advanced_of e n)
  -- a trigger for a missing slot has used its index, and no more
  pub trigger : (e : Engine) (slot : ℕ) → outcome_number (triggered_of e slot).outcome ≡ first_of ((bad_slot slot, 2) ∷ [])
  pub trigger_leaves : (e : Engine) (slot : ℕ) → bad_slot slot ≡ true → (triggered_of e slot).engine ≡ (reserved_of e).engine
  pub reserved : (e : Engine) (slot index : ℕ) → outcome_number (triggered_by e slot index).outcome ≡ first_of ((bad_slot slot, 2) ∷ [])
  pub reserved_leaves : (e : Engine) (slot index : ℕ) → bad_slot slot ≡ true → (triggered_by e slot index).engine ≡ e
  -- every trigger's answer, by the first test that holds; where it is born, its particle stands in the lowest place that was free
  pub trigger_answers : (e : Engine) (slot : ℕ) → Places e → (triggered_of e slot).outcome ≡ answered e slot
  pub trigger_born : (e : Engine) (slot : ℕ) → Places e → (triggered_of e slot).outcome ≡ Ok Born → Settled e (bit_xor e.next.immediate_index (2 ^ 63)) slot (triggered_of e slot).engine
  pub reserved_answers : (e : Engine) (slot index : ℕ) → Places e → (triggered_by e slot index).outcome ≡ answered e slot
  pub reserved_born : (e : Engine) (slot index : ℕ) → Places e → (triggered_by e slot index).outcome ≡ Ok Born → Settled e (bit_xor index (2 ^ 63)) slot (triggered_by e slot index).engine
  pub frame : (e : Engine) (bin_hz seconds : Float) → answer_of (framed_of e bin_hz seconds).answer ≡ first_of ((bad_seconds seconds, 7) ∷ [])
  pub frame_leaves : (e : Engine) (bin_hz seconds : Float) → bad_seconds seconds ≡ true
      → ((framed_of e bin_hz seconds).engine ≡ e) × ((framed_of e bin_hz seconds).frame ≡ empty_frame)
  -- 1, 3, 5, 6 in this order
  pub bin_table : (rate : Float) (size : ℕ) (old : List Float)
      → answer_of (bins.bin_table_of rate size old).0 ≡ first_of ((bad_rate rate, 1) ∷ (ltb size 1 || ltb 16384 size, 3) ∷ (not (eqb (length old) (size / 2 + 1)), 5) ∷ [])
  pub bin_table_leaves : (rate : Float) (size : ℕ) (old : List Float) → (answer_of (bins.bin_table_of rate size old).0 ≡ 0 → ⊥) → (bins.bin_table_of rate size old).1 ≡ old
  pub gains : (f : Frame) (depth : Float) (logs scratch output : List Float)
      → answer_of (gains_of f depth logs scratch output).0
      ≡ first_of ((not (eqb (length output) (length scratch)) || not (eqb (length output) (length logs)), 5) ∷ (not (lawful_logs logs), 6) ∷ [])
  pub gains_leave : (f : Frame) (depth : Float) (logs scratch output : List Float) → (answer_of (gains_of f depth logs scratch output).0 ≡ 0 → ⊥)
      → ((gains_of f depth logs scratch output).1 ≡ scratch) × ((gains_of f depth logs scratch output).2 ≡ output)
  -- order 5, a frame's record: 5, 6, 19, 18, 13 in this order, and nothing lent is changed
  pub write_record : (sample : ℕ) (f : Frame) (depth : Float) (logs scratch : List Float) (out : List ℕ) (at : ℕ)
      → record_number (records.record_written sample f depth logs scratch out at).0
      ≡ first_of
      ((not (eqb (length scratch) (length logs)), 5)
      ∷ (not (lawful_logs logs), 6)
      ∷ (ltb (length logs) 1 || ltb 8193 (length logs), 19)
      ∷ (not (all (λ i. not (is_nan (attenuation_at f depth logs i))) (length logs)), 18)
      ∷ (not (leb (at + (16 + 2 * length logs)) (length out)), 13)
      ∷ [])
  pub write_record_leaves : (sample : ℕ) (f : Frame) (depth : Float) (logs scratch : List Float) (out : List ℕ) (at : ℕ)
      → (record_number (records.record_written sample f depth logs scratch out at).0 ≡ 0 → ⊥)
      → ((records.record_written sample f depth logs scratch out at).1 ≡ scratch) × ((records.record_written sample f depth logs scratch out at).2 ≡ out)
  -- order 5, a record at the start of bytes: no bytes at all is the end; 19 and 13 in this order
  pub read_record : (s lent : List ℕ)
      → found_number (records-in.record_read s lent).0
      ≡ first_of
      ((eqb (length s) 0, 0)
      ∷ (bad_record s, 19)
      ∷ (not (leb (be16 s 11) (length lent)), 13)
      ∷ [])
  pub read_record_leaves : (s lent : List ℕ) → (found_number (records-in.record_read s lent).0 ≡ 0 → ⊥) → (records-in.record_read s lent).1 ≡ lent
  -- order 5, the mask file of a script: 3, 12, then what ends the records, 18 at a frame or the number that the script goes bad with, then 13; nothing is written
  pub masks : (script : List ℕ) (size : ℕ) (depth : Float) (out : List ℕ) (at : ℕ)
      → let filed = filed_of depth (logs_for script size) (turns_of script) in
      filed_number (masks_of script size depth out at).0
      ≡ first_of
      ((ltb size 1 || ltb 16384 size, 3)
      ∷ (ltb 60000 (length script), 12)
      ∷ (not (eqb (answer_of filed.1) 0), answer_of filed.1)
      ∷ (not (leb (at + length filed.0) (length out)), 13)
      ∷ [])
  pub masks_leave : (script : List ℕ) (size : ℕ) (depth : Float) (out : List ℕ) (at : ℕ) → (filed_number (masks_of script size depth out at).0 ≡ 0 → ⊥) → (masks_of script size depth out at).1 ≡ out
  -- a field of a script, at the start of s: the first one or a later one. A script that ends where a later field could begin is not bad.
  -- order 3: 14 header cut, 15 length not the tag's, 16 value cut
  pub field : (s : List ℕ) (first : Bool)
      → read_number (read_of s first)
      ≡ first_of
      ((eqb (length s) 0 && first, 11)
      ∷ (eqb (length s) 0, 0)
      ∷ (ltb (length s) 3, 14)
      ∷ (misplaced (get_or s 0 0) first, 11)
      ∷ (unknown (get_or s 0 0), 8)
      ∷ (not (eqb (be16 s 1) (length_of (kind_of (get_or s 0 0)))), 15)
      ∷ (not (leb (length_of (kind_of (get_or s 0 0))) (length s - 3)), 16)
      ∷ (not (lawful (kind_of (get_or s 0 0)) (drop 3 s)), 10)
      ∷ [])
  -- and the place that it is told with, in a script that has it at `at`: that of its tag, or the end of the script where the header is cut
  pub field_place : (before : Run) (n at : ℕ) (s : List ℕ) (r : Refusal) → read_of (drop at s) (eqb n 1) ≡ Err r
      → (turn_of before n at s).line ≡ L.Bad n r (pick (eqb (number_of r) 14) (length s) at)
  -- the engine's answer to a field. `seek`, note input and `reset` answer nothing, `reserve_trigger`, `elapsed_samples` and `active_count` a number, and none of them a refusal: they can't refuse, and nor do their fields.
  pub step : (before : Run) (f : Field) → reply_number (step_of before f).reply ≡ first_of (tests_of before.engine f)
  -- a whole script: where it stops, with which number and which place, and that it goes on until then
  pub script : (s : List ℕ) → Stops s
  -- a whole script, for a host: 5, 12, or the number of the field that stopped it
  pub entry : (s o : List ℕ) → answer_of (entry_answer s o) ≡ first_of ((not (eqb (length o) 2308), 5) ∷ (not (leb (length s) 60000), 12) ∷ stop_rows s)
  pub entry_leaves : (s o : List ℕ) → (answer_of (entry_answer s o) ≡ 0 → ⊥) → entry_bytes s o ≡ o
  -- the listing of a script: 13 where the lent buffer has no room for the longest listing of so many bytes
  pub list : (s o : List ℕ) → listed_number (listed_of (length o) s) ≡ first_of ((ltb (length o) (room_for (length s)), 13) ∷ [])
  pub list_leaves : (s o : List ℕ) → (listed_number (listed_of (length o) s) ≡ 0 → ⊥) → left_in o s ≡ o
  -- an event into a lent buffer that holds `at` bytes: 13 where the free bytes are fewer than it needs; the count so far and the bytes then stay
  pub write : (f : Field) (o : List ℕ) (at : ℕ) → answer_of (written_of (length o) at (encoded f)).1 ≡ first_of ((ltb (length o - at) (length (encoded f)), 13) ∷ [])
  pub write_leaves : (f : Field) (o : List ℕ) (at : ℕ) → (answer_of (written_of (length o) at (encoded f)).1 ≡ 0 → ⊥)
      → ((written_of (length o) at (encoded f)).0 ≡ at) × (buffer_of o at (encoded f) ≡ o)
