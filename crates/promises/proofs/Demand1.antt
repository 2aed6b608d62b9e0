-- Demand 1: every call refuses by the scope's numbers, exactly when the scope says, and a refusal leaves what it must.
use Rattle.std.specs.Prelude.{Some, None, Ok, Err}
use Prim.Native.Nat.{ℕ, ◌+◌, ◌-◌, ◌*◌, ◌/◌, ◌^◌}
use mathlib.Core.Path.{◌≡◌, refl, sym, ap, ◌∙◌}
use mathlib.Core.Logic.{◌↔◌}
use mathlib.Core.Bool.{Bool, true, false, cond, not, ◌&&◌, ◌||◌}
use mathlib.Core.List.{List, [], ◌∷◌, ◌++◌}
use lib.Dec.{eqb, ltb, leb}
use lib.ListN.{length, get_or, drop}
use lib.Ieee.{Float, is_nan}
use Rattle.sequences.specs.All.{all}
use Rattle.sequences.specs.Pick.{pick, picked, passed, either, by-case}
use Rattle.refusals.specs.Numbers.{Answer, number_of, answer_of}
use Rattle.refusals.specs.declared.Refusal.{Refusal}
use Rattle.refusals.specs.declared.Refusal.TheVariants.{Rate, Slot, Size, Elapsed, Lengths, Logs, Seconds, Tag, Value, Place, Script, Room, HeaderCut, WrongLength, ValueCut, Attenuation, Record}
use Rattle.settings.specs.Settings.{checked_of, lawful_rate}
use Rattle.engine.specs.New.{new_engine_of}
use Rattle.engine.specs.Advance.{advanced_of}
use Rattle.engine_sources.specs.Slots.{set_source_of, retire_source_of, release_source_of}
use Rattle.engine_changes.specs.Changes.{configured_of}
use Rattle.engine_triggers.specs.Triggers.{reserved_of, triggered_of}
use Rattle.windows.specs.declared.Frame.{Frame}
use Rattle.frame.specs.Frame.{accepted}
use Rattle.frame.specs.Call.{taken_of, framed_of}
use Rattle.mask_gains.specs.Bins as bins
use Rattle.mask_gains.specs.Logs.{lawful_logs}
use Rattle.mask_gains.specs.Gains.{gains_of}
use Rattle.mask_records.specs.Decibels.{is_entry}
use Rattle.mask_records.specs.Placed.{Written}
use Rattle.mask_records.specs.Entries.{attenuation_at}
use Rattle.mask_records.specs.Written.{record_written}
use Rattle.mask_records.specs.Found as records-in
use Rattle.mask_files.specs.Masks.{Filed, logs_for, filed_number, placed_by, masks_of}
use Rattle.mask_files.specs.Records.{filed_of}
use Rattle.script.specs.declared.fields.Field.{Field}
use Rattle.script.specs.Field.{Read, misplaced, unknown, body_of, read_of}
use Rattle.big_endian.specs.Numbers.{be16}
use Rattle.text.specs.Put.{splice}
use Rattle.script_steps.specs.declared.Run.{Run}
use Rattle.listing.specs.declared.lines.Line.TheVariants as L
use Rattle.listing.specs.Turns.{bad_place, after_of, turn_of, turns_of}
use Rattle.script.specs.Table.{kind_of, length_of, lawful}
use Rattle.listing.specs.declared.ending.Ended.{Ended}
use Rattle.listing.specs.Ended.{ran_of}
use Rattle.entry.specs.Entry.{entry_answer, if_taken, entry_bytes}
use Rattle.promises.proofs.Answers.{done-leaves, new_leaves, checked, fired, fired-leaves, framed_leaves, new-answers, configure-answers, set_source-answers, retire-source-answers, release-source-answers, advance-answers, trigger_answers, frame-answers, step-answers}
use Rattle.promises.proofs.Triggers as fires
use Rattle.promises.proofs.Stops.{stops}
use Rattle.promises.proofs.Writing.{listed_by, unlisted_by, written_by_lem, unwritten_by}
use Rattle.promises.specs.Tests.{Row, first_of, NoneHolds, Given, read_number, bad_record, record_number, found_number}
use Rattle.promises.specs.Stops.{stop_rows}
use Rattle.promises.specs.Demand1.{Demand1}

-- ---- the first test that holds
found : (rows : List Row) (k : ℕ) → (k ≡ 0 → ⊥) → first_of rows ≡ k → Given rows k
unfolding first_of
found [] k n h = absurd (n (sym h))
found (row ∷ rows) k n h =
    by-case row.0
    (λ y. record { before = []; after = rows; split = ap {B = List Row} (λ (r : Row). r ∷ rows) (pairs row y (picked row.0 row.1 (first_of rows) y ∙ h)); none = tt })
    (λ f.
    let g = found rows k n (passed row.0 row.1 (first_of rows) f ∙ h) in
    record { before = row ∷ g.before; after = g.after; split = ap {B = List Row} (λ (rs : List Row). row ∷ rs) g.split; none = (f, g.none) })
  where
    pairs : (r : Row) {b : Bool} {k : ℕ} → r.0 ≡ b → r.1 ≡ k → r ≡ (b, k)
    pairs r p q = rw (← p, ← q)

first_at : (before after : List Row) (k : ℕ) → NoneHolds before → first_of (before ++ (true, k) ∷ after) ≡ k
unfolding first_of pick
first_at [] after k n = refl
first_at (row ∷ rows) after k n = sym (passed row.0 row.1 (first_of (rows ++ (true, k) ∷ after)) n.0) ∙ first_at rows after k n.1

given_exactly : (rows : List Row) (k : ℕ) → (k ≡ 0 → ⊥) → (first_of rows ≡ k) ↔ Given rows k
given_exactly rows k n = (found rows k n, λ g. ap first_of g.split ∙ first_at g.before g.after k g.none)

-- ---- lent slices
abbrev Bins : Type 0
Bins = Answer × List Float

tabled : (a b c d : Bool) (x old : List Float)
    → let got : Bins = pick a (pick b (Err Size, old) (pick c (Err Size, old) (pick d (Ok tt, x) (Err Lengths, old)))) (Err Rate, old) in
    (answer_of got.0 ≡ first_of ((not a, 1) ∷ (b || c, 3) ∷ (not d, 5) ∷ [])) × ((answer_of got.0 ≡ 0 → ⊥) → got.1 ≡ old)
unfolding first_of pick
tabled false b c d x old = (refl, λ n. refl)
tabled true true c d x old = (refl, λ n. refl)
tabled true false true d x old = (refl, λ n. refl)
tabled true false false false x old = (refl, λ n. refl)
tabled true false false true x old = (refl, λ n. absurd (n refl))

abbrev Masked : Type 0
Masked = Answer × List Float × List Float

masked : (a b c : Bool) (x : Masked) (scratch output : List Float) → x.0 ≡ Ok tt
    → let got : Masked = pick a (pick b (pick c x (Err Logs, scratch, output)) (Err Lengths, scratch, output)) (Err Lengths, scratch, output) in
    (answer_of got.0 ≡ first_of ((not a || not b, 5) ∷ (not c, 6) ∷ [])) × ((answer_of got.0 ≡ 0 → ⊥) → (got.1 ≡ scratch) × (got.2 ≡ output))
unfolding first_of pick
masked false b c x scratch output h = (refl, λ n. (refl, refl))
masked true false c x scratch output h = (refl, λ n. (refl, refl))
masked true true false x scratch output h = (refl, λ n. (refl, refl))
masked true true true x scratch output h = (ap answer_of h, λ n. absurd (n (ap answer_of h)))

module _ (f : Frame) (depth : Float) (logs scratch output : List Float) where
  passed_on : (answer_of (gains_of f depth logs scratch output).0 ≡ first_of ((not (eqb (length output) (length scratch)) || not (eqb (length output) (length logs)), 5) ∷ (not (lawful_logs logs), 6) ∷ []))
      × ((answer_of (gains_of f depth logs scratch output).0 ≡ 0 → ⊥) → ((gains_of f depth logs scratch output).1 ≡ scratch) × ((gains_of f depth logs scratch output).2 ≡ output))
  unfolding gains_of
  passed_on =
      masked (eqb (length output) (length scratch)) (eqb (length output) (length logs)) (lawful_logs logs) _ scratch output
      (either (λ (x : Masked). x.0 ≡ Ok tt) _ _ _ refl (either (λ (x : Masked). x.0 ≡ Ok tt) _ _ _ refl refl))

-- ---- records of mask files
abbrev Recorded : Type 0
Recorded = Written × List Float × List ℕ

recorded : (a b c d e g : Bool) (p : ℕ) (x scratch : List Float) (y out : List ℕ)
    → let got : Recorded =
    pick a
    (pick b
    (pick c (Err Record, scratch, out)
    (pick d (Err Record, scratch, out) (pick e (pick g (Ok p, x, y) (Err Room, scratch, out)) (Err Attenuation, scratch, out))))
    (Err Logs, scratch, out))
    (Err Lengths, scratch, out) in
    (record_number got.0 ≡ first_of ((not a, 5) ∷ (not b, 6) ∷ (c || d, 19) ∷ (not e, 18) ∷ (not g, 13) ∷ []))
    × ((record_number got.0 ≡ 0 → ⊥) → (got.1 ≡ scratch) × (got.2 ≡ out))
unfolding first_of pick
recorded false b c d e g p x scratch y out = (refl, λ n. (refl, refl))
recorded true false c d e g p x scratch y out = (refl, λ n. (refl, refl))
recorded true true true d e g p x scratch y out = (refl, λ n. (refl, refl))
recorded true true false true e g p x scratch y out = (refl, λ n. (refl, refl))
recorded true true false false false g p x scratch y out = (refl, λ n. (refl, refl))
recorded true true false false true false p x scratch y out = (refl, λ n. (refl, refl))
recorded true true false false true true p x scratch y out = (refl, λ n. absurd (n refl))

module _ (sample : ℕ) (f : Frame) (depth : Float) (logs scratch : List Float) (out : List ℕ) (at : ℕ) where
  record_written_lem : (record_number (record_written sample f depth logs scratch out at).0
      ≡ first_of
      ((not (eqb (length scratch) (length logs)), 5)
      ∷ (not (lawful_logs logs), 6)
      ∷ (ltb (length logs) 1 || ltb 8193 (length logs), 19)
      ∷ (not (all (λ i. not (is_nan (attenuation_at f depth logs i))) (length logs)), 18)
      ∷ (not (leb (at + (16 + 2 * length logs)) (length out)), 13)
      ∷ []))
      × ((record_number (record_written sample f depth logs scratch out at).0 ≡ 0 → ⊥)
      → ((record_written sample f depth logs scratch out at).1 ≡ scratch) × ((record_written sample f depth logs scratch out at).2 ≡ out))
  unfolding record_written
  record_written_lem =
      recorded (eqb (length scratch) (length logs)) (lawful_logs logs) (ltb (length logs) 1) (ltb 8193 (length logs)) (all (λ i. not (is_nan (attenuation_at f depth logs i))) (length logs)) (leb (at + (16 + 2 * length logs)) (length out)) _ _ scratch _ out

abbrev Handed : Type 0
Handed = records-in.Read × List ℕ

handed : (a b c d : Bool) (v n k : ℕ) (y lent : List ℕ)
    → let got : Handed = pick a (Ok None, lent) (pick b (pick c (pick d (Ok (Some (records-in.found v n k)), y) (Err Room, lent)) (Err Record, lent)) (Err Record, lent)) in
    (found_number got.0 ≡ first_of ((a, 0) ∷ (not b || not c, 19) ∷ (not d, 13) ∷ [])) × ((found_number got.0 ≡ 0 → ⊥) → got.1 ≡ lent)
unfolding first_of pick
handed true b c d v n k y lent = (refl, λ u. refl)
handed false false c d v n k y lent = (refl, λ u. refl)
handed false true false d v n k y lent = (refl, λ u. refl)
handed false true true false v n k y lent = (refl, λ u. refl)
handed false true true true v n k y lent = (refl, λ u. absurd (u refl))

module _ (s lent : List ℕ) where
  record_read_lem : (found_number (records-in.record_read s lent).0 ≡ first_of ((eqb (length s) 0, 0) ∷ (bad_record s, 19) ∷ (not (leb (be16 s 11) (length lent)), 13) ∷ []))
      × ((found_number (records-in.record_read s lent).0 ≡ 0 → ⊥) → (records-in.record_read s lent).1 ≡ lent)
  unfolding records-in.record_read records-in.headed
  record_read_lem = handed (eqb (length s) 0) (records-in.headed s) (all (λ i. is_entry (be16 s (16 + 2 * i))) (be16 s 11)) (leb (be16 s 11) (length lent)) _ _ _ _ lent

-- ---- the mask file of a script
counts : (r : Refusal) → eqb (number_of r) 0 ≡ false
counts Rate = refl
counts Slot = refl
counts Size = refl
counts Elapsed = refl
counts Lengths = refl
counts Logs = refl
counts Seconds = refl
counts Tag = refl
counts Value = refl
counts Place = refl
counts Script = refl
counts Room = refl
counts HeaderCut = refl
counts WrongLength = refl
counts ValueCut = refl
counts Attenuation = refl
counts Record = refl

placed-file : (bytes : List ℕ) (ended : Answer) (out : List ℕ) (at : ℕ)
    → let got = placed_by bytes ended out at in
    (filed_number got.0 ≡ first_of ((not (eqb (answer_of ended) 0), answer_of ended) ∷ (not (leb (at + length bytes) (length out)), 13) ∷ [])) × ((filed_number got.0 ≡ 0 → ⊥) → got.1 ≡ out)
unfolding first_of pick
placed-file bytes (Err r) out at = (rw (counts r), λ n. refl)
placed-file bytes (Ok tt) out at = room (leb (at + length bytes) (length out))
  where
    room : (g : Bool)
        → let got : Filed × List ℕ = pick g (Ok (at + length bytes), splice out at bytes) (Err Room, out) in
        (filed_number got.0 ≡ pick (not g) 13 0) × ((filed_number got.0 ≡ 0 → ⊥) → got.1 ≡ out)
    room true = (refl, λ n. absurd (n refl))
    room false = (refl, λ n. refl)

filed_first : (a b c : Bool) (got : Filed × List ℕ) (out : List ℕ) (rows : List Row) → (filed_number got.0 ≡ first_of rows) × ((filed_number got.0 ≡ 0 → ⊥) → got.1 ≡ out)
    → let all : Filed × List ℕ = pick a (Err Size, out) (pick b (Err Size, out) (pick c (Err Script, out) got)) in
    (filed_number all.0 ≡ first_of ((a || b, 3) ∷ (c, 12) ∷ rows)) × ((filed_number all.0 ≡ 0 → ⊥) → all.1 ≡ out)
unfolding first_of pick
filed_first true b c got out rows h = (refl, λ n. refl)
filed_first false true c got out rows h = (refl, λ n. refl)
filed_first false false true got out rows h = (refl, λ n. refl)
filed_first false false false got out rows h = h

-- ---- a field of a script
field_read : (a first b c d f g h : Bool) (x : Field) (k : ℕ)
    → read_number
    (cond a (cond first (Err Place) (Ok None))
    (cond b (Err HeaderCut) (cond c (Err Place) (cond d (Err Tag) (cond f (cond g (cond h (Ok (Some (x, k))) (Err Value)) (Err ValueCut)) (Err WrongLength))))))
    ≡ first_of ((a && first, 11) ∷ (a, 0) ∷ (b, 14) ∷ (c, 11) ∷ (d, 8) ∷ (not f, 15) ∷ (not g, 16) ∷ (not h, 10) ∷ [])
unfolding first_of pick
field_read true true b c d f g h x k = refl
field_read true false b c d f g h x k = refl
field_read false first true c d f g h x k = refl
field_read false first false true d f g h x k = refl
field_read false first false false true f g h x k = refl
field_read false first false false false false g h x k = refl
field_read false first false false false true false h x k = refl
field_read false first false false false true true false x k = refl
field_read false first false false false true true true x k = refl

field_told : (before : Run) (n at : ℕ) (s : List ℕ) (r : Refusal) → read_of (drop at s) (eqb n 1) ≡ Err r → (turn_of before n at s).line ≡ L.Bad n r (pick (eqb (number_of r) 14) (length s) at)
unfolding turn_of bad_place
field_told before n at s r e = ap (λ (x : Read). (after_of before n at s x).line) e

-- ---- a whole script
entered : (a b : Bool) (x y : Ended) → y.answer ≡ Err Script → (rows : List Row) → answer_of x.answer ≡ first_of rows
    → answer_of (pick a (cond b x y).answer (Err Lengths)) ≡ first_of ((not a, 5) ∷ (not b, 12) ∷ rows)
unfolding first_of pick
entered false b x y h rows k = refl
entered true false x y h rows k = ap answer_of h
entered true true x y h rows k = k

unwritten : (a : Answer) (bytes o : List ℕ) → (answer_of a ≡ 0 → ⊥) → if_taken a bytes o ≡ o
unwritten (Ok tt) bytes o n = absurd (n refl)
unwritten (Err r) bytes o n = refl

entry_unwritten : (s o : List ℕ) → (answer_of (entry_answer s o) ≡ 0 → ⊥) → entry_bytes s o ≡ o
unfolding entry_bytes
entry_unwritten s o n = unwritten (entry_answer s o) _ o n

-- ---- all of it
pub demand1 : Demand1
unfolding new_engine_of lawful_rate configured_of checked_of set_source_of retire_source_of release_source_of advanced_of triggered_of framed_of taken_of accepted bins.bin_table_of read_of body_of entry_answer ran_of masks_of
demand1 =
    record {
      exactly = given_exactly;
      new = new-answers;
      new_leaves = λ rate. new_leaves (lawful_rate rate) _ _;
      configure = configure-answers;
      configure_leaves = λ e c. (checked (ltb 16384 c.hop_samples) e c).1;
      set_source_lem = set_source-answers;
      set_source_leaves = λ e slot s. done-leaves (ltb slot 256) Slot _ e;
      retire_source_lem = retire-source-answers;
      retire_source_leaves = λ e slot. done-leaves (ltb slot 256) Slot _ e;
      release_source_lem = release-source-answers;
      release_source_leaves = λ e slot. done-leaves (ltb slot 256) Slot _ e;
      advance = advance-answers;
      advance_leaves = λ e n. done-leaves (leb (e.clock.sample + n) (2 ^ 40)) Elapsed _ e;
      trigger = trigger_answers;
      trigger_leaves = λ e slot. fired-leaves (reserved_of e).engine slot _;
      reserved = fired;
      reserved_leaves = fired-leaves;
      trigger_answers = λ e slot len. fires.trigger_answers e len slot;
      trigger_born = λ e slot len. fires.trigger_born e len slot;
      reserved_answers = λ e slot index len. fires.reserved_answers e len slot index;
      reserved_born = λ e slot index len. fires.reserved_born e len slot index;
      frame = frame-answers;
      frame_leaves = λ e bin_hz seconds. framed_leaves (accepted seconds) e (taken_of e bin_hz seconds);
      bin_table = λ rate size old. (tabled (lawful_rate rate) (ltb size 1) (ltb 16384 size) (eqb (length old) (size / 2 + 1)) _ old).0;
      bin_table_leaves = λ rate size old. (tabled (lawful_rate rate) (ltb size 1) (ltb 16384 size) (eqb (length old) (size / 2 + 1)) _ old).1;
      gains = λ f depth logs scratch output. (passed_on f depth logs scratch output).0;
      gains_leave = λ f depth logs scratch output. (passed_on f depth logs scratch output).1;
      write_record = λ sample f depth logs scratch out at. (record_written_lem sample f depth logs scratch out at).0;
      write_record_leaves = λ sample f depth logs scratch out at. (record_written_lem sample f depth logs scratch out at).1;
      read_record = λ s lent. (record_read_lem s lent).0;
      read_record_leaves = λ s lent. (record_read_lem s lent).1;
      masks =
          λ script size depth out at.
          let filed = filed_of depth (logs_for script size) (turns_of script) in
          (filed_first (ltb size 1) (ltb 16384 size) (ltb 60000 (length script)) (placed_by filed.0 filed.1 out at) out _ (placed-file filed.0 filed.1 out at)).0;
      masks_leave =
          λ script size depth out at.
          let filed = filed_of depth (logs_for script size) (turns_of script) in
          (filed_first (ltb size 1) (ltb 16384 size) (ltb 60000 (length script)) (placed_by filed.0 filed.1 out at) out _ (placed-file filed.0 filed.1 out at)).1;
      field =
          λ s first.
          let k = kind_of (get_or s 0 0) in
          field_read (eqb (length s) 0) first (ltb (length s) 3) (misplaced (get_or s 0 0) first) (unknown (get_or s 0 0)) (eqb (be16 s 1) (length_of k)) (leb (length_of k) (length s - 3)) (lawful k (drop 3 s)) _ _;
      field_place = λ before n at s r e. field_told before n at s r e;
      step = step-answers;
      script = stops;
      entry = λ s o. entered (eqb (length o) 2308) (leb (length s) 60000) _ _ refl (stop_rows s) (stops s).number;
      entry_leaves = entry_unwritten;
      list = listed_by;
      list_leaves = unlisted_by;
      write = written_by_lem;
      write_leaves = unwritten_by;
    }
