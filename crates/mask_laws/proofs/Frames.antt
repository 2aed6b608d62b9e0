-- What a frame's record holds, and that it is read back.
use Rattle.std.specs.Prelude.{Some, Ok, Err}
use Prim.Native.Nat.{ℕ, ◌+◌, ◌≤◌, ◌<◌}
use native.Mathlib.Omega.{arith}
use mathlib.Core.Path.{◌≡◌, refl, sym, ap, ◌∙◌}
use mathlib.Core.Bool.{true}
use mathlib.Core.List.{List, ◌++◌, append_assoc}
use borrow.Author.Tests.{ltb-false, leb-true, le-leb}
use lib.Dec.{eqb, ltb, leb}
use lib.ListN.{length, get_or, take, drop}
use lib.Seq.{drop_at, length-take-le}
use lib.Ieee.{Float}
use Rattle.sequences.specs.All.{all}
use Rattle.sequences.specs.Pick.{pick, picked, went_left, went_right}
use Rattle.sequences.specs.Table.{table_at, length_table}
use Rattle.text.specs.Put.{splice}
use Rattle.mask_records.specs.Decibels.{entries, is_entry}
use Rattle.mask_records.specs.Tenths.{tenths_of}
use Rattle.mask_records.proofs.Ruled.{entries-long}
use Rattle.mask_records.proofs.Nearest.{tenths_most}
use Rattle.refusals.specs.declared.Refusal.{Refusal}
use Rattle.refusals.specs.declared.Refusal.TheVariants.{Lengths, Logs, Room, Attenuation, Record}
use Rattle.windows.specs.declared.Frame.{Frame}
use Rattle.mask_gains.specs.Logs.{lawful_logs}
use Rattle.mask_gains.specs.Gains.{quiet_of}
use Rattle.mask_records.specs.Placed.{Written, record_size}
use Rattle.mask_records.specs.Bytes.{record_of}
use Rattle.mask_records.specs.Entries.{attenuation_at, is_number, entry_for}
use Rattle.mask_records.specs.Written.{entries_of, scratch_of, record_written}
use Rattle.mask_records.specs.Found.{record_read, found}
use Rattle.mask_records.proofs.Answers.{apart}
use Rattle.mask_records.proofs.Sought.{among-at}
use Rattle.mask_records.proofs.Ways.{quiet-entries}
use Rattle.mask_laws.proofs.ReadBack.{read_back}

-- ---- the entries
module _ (f : Frame) (depth : Float) (logs : List Float) where
  pub entries-count : length (entries_of f depth logs) ≡ length logs
  unfolding entries_of
  entries-count = length_table (length logs) (λ i. entry_for (attenuation_at f depth logs i))

  -- each is the entry of its bin's attenuation
  pub entry-own : (i : ℕ) → i < length logs → get_or (entries_of f depth logs) i 0 ≡ entry_for (attenuation_at f depth logs i)
  unfolding entries_of
  entry-own i h = table_at (length logs) (λ k. entry_for (attenuation_at f depth logs k)) i 0 h

  -- every entry that is written is in the table
  pub entries-known : (i : ℕ) → i < length logs → is_entry (get_or (entries_of f depth logs) i 0) ≡ true
  entries-known i h =
      ap is_entry (entry-own i h)
      ∙ among-at (entry_for (attenuation_at f depth logs i)) entries (tenths_of (attenuation_at f depth logs i)) (omega (arith, entries-long, tenths_most (attenuation_at f depth logs i))) refl

  -- the ones give 32,768 at every bin
  pub ones_everywhere : quiet_of depth f.activity ≡ true → (i : ℕ) → i < length logs → get_or (entries_of f depth logs) i 0 ≡ 32768
  ones_everywhere q i h = ap (λ (es : List ℕ). get_or es i 0) (quiet-entries f depth logs q) ∙ table_at (length logs) (λ k. 32768) i 0 h

-- ---- what an answer other than a refusal says
abbrev Both : Type 0
Both = Written × List Float × List ℕ

refused_not : (k : Refusal) (p : ℕ) → ◌≡◌ {A = Written} (Err k) (Ok p) → ⊥
refused_not k p e = apart p k (sym e)

abbrev Placed : ℕ → Both → Type 0
Placed p x = x.0 ≡ Ok p

pub record Accepted (sample : ℕ) (f : Frame) (depth : Float) (logs scratch : List Float) (out : List ℕ) (at p : ℕ) : Type 0 where
  pub some : 1 ≤ length logs
  pub few : length logs ≤ 8193
  pub room : at + record_size (length logs) ≤ length out
  pub place : p ≡ at + record_size (length logs)
  pub scratch_is : (record_written sample f depth logs scratch out at).1 ≡ scratch_of f depth logs scratch
  pub out_is : (record_written sample f depth logs scratch out at).2 ≡ splice out at (record_of sample (entries_of f depth logs))

placed_at : (p q : ℕ) → ◌≡◌ {A = Written} (Ok q) (Ok p) → p ≡ q
placed_at p q e = cc

module _ (sample : ℕ) (f : Frame) (depth : Float) (logs scratch : List Float) (out : List ℕ) (at p : ℕ) where
  pub accepted : (record_written sample f depth logs scratch out at).0 ≡ Ok p → Accepted sample f depth logs scratch out at p
  unfolding record_written
  accepted e =
      let n = length logs in
      let done : Both = (Ok (at + record_size n), scratch_of f depth logs scratch, splice out at (record_of sample (entries_of f depth logs))) in
      let x6 : Both = pick (leb (at + record_size n) (length out)) done (Err Room, scratch, out) in
      let x5 : Both = pick (all (λ i. is_number (attenuation_at f depth logs i)) n) x6 (Err Attenuation, scratch, out) in
      let x4 : Both = pick (ltb 8193 n) (Err Record, scratch, out) x5 in
      let x3 : Both = pick (ltb n 1) (Err Record, scratch, out) x4 in
      let x2 : Both = pick (lawful_logs logs) x3 (Err Logs, scratch, out) in
      let a1 = went_left (Placed p) x2 (Err Lengths, scratch, out) (eqb (length scratch) n) (refused_not Lengths p) e in
      let e2 : x2.0 ≡ (Ok p) = ap (λ (x : Both). x.0) (sym a1.1) ∙ e in
      let a2 = went_left (Placed p) x3 (Err Logs, scratch, out) (lawful_logs logs) (refused_not Logs p) e2 in
      let e3 : x3.0 ≡ (Ok p) = ap (λ (x : Both). x.0) (sym a2.1) ∙ e2 in
      let a3 = went_right (Placed p) (Err Record, scratch, out) x4 (ltb n 1) (refused_not Record p) e3 in
      let e4 : x4.0 ≡ (Ok p) = ap (λ (x : Both). x.0) (sym a3.1) ∙ e3 in
      let a4 = went_right (Placed p) (Err Record, scratch, out) x5 (ltb 8193 n) (refused_not Record p) e4 in
      let e5 : x5.0 ≡ (Ok p) = ap (λ (x : Both). x.0) (sym a4.1) ∙ e4 in
      let a5 = went_left (Placed p) x6 (Err Attenuation, scratch, out) (all (λ i. is_number (attenuation_at f depth logs i)) n) (refused_not Attenuation p) e5 in
      let e6 : x6.0 ≡ (Ok p) = ap (λ (x : Both). x.0) (sym a5.1) ∙ e5 in
      let a6 = went_left (Placed p) done (Err Room, scratch, out) (leb (at + record_size n) (length out)) (refused_not Room p) e6 in
      let is : record_written sample f depth logs scratch out at ≡ done = a1.1 ∙ a2.1 ∙ a3.1 ∙ a4.1 ∙ a5.1 ∙ a6.1 in
      record {
        some = ltb-false n 1 a3.0;
        few = ltb-false 8193 n a4.0;
        room = leb-true _ _ a6.0;
        place = placed_at p (at + record_size n) (ap (λ (x : Both). x.0) (sym is) ∙ e);
        scratch_is = ap (λ (x : Both). x.1) is;
        out_is = ap (λ (x : Both). x.2) is;
      }

  -- the bytes from the place on are the record and what stood behind it
  from_place : Accepted sample f depth logs scratch out at p → drop at (record_written sample f depth logs scratch out at).2 ≡ record_of sample (entries_of f depth logs) ++ drop (at + length (record_of sample (entries_of f depth logs))) out
  from_place a =
      let r = record_of sample (entries_of f depth logs) in
      ap (drop at) (a.out_is ∙ append_assoc (take at out) r (drop (at + length r) out)) ∙ drop_at (take at out) (r ++ drop (at + length r) out) at (length-take-le at out (omega (arith, a.room)))

  -- written and read back: the same sample, count and entries, for every frame, where the lent slice has places enough
  pub written_back : (record_written sample f depth logs scratch out at).0 ≡ Ok p → (lent : List ℕ) → length logs ≤ length lent
      → record_read (drop at (record_written sample f depth logs scratch out at).2) lent ≡ (Ok (Some (found sample (length logs) (record_size (length logs)))), entries_of f depth logs ++ drop (length logs) lent)
  written_back e lent l =
      let a = accepted e in
      let es = entries_of f depth logs in
      let n : length es ≡ length logs = entries-count f depth logs in
      ap (λ (s : List ℕ). record_read s lent) (from_place a)
      ∙ read_back sample es (drop (at + length (record_of sample es)) out) (omega (arith, a.some)) (omega (arith, a.few)) (λ i h. entries-known f depth logs i (omega arith)) lent
      ∙ rw n (sym (picked _ _ _ (le-leb (length logs) (length lent) l)))
