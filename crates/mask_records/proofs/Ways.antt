-- The ways through `write_record`: what its two branches answer is `record_written`.
use Rattle.std.specs.Prelude.{Ok, Err}
use Prim.Native.Nat.{ℕ, ◌+◌, ◌≤◌, ◌<◌}
use mathlib.Core.Path.{◌≡◌, refl, sym, ap, ◌∙◌}
use mathlib.Core.Bool.{Bool, true, false}
use mathlib.Core.List.{List}
use borrow.Author.Tests.{eq-eqb, le-ltb}
use lib.Dec.{leb}
use lib.ListN.{length, get_or}
use lib.Ieee.{Float, nan, is_nan, of_bits}
use Rattle.sequences.specs.All.{all, all_same, all_true}
use Rattle.sequences.specs.Pick.{pick, picked, passed, took, skipped}
use Rattle.sequences.specs.Table.{table, table_at, table_same, length_table}
use Rattle.text.specs.Put.{splice}
use Rattle.floats.specs.Names.{zero32}
use Rattle.mask_records.specs.Decibels.{entry_of}
use Rattle.mask_records.proofs.Nearest.{no_tenths}
use Rattle.mask_records.proofs.Ruled.{first_entry}
use Rattle.mask_records.proofs.Answers.{One, Both}
use Rattle.refusals.specs.Numbers.{Answer}
use Rattle.refusals.specs.declared.Refusal.TheVariants.{Room, Attenuation}
use Rattle.windows.specs.declared.Window.{Window}
use Rattle.windows.specs.declared.Frame.{Frame}
use Rattle.mask_gains.specs.Logs.{lawful_logs}
use Rattle.mask_gains.specs.Opened.{open_at, opened_of}
use Rattle.mask_gains.specs.Gains.{level_of, quiet_of}
use Rattle.mask_records.specs.Placed.{Written, record_size, placed_of}
use Rattle.mask_records.specs.Bytes.{record_of}
use Rattle.mask_records.specs.Entries.{entry_attenuation, attenuation_at, is_number, entry_for}
use Rattle.mask_records.specs.Finished.{filled_of, finished_of}
use Rattle.mask_records.specs.Written.{entries_of, scratch_of, record_written}

-- logs that refusals 5 and 6 let pass
pub opened-is : (ws : List Window) (logs xs ys : List Float) (r : Answer) → length xs ≡ length logs → lawful_logs logs ≡ true → (r, ys) ≡ opened_of ws logs xs → ys ≡ table (length logs) (open_at ws logs)
unfolding opened_of
opened-is ws logs xs ys r m l e =
    ap (λ (p : Answer × List Float). p.1) (e ∙ sym (picked _ _ _ (eq-eqb _ _ m)) ∙ sym (picked _ _ _ l)) ∙ ap (λ (n : ℕ). table n (open_at ws logs)) m

-- the record without an attenuation
pub no_attenuation : entry_for zero32 ≡ 32768
no_attenuation = ap entry_of no_tenths ∙ first_entry

nil_number : is_number zero32 ≡ true
unfolding is_nan of_bits
nil_number = refl

beside : List Float → One → Both
beside scratch r = (r.0, scratch, r.1)

beside_pick : (scratch : List Float) (l : Bool) (u v : One) → beside scratch (pick l u v) ≡ pick l (beside scratch u) (beside scratch v)
unfolding pick
beside_pick scratch true u v = refl
beside_pick scratch false u v = refl

-- ---- the ones give 32,768 at every bin
module _ (f : Frame) (depth : Float) (logs : List Float) (q : quiet_of depth f.activity ≡ true) where
  quiet_at : (i : ℕ) → attenuation_at f depth logs i ≡ zero32
  unfolding attenuation_at
  quiet_at i = sym (picked _ _ _ q)

  pub quiet-entries : entries_of f depth logs ≡ table (length logs) (λ i. 32768)
  unfolding entries_of
  quiet-entries = table_same (λ i. entry_for (attenuation_at f depth logs i)) (λ i. 32768) (length logs) (λ k l. ap entry_for (quiet_at k) ∙ no_attenuation)

  pub quiet_numbers : all (λ i. is_number (attenuation_at f depth logs i)) (length logs) ≡ true
  quiet_numbers = all_true (λ i. is_number (attenuation_at f depth logs i)) (length logs) (λ k l. ap is_number (quiet_at k) ∙ nil_number)

module _ (sample : ℕ) (f : Frame) (depth : Float) (logs scratch : List Float) (out : List ℕ) (at : ℕ) where
  abbrev roomed : ℕ → List Float → List ℕ → Both
  roomed n s es = pick (leb (at + record_size n) (length out)) (Ok (at + record_size n), s, splice out at (record_of sample es)) (Err Room, scratch, out)

  abbrev numbered : Bool → ℕ → List Float → List ℕ → Both
  numbered b n s es = pick b (roomed n s es) (Err Attenuation, scratch, out)

  module _ (m : length scratch ≡ length logs) (w : lawful_logs logs ≡ true) (lo : 1 ≤ length logs) (hi : length logs ≤ 8193) where
    within : (x : Both) → x ≡ numbered (all (λ i. is_number (attenuation_at f depth logs i)) (length logs)) (length logs) (scratch_of f depth logs scratch) (entries_of f depth logs) → x ≡ record_written sample f depth logs scratch out at
    unfolding record_written
    within x e = took _ _ _ _ (eq-eqb _ _ m) (took _ _ _ _ w (skipped _ _ _ _ (le-ltb _ _ lo) (skipped _ _ _ _ (le-ltb _ _ hi) e)))

    -- ---- nothing to attenuate
    module _ (q : quiet_of depth f.activity ≡ true) where
      pub quiet_written : (r : Written) (u : List ℕ) → (r, u) ≡ placed_of sample (table (length logs) (λ i. 32768)) out at → (r, scratch, u) ≡ record_written sample f depth logs scratch out at
      unfolding placed_of scratch_of beside
      quiet_written r u e =
          within (r, scratch, u)
          (took _ _ _ _ (quiet_numbers f depth logs q)
          (ap (beside scratch) e
          ∙ beside_pick scratch _ _ _
          ∙ ap (λ (n : ℕ). roomed n scratch (table (length logs) (λ i. 32768))) (length_table (length logs) (λ i. 32768))
          ∙ ap (λ (es : List ℕ). roomed (length logs) scratch es) (sym (quiet-entries f depth logs q))
          ∙ ap (λ (s : List Float). roomed (length logs) s (entries_of f depth logs)) (picked _ _ _ q)))

    -- ---- a level
    module _ (q : quiet_of depth f.activity ≡ false) (level : Float) (v : level ≡ level_of depth f.activity) where
      abbrev open_at_lem : ℕ → Float
      open_at_lem = open_at f.windows logs

      abbrev opened : List Float
      opened = table (length logs) open_at_lem

      long : length opened ≡ length logs
      long = length_table (length logs) open_at_lem

      loud-at : (i : ℕ) → i < length logs → entry_attenuation level (get_or opened i nan) ≡ attenuation_at f depth logs i
      unfolding attenuation_at
      loud-at i h =
          ap (entry_attenuation level) (table_at (length logs) open_at_lem i nan h) ∙ ap (λ (l : Float). entry_attenuation l (open_at_lem i)) v ∙ passed _ _ _ q

      loud-entries : filled_of level opened ≡ entries_of f depth logs
      unfolding filled_of entries_of
      loud-entries =
          ap (λ (n : ℕ). table n (λ i. entry_for (entry_attenuation level (get_or opened i nan)))) long
          ∙ table_same (λ i. entry_for (entry_attenuation level (get_or opened i nan))) (λ i. entry_for (attenuation_at f depth logs i)) (length logs) (λ k l. ap entry_for (loud-at k l))

      loud_numbers : all (λ i. is_number (entry_attenuation level (get_or opened i nan))) (length opened) ≡ all (λ i. is_number (attenuation_at f depth logs i)) (length logs)
      loud_numbers =
          ap (all (λ i. is_number (entry_attenuation level (get_or opened i nan)))) long
          ∙ all_same (λ i. is_number (entry_attenuation level (get_or opened i nan))) (λ i. is_number (attenuation_at f depth logs i)) (length logs) (λ k l. ap is_number (loud-at k l))

      pub loud_written : (x : Both) → x ≡ finished_of sample level opened scratch out at → x ≡ record_written sample f depth logs scratch out at
      unfolding finished_of scratch_of
      loud_written x e =
          within x
          (e
          ∙ ap (λ (b : Bool). numbered b (length opened) opened (filled_of level opened)) loud_numbers
          ∙ ap (λ (n : ℕ). numbered (all (λ i. is_number (attenuation_at f depth logs i)) (length logs)) n opened (filled_of level opened)) long
          ∙ ap (λ (es : List ℕ). numbered (all (λ i. is_number (attenuation_at f depth logs i)) (length logs)) (length logs) opened es) loud-entries
          ∙ ap (λ (s : List Float). numbered (all (λ i. is_number (attenuation_at f depth logs i)) (length logs)) (length logs) s (entries_of f depth logs)) (passed _ _ _ q))
