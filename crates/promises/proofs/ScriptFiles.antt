-- The mask file of a script, where the call takes it: the records of its accepted frames, and that they are read back.
use Rattle.std.specs.Prelude.{Ok, Err}
use Prim.Native.Nat.{ℕ, ◌+◌, ◌≤◌}
use native.Mathlib.Omega.{arith}
use mathlib.Core.Path.{◌≡◌, refl, sym, ap, ◌∙◌}
use mathlib.Core.Bool.{Bool, true, false, false≢true}
use mathlib.Core.List.{List, [], ◌∷◌}
use borrow.Author.Tests.{ltb-false}
use lib.Dec.{ltb, leb}
use lib.Ieee.{Float}
use lib.ListN.{length}
use Rattle.sequences.specs.Every.{Every}
use Rattle.sequences.specs.Pick.{pick, went_left, went_right}
use Rattle.text.specs.Put.{splice}
use Rattle.refusals.specs.Numbers.{Answer}
use Rattle.refusals.specs.declared.Refusal.{Refusal}
use Rattle.refusals.specs.declared.Refusal.TheVariants.{Size, Script, Room}
use Rattle.windows.specs.declared.Frame.{Frame}
use Rattle.listing.specs.declared.lines.Line.{Line}
use Rattle.listing.specs.declared.lines.Line.TheVariants as L
use Rattle.listing.specs.declared.turns.Turn.{Turn}
use Rattle.listing.specs.Turns.{turns_of}
use Rattle.mask_records.specs.Bytes.{file_of}
use Rattle.mask_laws.specs.Files.{Record, WholeRecord, ReadsAs}
use Rattle.mask_laws.proofs.Files.{file_back}
use Rattle.mask_laws.proofs.Frames.{entries-count, entries-known}
use Rattle.mask_files.specs.Masks.{Filed, logs_for, placed_by, masks_of}
use Rattle.mask_files.specs.Records.{filed_of, record_by, records_in}
use Rattle.mask_files.proofs.Logs.{logs_count}
use Rattle.mask_files.proofs.Records.{filed_records}

-- ---- each of the records is one that the reader may find
module _ (depth : Float) (logs : List Float) (lo : 1 ≤ length logs) (hi : length logs ≤ 8193) where
  own-whole : (f : Frame) (l : Line) (rs : List Record) → Every WholeRecord rs → Every WholeRecord (record_by depth logs f l rs)
  own-whole f L.Nothing rs w = w
  own-whole f (L.Frame n v) rs w =
      let k = entries-count f depth logs in
      ((omega (arith, k), omega (arith, k), λ i h. entries-known f depth logs i (omega (arith, k))), w)
  own-whole f (L.Refused n r) rs w = w
  own-whole f (L.Bad n r p) rs w = w
  own-whole f (L.End n) rs w = w

  records_whole : (ts : List Turn) → Every WholeRecord (records_in depth logs ts)
  unfolding records_in
  records_whole [] = tt
  records_whole (t ∷ ts) = own-whole t.run.frame t.line (records_in depth logs ts) (records_whole ts)

-- ---- what an answer other than a refusal says
abbrev Both : Type 0
Both = Filed × List ℕ

abbrev Placed : ℕ → Both → Type 0
Placed p x = x.0 ≡ Ok p

is-placed : Filed → Bool
is-placed (Ok p) = true
is-placed (Err k) = false

refused_not : (k : Refusal) (p : ℕ) → ◌≡◌ {A = Filed} (Err k) (Ok p) → ⊥
unfolding is-placed
refused_not k p e = false≢true (ap is-placed e)

placed_at : (p q : ℕ) → ◌≡◌ {A = Filed} (Ok q) (Ok p) → p ≡ q
placed_at p q e = cc

placed-whole : (bytes : List ℕ) (ended : Answer) (out : List ℕ) (at p : ℕ) → (placed_by bytes ended out at).0 ≡ Ok p
    → (ended ≡ Ok tt) × (p ≡ at + length bytes) × ((placed_by bytes ended out at).1 ≡ splice out at bytes)
placed-whole bytes (Err r) out at p e = absurd (refused_not r p e)
placed-whole bytes (Ok tt) out at p e =
    let done : Both = (Ok (at + length bytes), splice out at bytes) in
    let a = went_left (Placed p) done (Err Room, out) (leb (at + length bytes) (length out)) (refused_not Room p) e in
    (refl, placed_at p (at + length bytes) (ap (λ (x : Both). x.0) (sym a.1) ∙ e), ap (λ (x : Both). x.1) a.1)

module _ (script : List ℕ) (size : ℕ) (depth : Float) (out : List ℕ) (at p : ℕ) where
  abbrev logs : List Float
  logs = logs_for script size

  abbrev rs : List Record
  rs = records_in depth logs (turns_of script)

  pub script_file : (masks_of script size depth out at).0 ≡ Ok p → (p ≡ at + length (file_of rs)) × ((masks_of script size depth out at).1 ≡ splice out at (file_of rs)) × ReadsAs (file_of rs) rs
  unfolding masks_of
  script_file e =
      let filed = filed_of depth logs (turns_of script) in
      let x3 : Both = placed_by filed.0 filed.1 out at in
      let x2 : Both = pick (ltb 60000 (length script)) (Err Script, out) x3 in
      let x1 : Both = pick (ltb 16384 size) (Err Size, out) x2 in
      let a1 = went_right (Placed p) (Err Size, out) x1 (ltb size 1) (refused_not Size p) e in
      let e1 : x1.0 ≡ (Ok p) = ap (λ (x : Both). x.0) (sym a1.1) ∙ e in
      let a2 = went_right (Placed p) (Err Size, out) x2 (ltb 16384 size) (refused_not Size p) e1 in
      let e2 : x2.0 ≡ (Ok p) = ap (λ (x : Both). x.0) (sym a2.1) ∙ e1 in
      let a3 = went_right (Placed p) (Err Script, out) x3 (ltb 60000 (length script)) (refused_not Script p) e2 in
      let e3 : x3.0 ≡ (Ok p) = ap (λ (x : Both). x.0) (sym a3.1) ∙ e2 in
      let w = placed-whole filed.0 filed.1 out at p e3 in
      let lo = ltb-false size 1 a1.0 in
      let hi = ltb-false 16384 size a2.0 in
      let n = logs_count script size lo hi in
      let is = filed_records depth logs (turns_of script) w.0 in (
        w.1 ∙ ap (λ (b : List ℕ). at + length b) is,
        ap (λ (x : Both). x.1) (a1.1 ∙ a2.1 ∙ a3.1) ∙ w.2 ∙ ap (splice out at) is,
        file_back rs (records_whole depth logs (omega (arith, n)) (omega (arith, n)) (turns_of script)),
      )
