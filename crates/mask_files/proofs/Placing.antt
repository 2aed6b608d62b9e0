-- The ways through `place` and `masks`: what they answer is `masks_of`.
use Rattle.std.proofs.Common.{◌≡◌, ℕ, ◌+◌, ◌<◌, ◌≤◌, List, length, sym, refl, ap, ◌∙◌, le-ltb, lt-ltb, le-leb, arith, Result, Ok, Err}
use borrow.Author.Tests.{lt-leb}
use lib.Ieee.{Float}
use Rattle.std.specs.Result.{result_unwrap_or}
use Rattle.sequences.specs.Pick.{took, skipped}
use Rattle.text.specs.Put.{splice}
use Rattle.refusals.specs.Numbers.{Answer}
use Rattle.refusals.specs.declared.Refusal.{Refusal}
use Rattle.refusals.specs.declared.Refusal.TheVariants.{Size, Script, Room}
use Rattle.listing.specs.Turns.{turns_of}
use Rattle.mask_files.specs.Masks.{Filed, logs_for, placed_by, filed_into, masks_of}
use Rattle.mask_files.specs.Records.{filed_of}
use Rattle.mask_files.specs.Walk.{counted_as, measured_of}

-- ---- by what was measured
-- a count: the records end well, and are so long
counted : (a : Answer) (k n : ℕ) → ◌≡◌ {A = Result ℕ Refusal} (Ok n) (counted_as a k) → (a ≡ Ok tt) × (n ≡ k)
counted (Ok tt) k n e = (refl, ap (λ (r : Result ℕ Refusal). result_unwrap_or r n) e)
counted (Err r) k n e = absurd (let z : ◌≡◌ {A = ℕ} 0 1 = cc in omega arith)

-- a refusal: it is what ended them
stopped : (a : Answer) (k : ℕ) (r : Refusal) → ◌≡◌ {A = Result ℕ Refusal} (Err r) (counted_as a k) → a ≡ Err r
stopped (Ok tt) k r e = absurd (let z : ◌≡◌ {A = ℕ} 0 1 = cc in omega arith)
stopped (Err q) k r e = let same : q ≡ r = cc in ap Err same

module _ (filed : List ℕ × Answer) (m : Result ℕ Refusal) (is : m ≡ measured_of filed) (out : List ℕ) (at : ℕ) where
  by_end : (a : Answer) → filed.1 ≡ a → (x : Filed × List ℕ) → x ≡ placed_by filed.0 a out at → x ≡ filed_into filed out at
  by_end a e x p = p ∙ ap (λ (b : Answer). placed_by filed.0 b out at) (sym e)

  pub refused_end : (r : Refusal) → m ≡ Err r → (Err r, out) ≡ filed_into filed out at
  refused_end r e = by_end (Err r) (stopped filed.1 (length filed.0) r (sym e ∙ is)) _ refl

  module _ (bytes : ℕ) (e : m ≡ Ok bytes) where
    ends_well : (filed.1 ≡ Ok tt) × (bytes ≡ length filed.0)
    ends_well = counted filed.1 (length filed.0) bytes (sym e ∙ is)

    pub ended_so : filed.1 ≡ Ok tt
    ended_so = ends_well.0

    pub no_room : length out < at + bytes → (Err Room, out) ≡ filed_into filed out at
    no_room h = by_end (Ok tt) ended_so _ (skipped _ _ _ _ (lt-leb _ _ (rw (ends_well.1) at h)) refl)

    pub room : at + bytes ≤ length out → at + length filed.0 ≤ length out
    room h = rw (ends_well.1) at h

    pub written : at + bytes ≤ length out → (p : ℕ) (new : List ℕ) → (p ≡ at + length filed.0) × (new ≡ splice out at filed.0) → (Ok p, new) ≡ filed_into filed out at
    written h p new w =
        by_end (Ok tt) ended_so _
        (took _ _ _ _ (le-leb _ _ (room h)) (ap (λ (k : ℕ). (Ok k, new)) w.0 ∙ ap (λ (x : List ℕ). (Ok (at + length filed.0), x)) w.1))

-- ---- by the size and the script
module _ (script : List ℕ) (size : ℕ) (depth : Float) (out : List ℕ) (at : ℕ) where
  pub no_size : size < 1 → (Err Size, out) ≡ masks_of script size depth out at
  unfolding masks_of
  no_size h = took _ _ _ _ (lt-ltb _ _ h) refl

  module _ (some : 1 ≤ size) where
    pub large_size : 16384 < size → (Err Size, out) ≡ masks_of script size depth out at
    unfolding masks_of
    large_size h = skipped _ _ _ _ (le-ltb _ _ some) (took _ _ _ _ (lt-ltb _ _ h) refl)

    module _ (most : size ≤ 16384) where
      pub long-script : 60000 < length script → (Err Script, out) ≡ masks_of script size depth out at
      unfolding masks_of
      long-script h = skipped _ _ _ _ (le-ltb _ _ some) (skipped _ _ _ _ (le-ltb _ _ most) (took _ _ _ _ (lt-ltb _ _ h) refl))

      pub placed : length script ≤ 60000 → (x : Filed × List ℕ) → x ≡ filed_into (filed_of depth (logs_for script size) (turns_of script)) out at → x ≡ masks_of script size depth out at
      unfolding masks_of
      placed h x e = skipped _ _ _ _ (le-ltb _ _ some) (skipped _ _ _ _ (le-ltb _ _ most) (skipped _ _ _ _ (le-ltb _ _ h) e))
