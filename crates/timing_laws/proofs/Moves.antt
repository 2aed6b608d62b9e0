-- What becomes of a stream's index: `prepare` keeps it, a move takes it on and to the group under way at least, and aligning leaves at most two starts out.
use Prim.Native.Nat.{ℕ, ◌+◌, ◌^◌, ◌≤◌, ◌<◌}
use native.Mathlib.Nat.{le_trans, le_of_eq, le_of_lt, mod-lt, mod-eq_of_lt}
use native.Mathlib.Omega.{arith}
use mathlib.Core.Path.{◌≡◌, refl, sym}
use mathlib.Core.Bool.{Bool}
use lib.Dec.{ltb}
use lib.Pow.{pow_pos}
use lib.Ieee.{Float, le}
use borrow.Author.Tests.{ltb-true, ltb-false}
use Rattle.sequences.specs.Pick.{pick, by-case, either}
use Rattle.floats.specs.Word.{product, grown}
use Rattle.timing.specs.declared.SprinkleStream.{SprinkleStream}
use Rattle.timing.specs.Streams.{prepared_stream, group_of, skipped_of, aligned_of, larger, moved_of}

pub prepared-index : (i lane : ℕ) (sync : Bool) → (prepared_stream i lane sync).index ≡ i
unfolding prepared_stream
prepared-index i lane sync = refl

-- ---- the larger of two
larger-left : (a b : ℕ) → a ≤ larger a b
unfolding larger pick
larger-left a b = by-case (ltb a b) (λ e. rw e (le_of_lt (ltb-true a b e))) (λ e. rw e (le_of_eq refl))

larger-right : (a b : ℕ) → b ≤ larger a b
unfolding larger pick
larger-right a b = by-case (ltb a b) (λ e. rw e (le_of_eq refl)) (λ e. rw e (ltb-false a b e))

larger-under : (a b k : ℕ) → a < k → b < k → larger a b < k
unfolding larger
larger-under a b k p q = either (λ n. n < k) (ltb a b) b a q p

-- ---- words
pub after-under : (n : ℕ) → grown n < 2 ^ 64
after-under n = mod-lt (n + 1) (pow_pos 64)

pub group-under : (reference : Float) → group_of reference < 2 ^ 64
unfolding group_of product
group-under reference = mod-lt _ (pow_pos 64)

-- ---- a move
module _ (i lane : ℕ) (reference : Float) (sync : Bool) where
  -- it is a word again
  pub moved-under : (moved_of i lane reference sync).index < 2 ^ 64
  unfolding moved_of prepared_stream
  moved-under = larger-under (grown i) (group_of reference) (2 ^ 64) (after-under i) (group-under reference)

  -- no backlog: the group under way is reached
  pub moved_reaches : group_of reference ≤ (moved_of i lane reference sync).index
  unfolding moved_of prepared_stream
  moved_reaches = larger-right (grown i) (group_of reference)

  -- the index rises, unless it was the last word and wraps
  pub moved-rises : i + 1 < 2 ^ 64 → i < (moved_of i lane reference sync).index
  unfolding moved_of prepared_stream
  moved-rises h = let l : grown i ≤ larger (grown i) (group_of reference) = larger-left (grown i) (group_of reference) in omega (arith, mod-eq_of_lt h)

-- ---- an alignment
skipped-index : (s : SprinkleStream) (lane : ℕ) (reference : Float) (sync : Bool) (g k : ℕ) → g + k + 1 < 2 ^ 64 → g ≤ s.index → s.index ≤ g + k → (g ≤ (skipped_of s lane reference sync).index) × ((skipped_of s lane reference sync).index ≤ g + k + 1)
unfolding skipped_of prepared_stream
skipped-index s lane reference sync g k h p q =
    either (λ (t : SprinkleStream). (g ≤ t.index) × (t.index ≤ g + k + 1)) (le s.next reference) (prepared_stream (grown s.index) lane sync) s
    (let e : grown s.index ≡ s.index + 1 = mod-eq_of_lt (omega arith) in
    (omega arith, omega arith))
    (p, omega arith)

-- the group's first index, or one or two past it
pub aligned-index : (lane : ℕ) (reference : Float) (sync : Bool) → group_of reference + 2 < 2 ^ 64 → (group_of reference ≤ (aligned_of lane reference sync).index) × ((aligned_of lane reference sync).index ≤ group_of reference + 2)
unfolding aligned_of
aligned-index lane reference sync h =
    let g = group_of reference in
    let s = prepared_stream g lane sync in
    let a = skipped-index s lane reference sync g 0 (omega arith) (le_of_eq (sym (prepared-index g lane sync))) (le_trans (le_of_eq (prepared-index g lane sync)) (omega arith)) in
    let b = skipped-index (skipped_of s lane reference sync) lane reference sync g 1 (omega arith) a.0 (le_trans a.1 (omega arith)) in
    (b.0, le_trans b.1 (omega arith))
