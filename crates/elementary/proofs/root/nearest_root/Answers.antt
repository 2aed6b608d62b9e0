-- The loops settle the root whatever the guess: the first lowers it until the middle below it is below the root, the second raises it until
-- the middle above it is not.
use mathlib.Core.Path.{◌≡◌, sym, subst, subst⁻¹}
use mathlib.Core.Logic.{⊎_elim}
use Prim.Native.Nat.{ℕ, zero, suc, ◌+◌, ◌-◌, ◌*◌, ◌≤◌, ◌<◌}
use native.Mathlib.Nat.{le_trans, mul-le-mul, mul-add, add-mul, suc-mul, not-le_of_lt}
use native.Mathlib.Omega.{arith}
use Rattle.floats_laws.proofs.Naturals.{le_or_lt}
use Rattle.floats.proofs.Words.{product-fits}
use Rattle.elementary.proofs.Squares.{settled, root_is}
use Rattle.elementary.proofs.root.nearest_root.Goals as goal
use Rattle.elementary.proofs.root.nearest_root.Goals.{At-loop-r, In-loop-r}

-- a root too large is 2 or more
two : (n q : ℕ) → 0 < n → n ≤ q * (q - 1) → 2 ≤ q
two n zero p h = omega arith
two n (suc zero) p h = omega arith
two n (suc (suc q)) p h = omega arith

-- a root that is not too large has 24 digits or is 2^24
root-le : (r n : ℕ) → r * (r - 1) < n → n < 281474976710656 → r ≤ 16777216
root-le zero n h k = omega arith
root-le (suc a) n h k = ⊎_elim (λ p. absurd (not-le_of_lt k (le_trans (mul-le-mul p p) (under a n (subst (λ (z : ℕ). suc a * z < n) (less a) h))))) (λ q. q) (le_or_lt 16777216 a)
  where
    less : (a : ℕ) → suc a - 1 ≡ a
    less a = omega arith

    under : (a n : ℕ) → suc a * a < n → a * a ≤ n
    under a n h = omega (arith, suc-mul a a)

next : (n r : ℕ) → r * r + r < n → (r + 1) * (r + 1 - 1) < n
next n r h = subst⁻¹ (λ (z : ℕ). (r + 1) * z < n) (less r) (omega (arith, add-mul r 1 r))
  where
    less : (r : ℕ) → r + 1 - 1 ≡ r
    less r = omega arith

at : (c : At-loop-r) → c.loop-r.r ≤ 16777216
at c = root-le c.loop-r.r _ c.loop-r.invariant.1 c.requires.1

-- a turn of the second loop leaves a root that is not too large
more : (c : In-loop-r) → (c.loop-r.r + 1) * (c.loop-r.r + 1 - 1) < c.args.n
more c = next _ _ (omega (arith, simp mul-add at c.loop-r-test.true))

pub step-requires : goal.step-requires
step-requires c = (omega arith, omega arith, omega arith)

pub step-q-requires : goal.step-q-requires
step-q-requires c = (omega arith, omega arith, omega arith)

pub loop-q-init : goal.loop-q-init
loop-q-init c = (omega arith, omega arith)

pub overflow_sub-q : goal.overflow_sub-q
overflow_sub-q c = omega (arith, c.loop-q.invariant.0)

pub overflow_mul-q : goal.overflow_mul-q
overflow_mul-q c = record { fits = product-fits 32 32 (omega (arith, c.loop-q.invariant.1)) (omega (arith, c.loop-q.invariant.1)) }

pub overflow_sub-q-in-loop-q : goal.overflow_sub-q-in-loop-q
overflow_sub-q-in-loop-q c = omega (arith, c.loop-q.invariant.0)

pub loop-q-smaller : goal.loop-q-smaller
loop-q-smaller c = omega (arith, c.loop-q.invariant.0)

pub loop-q-preserved : goal.loop-q-preserved
loop-q-preserved c = (omega (arith, two _ _ c.requires.0 c.loop-q-test.true), omega (arith, c.loop-q.invariant.1))

pub loop-r-init : goal.loop-r-init
loop-r-init c = (c.loop-q.invariant.0, c.loop-q-test.false)

pub overflow_add-r : goal.overflow_add-r
overflow_add-r c = omega (arith, at c)

pub overflow_mul-r : goal.overflow_mul-r
overflow_mul-r c = record { fits = product-fits 32 32 (omega (arith, at c)) (omega (arith, at c)) }

pub overflow_add-r-in-loop-r : goal.overflow_add-r-in-loop-r
overflow_add-r-in-loop-r c = omega (arith, at (goal.at.overflow_add-r-in-loop-r c).At-loop-r)

pub loop-r-smaller : goal.loop-r-smaller
loop-r-smaller c = omega (arith, root-le _ _ (more c) c.requires.1)

pub loop-r-preserved : goal.loop-r-preserved
loop-r-preserved c = (omega arith, more c)

pub returns : goal.returns
returns c = sym (root_is _ _ (settled _ _ c.loop-r.invariant.0 c.loop-r.invariant.1 c.loop-r-test.false))
