-- What the order says of sizes, over the format: a number between -b and b is at most b in size, one that is at least b is above it, and a sum of two that are not negative is not negative.
use Prim.Native.Nat.{ℕ, ◌+◌, ◌*◌, ◌≤◌, ◌<◌}
use native.Mathlib.Nat.{le_trans, le_of_eq, lt_of_lt_of_le, mul_right_comm, mul-pos, mul-le-mul_right, le_of_mul-le-mul_right, eq-or-lt_of_le}
use native.Mathlib.Omega.{arith}
use mathlib.Core.Path.{◌≡◌, refl, sym, subst}
use mathlib.Core.Logic.{◌⊎◌, inl, inr}
use mathlib.Core.Bool.{true, false, ◌&&◌, ◌||◌}
use lib.IntN.{ℤ}
use lib.Dec.{T, ltb, lt→ltb, eqb, eqb_refl, eqb→eq}
use lib.Ieee.{Float, nan, inf, fin, Format, binary32, binary64, up, down, round, units, odd, size, span, climb, add, sum, le, lt, eq, is_nan}
use lib.Ieee.Fits.{down_pos, add-fits, and_i, and_r}
use lib.Ieee.Scale.{finite}
use Rattle.floats_laws.proofs.Mono.{le→signed}
use Rattle.floats_laws.proofs.Rules.{finite_number, add_number, le_trans as float-trans}
use Rattle.floats_laws.proofs.Rising.{nought, add_rises, add_rises-right, or_left, or_right}
use Rattle.floats_laws.proofs.Mag.{le_of, of_le}
use Rattle.floats_laws.proofs.Fractions.{Under, Above}
use Rattle.floats_laws.proofs.Units.{zero_fits}

-- ---- between a number and its negative
pub under-between : (x : Float) (n : ℕ) (g : ℤ) → T (le (fin true n g) x) → T (le x (fin false n g)) → Under x (n * up g) (down g)
unfolding le lt eq
under-between nan n g h k = absurd h
under-between (inf true) n g h k = absurd h
under-between (inf false) n g h k = absurd k
under-between (fin false m e) n g h k = le_of (m * up e * down g) (n * up g * down e) k
under-between (fin true m e) n g h k = omega (arith, le→signed true n g true m e h)

-- `le` of two numbers below 0, as `lt` and `eq` have it
or_swapped : (a b : ℕ) → b ≤ a → T (ltb b a || (eqb a b && true))
or_swapped a b h = elim (eq-or-lt_of_le h) [ inl p ↦ or_right (ltb b a) _ (subst (λ (x : ℕ). T (eqb a x && true)) (sym p) (and_i (eqb a a) true (eqb_refl a) tt)) | inr q ↦ or_left (ltb b a) _ (lt→ltb b a q) ]

-- and back: where the bound is not 0
some : (a b : ℕ) → (0 < a) ⊎ (0 < b) → 0 < a + b
some a b (inl h) = omega arith
some a b (inr h) = omega arith

pub under_most : (x : Float) (n : ℕ) (g : ℤ) → 0 < n * up g → Under x (n * up g) (down g) → T (le x (fin false n g))
unfolding le lt eq
under_most nan n g N h = absurd h
under_most (inf s) n g N h = absurd h
under_most (fin true m e) n g N h = or_left (lt (fin true m e) (fin false n g)) (eq (fin true m e) (fin false n g)) (lt→ltb 0 (m * up e * down g + n * up g * down e) (some (m * up e * down g) (n * up g * down e) (inr (mul-pos N (down_pos e)))))
under_most (fin false m e) n g N h = of_le (m * up e * down g) (n * up g * down e) h

pub under-least : (x : Float) (n : ℕ) (g : ℤ) → 0 < n * up g → Under x (n * up g) (down g) → T (le (fin true n g) x)
unfolding le lt eq
under-least nan n g N h = absurd h
under-least (inf s) n g N h = absurd h
under-least (fin true m e) n g N h = or_swapped (n * up g * down e) (m * up e * down g) h
under-least (fin false m e) n g N h = or_left (lt (fin true n g) (fin false m e)) (eq (fin true n g) (fin false m e)) (lt→ltb 0 (n * up g * down e + m * up e * down g) (some (n * up g * down e) (m * up e * down g) (inl (mul-pos N (down_pos e)))))

-- ---- at least a number
pub above_of : (x y : Float) (b : ℕ) → 0 < b → Above x b → T (le x y) → T (finite y) → Above y b
unfolding le lt eq
above_of nan y b B a h u = absurd a
above_of (inf s) y b B a h u = absurd a
above_of (fin true m e) y b B a h u = absurd a
above_of (fin false m e) nan b B a h u = absurd u
above_of (fin false m e) (inf t) b B a h u = absurd u
above_of (fin false m e) (fin true n d) b B a h u =
    let z : m * up e * down d ≡ 0 = eqb→eq _ _ (and_r (eqb (m * up e * down d) (n * up d * down e)) _ h) in
    absurd (omega (arith, mul-pos (lt_of_lt_of_le (mul-pos B (down_pos e)) a) (down_pos d)))
above_of (fin false m e) (fin false n d) b B a h u =
    le_of_mul-le-mul_right (le_trans (le_of_eq (mul_right_comm b (down d) (down e))) (le_trans (mul-le-mul_right (down d) a) (le_of (m * up e * down d) (n * up d * down e) h))) (down_pos e)

-- ---- sums from zero
nothing : (f : Format) → add f nought nought ≡ nought
unfolding add sum round units odd size span climb
nothing binary32 = refl
nothing binary64 = refl

pub sum-from_zero : (f : Format) (x y : Float) → T (finite x) → T (finite y) → T (le nought x) → T (le nought y) → T (le nought (add f x y))
unfolding is_nan
sum-from_zero f x y u v h g =
    let n = finite_number f x u in
    float-trans f nought (add f x nought) (add f x y) (zero_fits f false) (add-fits f x nought) (add-fits f x y)
    (subst (λ (z : Float). T (le z (add f x nought))) (nothing f) (add_rises f nought x nought h (add_number f nought nought tt tt) (add_number f x nought n tt)))
    (add_rises-right f x nought y g (add_number f x nought n tt) (add_number f x y n v))
