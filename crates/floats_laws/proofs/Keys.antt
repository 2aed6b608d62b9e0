-- The order of floats as the order of natural numbers, over the format: `key` maps the values that a format holds, the infinities too, into ℕ, in order, and both zeros to one number.
-- So any fact of order among floats is one for `omega`.
use Prim.Native.Nat.{ℕ, suc, ◌+◌, ◌-◌, ◌*◌, ◌/◌, ◌^◌, ◌≤◌, ◌<◌}
use native.Mathlib.Nat.{mul_comm, mul_assoc, mul_right_comm, mul-pos, lt_of_mul-lt-mul_right, lt_of_lt_of_le, le_of_eq, le_antisymm, lt_of_not-le, le_of_suc-le-suc, eq_of_mul-eq-mul_right, mul-lt-mul_of_pos_right, zero-mul, mul-div_cancel, add-mul}
use native.Mathlib.Omega.{arith}
use mathlib.Core.Path.{◌≡◌, refl, sym, ap, ◌∙◌, subst}
use mathlib.Core.Bool.{Bool, true, false, not, cond, ◌||◌}
use lib.IntN.{ℤ}
use lib.Dec.{T, ltb, leb, eqb, ltb→lt, lt→ltb, leb→le, le→leb, eqb→eq}
use lib.Pow.{pow-add, pow_pos}
use lib.Ieee.{Float, nan, inf, fin, Format, emax, low, up, down, lt, le, eq, neg, fits, is_nan, below, level}
use lib.Ieee.Fits.{down_pos, eq→eqb, and_i, and_l, and_r}
use Rattle.floats.specs.Convert.{units_in}
use Rattle.floats.proofs.Values.{fine, steps, steps_are}

-- ---- the key
abbrev pub over : Format → ℕ
over f = 2 ^ (low f + suc (emax f))

abbrev pub mag : Format → Float → ℕ
mag = units_in

abbrev pub side : ℕ → Bool → ℕ → ℕ
side o s a = cond s (o - a) (o + a)

abbrev pub key : Format → Float → ℕ
key f nan = 0
key f (inf s) = side (over f) s (over f)
key f (fin s m e) = side (over f) s (m * up e * 2 ^ low f / down e)

module _ (f : Format) (s : Bool) (m : ℕ) (e : ℤ) (t : T (fits f (fin s m e))) where
  exact : m * up e * 2 ^ low f ≡ m * 2 ^ steps f e * down e
  exact = mul_assoc m (up e) (2 ^ low f) ∙ ap (λ (z : ℕ). m * z) (steps_are f e (fine f s m e t).deep) ∙ sym (mul_assoc m (2 ^ steps f e) (down e))

  pub mag_is : m * up e * 2 ^ low f / down e ≡ m * 2 ^ steps f e
  mag_is = ap (λ (z : ℕ). z / down e) exact ∙ mul-div_cancel (m * 2 ^ steps f e) (down_pos e)

  -- the magnitude, times the denominator
  pub mag_back : m * up e * 2 ^ low f ≡ mag f (fin s m e) * down e
  mag_back = exact ∙ ap (λ (z : ℕ). z * down e) (sym mag_is)

  pub mag_under : mag f (fin s m e) < over f
  mag_under =
      lt_of_mul-lt-mul_right (down e)
      (subst (λ (z : ℕ). z < over f * down e) mag_back
      (lt_of_lt_of_le (mul-lt-mul_of_pos_right (fine f s m e t).under (pow_pos (low f)))
      (le_of_eq (mul_right_comm (2 ^ suc (emax f)) (down e) (2 ^ low f) ∙ ap (λ (z : ℕ). z * down e) (mul_comm (2 ^ suc (emax f)) (2 ^ low f) ∙ sym (pow-add 2 (low f) (suc (emax f))))))))

-- ---- tests that say the same
same_test : (a b : Bool) → (T a → T b) → (T b → T a) → a ≡ b
same_test true true p q = refl
same_test true false p q = absurd (p tt)
same_test false true p q = absurd (q tt)
same_test false false p q = refl

same_lt : (a b c d : ℕ) → (a < b → c < d) → (c < d → a < b) → ltb a b ≡ ltb c d
same_lt a b c d p q = same_test (ltb a b) (ltb c d) (λ t. lt→ltb c d (p (ltb→lt a b t))) (λ t. lt→ltb a b (q (ltb→lt c d t)))

nothing : (a b : ℕ) → b ≤ a → false ≡ ltb a b
nothing a b h = same_test false (ltb a b) (λ t. absurd t) (λ t. no (ltb→lt a b t))
  where
    no : a < b → ⊥
    no l = omega arith

something : (a b : ℕ) → a < b → true ≡ ltb a b
something a b h = same_test true (ltb a b) (λ _. lt→ltb a b h) (λ _. tt)

-- ---- the tests on two numbers A and B that stand to each other as the magnitudes a and b do
module _ (o A B a b l k : ℕ) (L : 0 < l) (K : 0 < k) (P : a < o) (Q : b < o) (p : A * l ≡ a * k) (q : B * l ≡ b * k) where
  down_lt : A < B → a < b
  down_lt h = lt_of_mul-lt-mul_right k (subst (λ (z : ℕ). z < b * k) p (subst (λ (z : ℕ). A * l < z) q (mul-lt-mul_of_pos_right h L)))

  up_lt : a < b → A < B
  up_lt h = lt_of_mul-lt-mul_right l (subst (λ (z : ℕ). z < B * l) (sym p) (subst (λ (z : ℕ). a * k < z) (sym q) (mul-lt-mul_of_pos_right h K)))

  down_gt : B < A → b < a
  down_gt h = lt_of_mul-lt-mul_right k (subst (λ (z : ℕ). z < a * k) q (subst (λ (z : ℕ). B * l < z) p (mul-lt-mul_of_pos_right h L)))

  up_gt : b < a → B < A
  up_gt h = lt_of_mul-lt-mul_right l (subst (λ (z : ℕ). z < A * l) (sym q) (subst (λ (z : ℕ). b * k < z) (sym p) (mul-lt-mul_of_pos_right h K)))

  down_eq : A ≡ B → a ≡ b
  down_eq h = eq_of_mul-eq-mul_right k K a b (sym p ∙ ap (λ (z : ℕ). z * l) h ∙ q)

  up_eq : a ≡ b → A ≡ B
  up_eq h = eq_of_mul-eq-mul_right l L A B (p ∙ ap (λ (z : ℕ). z * k) h ∙ sym q)

  down_zero : A ≡ 0 → a ≡ 0
  down_zero h = eq_of_mul-eq-mul_right k K a 0 (sym p ∙ ap (λ (z : ℕ). z * l) h ∙ zero-mul l ∙ sym (zero-mul k))

  up_zero : a ≡ 0 → A ≡ 0
  up_zero h = eq_of_mul-eq-mul_right l L A 0 (p ∙ ap (λ (z : ℕ). z * k) h ∙ zero-mul k ∙ sym (zero-mul l))

  down_sum : 0 < A + B → 0 < a + b
  down_sum h = lt_of_mul-lt-mul_right k (subst (λ (z : ℕ). 0 * k < z) (add-mul A B l ∙ ap (λ (z : ℕ). z + B * l) p ∙ ap (λ (z : ℕ). a * k + z) q ∙ sym (add-mul a b k)) (subst (λ (z : ℕ). z < (A + B) * l) (sym (zero-mul k)) (mul-pos h L)))

  up-sum : 0 < a + b → 0 < A + B
  up-sum h = lt_of_mul-lt-mul_right l (subst (λ (z : ℕ). 0 * l < z) (add-mul a b k ∙ ap (λ (z : ℕ). z + b * k) (sym p) ∙ ap (λ (z : ℕ). A * l + z) (sym q) ∙ sym (add-mul A B l)) (subst (λ (z : ℕ). z < (a + b) * k) (sym (zero-mul l)) (mul-pos h K)))

  lt_sides : (s t : Bool) → below s A t B ≡ ltb (side o s a) (side o t b)
  lt_sides false false = same_lt A B (o + a) (o + b) (λ h. let g = down_lt h in omega arith) (λ h. up_lt (omega arith))
  lt_sides false true = nothing (o + a) (o - b) (omega arith)
  lt_sides true false = same_lt 0 (A + B) (o - a) (o + b) (λ h. let g = down_sum h in omega arith) (λ h. up-sum (omega arith))
  lt_sides true true = same_lt B A (o - a) (o - b) (λ h. let g = down_gt h in omega arith) (λ h. up_gt (omega arith))

  eq_sides : (s t : Bool) → level s A t B ≡ eqb (side o s a) (side o t b)
  eq_sides s t = same_test (level s A t B) (eqb (side o s a) (side o t b)) (there s t) (back s t)
    where
      there : (s t : Bool) → T (level s A t B) → T (eqb (side o s a) (side o t b))
      there false false h = eq→eqb (ap (λ (z : ℕ). o + z) (down_eq (eqb→eq A B (and_l (eqb A B) true h))))
      there true true h = eq→eqb (ap (λ (z : ℕ). o - z) (down_eq (eqb→eq A B (and_l (eqb A B) true h))))
      there false true h = eq→eqb {a = o + a} {b = o - b} (let x = down_eq (eqb→eq A B (and_l (eqb A B) (eqb A 0) h)) in let y = down_zero (eqb→eq A 0 (and_r (eqb A B) (eqb A 0) h)) in omega arith)
      there true false h = eq→eqb {a = o - a} {b = o + b} (let x = down_eq (eqb→eq A B (and_l (eqb A B) (eqb A 0) h)) in let y = down_zero (eqb→eq A 0 (and_r (eqb A B) (eqb A 0) h)) in omega arith)

      back : (s t : Bool) → T (eqb (side o s a) (side o t b)) → T (level s A t B)
      back false false h = and_i (eqb A B) true (eq→eqb (up_eq (let x = eqb→eq (o + a) (o + b) h in omega arith))) tt
      back true true h = and_i (eqb A B) true (eq→eqb (up_eq (let x = eqb→eq (o - a) (o - b) h in omega arith))) tt
      back false true h = let x = eqb→eq (o + a) (o - b) h in and_i (eqb A B) (eqb A 0) (eq→eqb (up_eq (omega arith))) (eq→eqb (up_zero (omega arith)))
      back true false h = let x = eqb→eq (o - a) (o + b) h in and_i (eqb A B) (eqb A 0) (eq→eqb (up_eq (omega arith))) (eq→eqb (up_zero (omega arith)))

-- ---- the order of floats is that of their keys
cross-left : (a d l x e : ℕ) → a * l ≡ x * e → a * d * l ≡ x * (e * d)
cross-left a d l x e p = mul_right_comm a d l ∙ ap (λ (z : ℕ). z * d) p ∙ mul_assoc x e d

cross-right : (b d l y e : ℕ) → b * l ≡ y * d → b * e * l ≡ y * (e * d)
cross-right b d l y e q = cross-left b e l y d q ∙ ap (λ (z : ℕ). y * z) (mul_comm d e)

pub lt_key : (f : Format) (x y : Float) → T (fits f x) → T (fits f y) → T (not (is_nan x)) → T (not (is_nan y)) → lt x y ≡ ltb (key f x) (key f y)
unfolding lt is_nan
lt_key f nan y p q u v = absurd u
lt_key f (inf s) nan p q u v = absurd v
lt_key f (inf true) (inf true) p q u v = nothing (over f - over f) (over f - over f) (omega arith)
lt_key f (inf true) (inf false) p q u v = something (over f - over f) (over f + over f) (omega (arith, pow_pos (low f + suc (emax f))))
lt_key f (inf false) (inf true) p q u v = nothing (over f + over f) (over f - over f) (omega arith)
lt_key f (inf false) (inf false) p q u v = nothing (over f + over f) (over f + over f) (omega arith)
lt_key f (inf true) (fin true n d) p q u v = something (over f - over f) (over f - mag f (fin true n d)) (omega (arith, mag_under f true n d q))
lt_key f (inf true) (fin false n d) p q u v = something (over f - over f) (over f + mag f (fin false n d)) (omega (arith, pow_pos (low f + suc (emax f))))
lt_key f (inf false) (fin true n d) p q u v = nothing (over f + over f) (over f - mag f (fin true n d)) (omega arith)
lt_key f (inf false) (fin false n d) p q u v = nothing (over f + over f) (over f + mag f (fin false n d)) (omega (arith, mag_under f false n d q))
lt_key f (fin s m e) nan p q u v = absurd v
lt_key f (fin true m e) (inf true) p q u v = nothing (over f - mag f (fin true m e)) (over f - over f) (omega arith)
lt_key f (fin true m e) (inf false) p q u v = something (over f - mag f (fin true m e)) (over f + over f) (omega (arith, pow_pos (low f + suc (emax f))))
lt_key f (fin false m e) (inf true) p q u v = nothing (over f + mag f (fin false m e)) (over f - over f) (omega arith)
lt_key f (fin false m e) (inf false) p q u v = something (over f + mag f (fin false m e)) (over f + over f) (omega (arith, mag_under f false m e p))
lt_key f (fin s m e) (fin t n d) p q u v =
    lt_sides (over f) (m * up e * down d) (n * up d * down e) (mag f (fin s m e)) (mag f (fin t n d)) (2 ^ low f) (down e * down d) (pow_pos (low f)) (mul-pos (down_pos e) (down_pos d)) (mag_under f s m e p) (mag_under f t n d q)
    (cross-left (m * up e) (down d) (2 ^ low f) (mag f (fin s m e)) (down e) (mag_back f s m e p))
    (cross-right (n * up d) (down d) (2 ^ low f) (mag f (fin t n d)) (down e) (mag_back f t n d q)) s t

differ : (a b : ℕ) → (a ≡ b → ⊥) → false ≡ eqb a b
differ a b h = same_test false (eqb a b) (λ t. absurd t) (λ t. h (eqb→eq a b t))

agree : (a b : ℕ) → a ≡ b → true ≡ eqb a b
agree a b h = same_test true (eqb a b) (λ _. eq→eqb h) (λ _. tt)

pub eq_key : (f : Format) (x y : Float) → T (fits f x) → T (fits f y) → T (not (is_nan x)) → T (not (is_nan y)) → eq x y ≡ eqb (key f x) (key f y)
unfolding eq is_nan
eq_key f nan y p q u v = absurd u
eq_key f (inf s) nan p q u v = absurd v
eq_key f (inf true) (inf true) p q u v = agree (over f - over f) (over f - over f) refl
eq_key f (inf true) (inf false) p q u v = differ (over f - over f) (over f + over f) (λ h. omega (arith, pow_pos (low f + suc (emax f))))
eq_key f (inf false) (inf true) p q u v = differ (over f + over f) (over f - over f) (λ h. omega (arith, pow_pos (low f + suc (emax f))))
eq_key f (inf false) (inf false) p q u v = agree (over f + over f) (over f + over f) refl
eq_key f (inf true) (fin true n d) p q u v = differ (over f - over f) (over f - mag f (fin true n d)) (λ h. omega (arith, mag_under f true n d q))
eq_key f (inf true) (fin false n d) p q u v = differ (over f - over f) (over f + mag f (fin false n d)) (λ h. omega (arith, pow_pos (low f + suc (emax f))))
eq_key f (inf false) (fin true n d) p q u v = differ (over f + over f) (over f - mag f (fin true n d)) (λ h. omega (arith, pow_pos (low f + suc (emax f))))
eq_key f (inf false) (fin false n d) p q u v = differ (over f + over f) (over f + mag f (fin false n d)) (λ h. omega (arith, mag_under f false n d q))
eq_key f (fin s m e) nan p q u v = absurd v
eq_key f (fin true m e) (inf true) p q u v = differ (over f - mag f (fin true m e)) (over f - over f) (λ h. omega (arith, mag_under f true m e p))
eq_key f (fin true m e) (inf false) p q u v = differ (over f - mag f (fin true m e)) (over f + over f) (λ h. omega (arith, pow_pos (low f + suc (emax f))))
eq_key f (fin false m e) (inf true) p q u v = differ (over f + mag f (fin false m e)) (over f - over f) (λ h. omega (arith, pow_pos (low f + suc (emax f))))
eq_key f (fin false m e) (inf false) p q u v = differ (over f + mag f (fin false m e)) (over f + over f) (λ h. omega (arith, mag_under f false m e p))
eq_key f (fin s m e) (fin t n d) p q u v =
    eq_sides (over f) (m * up e * down d) (n * up d * down e) (mag f (fin s m e)) (mag f (fin t n d)) (2 ^ low f) (down e * down d) (pow_pos (low f)) (mul-pos (down_pos e) (down_pos d)) (mag_under f s m e p) (mag_under f t n d q)
    (cross-left (m * up e) (down d) (2 ^ low f) (mag f (fin s m e)) (down e) (mag_back f s m e p))
    (cross-right (n * up d) (down d) (2 ^ low f) (mag f (fin t n d)) (down e) (mag_back f t n d q)) s t

or_cases : (a b : ℕ) → ltb a b || eqb a b ≡ leb a b
or_cases a b = same_test (ltb a b || eqb a b) (leb a b) (λ t. le→leb a b (there (ltb a b) (ltb→lt a b) t)) (λ t. back (ltb a b) (lt→ltb a b) (leb→le a b t))
  where
    there : (c : Bool) → (T c → a < b) → T (c || eqb a b) → a ≤ b
    there true h t = let g = h tt in omega arith
    there false h t = let g = eqb→eq a b t in omega arith

    back : (c : Bool) → (a < b → T c) → a ≤ b → T (c || eqb a b)
    back true h l = tt
    back false h l = eq→eqb (le_antisymm l (le_of_suc-le-suc (lt_of_not-le (λ (g : suc a ≤ b). h g))))

pub le_key : (f : Format) (x y : Float) → T (fits f x) → T (fits f y) → T (not (is_nan x)) → T (not (is_nan y)) → le x y ≡ leb (key f x) (key f y)
unfolding le
le_key f x y p q u v = ap (λ (b : Bool). b || eq x y) (lt_key f x y p q u v) ∙ ap (λ (b : Bool). ltb (key f x) (key f y) || b) (eq_key f x y p q u v) ∙ or_cases (key f x) (key f y)

pub key_neg : (f : Format) (x : Float) → T (fits f x) → T (not (is_nan x)) → key f (neg x) + key f x ≡ 2 * over f
unfolding neg is_nan
key_neg f nan p u = absurd u
key_neg f (inf true) p u = omega arith
key_neg f (inf false) p u = omega arith
key_neg f (fin true m e) p u = omega (arith, mag_under f true m e p)
key_neg f (fin false m e) p u = omega (arith, mag_under f false m e p)
