-- `floor` by the whole part of the magnitude, over the format: what a form of it with tests and casts has to show; and one floor for
-- both formats.
use Rattle.std.proofs.Common.{◌≡◌, ℕ, suc, ◌+◌, ◌-◌, ◌*◌, ◌/◌, ◌^◌, ◌<◌, ◌≤◌, Bool, true, false, T, ltb, ℤ, pos, negsuc, sym, refl, ap, ◌∙◌, subst, le_trans, lt_of_lt_of_le, le_of_lt, lt_irrefl, mod-lt, div-lt_iff_lt-mul, one-mul, div-add-mod', zero-mul, mul-one, div-le_self, le-mul_of_pos_right, mul-div_cancel, arith, ltb→lt, pow_pos, pow_mono, ltb-false, ltb-true}
use native.Mathlib.Nat.{div-eq_of_lt-le}
use mathlib.Core.Bool.{false≢true}
use lib.Ieee.{Float, nan, inf, fin, Format, binary32, binary64, prec, up, down, lt, neg, round, of_int, to_unsigned, fits}
use lib.Ieee.Fits.{down_pos, round-fits, fits_widens}
use lib.Ieee.Back.{round_whole, whole_unique}
use Rattle.floats.specs.Whole.{floor, cut, lift}
use Rattle.floats.proofs.Values.{fine, neg_round}
use Rattle.floats.proofs.Order.{lt_values}
use Rattle.floats.proofs.Floored.{up_one, kept, lift_le}

-- ---- quotients
exact-lift : (a d q : ℕ) → 0 < d → a ≡ q * d → (a + (d - 1)) / d ≡ q
exact-lift a d q D h = div-eq_of_lt-le d (omega arith) (omega (arith, up_one q d))

exact-cut : (a d q : ℕ) → 0 < d → a ≡ q * d → a / d ≡ q
exact-cut a d q D h = ap (λ (z : ℕ). z / d) h ∙ mul-div_cancel q D

-- a whole part that is below the number is one less than the number brought up
next-lift : (a d : ℕ) → 0 < d → a / d * d < a → (a + (d - 1)) / d ≡ a / d + 1
next-lift a d D h = div-eq_of_lt-le d (omega (arith, up_one (a / d) d)) (omega (arith, up_one (a / d) d, up_one (a / d + 1) d, div-add-mod' a d, mod-lt a D))

no_rest : (a d : ℕ) → a ≤ a / d * d → a ≡ a / d * d
no_rest a d h = omega (arith, div-add-mod' a d)

-- ---- a whole number is its own floor
pub floor_of_whole : (f : Format) (s : Bool) (m : ℕ) (e : ℤ) (q : ℕ) → T (fits f (fin s m e)) → m * up e ≡ q * down e → fin s m e ≡ floor f (fin s m e)
unfolding floor
floor_of_whole f false m e q t h = sym (ap (λ (z : ℕ). round f false z 1) (exact-cut (m * up e) (down e) q (down_pos e) h) ∙ kept f false m e q t h)
floor_of_whole f true m e q t h = sym (ap (λ (z : ℕ). round f true z 1) (exact-lift (m * up e) (down e) q (down_pos e) h) ∙ kept f true m e q t h)

-- from 2 ^ prec on there is no fraction
large : (f : Format) (m : ℕ) (e : ℤ) → m < 2 ^ prec f → 1 * 2 ^ prec f * down e ≤ m * up e * 1 → m * up e ≡ m * up e * down e
large f m (pos k) l h = sym (mul-one (m * 2 ^ k))
large f m (negsuc k) l h =
    let g : 2 ^ prec f ≤ 2 ^ prec f * 2 ^ suc k = le-mul_of_pos_right (2 ^ prec f) (pow_pos (suc k)) in
    let i : 2 ^ prec f * 2 ^ suc k ≤ m = rw (one-mul, mul-one, mul-one) at h in
    absurd (lt_irrefl m (lt_of_lt_of_le l (le_trans g i)))

pub floor_large : (f : Format) (x : Float) → T (fits f x) → lt (fin false 0 (pos 0)) x ≡ true → lt x (fin false 1 (pos (prec f))) ≡ false → x ≡ floor f x
unfolding lt floor
floor_large f nan t h k = refl
floor_large f (inf s) t h k = refl
floor_large f (fin true m e) t h k = absurd (false≢true h)
floor_large f (fin false m e) t h k = floor_of_whole f false m e (m * up e) t (large f m e (fine f false m e t).few (ltb-false _ _ k))

pub floor_large_neg : (f : Format) (x : Float) → T (fits f x) → lt x (fin false 0 (pos 0)) ≡ true → lt (neg x) (fin false 1 (pos (prec f))) ≡ false → x ≡ floor f x
unfolding lt neg floor
floor_large_neg f nan t h k = refl
floor_large_neg f (inf s) t h k = refl
floor_large_neg f (fin false m e) t h k = absurd (zero_least (m * up e * 1) (0 * 2 ^ 0 * down e) (zero-mul (down e)) (ltb-true _ _ h))
  where
    zero_least : (a z : ℕ) → z ≡ 0 → a < z → ⊥
    zero_least a z e p = omega arith
floor_large_neg f (fin true m e) t h k = floor_of_whole f true m e (m * up e) t (large f m e (fine f true m e t).few (ltb-false _ _ k))

-- neither above nor below 0: a zero or a NaN
pub floor_of_zero : (f : Format) (x : Float) → T (fits f x) → lt (fin false 0 (pos 0)) x ≡ false → lt x (fin false 0 (pos 0)) ≡ false → x ≡ floor f x
unfolding lt floor
floor_of_zero f nan t h k = refl
floor_of_zero f (inf s) t h k = refl
floor_of_zero f (fin false m e) t h k = floor_of_whole f false m e 0 t (none (m * up e) (0 * 2 ^ 0 * down e) (zero-mul (down e)) (ltb-false _ _ h) ∙ sym (zero-mul (down e)))
  where
    none : (a z : ℕ) → z ≡ 0 → a * 1 ≤ z → a ≡ 0
    none a z e p = omega arith
floor_of_zero f (fin true m e) t h k = floor_of_whole f true m e 0 t (none (m * up e) (0 * 2 ^ 0 * down e) (ltb-false _ _ k) ∙ sym (zero-mul (down e)))
  where
    none : (a z : ℕ) → a * 1 + z ≤ 0 → a ≡ 0
    none a z p = omega arith

-- ---- above 0
whole_of : (w m : ℕ) (e : ℤ) → lt (fin false m e) (fin false 1 (pos w)) ≡ true → cut m e < 2 ^ w
unfolding lt
whole_of w m e h = let p : m * up e * 1 < 1 * 2 ^ w * down e = ltb-true _ _ h in (div-lt_iff_lt-mul (down_pos e)).1 (rw (mul-one, one-mul) at p)

pub whole_is : (v w m : ℕ) (e : ℤ) → v ≤ w → lt (fin false m e) (fin false 1 (pos v)) ≡ true → to_unsigned w (fin false m e) ≡ cut m e
unfolding to_unsigned
whole_is v w m e l h = omega (arith, whole_of v m e h, pow_mono l)

pub floor_small : (f : Format) (v w : ℕ) (x : Float) → v ≤ w → lt (fin false 0 (pos 0)) x ≡ true → lt x (fin false 1 (pos v)) ≡ true → of_int f (pos (to_unsigned w x)) ≡ floor f x
unfolding lt floor of_int
floor_small f v w nan l h k = absurd (false≢true h)
floor_small f v w (inf true) l h k = absurd (false≢true h)
floor_small f v w (inf false) l h k = absurd (false≢true k)
floor_small f v w (fin true m e) l h k = absurd (false≢true h)
floor_small f v w (fin false m e) l h k = ap (λ (z : ℕ). round f false z 1) (whole_is v w m e l k)

-- ---- below 0: whether the whole part of the magnitude is below the magnitude
under : (f : Format) (m : ℕ) (e : ℤ) → cut m e < 2 ^ prec f → lt (of_int f (pos (cut m e))) (fin false m e) ≡ ltb (cut m e * down e) (m * up e * 1)
unfolding of_int
under f m e h = lt_values (round f false (cut m e) 1) (fin false m e) (cut m e) 1 (m * up e) (down e) (ltb→lt 0 1 tt) (down_pos e) (round_whole f false (cut m e) (le_of_lt h)) (refl, refl)

not_neg : (m : ℕ) (e : ℤ) → lt (fin false m e) (fin false 0 (pos 0)) ≡ true → ⊥
unfolding lt
not_neg m e h = none (m * up e * 1) (0 * 2 ^ 0 * down e) (zero-mul (down e)) (ltb-true _ _ h)
  where
    none : (a z : ℕ) → z ≡ 0 → a < z → ⊥
    none a z e p = omega arith

neg_int : (f : Format) (n : ℕ) → neg (of_int f (pos n)) ≡ round f true n 1
unfolding of_int
neg_int f n = neg_round f false n 1

abbrev pub Below : Format → ℕ → Float → Bool → Type 0
Below f w x t = lt (of_int f (pos (to_unsigned w (neg x)))) (neg x) ≡ t

pub floor_down : (f : Format) (w : ℕ) (x : Float) → prec f ≤ w → lt x (fin false 0 (pos 0)) ≡ true → lt (neg x) (fin false 1 (pos (prec f))) ≡ true → Below f w x true
    → neg (of_int f (pos (to_unsigned w (neg x) + 1))) ≡ floor f x
unfolding lt neg floor
floor_down f w nan l h k b = absurd (false≢true h)
floor_down f w (inf true) l h k b = absurd (false≢true k)
floor_down f w (inf false) l h k b = absurd (false≢true h)
floor_down f w (fin false m e) l h k b = absurd (not_neg m e h)
floor_down f w (fin true m e) l h k b =
    let n : to_unsigned w (fin false m e) ≡ cut m e = whole_is (prec f) w m e l k in
    let p : lt (of_int f (pos (cut m e))) (fin false m e) ≡ true = subst (λ (z : ℕ). lt (of_int f (pos z)) (fin false m e) ≡ true) n b in
    let q : cut m e * down e < m * up e * 1 = ltb-true _ _ (sym (under f m e (whole_of (prec f) m e k)) ∙ p) in
    let r : lift m e ≡ cut m e + 1 = next-lift (m * up e) (down e) (down_pos e) (omega arith) in
    neg_int f (to_unsigned w (fin false m e) + 1) ∙ ap (λ (z : ℕ). round f true z 1) (ap (λ (z : ℕ). z + 1) n ∙ sym r)

pub floor-even : (f : Format) (w : ℕ) (x : Float) → prec f ≤ w → lt x (fin false 0 (pos 0)) ≡ true → lt (neg x) (fin false 1 (pos (prec f))) ≡ true → Below f w x false
    → neg (of_int f (pos (to_unsigned w (neg x)))) ≡ floor f x
unfolding lt neg floor
floor-even f w nan l h k b = absurd (false≢true h)
floor-even f w (inf true) l h k b = absurd (false≢true k)
floor-even f w (inf false) l h k b = absurd (false≢true h)
floor-even f w (fin false m e) l h k b = absurd (not_neg m e h)
floor-even f w (fin true m e) l h k b =
    let n : to_unsigned w (fin false m e) ≡ cut m e = whole_is (prec f) w m e l k in
    let p : lt (of_int f (pos (cut m e))) (fin false m e) ≡ false = subst (λ (z : ℕ). lt (of_int f (pos z)) (fin false m e) ≡ false) n b in
    let q : m * up e * 1 ≤ cut m e * down e = ltb-false _ _ (sym (under f m e (whole_of (prec f) m e k)) ∙ p) in
    let r : lift m e ≡ cut m e = exact-lift (m * up e) (down e) (cut m e) (down_pos e) (no_rest (m * up e) (down e) (omega arith)) in
    neg_int f (to_unsigned w (fin false m e)) ∙ ap (λ (z : ℕ). round f true z 1) (n ∙ sym r)

-- ---- one floor for both formats
whole-both : (s : Bool) (n : ℕ) → n < 2 ^ 24 → round binary64 s n 1 ≡ round binary32 s n 1
whole-both s n h =
    let p : n ≤ 2 ^ 24 = le_of_lt h in
    let q : n ≤ 2 ^ 53 = omega arith in
    whole_unique binary64 (round binary64 s n 1) (round binary32 s n 1) s n (round-fits binary64 s n 1) (fits_widens (round binary32 s n 1) (round-fits binary32 s n 1)) (round_whole binary64 s n q) (round_whole binary32 s n p)

pub floor_widens : (x : Float) → T (fits binary32 x) → floor binary64 x ≡ floor binary32 x
unfolding floor
floor_widens nan t = refl
floor_widens (inf s) t = refl
floor_widens (fin s m (pos k)) t = sym (floor_of_whole binary64 s m (pos k) (m * 2 ^ k) (fits_widens (fin s m (pos k)) t) (sym (mul-one (m * 2 ^ k)))) ∙ floor_of_whole binary32 s m (pos k) (m * 2 ^ k) t (sym (mul-one (m * 2 ^ k)))
floor_widens (fin false m (negsuc k)) t = whole-both false (cut m (negsuc k)) (omega (arith, (fine binary32 false m (negsuc k) t).few, div-le_self (m * 1) (2 ^ suc k)))
floor_widens (fin true m (negsuc k)) t = whole-both true (lift m (negsuc k)) (omega (arith, (fine binary32 true m (negsuc k) t).few, lift_le (m * 1) (2 ^ suc k) (pow_pos (suc k))))
