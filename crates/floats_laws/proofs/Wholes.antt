-- Floats that are whole numbers: sums and differences of small ones are exact. A whole number is told by its distance above -1000, so that signs go by themselves.
use Prim.Native.Nat.{ℕ, ◌+◌, ◌-◌, ◌*◌, ◌^◌, ◌≤◌, ◌<◌}
use native.Mathlib.Nat.{mul_comm, mul_assoc, mul-one, mul-pos, add-mul, mul-sub, mul-le-mul_right, mul-lt-mul_of_pos_right, le_of_mul-le-mul_right, zero-mul}
use native.Mathlib.Omega.{arith}
use mathlib.Core.Path.{◌≡◌, refl, sym, ap, ◌∙◌, subst}
use mathlib.Core.Bool.{Bool, true, false, not, cond}
use borrow.Author.Tests.{ltb-true, ltb-false, lt-ltb, le-ltb}
use lib.IntN.{pos}
use lib.Dec.{T, ltb, lit<, le→leb}
use lib.Ieee.{Float, nan, inf, fin, binary32, up, down, round, sum, add, sub, neg, lt, below, fits, of_int, in_float, to_unsigned}
use lib.Ieee.Back.{round_whole, unsigned_back}
use lib.Ieee.Exact.{HasValue}
use lib.Ieee.Fits.{down_pos, round-fits}
use lib.Ieee.Scale.{round_same}
use Rattle.sequences.specs.Pick.{by-case}
use Rattle.floats.specs.Names.{add32, sub32}
use Rattle.floats.proofs.Values.{unique}

-- x is the whole number k - 1000
pub record At (x : Float) (k : ℕ) : Type 0 where
  pub sign : Bool
  pub n : ℕ
  pub is : HasValue x sign n 1
  pub place : cond sign (k + n ≡ 1000) (k ≡ 1000 + n)

-- ---- sums
scaled : (m u v w a : ℕ) → m * u * 1 ≡ a * v → m * u * w ≡ a * (v * w)
scaled m u v w a h = ap (λ (z : ℕ). z * w) (sym (mul-one (m * u)) ∙ h) ∙ mul_assoc a v w

-- a whole number over 1
over-one : (c : ℕ) → 0 < c → (s : Bool) (k : ℕ) → round binary32 s (k * c) c ≡ round binary32 s k 1
over-one c C s k = round_same binary32 s (k * c) c k 1 C (lit< tt) (mul-one (k * c))

sub_mul : (a b c : ℕ) → (a - b) * c ≡ a * c - b * c
sub_mul a b c = mul_comm (a - b) c ∙ mul-sub c a b ∙ rw (mul_comm c a, mul_comm c b)

ltb_scaled : (a b c : ℕ) → 0 < c → ltb (a * c) (b * c) ≡ ltb a b
ltb_scaled a b c C =
    by-case (ltb a b) (λ q. lt-ltb (a * c) (b * c) (mul-lt-mul_of_pos_right (ltb-true a b q) C) ∙ sym q) (λ q. le-ltb (a * c) (b * c) (mul-le-mul_right c (ltb-false a b q)) ∙ sym q)

whole_sum : (s t : Bool) (a b c : ℕ) → 0 < c → a + b ≤ 2 ^ 24 → (k j : ℕ) → cond s (k + a ≡ 1000) (k ≡ 1000 + a) → cond t (j + b ≡ 1000) (j ≡ 1000 + b) → 1000 ≤ k + j → At (sum binary32 s (a * c) t (b * c) c) (k + j - 1000)
unfolding sum
whole_sum false false a b c C l k j p q r =
    record {
      sign = false;
      n = a + b;
      is = rw (← add-mul a b c, over-one c C false (a + b)) (round_whole binary32 false (a + b) l);
      place = omega arith;
    }
whole_sum true true a b c C l k j p q r =
    record {
      sign = true;
      n = a + b;
      is = rw (← add-mul a b c, over-one c C true (a + b)) (round_whole binary32 true (a + b) l);
      place = omega arith;
    }
whole_sum false true a b c C l k j p q r =
    rw (ltb_scaled a b c C)
    (by-case (ltb a b)
    (λ z.
    let h = ltb-true a b z in
    rw z
    (record {
      sign = true;
      n = b - a;
      is = rw (← sub_mul b a c, over-one c C true (b - a)) (round_whole binary32 true (b - a) (omega arith));
      place = omega arith;
    }))
    (λ z.
    let h = ltb-false a b z in
    rw z
    (record {
      sign = false;
      n = a - b;
      is = rw (← sub_mul a b c, over-one c C false (a - b)) (round_whole binary32 false (a - b) (omega arith));
      place = omega arith;
    })))
whole_sum true false a b c C l k j p q r =
    rw (ltb_scaled a b c C, ltb_scaled b a c C)
    (by-case (ltb a b)
    (λ z.
    let h = ltb-true a b z in
    rw z
    (record {
      sign = false;
      n = b - a;
      is = rw (← sub_mul b a c, over-one c C false (b - a)) (round_whole binary32 false (b - a) (omega arith));
      place = omega arith;
    }))
    (λ z.
    let h = ltb-false a b z in
    rw z
    (by-case (ltb b a)
    (λ y.
    let g = ltb-true b a y in
    rw y
    (record {
      sign = true;
      n = a - b;
      is = rw (← sub_mul a b c, over-one c C true (a - b)) (round_whole binary32 true (a - b) (omega arith));
      place = omega arith;
    }))
    (λ y.
    let g = ltb-false b a y in
    rw y
    (record {
      sign = false;
      n = a - b;
      is = rw (← sub_mul a b c, over-one c C false (a - b)) (round_whole binary32 false (a - b) (omega arith));
      place = omega arith;
    })))))

-- how large it is
small : (s : Bool) (n k : ℕ) → cond s (k + n ≡ 1000) (k ≡ 1000 + n) → k ≤ 4000 → n ≤ 4000
small true n k h l = omega arith
small false n k h l = omega arith

-- the sum of k - 1000 and j - 1000
pub at_sum : (x y : Float) (k j : ℕ) → At x k → At y j → k ≤ 4000 → j ≤ 4000 → 1000 ≤ k + j → At (add32 x y) (k + j - 1000)
unfolding add
at_sum nan y k j p q u v r = absurd p.is
at_sum (inf s) y k j p q u v r = absurd p.is
at_sum (fin s m e) nan k j p q u v r = absurd q.is
at_sum (fin s m e) (inf t) k j p q u v r = absurd q.is
at_sum (fin s m e) (fin t n d) k j p q u v r =
    let a : m * up e * down d ≡ p.n * (down e * down d) = scaled m (up e) (down e) (down d) p.n p.is.1 in
    let b : n * up d * down e ≡ q.n * (down e * down d) = scaled n (up d) (down d) (down e) q.n q.is.1 ∙ ap (λ (z : ℕ). q.n * z) (mul_comm (down d) (down e)) in
    let l = small p.sign p.n k p.place u in
    let w = small q.sign q.n j q.place v in
    rw (a, b, p.is.0, q.is.0)
    (whole_sum p.sign q.sign p.n q.n (down e * down d) (mul-pos (down_pos e) (down_pos d)) (omega arith) k j p.place q.place r)

pub at_neg : (x : Float) (k : ℕ) → k ≤ 2000 → At x k → At (neg x) (2000 - k)
unfolding neg
at_neg nan k l p = absurd p.is
at_neg (inf s) k l p = absurd p.is
at_neg (fin s m e) k l p = record { sign = not p.sign; n = p.n; is = (ap not p.is.0, p.is.1); place = turned p.sign p.n p.place }
  where
    turned : (s : Bool) (n : ℕ) → cond s (k + n ≡ 1000) (k ≡ 1000 + n) → cond (not s) (2000 - k + n ≡ 1000) (2000 - k ≡ 1000 + n)
    turned true n h = omega arith
    turned false n h = omega arith

pub at-difference : (x y : Float) (k j : ℕ) → At x k → At y j → k ≤ 4000 → j ≤ 2000 → j ≤ 1000 + k → At (sub32 x y) (k + 1000 - j)
unfolding sub
at-difference x y k j p q u v r = subst (At (sub32 x y)) (omega arith) (at_sum x (neg y) k (2000 - j) p (at_neg y j v q) u (omega arith) (omega arith))

pub at-whole : (n : ℕ) → n ≤ 2 ^ 24 → At (of_int binary32 (pos n)) (1000 + n)
unfolding of_int
at-whole n h = record { sign = false; n = n; is = round_whole binary32 false n h; place = refl }

-- as a word of 32 bits
pub at-word : (x : Float) (n : ℕ) → T (fits binary32 x) → 0 < n → n ≤ 4000 → At x (1000 + n) → to_unsigned 32 x ≡ n
unfolding in_float of_int
at-word x n f g l p =
    let v = plain p.sign p.n p.is p.place in
    ap (to_unsigned 32) (unique binary32 x (round binary32 false n 1) false n 1 (lit< tt) f (round-fits binary32 false n 1) v (round_whole binary32 false n (omega arith)))
    ∙ (unsigned_back binary32 32 n (le→leb n (2 ^ 24) (omega arith)) (omega arith)).1
  where
    plain : (s : Bool) (m : ℕ) → HasValue x s m 1 → cond s (1000 + n + m ≡ 1000) (1000 + n ≡ 1000 + m) → HasValue x false n 1
    plain false m v h = subst (λ (k : ℕ). HasValue x false k 1) (omega arith) v
    plain true m v h = absurd (omega arith)

-- a test that failed
pub at_not_below : (x y : Float) (k j : ℕ) → At x k → At y j → lt x y ≡ false → j ≤ k
unfolding lt
at_not_below nan y k j p q h = absurd p.is
at_not_below (inf s) y k j p q h = absurd p.is
at_not_below (fin s m e) nan k j p q h = absurd q.is
at_not_below (fin s m e) (inf t) k j p q h = absurd q.is
at_not_below (fin s m e) (fin t n d) k j p q h =
    let a : m * up e * down d ≡ p.n * (down e * down d) = scaled m (up e) (down e) (down d) p.n p.is.1 in
    let b : n * up d * down e ≡ q.n * (down e * down d) = scaled n (up d) (down d) (down e) q.n q.is.1 ∙ ap (λ (z : ℕ). q.n * z) (mul_comm (down d) (down e)) in
    go p.sign q.sign p.n q.n (down e * down d) (mul-pos (down_pos e) (down_pos d)) p.place q.place (rw (a, b, p.is.0, q.is.0) at h)
  where
    go : (s t : Bool) (a b c : ℕ) → 0 < c → cond s (k + a ≡ 1000) (k ≡ 1000 + a) → cond t (j + b ≡ 1000) (j ≡ 1000 + b) → below s (a * c) t (b * c) ≡ false → j ≤ k
    go false false a b c C p q h = let g = ltb-false a b (sym (ltb_scaled a b c C) ∙ h) in omega arith
    go false true a b c C p q h = omega arith
    go true false a b c C p q h =
        let g = ltb-false 0 (a * c + b * c) h in
        let u : a ≤ 0 = le_of_mul-le-mul_right (omega (arith, zero-mul c)) C in
        let v : b ≤ 0 = le_of_mul-le-mul_right (omega (arith, zero-mul c)) C in
        omega arith
    go true true a b c C p q h = let g = ltb-false b a (sym (ltb_scaled b a c C) ∙ h) in omega arith
