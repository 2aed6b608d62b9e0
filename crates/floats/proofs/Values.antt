-- Over the format: a value that fits is known by its sign and its fraction, `round` leaves it, and a sign goes through `round`.
use Rattle.std.proofs.Common.{◌≡◌, ℕ, zero, suc, ◌+◌, ◌-◌, ◌*◌, ◌/◌, ◌%◌, ◌^◌, ◌<◌, ◌≤◌, Bool, true, false, cond, not, ◌&&◌, T, eqb, ltb, leb, ℤ, pos, negsuc, sym, refl, ap, ◌∙◌, subst, le_trans, le_of_eq, lt_of_lt_of_le, le_of_suc-le-suc, lt_irrefl, mul-le-mul_right, mul_assoc, mul_comm, lt_of_mul-lt-mul_right, mul-lt-mul_of_pos_right, mul-pos, one-mul, lt_of_not-le, zero-mul, mul-one, mul_right_comm, eqb→eq, ltb→lt, leb→le, pow_pos, pow-add}
use native.Mathlib.Nat.{eq_of_mul-eq-mul_right}
use lib.Pow.{pow-lt}
use lib.Ieee.{Float, nan, inf, fin, Format, prec, emax, low, up, down, top, hid, size, odd, units, round, neg, fits, to_bits, of_bits}
use lib.Ieee.Digits.{back}
use lib.Ieee.Fits.{up_pos, down_pos, and_l, and_r, round-fits, round_is}
use lib.Ieee.Bits.{of_bits-to_bits}
use lib.Ieee.Nearest.{div_same}
use lib.Ieee.Exact.{HasValue, round_exact}
use lib.Ieee.Order.{kept, drop}

-- ---- one value, one float
to_bits_cong : (f : Format) (s : Bool) (m : ℕ) (e : ℤ) (n : ℕ) (d : ℤ) → m * up e * down d ≡ n * up d * down e → to_bits f (fin s m e) ≡ to_bits f (fin s n d)
unfolding to_bits
to_bits_cong f s m e n d h =
    let l = 2 ^ low f in
    let x : m * up e * l * down d ≡ n * up d * l * down e = mul_right_comm (m * up e) l (down d) ∙ ap (λ (z : ℕ). z * l) h ∙ mul_right_comm (n * up d) (down e) l in
    ap (λ (z : ℕ). cond s (top f) 0 + (size z - prec f) * hid f + z / 2 ^ (size z - prec f)) (div_same (m * up e * l) (down e) (n * up d * l) (down d) (down_pos e) (down_pos d) x)

pub same_fin : (f : Format) (s : Bool) (m : ℕ) (e : ℤ) (n : ℕ) (d : ℤ) → T (fits f (fin s m e)) → T (fits f (fin s n d)) → m * up e * down d ≡ n * up d * down e → fin s m e ≡ fin s n d
same_fin f s m e n d p q h = sym (of_bits-to_bits f (fin s m e) p) ∙ ap (λ (b : ℕ). of_bits f b) (to_bits_cong f s m e n d h) ∙ of_bits-to_bits f (fin s n d) q

cross : (x y a c u v : ℕ) → 0 < c → x * c ≡ a * u → y * c ≡ a * v → x * v ≡ y * u
cross x y a c u v C p q =
    eq_of_mul-eq-mul_right c C (x * v) (y * u)
    (mul_right_comm x v c ∙ ap (λ (z : ℕ). z * v) p ∙ mul_right_comm a u v ∙ ap (λ (z : ℕ). z * u) (sym q) ∙ mul_right_comm y c u)

pub unique : (f : Format) (x y : Float) (s : Bool) (a c : ℕ) → 0 < c → T (fits f x) → T (fits f y) → HasValue x s a c → HasValue y s a c → x ≡ y
unique f nan y s a c C p q v w = absurd v
unique f (inf t) y s a c C p q v w = absurd v
unique f (fin t m e) nan s a c C p q v w = absurd w
unique f (fin t m e) (inf u) s a c C p q v w = absurd w
unique f (fin t m e) (fin u n d) s a c C p q v w =
    let r : u ≡ t = w.0 ∙ sym v.0 in
    same_fin f t m e n d p (subst (λ (z : Bool). T (fits f (fin z n d))) r q) (cross (m * up e) (n * up d) a c (down e) (down d) C v.1 w.1) ∙ ap (λ (z : Bool). fin z n d) (sym r)

-- ---- what `fits` says
pub record Fine (f : Format) (m : ℕ) (e : ℤ) : Type 0 where
  pub few : m < 2 ^ prec f
  pub deep : down e ≤ 2 ^ low f
  pub under : m * up e < 2 ^ suc (emax f) * down e

pub fine : (f : Format) (s : Bool) (m : ℕ) (e : ℤ) → T (fits f (fin s m e)) → Fine f m e
unfolding fits
fine f s zero e t =
    let h = eqb→eq (up e * down e) 1 t in
    let d : down e ≤ 1 = le_trans (le_of_eq (sym (one-mul (down e)))) (le_trans (mul-le-mul_right (down e) (up_pos e)) (le_of_eq h)) in
    record {
      few = pow_pos (prec f);
      deep = le_trans d (pow_pos (low f));
      under = subst (λ (z : ℕ). z < 2 ^ suc (emax f) * down e) (sym (zero-mul (up e))) (mul-pos (pow_pos (suc (emax f))) (down_pos e));
    }
fine f s (suc m) e t =
    let a = eqb (suc m % 2) 1 in
    let b = ltb (suc m) (2 ^ prec f) in
    let c = leb (down e) (2 ^ low f) in
    let d = ltb (suc m * up e) (2 ^ suc (emax f) * down e) in
    record {
      few = ltb→lt (suc m) (2 ^ prec f) (and_r a b (and_l (a && b) c (and_l (a && b && c) d t)));
      deep = leb→le (down e) (2 ^ low f) (and_r (a && b) c (and_l (a && b && c) d t));
      under = ltb→lt (suc m * up e) (2 ^ suc (emax f) * down e) (and_r (a && b && c) d t);
    }

-- ---- `round` leaves a value that fits
pub pow_le_back : (a l : ℕ) → 2 ^ a ≤ 2 ^ l → a ≤ l
pow_le_back a l h = le_of_suc-le-suc (lt_of_not-le (λ (g : suc l ≤ a). lt_irrefl (2 ^ l) (lt_of_lt_of_le (pow-lt g) h)))

-- 2 ^ e is 2 ^ j of the smallest values
abbrev pub steps : Format → ℤ → ℕ
steps f (pos k) = k + low f
steps f (negsuc k) = low f - suc k

pub steps_are : (f : Format) (e : ℤ) → down e ≤ 2 ^ low f → up e * 2 ^ low f ≡ 2 ^ steps f e * down e
steps_are f (pos k) h = sym (pow-add 2 k (low f)) ∙ sym (mul-one (2 ^ (k + low f)))
steps_are f (negsuc k) h = one-mul (2 ^ low f) ∙ ap (λ (z : ℕ). 2 ^ z) (sym (back (low f) (suc k) (pow_le_back (suc k) (low f) h))) ∙ pow-add 2 (low f - suc k) (suc k)

-- a value that fits as a count of the smallest values
pub record OwnCount (f : Format) (m : ℕ) (e : ℤ) : Type 0 where
  pub is : m * up e * 2 ^ low f ≡ m * 2 ^ steps f e * down e
  pub under : m * 2 ^ steps f e < 2 ^ (low f + suc (emax f))

pub own-count : (f : Format) (s : Bool) (m : ℕ) (e : ℤ) → T (fits f (fin s m e)) → OwnCount f m e
own-count f s m e t =
    let g = fine f s m e t in
    let l = 2 ^ low f in
    let q : m * up e * l ≡ m * 2 ^ steps f e * down e = mul_assoc m (up e) l ∙ ap (λ (z : ℕ). m * z) (steps_are f e g.deep) ∙ sym (mul_assoc m (2 ^ steps f e) (down e)) in
    record {
      is = q;
      under =
          lt_of_mul-lt-mul_right (down e)
          (subst (λ (z : ℕ). z < 2 ^ (low f + suc (emax f)) * down e) q
          (lt_of_lt_of_le (mul-lt-mul_of_pos_right g.under (pow_pos (low f)))
          (le_of_eq (mul_right_comm (2 ^ suc (emax f)) (down e) l ∙ ap (λ (z : ℕ). z * down e) (mul_comm (2 ^ suc (emax f)) l ∙ sym (pow-add 2 (low f) (suc (emax f))))))));
    }

pub own-round : (f : Format) (s : Bool) (m : ℕ) (e : ℤ) → T (fits f (fin s m e)) → round f s (m * up e) (down e) ≡ fin s m e
own-round f s m e t =
    let c = own-count f s m e t in
    unique f (round f s (m * up e) (down e)) (fin s m e) s (m * up e) (down e) (down_pos e) (round-fits f s (m * up e) (down e)) t
    (round_exact f s (m * up e) (down e) m (steps f e) (down_pos e) (fine f s m e t).few c.under c.is)
    (refl, refl)

-- ---- a sign goes through `round`
pub neg_odd : (d : ℕ) (s : Bool) (q k l : ℕ) → neg (odd d s q k l) ≡ odd d (not s) q k l
unfolding odd neg
neg_odd d s zero k l = refl
neg_odd d s (suc q) k l = refl

pub neg_cond : (b : Bool) (x y : Float) → neg (cond b x y) ≡ cond b (neg x) (neg y)
neg_cond true x y = refl
neg_cond false x y = refl

neg_units : (f : Format) (s : Bool) (q k : ℕ) → neg (units f s q k) ≡ units f (not s) q k
unfolding units neg
neg_units f s q k = neg_cond (ltb (q * 2 ^ k) (2 ^ (low f + suc (emax f)))) (odd (suc (prec f)) s q k (low f)) (inf s) ∙ ap (λ (z : Float). cond (ltb (q * 2 ^ k) (2 ^ (low f + suc (emax f)))) z (inf (not s))) (neg_odd (suc (prec f)) s q k (low f))

pub neg_round : (f : Format) (s : Bool) (a b : ℕ) → neg (round f s a b) ≡ round f (not s) a b
neg_round f s a b =
    ap neg (round_is f s a b) ∙ neg_units f s (kept (prec f) (a * 2 ^ low f) b) (drop (prec f) (a * 2 ^ low f) b) ∙ sym (round_is f (not s) a b)
