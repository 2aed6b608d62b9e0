-- From a wider format's pattern to the rounded value.
use Rattle.std.proofs.Common.{◌≡◌, ℕ, zero, suc, ◌+◌, ◌-◌, ◌*◌, ◌/◌, ◌%◌, ◌^◌, ◌<◌, ◌≤◌, min, Bool, true, false, cond, not, T, eqb, ltb, sym, refl, ap, ◌∙◌, subst, le_trans, le_of_eq, lt_of_lt_of_le, mul-le-mul_right, mod-eq_of_lt, mul_assoc, div-lt_iff_lt-mul, mul-le-mul_left, mul-lt-mul_of_pos_right, mul-pos, le-div_iff_mul-le, mul-one, div-le_self, div-mul-le_self, div-one, arith, lit<, eqb→eq, ltb→lt, leb→le, pow_pos, pow_mono, pow-add, shl_exact, ltb-false, ltb-true, le-ltb, lt-ltb, ne_eqb, le-leb}
use Prim.Native.Nat.{compare, Ordering}
use native.Mathlib.Nat.{div-eq_of_lt, mod-le, mod-eq-sub-mod, mod-mod_of_dvd, dvd-mul_right}
use mathlib.Core.Bool.{false≢true}
use lib.Dec.{is_le, compare_is_eq, nleb→lt, eqb_refl}
use lib.Arith.{lt_of_le-ne}
use borrow.Author.Tests.{lt-leb}
use lib.Ieee.{Float, nan, inf, fin, Format, binary32, binary64, prec, low, up, down, nearest, odd, round, neg, fits, is_nan, to_bits, of_bits, of_fields, nan_bits, hid, ones, top}
use lib.Ieee.Digits.{size-le}
use lib.Ieee.Fits.{down_pos, nearest-le}
use lib.Ieee.Bits.{of_bits-to_bits, nan_bits_is, nan_bits_above}
use lib.Ieee.Exact.{HasValue, odd_sign}
use lib.Ieee.Nearest.{closest, closest_same}
use lib.Ieee.Scale.{round_same}
use Rattle.floats.specs.Convert.{convert}
use Rattle.floats.proofs.Values.{neg_round, neg_odd, neg_cond}
use Rattle.floats.proofs.Pack.{packed, size_is}
use Rattle.floats.proofs.Residues.{gathered}

-- ---- the nearest whole number, by the three tests
abbrev Cmp : Ordering → ℕ → ℕ → Type 0
Cmp Ordering.lt a b = a < b
Cmp Ordering.eq a b = a ≡ b
Cmp Ordering.gt a b = b < a

cmp : (a b : ℕ) → Cmp (compare a b) a b
cmp a b = go (compare a b) (leb→le a b) (nleb→lt a b) (eqb→eq a b) (λ (e : a ≡ b). subst (λ (x : ℕ). T (eqb a x)) e (eqb_refl a))
  where
    go : (o : Ordering) → (T (is_le o) → a ≤ b) → (T (not (is_le o)) → b < a) → (T (compare_is_eq o) → a ≡ b) → (a ≡ b → T (compare_is_eq o)) → Cmp o a b
    go Ordering.lt h k e n = lt_of_le-ne (h tt) n
    go Ordering.eq h k e n = e tt
    go Ordering.gt h k e n = k tt

pub closest_below : (n u : ℕ) → n % u * 2 < u → n / u ≡ closest n u
closest_below n u h = go (compare (n % u * 2) u) (cmp (n % u * 2) u)
  where
    go : (o : Ordering) → Cmp o (n % u * 2) u → n / u ≡ nearest (n / u) o
    go Ordering.lt c = refl
    go Ordering.eq c = absurd (omega arith)
    go Ordering.gt c = absurd (omega arith)

pub closest_tie : (n u : ℕ) → n % u * 2 ≡ u → n / u + n / u % 2 ≡ closest n u
closest_tie n u h = go (compare (n % u * 2) u) (cmp (n % u * 2) u)
  where
    go : (o : Ordering) → Cmp o (n % u * 2) u → n / u + n / u % 2 ≡ nearest (n / u) o
    go Ordering.lt c = absurd (omega arith)
    go Ordering.eq c = refl
    go Ordering.gt c = absurd (omega arith)

pub closest_above : (n u : ℕ) → u < n % u * 2 → n / u + 1 ≡ closest n u
closest_above n u h = go (compare (n % u * 2) u) (cmp (n % u * 2) u)
  where
    go : (o : Ordering) → Cmp o (n % u * 2) u → n / u + 1 ≡ nearest (n / u) o
    go Ordering.lt c = absurd (omega arith)
    go Ordering.eq c = absurd (omega arith)
    go Ordering.gt c = omega arith

pub closest_le : (n u : ℕ) → closest n u ≤ n + 1
closest_le n u = omega (arith, nearest-le (n / u) (compare (n % u * 2) u), div-le_self n u)

pub closest_half : (n u : ℕ) → 2 ≤ u → closest n u * 2 ≤ n + 2
closest_half n u h =
    let g : n / u * 2 ≤ n = le_trans (mul-le-mul_left (n / u) h) (div-mul-le_self n u) in
    omega (arith, nearest-le (n / u) (compare (n % u * 2) u))

-- ---- a pattern with no sign, and with one
plain : (f : Format) (b : ℕ) → b < top f → of_bits f b ≡ of_fields f false (b / hid f) (b % hid f)
unfolding of_bits
plain f b h = ap (λ (t : Bool). of_fields f t (b % top f / hid f) (b % hid f)) (lt-leb (top f) b h) ∙ ap (λ (z : ℕ). of_fields f false (z / hid f) (b % hid f)) (mod-eq_of_lt h)

neg_fields : (f : Format) (x t : ℕ) → of_fields f true x t ≡ neg (of_fields f false x t)
unfolding of_fields neg
neg_fields f zero t = sym (neg_odd (prec f) false t 0 (low f))
neg_fields f (suc x) t =
    sym (neg_cond (eqb (suc x) (ones f)) (cond (eqb t 0) (inf false) nan) (odd (prec f) false (hid f + t) x (low f))
    ∙ ap (λ (z : Float). cond (eqb (suc x) (ones f)) z (neg (odd (prec f) false (hid f + t) x (low f)))) (neg_cond (eqb t 0) (inf false) nan)
    ∙ ap (λ (z : Float). cond (eqb (suc x) (ones f)) (cond (eqb t 0) (inf true) nan) z) (neg_odd (prec f) false (hid f + t) x (low f)))

pub signed : (f : Format) (b : ℕ) → top f ≤ b → b < 2 * top f → of_bits f b ≡ neg (of_bits f (b - top f))
unfolding of_bits
signed f b h l =
    let r : b % top f ≡ b - top f = mod-eq-sub-mod h ∙ mod-eq_of_lt (omega arith) in
    let t : b % hid f ≡ (b - top f) % hid f = sym (mod-mod_of_dvd (hid f) b (dvd-mul_right (hid f) (suc (ones f)))) ∙ ap (λ (z : ℕ). z % hid f) r in
    ap (λ (s : Bool). of_fields f s (b % top f / hid f) (b % hid f)) (le-leb (top f) b h)
    ∙ ap (λ (z : ℕ). of_fields f true (z / hid f) (b % hid f)) r
    ∙ ap (λ (z : ℕ). of_fields f true ((b - top f) / hid f) z) t
    ∙ neg_fields f ((b - top f) / hid f) ((b - top f) % hid f)
    ∙ ap neg (sym (plain f (b - top f) (omega arith)))

-- what no NaN's pattern has for its magnitude
pub at_most_inf : (f : Format) (x : Float) → T (fits f x) → is_nan x ≡ false → to_bits f x % top f ≤ ones f * hid f
at_most_inf f x t h =
    ltb-false (ones f * hid f) (to_bits f x % top f) (sym (nan_bits_above f (to_bits f x)) ∙ nan_bits_is f (to_bits f x) ∙ ap is_nan (of_bits-to_bits f x t) ∙ h)

-- ---- the value of a pattern
fields_value : (f : Format) (x t : ℕ) → suc x < ones f → HasValue (of_fields f false (suc x) t) false ((hid f + t) * 2 ^ x) (2 ^ low f)
unfolding of_fields
fields_value f x t h =
    subst (λ (b : Bool). HasValue (cond b (cond (eqb t 0) (inf false) nan) (odd (prec f) false (hid f + t) x (low f))) false ((hid f + t) * 2 ^ x) (2 ^ low f))
    (sym (ne_eqb (suc x) (ones f) (λ (e : suc x ≡ ones f). omega arith)))
    (odd_sign (prec f) false (hid f + t) x (low f))

fields_small : (f : Format) (t : ℕ) → HasValue (of_fields f false 0 t) false (t * 2 ^ 0) (2 ^ low f)
unfolding of_fields
fields_small f t = odd_sign (prec f) false t 0 (low f)

-- ---- `convert`
pub convert-value : (f : Format) (v : Float) (s : Bool) (a c : ℕ) → 0 < c → HasValue v s a c → convert f v ≡ round f s a c
unfolding convert
convert-value f nan s a c C h = absurd h
convert-value f (inf t) s a c C h = absurd h
convert-value f (fin t m e) s a c C h = ap (λ (z : Bool). round f z (m * up e) (down e)) h.0 ∙ round_same f s (m * up e) (down e) a c (down_pos e) C h.1

pub convert_neg : (f : Format) (v : Float) → convert f (neg v) ≡ neg (convert f v)
unfolding convert neg
convert_neg f nan = refl
convert_neg f (inf s) = refl
convert_neg f (fin s m e) = sym (neg_round f s (m * up e) (down e))

-- ---- numbers: n of d + 1 digits, times 2 ^ x, over 2 ^ c
pub scaled_closest : (n x l c k sh : ℕ) → x + l + sh ≡ c + k → closest (n * 2 ^ x * 2 ^ l) (2 ^ c * 2 ^ k) ≡ closest n (2 ^ sh)
scaled_closest n x l c k sh h =
    closest_same (n * 2 ^ x * 2 ^ l) (2 ^ c * 2 ^ k) n (2 ^ sh) (mul-pos (pow_pos c) (pow_pos k)) (pow_pos sh)
    (mul_assoc (n * 2 ^ x) (2 ^ l) (2 ^ sh) ∙ mul_assoc n (2 ^ x) (2 ^ l * 2 ^ sh) ∙ ap (λ (z : ℕ). n * z)
    (ap (λ (z : ℕ). 2 ^ x * z) (sym (pow-add 2 l sh)) ∙ sym (pow-add 2 x (l + sh)) ∙ ap (λ (z : ℕ). 2 ^ z) (omega arith) ∙ pow-add 2 c k))

-- n < 2 ^ d: n * 2 ^ (x + l) / 2 ^ c is below 2 ^ j where d + x + l is at most j + c
shifted_lt : (n d x l c j : ℕ) → n < 2 ^ d → d + x + l ≤ j + c → n * 2 ^ x * 2 ^ l / 2 ^ c < 2 ^ j
shifted_lt n d x l c j h g =
    (div-lt_iff_lt-mul (pow_pos c)).1
    (subst (λ (z : ℕ). z < 2 ^ j * 2 ^ c) (sym (gathered n x l))
    (lt_of_lt_of_le (mul-lt-mul_of_pos_right h (pow_pos (x + l)))
    (le_trans (le_of_eq (sym (pow-add 2 d (x + l)))) (le_trans (pow_mono (omega arith)) (le_of_eq (pow-add 2 j c))))))

shifted_ge : (n d x l c j : ℕ) → 2 ^ d ≤ n → j + c ≤ d + x + l → 2 ^ j ≤ n * 2 ^ x * 2 ^ l / 2 ^ c
shifted_ge n d x l c j h g =
    (le-div_iff_mul-le (pow_pos c)).1
    (subst (λ (z : ℕ). 2 ^ j * 2 ^ c ≤ z) (sym (gathered n x l))
    (le_trans (le_of_eq (sym (pow-add 2 j c))) (le_trans (pow_mono (omega arith)) (le_trans (le_of_eq (pow-add 2 d (x + l))) (mul-le-mul_right (2 ^ (x + l)) h)))))

-- ---- binary64's patterns at binary32
pub rounded-high : (n x : ℕ) → 2 ^ 52 ≤ n → n < 2 ^ 53 → 896 ≤ x → of_bits binary32 (min ((x - 896) * 8388608 + closest n (2 ^ 29)) 2139095040) ≡ round binary32 false (n * 2 ^ x) (2 ^ 1074)
rounded-high n x a b h =
    packed binary32 (n * 2 ^ x) (2 ^ 1074) (x - 896) (closest n (2 ^ 29)) (pow_pos 1074)
    (omega (arith, size_is (n * 2 ^ x * 2 ^ 149 / 2 ^ 1074) (x - 873) (shifted_ge n 52 x 149 1074 (x - 873) a (omega arith)) (shifted_lt n 53 x 149 1074 (suc (x - 873)) b (omega arith))))
    (scaled_closest n x 149 1074 (x - 896) 29 (omega arith))

pub rounded-low : (n x : ℕ) → n < 2 ^ 53 → x < 896 → of_bits binary32 (min (0 * 8388608 + closest n (2 ^ (925 - x))) 2139095040) ≡ round binary32 false (n * 2 ^ x) (2 ^ 1074)
rounded-low n x b h =
    packed binary32 (n * 2 ^ x) (2 ^ 1074) 0 (closest n (2 ^ (925 - x))) (pow_pos 1074)
    (omega (arith, size-le (n * 2 ^ x * 2 ^ 149 / 2 ^ 1074) 24 (shifted_lt n 53 x 149 1074 24 b (omega arith))))
    (scaled_closest n x 149 1074 0 (925 - x) (omega arith))

closest_zero : (n u : ℕ) → n * 2 < u → closest n u ≡ 0
closest_zero n u h =
    let l : n < u = omega arith in
    sym (closest_below n u (subst (λ (z : ℕ). z * 2 < u) (sym (mod-eq_of_lt l)) h)) ∙ div-eq_of_lt l

pub rounded_tiny : (n x : ℕ) → n < 2 ^ 53 → x < 870 → of_bits binary32 0 ≡ round binary32 false (n * 2 ^ x) (2 ^ 1074)
rounded_tiny n x b h =
    packed binary32 (n * 2 ^ x) (2 ^ 1074) 0 0 (pow_pos 1074)
    (omega (arith, size-le (n * 2 ^ x * 2 ^ 149 / 2 ^ 1074) 24 (shifted_lt n 53 x 149 1074 24 b (omega arith))))
    (scaled_closest n x 149 1074 0 (925 - x) (omega arith)
    ∙ closest_zero n (2 ^ (925 - x)) (let k : 54 ≤ 925 - x = omega arith in let p : 2 ^ 54 ≤ 2 ^ (925 - x) = pow_mono k in omega arith))

inf_both : of_bits binary32 2139095040 ≡ convert binary32 (of_fields binary64 false 2047 0)
unfolding of_bits convert
inf_both = refl

module _ (b : ℕ) (B : b ≤ 0x7ff0000000000000) where
  at : of_bits binary64 b ≡ of_fields binary64 false (b / 4503599627370496) (b % 4503599627370496)
  at = plain binary64 b (omega arith)

  value : (x : ℕ) → b / 4503599627370496 ≡ suc x → x < 2046 → convert binary32 (of_bits binary64 b) ≡ round binary32 false ((b % 4503599627370496 + 4503599627370496) * 2 ^ x) (2 ^ 1074)
  value x e l =
      ap (convert binary32) (at ∙ ap (λ (z : ℕ). of_fields binary64 false z (b % 4503599627370496)) e)
      ∙ convert-value binary32 (of_fields binary64 false (suc x) (b % 4503599627370496)) false ((4503599627370496 + b % 4503599627370496) * 2 ^ x) (2 ^ 1074) (pow_pos 1074) (fields_value binary64 x (b % 4503599627370496) (omega arith))
      ∙ ap (λ (z : ℕ). round binary32 false (z * 2 ^ x) (2 ^ 1074)) (omega arith)

  digits_lt : b % 4503599627370496 + 4503599627370496 < 2 ^ 53
  digits_lt = omega arith

  pub narrow_high : 897 ≤ b / 4503599627370496
      → of_bits binary32 (min ((b / 4503599627370496 - 897) * 8388608 + closest (b % 4503599627370496 + 4503599627370496) 536870912) 2139095040) ≡ convert binary32 (of_bits binary64 b)
  narrow_high h = go (b / 4503599627370496) refl
    where
      go : (w : ℕ) → b / 4503599627370496 ≡ w → of_bits binary32 (min ((b / 4503599627370496 - 897) * 8388608 + closest (b % 4503599627370496 + 4503599627370496) 536870912) 2139095040) ≡ convert binary32 (of_bits binary64 b)
      go zero e = absurd (omega arith)
      go (suc x) e = at_top (ltb x 2046) refl
        where
          at_top : (t : Bool) → ltb x 2046 ≡ t → of_bits binary32 (min ((b / 4503599627370496 - 897) * 8388608 + closest (b % 4503599627370496 + 4503599627370496) 536870912) 2139095040) ≡ convert binary32 (of_bits binary64 b)
          at_top true l =
              let L : x < 2046 = ltb-true x 2046 l in
              ap (λ (z : ℕ). of_bits binary32 (min (z * 8388608 + closest (b % 4503599627370496 + 4503599627370496) 536870912) 2139095040)) (omega arith)
              ∙ rounded-high (b % 4503599627370496 + 4503599627370496) x (omega arith) digits_lt (omega arith) ∙ sym (value x e L)
          at_top false l =
              let L : 2046 ≤ x = ltb-false x 2046 l in
              ap (λ (z : ℕ). of_bits binary32 z) (omega arith) ∙ inf_both
              ∙ sym (ap (convert binary32) (at ∙ ap (λ (z : ℕ). of_fields binary64 false z (b % 4503599627370496)) (omega arith) ∙ ap (λ (z : ℕ). of_fields binary64 false 2047 z) (omega arith)))

  pub narrow_low : b / 4503599627370496 < 897 → 870 ≤ b / 4503599627370496
      → of_bits binary32 (min (0 * 8388608 + closest (b % 4503599627370496 + 4503599627370496) (2 ^ (926 - b / 4503599627370496))) 2139095040) ≡ convert binary32 (of_bits binary64 b)
  narrow_low h g = go (b / 4503599627370496) refl
    where
      go : (w : ℕ) → b / 4503599627370496 ≡ w → of_bits binary32 (min (0 * 8388608 + closest (b % 4503599627370496 + 4503599627370496) (2 ^ (926 - b / 4503599627370496))) 2139095040) ≡ convert binary32 (of_bits binary64 b)
      go zero e = absurd (omega arith)
      go (suc x) e =
          ap (λ (z : ℕ). of_bits binary32 (min (0 * 8388608 + closest (b % 4503599627370496 + 4503599627370496) (2 ^ z)) 2139095040)) (omega arith)
          ∙ rounded-low (b % 4503599627370496 + 4503599627370496) x digits_lt (omega arith) ∙ sym (value x e (omega arith))

  pub narrow_tiny : b / 4503599627370496 < 870 → of_bits binary32 0 ≡ convert binary32 (of_bits binary64 b)
  narrow_tiny h = go (b / 4503599627370496) refl
    where
      go : (w : ℕ) → b / 4503599627370496 ≡ w → of_bits binary32 0 ≡ convert binary32 (of_bits binary64 b)
      go zero e =
          rounded_tiny (b % 4503599627370496) 0 (omega arith) (omega arith)
          ∙ sym (ap (convert binary32) (at ∙ ap (λ (z : ℕ). of_fields binary64 false z (b % 4503599627370496)) e)
          ∙ convert-value binary32 (of_fields binary64 false 0 (b % 4503599627370496)) false (b % 4503599627370496 * 2 ^ 0) (2 ^ 1074) (pow_pos 1074) (fields_small binary64 (b % 4503599627370496)))
      go (suc x) e = rounded_tiny (b % 4503599627370496 + 4503599627370496) x digits_lt (omega arith) ∙ sym (value x e (omega arith))

pub no_nan : (f : Format) (n : ℕ) → n ≤ ones f * hid f → T (not (nan_bits f n))
no_nan f n h = subst (λ (b : Bool). T (not b)) (sym (nan_bits_above f n ∙ le-ltb (ones f * hid f) (n % top f) (le_trans (mod-le n (top f)) h))) tt

-- ---- 1 << sh
pub shifted : (sh : ℕ) → sh < 64 → 1 * 2 ^ sh % 2 ^ 64 ≡ 2 ^ sh
shifted sh h = shl_exact 1 sh 64 (lit< tt) (omega arith) ∙ omega arith

pub unit_in : (sh : ℕ) → 1 ≤ sh → sh ≤ 62 → (2 ≤ 1 * 2 ^ sh % 2 ^ 64) × (1 * 2 ^ sh % 2 ^ 64 ≤ 2 ^ 62)
unit_in sh h k =
    let a : 2 ^ 1 ≤ 2 ^ sh = pow_mono h in
    let b : 2 ^ sh ≤ 2 ^ 62 = pow_mono k in
    let e = shifted sh (omega arith) in
    (omega arith, omega arith)

-- ---- a whole number of suc j digits, j at least 24, at binary32
pub rounded-whole : (n j : ℕ) → 24 ≤ j → 2 ^ j ≤ n → n < 2 ^ suc j → of_bits binary32 (min ((j + 126) * 8388608 + closest n (2 ^ (j - 23))) 2139095040) ≡ round binary32 false n 1
rounded-whole n j h a b =
    packed binary32 n 1 (j + 126) (closest n (2 ^ (j - 23))) (ltb→lt 0 1 tt)
    (omega (arith, size_is (n * 2 ^ 149 / 1) (j + 149) (low_end) (high_end)))
    (ap (λ (z : ℕ). closest (z * 2 ^ 149) (1 * 2 ^ (j + 126))) (sym (mul-one n)) ∙ scaled_closest n 0 149 0 (j + 126) (j - 23) (omega arith))
  where
    low_end : 2 ^ (j + 149) ≤ n * 2 ^ 149 / 1
    low_end = subst (λ (z : ℕ). 2 ^ (j + 149) ≤ z) (sym (div-one (n * 2 ^ 149))) (le_trans (le_of_eq (pow-add 2 j 149)) (mul-le-mul_right (2 ^ 149) a))

    high_end : n * 2 ^ 149 / 1 < 2 ^ suc (j + 149)
    high_end = subst (λ (z : ℕ). z < 2 ^ suc (j + 149)) (sym (div-one (n * 2 ^ 149))) (lt_of_lt_of_le (mul-lt-mul_of_pos_right b (pow_pos 149)) (le_of_eq (sym (pow-add 2 (suc j) 149) ∙ ap (λ (z : ℕ). 2 ^ z) (omega arith))))

-- ---- a pattern, NaN or not
pub under_nan : (f : Format) (n : ℕ) → n % top f ≤ ones f * hid f → T (not (nan_bits f n))
under_nan f n h = subst (λ (b : Bool). T (not b)) (sym (nan_bits_above f n ∙ le-ltb (ones f * hid f) (n % top f) h)) tt

pub is_nan_lem : (x : Float) → is_nan x ≡ true → x ≡ nan
unfolding is_nan
is_nan_lem nan h = refl
is_nan_lem (inf s) h = absurd (false≢true h)
is_nan_lem (fin s m e) h = absurd (false≢true h)

pub nan_above : (f : Format) (n : ℕ) → ones f * hid f < n % top f → of_bits f n ≡ nan
nan_above f n h = is_nan_lem (of_bits f n) (sym (nan_bits_is f n) ∙ nan_bits_above f n ∙ lt-ltb (ones f * hid f) (n % top f) h)
