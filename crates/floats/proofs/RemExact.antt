-- The remainder is exact in the format of the two numbers, so it is the same in a wider one.
use Rattle.std.proofs.Common.{◌≡◌, ℕ, zero, suc, ◌-◌, ◌*◌, ◌%◌, ◌^◌, ◌<◌, ◌≤◌, Bool, true, false, cond, T, leb, ℤ, sym, refl, ap, ◌∙◌, subst, lt_trans, lt_of_le_of_lt, le_of_lt, mod-lt, zero-lt-suc, mul-pos, pow_pos, leb-false, leb-true}
use native.Mathlib.Nat.{mod-le}
use lib.Dec.{eqb-suc-zero}
use lib.Ieee.{Float, nan, inf, fin, Format, binary32, binary64, prec, low, up, down, round, rem, fits}
use lib.Ieee.Fits.{down_pos, rem-fits, fits_widens}
use lib.Ieee.Exact.{HasValue, round_exact}
use lib.Ieee.Digits.{back}
use Rattle.floats.proofs.Values.{fine, steps, own-count, unique}
use Rattle.floats.proofs.Residues.{gathered, mod_scaled, places_off}
use Rattle.floats.proofs.Remainders.{rest-counts}

-- r has at most p digits that are not zeros at its end
record Short (p r : ℕ) : Type 0 where
  q : ℕ
  k : ℕ
  few : q < 2 ^ p
  is : r ≡ q * 2 ^ k

short : (p m i n j : ℕ) → m < 2 ^ p → n < 2 ^ p → 0 < n → Short p (m * 2 ^ i % (n * 2 ^ j))
short p m i n j M N P = go (leb j i) refl
  where
    go : (t : Bool) → leb j i ≡ t → Short p (m * 2 ^ i % (n * 2 ^ j))
    go true e = record { q = m * 2 ^ (i - j) % n; k = j; few = lt_trans (mod-lt (m * 2 ^ (i - j)) P) N; is = places_off m n i j (leb-true j i e) P }
    go false e = record {
      q = m % (n * 2 ^ (j - i));
      k = i;
      few = lt_of_le_of_lt (mod-le m (n * 2 ^ (j - i))) M;
      is =
          ap (λ (z : ℕ). m * 2 ^ i % z) (sym (gathered n (j - i) i ∙ ap (λ (z : ℕ). n * 2 ^ z) (back j i (le_of_lt (leb-false j i e)))))
          ∙ mod_scaled m (n * 2 ^ (j - i)) (2 ^ i) (mul-pos P (pow_pos (j - i))) (pow_pos i);
    }

abbrev rest : ℕ → ℤ → ℕ → ℤ → ℕ
rest m e n d = m * up e * down d % (n * up d * down e)

rem_exact : (f : Format) (s : Bool) (m : ℕ) (e : ℤ) (t : Bool) (n : ℕ) (d : ℤ) → T (fits f (fin s m e)) → T (fits f (fin t (suc n) d))
    → HasValue (rem f (fin s m e) (fin t (suc n) d)) s (rest m e (suc n) d) (down e * down d)
unfolding rem
rem_exact f s m e t n d p q =
    let a = own-count f s m e p in
    let b = own-count f t (suc n) d q in
    let r = short (prec f) m (steps f e) (suc n) (steps f d) (fine f s m e p).few (fine f t (suc n) d q).few (zero-lt-suc n) in
    subst (λ (c : Bool). HasValue (cond c nan (round f s (rest m e (suc n) d) (down e * down d))) s (rest m e (suc n) d) (down e * down d)) (sym (eqb-suc-zero n))
    (round_exact f s (rest m e (suc n) d) (down e * down d) r.q r.k (mul-pos (down_pos e) (down_pos d)) r.few
    (lt_of_le_of_lt (subst (λ (z : ℕ). z ≤ m * 2 ^ steps f e) r.is (mod-le (m * 2 ^ steps f e) (suc n * 2 ^ steps f d))) a.under)
    (rest-counts m e (suc n) d (m * 2 ^ steps f e) (suc n * 2 ^ steps f d) (2 ^ low f) (mul-pos (zero-lt-suc n) (pow_pos (steps f d))) (pow_pos (low f)) a.is b.is
    ∙ ap (λ (z : ℕ). z * (down e * down d)) r.is))

pub rem_widens : (x m : Float) → T (fits binary32 x) → T (fits binary32 m) → rem binary64 x m ≡ rem binary32 x m
unfolding rem
rem_widens nan m p q = refl
rem_widens (inf s) m p q = refl
rem_widens (fin s m e) nan p q = refl
rem_widens (fin s m e) (inf t) p q = refl
rem_widens (fin s m e) (fin t zero d) p q = refl
rem_widens (fin s m e) (fin t (suc n) d) p q =
    let x = fin s m e in
    let y = fin t (suc n) d in
    unique binary64 (rem binary64 x y) (rem binary32 x y) s (rest m e (suc n) d) (down e * down d) (mul-pos (down_pos e) (down_pos d))
    (rem-fits binary64 x y (fits_widens x p)) (fits_widens (rem binary32 x y) (rem-fits binary32 x y p))
    (rem_exact binary64 s m e t n d (fits_widens x p) (fits_widens y q)) (rem_exact binary32 s m e t n d p q)
