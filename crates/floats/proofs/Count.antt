-- A finite float is a count of the format's smallest values: q * 2 ^ k of them have the pattern k * hid + q.
use Rattle.std.proofs.Common.{◌≡◌, ℕ, suc, ◌+◌, ◌-◌, ◌*◌, ◌%◌, ◌^◌, ◌<◌, ◌≤◌, Bool, true, false, cond, T, leb, sym, refl, ap, ◌∙◌, le_trans, le_of_eq, le_refl, lt_of_lt_of_le, lt_of_le_of_lt, le_of_lt, mul-le-mul_right, mod-eq_of_lt, zero-mul, arith, pow_pos, pow_mono, pow-add, shl_lt, leb-false, leb-true}
use native.Mathlib.Nat.{mod-eq-sub-mod}
use lib.Count.{count_leading_zeros, leading_top}
use lib.Ieee.{Float, Format, binary64, prec, emax, low, hid, top, round, neg, fits, to_bits, of_bits}
use lib.Ieee.Fits.{round-fits}
use lib.Ieee.Bits.{of_bits-to_bits, to_bits-lt}
use lib.Ieee.Exact.{HasValue, round_exact}
use Rattle.floats.proofs.Pack.{pattern, limit, pow_lt_back}
use Rattle.floats.proofs.Narrow.{signed}
use Rattle.floats.proofs.Values.{neg_round}
use Rattle.floats.proofs.Residues.{parted}

pub record Count (f : Format) (k q : ℕ) : Type 0 where
  pub few : q < 2 ^ prec f
  pub under : k < 2 * emax f

module _ (f : Format) (k q : ℕ) (c : Count f k q) where
  below : q * 2 ^ k < 2 ^ (low f + suc (emax f))
  below = lt_of_lt_of_le (shl_lt (prec f) k c.few) (pow_mono (omega (arith, c.under, limit f)))

  pub count-value : (s : Bool) → HasValue (round f s (q * 2 ^ k) (2 ^ low f)) s (q * 2 ^ k) (2 ^ low f)
  count-value s = round_exact f s (q * 2 ^ k) (2 ^ low f) q k (pow_pos (low f)) c.few below refl

  pub count-pattern : (0 < k → hid f ≤ q) → of_bits f (k * hid f + q) ≡ round f false (q * 2 ^ k) (2 ^ low f)
  count-pattern lead =
      let v = round f false (q * 2 ^ k) (2 ^ low f) in
      ap (of_bits f) (sym (pattern f k q v (le_of_lt c.few) lead (count-value false)))
      ∙ of_bits-to_bits f v (round-fits f false (q * 2 ^ k) (2 ^ low f))

-- ---- a float by its sign and its size
abbrev pub turned : Bool → Float → Float
turned s v = cond s (neg v) v

pub by_size : (f : Format) (x : Float) → T (fits f x) → x ≡ turned (leb (top f) (to_bits f x)) (of_bits f (to_bits f x % top f))
by_size f x t = sym (of_bits-to_bits f x t) ∙ go (to_bits f x) (to_bits-lt f x t) (leb (top f) (to_bits f x)) refl
  where
    go : (p : ℕ) → p < 2 * top f → (s : Bool) → leb (top f) p ≡ s → of_bits f p ≡ turned s (of_bits f (p % top f))
    go p l true e =
        let h : top f ≤ p = leb-true (top f) p e in
        signed f p h l ∙ ap (λ (n : ℕ). neg (of_bits f n)) (sym (mod-eq-sub-mod h ∙ mod-eq_of_lt (omega arith)))
    go p l false e = ap (of_bits f) (sym (mod-eq_of_lt (leb-false (top f) p e)))

pub turned_round : (f : Format) (s : Bool) (a b : ℕ) → turned s (round f false a b) ≡ round f s a b
turned_round f true a b = neg_round f false a b
turned_round f false a b = refl

-- ---- r * 2 ^ k of binary64's smallest values, s of the k places moved into the digits
record Lead (r : ℕ) : Type 0 where
  j : ℕ
  zeros : count_leading_zeros 64 r + suc j ≡ 64
  few : j ≤ 52
  least : 2 ^ j ≤ r
  next : r < 2 ^ suc j

lead : (r : ℕ) → 0 < r → r < 2 ^ 53 → Lead r
lead r p h =
    let t = leading_top 64 r p (omega arith) in
    let f : t.0 < 53 = pow_lt_back t.0 53 (lt_of_le_of_lt t.2 h) in
    record { j = t.0; zeros = t.1; few = omega arith; least = t.2; next = t.3 }

module _ (r : ℕ) (R : 0 < r) (h : r < 2 ^ 53) where
  pub zeros-from : 11 ≤ count_leading_zeros 64 r
  zeros-from = let l = lead r R h in omega (arith, l.zeros, l.few)

  pub zeros-to : count_leading_zeros 64 r ≤ 63
  zeros-to = let l = lead r R h in omega (arith, l.zeros)

  pub moved-under : (s : ℕ) → s ≤ count_leading_zeros 64 r - 11 → r * 2 ^ s < 2 ^ 53
  moved-under s g = let l = lead r R h in lt_of_lt_of_le (shl_lt (suc l.j) s l.next) (pow_mono {i = suc l.j + s} {j = 53} (omega (arith, l.zeros, l.few)))

  moved-lead : 2 ^ 52 ≤ r * 2 ^ (count_leading_zeros 64 r - 11)
  moved-lead =
      let l = lead r R h in
      le_trans (le_of_eq (ap (λ (n : ℕ). 2 ^ n) (full l.j (count_leading_zeros 64 r) l.zeros l.few) ∙ pow-add 2 l.j (count_leading_zeros 64 r - 11)))
      (mul-le-mul_right (2 ^ (count_leading_zeros 64 r - 11)) l.least)
    where
      full : (j z : ℕ) → z + suc j ≡ 64 → j ≤ 52 → 52 ≡ j + (z - 11)
      full j z e l = omega arith

  module _ (k : ℕ) (K : k < 2046) where
    at : (s : ℕ) → s ≤ k → s ≤ count_leading_zeros 64 r - 11 → (0 < k - s → 2 ^ 52 ≤ r * 2 ^ s)
        → of_bits binary64 ((k - s) * 4503599627370496 + r * 2 ^ s) ≡ round binary64 false (r * 2 ^ k) (2 ^ 1074)
    at s l g n =
        count-pattern binary64 (k - s) (r * 2 ^ s) (record { few = moved-under s g; under = omega arith }) n
        ∙ ap (λ (a : ℕ). round binary64 false a (2 ^ 1074)) (parted r s k l)

    pub subnormal : k < count_leading_zeros 64 r - 11 → of_bits binary64 (r * 2 ^ k) ≡ round binary64 false (r * 2 ^ k) (2 ^ 1074)
    subnormal l = ap (of_bits binary64) (none k (r * 2 ^ k)) ∙ at k (le_refl k) (le_of_lt l) (λ (p : 0 < k - k). absurd (omega arith))
      where
        none : (k q : ℕ) → q ≡ (k - k) * 4503599627370496 + q
        none k q = omega arith

    pub normal : count_leading_zeros 64 r - 11 ≤ k
        → of_bits binary64 ((k - (count_leading_zeros 64 r - 11)) * 4503599627370496 + r * 2 ^ (count_leading_zeros 64 r - 11)) ≡ round binary64 false (r * 2 ^ k) (2 ^ 1074)
    normal l = at (count_leading_zeros 64 r - 11) l (le_refl (count_leading_zeros 64 r - 11)) (λ (_ : 0 < k - (count_leading_zeros 64 r - 11)). moved-lead)

pub nothing : (k : ℕ) → of_bits binary64 0 ≡ round binary64 false (0 * 2 ^ k) (2 ^ 1074)
unfolding of_bits round
nothing k = ap (λ (a : ℕ). round binary64 false a (2 ^ 1074)) (sym (zero-mul (2 ^ k)))
