-- Floats from 0 to 1, either zero included: their products, what is left of 1, and a part of the way up to 1 or down to 0.
use Prim.Native.Nat.{ℕ, ◌+◌, ◌-◌, ◌*◌, ◌/◌, ◌^◌, ◌≤◌, ◌<◌}
use native.Mathlib.Nat.{le_trans, le_of_eq, mul-one, one-mul, mul_comm, mul_assoc, mul_right_comm, add-mul, zero-mul, mul-pos, mul-le-mul_right, le_of_mul-le-mul_right, div-mul-le_self, div-lt_iff_lt-mul, le_of_lt, zero-lt-suc, le_refl}
use native.Mathlib.Omega.{arith}
use mathlib.Core.Path.{◌≡◌, refl, sym, ap, ◌∙◌, subst}
use mathlib.Core.Bool.{Bool, true, false, not}
use lib.IntN.{ℤ, pos}
use lib.Dec.{T, ltb}
use lib.Pow.{pow_pos}
use lib.Ieee.{Float, nan, inf, fin, Format, binary32, up, down, round, add, sub, mul, neg, lt, le, eq, fits, is_nan, unlike}
use lib.Ieee as Ieee
use lib.Ieee.Fits.{down_pos, add-fits, mul-fits, sub-fits, neg-fits, round-fits}
use lib.Ieee.Scale.{finite, round_same}
use lib.Ieee.Order.{round_mono}
use borrow.Author.Tests.{le-ltb}
use Rattle.sequences.specs.Pick.{by-case}
use Rattle.floats_laws.proofs.Between.{sum-from_zero}
use Rattle.floats_laws.proofs.Bounds.{mul_mag, sub_mag}
use Rattle.floats_laws.proofs.Gap.{one_number}
use Rattle.floats_laws.proofs.Mag.{Mag, le_upto, mag_finite, mag_le}
use Rattle.floats_laws.proofs.Numbers.{mul_number}
use Rattle.floats_laws.proofs.Products.{product-from_zero, product-to_zero, mul_rises-right}
use Rattle.floats_laws.proofs.Rising.{le_refl as float-refl, nought, add_rises, add_rises-right, sub_falls, mul_rises, neg_falls}
use Rattle.floats_laws.proofs.Rules.{between-finite, finite_number, neg_finite, add_number, key→le, le_trans as float-trans}
use Rattle.floats.proofs.Values.{own-round, neg_round}
use Rattle.floats_laws.proofs.Grid.{AtMost, to_one, multiple_24, round-at_most}
use Rattle.floats_laws.proofs.Units.{one as i, zero_fits, one-fits, unit}

pub record Proportion (x : Float) : Type 0 where
  pub held : T (fits binary32 x)
  pub least : T (le nought x)
  pub most : T (le x i)

module _ {x : Float} (u : Proportion x) where
  pub unit_finite : T (finite x)
  unit_finite = between-finite binary32 nought x i tt tt u.least u.most

  pub unit_number : T (not (is_nan x))
  unit_number = finite_number binary32 x unit_finite

  pub unit_mag : Mag x 1
  unit_mag = le_upto x i 1 u.least u.most (omega arith)

pub one-less-one : sub binary32 i i ≡ nought
unfolding sub add neg Ieee.sum round Ieee.units Ieee.odd Ieee.size Ieee.span Ieee.climb
one-less-one = refl

pub one-less-nothing : sub binary32 i nought ≡ i
unfolding sub add neg Ieee.sum round Ieee.units Ieee.odd Ieee.size Ieee.span Ieee.climb
one-less-nothing = refl

nothing-less-nothing : sub binary32 nought nought ≡ nought
unfolding sub add neg Ieee.sum round Ieee.units Ieee.odd Ieee.size Ieee.span Ieee.climb
nothing-less-nothing = refl

pub one_and_nothing : add binary32 i nought ≡ i
unfolding add Ieee.sum round Ieee.units Ieee.odd Ieee.size Ieee.span Ieee.climb
one_and_nothing = refl

nothing_and_one : add binary32 nought i ≡ i
unfolding add Ieee.sum round Ieee.units Ieee.odd Ieee.size Ieee.span Ieee.climb
nothing_and_one = refl

pub one_unit : Proportion i
one_unit = record { held = one-fits binary32; least = unit; most = mag_le i 1 (pos 0) 1 (zero-lt-suc 0) (omega arith) (omega arith) }

pub nought_unit : Proportion nought
unfolding le lt eq
nought_unit = record { held = zero_fits binary32 false; least = tt; most = tt }

-- ---- products, and what is left of 1
module _ {x y : Float} (u : Proportion x) (v : Proportion y) where
  pub product_unit : Proportion (mul binary32 x y)
  product_unit =
      record {
        held = mul-fits binary32 x y;
        least = product-from_zero binary32 x y (unit_finite u) (unit_finite v) u.least v.least;
        most = mag_le (mul binary32 x y) 1 (pos 0) 1 (zero-lt-suc 0) (omega arith) (mul_mag binary32 x y 1 1 (omega arith) (unit_mag u) (unit_mag v));
      }

module _ {x : Float} (u : Proportion x) where
  pub rest_unit : Proportion (sub binary32 i x)
  unfolding is_nan
  rest_unit =
      record {
        held = sub-fits binary32 i x;
        least =
            subst (λ (z : Float). T (le z (sub binary32 i x))) one-less-one
            (sub_falls binary32 i x i u.held (one-fits binary32) u.most (one_number binary32 x (unit_number u)) (one_number binary32 i tt));
        most =
            subst (λ (z : Float). T (le (sub binary32 i x) z)) one-less-nothing
            (sub_falls binary32 i nought x (zero_fits binary32 false) u.held u.least (one_number binary32 nought tt) (one_number binary32 x (unit_number u)));
      }

-- ---- x and what is left of 1: by the stair of 2^-24 on which x lies
stair : (A D B G k : ℕ) → A * 16777216 ≤ (k + 1) * D → B * 16777216 ≤ (16777216 - k) * G → k ≤ 16777216 → (A * G + B * D) * 16777216 ≤ 16777217 * (D * G)
stair A D B G k a b h =
    let p : A * G * 16777216 ≤ (k + 1) * (D * G) = le_trans (le_of_eq (mul_right_comm A G 16777216)) (le_trans (mul-le-mul_right G a) (le_of_eq (mul_assoc (k + 1) D G))) in
    let q : B * D * 16777216 ≤ (16777216 - k) * (D * G) = le_trans (le_of_eq (mul_right_comm B D 16777216)) (le_trans (mul-le-mul_right D b) (le_of_eq (mul_assoc (16777216 - k) G D ∙ ap (λ (z : ℕ). (16777216 - k) * z) (mul_comm G D)))) in
    let r : (k + 1) * (D * G) + (16777216 - k) * (D * G) ≡ 16777217 * (D * G) = sym (add-mul (k + 1) (16777216 - k) (D * G)) ∙ ap (λ (z : ℕ). z * (D * G)) (omega arith) in
    omega (arith, add-mul (A * G) (B * D) 16777216, p, q, r)

module _ (m : ℕ) (e : ℤ) (most : m * up e ≤ down e) where
  abbrev k : ℕ
  k = m * up e * 16777216 / down e

  k_low : k * down e ≤ m * up e * 16777216
  k_low = div-mul-le_self (m * up e * 16777216) (down e)

  k_up : m * up e * 16777216 ≤ (k + 1) * down e
  k_up = le_of_lt ((div-lt_iff_lt-mul (down_pos e)).0 (omega arith))

  k_most : k ≤ 16777216
  k_most = le_of_mul-le-mul_right (le_trans k_low (le_trans (mul-le-mul_right 16777216 most) (le_of_eq (mul_comm (down e) 16777216)))) (down_pos e)

  left-at_most : AtMost (sub binary32 i (fin false m e)) (16777216 - k) (2 ^ 24)
  unfolding sub add neg Ieee.sum
  left-at_most =
      rw (le-ltb (1 * 1 * down e) (m * up e * 1) (omega (arith, most)))
      (round-at_most (1 * 1 * down e - m * up e * 1) (1 * down e) (16777216 - k) (2 ^ 24) (mul-pos (zero-lt-suc 0) (down_pos e)) (pow_pos 24) (omega arith) rest (multiple_24 (16777216 - k) (omega arith)))
    where
      rest : (1 * 1 * down e - m * up e * 1) * 16777216 ≤ (16777216 - k) * (1 * down e)
      rest = let h : k * down e + (16777216 - k) * down e ≡ 16777216 * down e = sym (add-mul k (16777216 - k) (down e)) ∙ ap (λ (z : ℕ). z * down e) (omega (arith, k_most)) in omega (arith, h, k_low)

  under : (t : Float) → AtMost t (16777216 - k) (2 ^ 24) → T (le (add binary32 (fin false m e) t) i)
  unfolding add Ieee.sum
  under nan h = absurd h
  under (inf s) h = absurd h
  under (fin true n g) h = absurd h
  under (fin false n g) h = to_one (m * up e * down g + n * up g * down e) (down e * down g) (mul-pos (down_pos e) (down_pos g)) (stair (m * up e) (down e) (n * up g) (down g) k k_up h k_most)

pub to_nought : (f : Format) (m : ℕ) (e : ℤ) → T (fits f (fin true m e)) → T (le (fin true m e) nought)
unfolding fits is_nan
to_nought f m e p = key→le f (fin true m e) nought p tt tt tt (omega arith)

whole : (x : Float) → Proportion x → T (le (add binary32 x (sub binary32 i x)) i)
unfolding is_nan
whole nan u = absurd (unit_number u)
whole (inf s) u = absurd (unit_finite u)
whole (fin false m e) u = under m e (omega (arith, unit_mag u)) (sub binary32 i (fin false m e)) (left-at_most m e (omega (arith, unit_mag u)))
whole (fin true m e) u =
    let x = fin true m e in
    let r = rest_unit u in
    let t = sub binary32 i x in
    let n = add_number binary32 nought t tt (unit_finite r) in
    float-trans binary32 (add binary32 x t) (add binary32 nought t) i (add-fits binary32 x t) (add-fits binary32 nought t) (one-fits binary32)
    (add_rises binary32 x nought t (to_nought binary32 m e u.held) (add_number binary32 x t tt (unit_finite r)) n)
    (subst (λ (z : Float). T (le (add binary32 nought t) z)) nothing_and_one (add_rises-right binary32 nought t i r.most n (add_number binary32 nought i tt tt)))

-- ---- a part of the way up to 1, and of the way down to 0
module _ (f : Format) where
  pub from-round : (a b : ℕ) → 0 < b → T (le nought (round f false a b))
  unfolding fits
  from-round a b h = subst (λ (z : Float). T (le z (round f false a b))) (own-round f false 0 (pos 0) tt) (round_mono f 0 1 a b (zero-lt-suc 0) h (omega arith))

  times-one : (x : Float) → T (fits f x) → T (finite x) → mul f x i ≡ x
  unfolding mul
  times-one nan p u = absurd u
  times-one (inf s) p u = absurd u
  times-one (fin s m e) p u =
      ap (λ (t : Bool). round f t (m * up e * 1) (down e * 1)) (unlike_false s)
      ∙ round_same f s (m * up e * 1) (down e * 1) (m * up e) (down e) (mul-pos (down_pos e) (zero-lt-suc 0)) (down_pos e) (omega (arith, mul_comm (m * up e) (down e)))
      ∙ own-round f s m e p
    where
      unlike_false : (s : Bool) → unlike s false ≡ s
      unlike_false true = refl
      unlike_false false = refl

  neg_times : (x y : Float) → T (finite x) → T (finite y) → mul f (neg x) y ≡ neg (mul f x y)
  unfolding mul neg
  neg_times nan y u v = absurd u
  neg_times (inf s) y u v = absurd u
  neg_times (fin s m e) nan u v = absurd v
  neg_times (fin s m e) (inf t) u v = absurd v
  neg_times (fin s m e) (fin t n d) u v = ap (λ (b : Bool). round f b (m * up e * (n * up d)) (down e * down d)) (other s t) ∙ sym (neg_round f (unlike s t) (m * up e * (n * up d)) (down e * down d))
    where
      other : (s t : Bool) → unlike (not s) t ≡ not (unlike s t)
      other true true = refl
      other true false = refl
      other false true = refl
      other false false = refl

  -- x - x is a zero
  nothing_left : (x : Float) → T (finite x) → T (le nought (add f x (neg x)))
  unfolding add neg Ieee.sum
  nothing_left nan u = absurd u
  nothing_left (inf s) u = absurd u
  nothing_left (fin true m e) u = rw (le-ltb (m * up e * down e) (m * up e * down e) (le_refl (m * up e * down e))) (from-round (m * up e * down e - m * up e * down e) (down e * down e) (mul-pos (down_pos e) (down_pos e)))
  nothing_left (fin false m e) u = rw (le-ltb (m * up e * down e) (m * up e * down e) (le_refl (m * up e * down e))) (from-round (m * up e * down e - m * up e * down e) (down e * down e) (mul-pos (down_pos e) (down_pos e)))

  -- 0 - x is no less than the negated x: it is the same but for a zero's sign
  less-nothing : (x : Float) → T (fits f x) → T (finite x) → T (le (neg x) (sub f nought x))
  unfolding sub add neg Ieee.sum is_nan fits
  less-nothing nan p u = absurd u
  less-nothing (inf s) p u = absurd u
  less-nothing (fin true m e) p u =
      subst (λ (z : Float). T (le (fin false m e) z))
      (sym (own-round f false m e (neg-fits f (fin true m e) p)) ∙ round_same f false (m * up e) (down e) (0 * 1 * down e + m * up e * 1) (1 * down e) (down_pos e) (mul-pos (zero-lt-suc 0) (down_pos e)) (same (m * up e) (down e)))
      (float-refl (fin false m e) tt)
    where
      same : (a d : ℕ) → a * (1 * d) ≡ (0 * 1 * d + a * 1) * d
      same a d = omega (arith, ap (λ (z : ℕ). a * z) (one-mul d), zero-mul d, add-mul (0 * d) (a * 1) d, mul-one a, ap (λ (z : ℕ). z * d) (mul-one a))
  less-nothing (fin false m e) p u = by-case (ltb (0 * 1 * down e) (m * up e * 1))
      (λ q.
      rw q
      (subst (λ (z : Float). T (le (fin true m e) z))
      (sym (own-round f true m e (neg-fits f (fin false m e) p)) ∙ round_same f true (m * up e) (down e) (m * up e * 1 - 0 * 1 * down e) (1 * down e) (down_pos e) (mul-pos (zero-lt-suc 0) (down_pos e)) (same (m * up e) (down e)))
      (float-refl (fin true m e) tt)))
      (λ q.
      rw q
      (float-trans f (fin true m e) nought (round f false (0 * 1 * down e - m * up e * 1) (1 * down e)) (neg-fits f (fin false m e) p) tt (round-fits f false (0 * 1 * down e - m * up e * 1) (1 * down e))
      (to_nought f m e (neg-fits f (fin false m e) p)) (from-round (0 * 1 * down e - m * up e * 1) (1 * down e) (mul-pos (zero-lt-suc 0) (down_pos e)))))
    where
      same : (a d : ℕ) → a * (1 * d) ≡ (a * 1 - 0 * 1 * d) * d
      same a d = ap (λ (z : ℕ). a * z) (one-mul d) ∙ ap (λ (z : ℕ). z * d) (omega (arith, zero-mul d, mul-one a))

module _ {x s : Float} (u : Proportion x) (v : Proportion s) where
  abbrev rest : Float
  rest = sub binary32 i x

  abbrev part : Float
  part = mul binary32 rest s

  part-less : T (le part rest)
  part-less =
      let r = rest_unit u in
      subst (λ (z : Float). T (le part z)) (times-one binary32 rest r.held (unit_finite r)) (mul_rises-right binary32 s i (unit_finite v) tt rest (unit_finite r) r.least v.most)

  pub risen_unit : Proportion (add binary32 x part)
  risen_unit =
      let r = rest_unit u in
      let p = product_unit r v in
      record {
        held = add-fits binary32 x part;
        least = sum-from_zero binary32 x part (unit_finite u) (unit_finite p) u.least p.least;
        most =
            float-trans binary32 (add binary32 x part) (add binary32 x rest) i (add-fits binary32 x part) (add-fits binary32 x rest) (one-fits binary32)
            (add_rises-right binary32 x part rest part-less (add_number binary32 x part (unit_number u) (unit_finite p)) (add_number binary32 x rest (unit_number u) (unit_finite r)))
            (whole x u);
      }

  -- ---- down
  abbrev gone : Float
  gone = mul binary32 (sub binary32 nought x) s

  fall_most : T (le (sub binary32 nought x) nought)
  unfolding is_nan sub add
  fall_most =
      subst (λ (z : Float). T (le (sub binary32 nought x) z)) nothing-less-nothing
      (sub_falls binary32 nought nought x (zero_fits binary32 false) u.held u.least (add_number binary32 nought (neg nought) tt (neg_finite binary32 nought tt)) (add_number binary32 nought (neg x) tt (neg_finite binary32 x (unit_finite u))))

  fall_finite : T (finite (sub binary32 nought x))
  fall_finite = mag_finite (sub binary32 nought x) 1 (sub_mag binary32 nought x 0 1 (omega arith) (omega arith) (unit_mag u))

  gone_least : T (le (neg x) gone)
  gone_least =
      let p = product_unit u v in
      let fx = neg_finite binary32 x (unit_finite u) in
      let less : T (le (mul binary32 x s) x) =
      subst (λ (z : Float). T (le (mul binary32 x s) z)) (times-one binary32 x u.held (unit_finite u)) (mul_rises-right binary32 s i (unit_finite v) tt x (unit_finite u) u.least v.most) in
      float-trans binary32 (neg x) (mul binary32 (neg x) s) gone (neg-fits binary32 x u.held) (mul-fits binary32 (neg x) s) (mul-fits binary32 (sub binary32 nought x) s)
      (subst (λ (z : Float). T (le (neg x) z)) (sym (neg_times binary32 x s (unit_finite u) (unit_finite v))) (neg_falls binary32 (mul binary32 x s) x p.held u.held less))
      (mul_rises binary32 (neg x) (sub binary32 nought x) s (unit_finite v) v.least (less-nothing binary32 x u.held (unit_finite u)) (mul_number binary32 (neg x) s fx (unit_finite v)) (mul_number binary32 (sub binary32 nought x) s fall_finite (unit_finite v)))

  gone_finite : T (finite gone)
  gone_finite = mag_finite gone 1 (mul_mag binary32 (sub binary32 nought x) s 1 1 (omega arith) (sub_mag binary32 nought x 0 1 (omega arith) (omega arith) (unit_mag u)) (unit_mag v))

  pub fallen_unit : Proportion (add binary32 x gone)
  fallen_unit =
      let n = add_number binary32 x gone (unit_number u) gone_finite in
      let z = add_number binary32 x nought (unit_number u) tt in
      record {
        held = add-fits binary32 x gone;
        least =
            float-trans binary32 nought (add binary32 x (neg x)) (add binary32 x gone) (zero_fits binary32 false) (add-fits binary32 x (neg x)) (add-fits binary32 x gone) (nothing_left binary32 x (unit_finite u))
            (add_rises-right binary32 x (neg x) gone gone_least (add_number binary32 x (neg x) (unit_number u) (neg_finite binary32 x (unit_finite u))) n);
        most =
            float-trans binary32 (add binary32 x gone) (add binary32 x nought) i (add-fits binary32 x gone) (add-fits binary32 x nought) (one-fits binary32)
            (add_rises-right binary32 x gone nought (product-to_zero binary32 (sub binary32 nought x) s fall_finite (unit_finite v) fall_most v.least) n z)
            (subst (λ (y : Float). T (le (add binary32 x nought) y)) one_and_nothing (add_rises binary32 x i nought u.most z (add_number binary32 i nought (unit_number one_unit) tt)));
      }
