-- What lies outside a rounded sum lies outside by the rounded difference too, over the format: x < fl(u + v) gives fl(x - u) <= v, and fl(u + v) < x gives v <= fl(x - u). And a size that is at least r, divided by r, is at least 1.
use Prim.Native.Nat.{ℕ, zero, suc, ◌+◌, ◌*◌, ◌^◌, ◌≤◌, ◌<◌}
use native.Mathlib.Nat.{mul_comm, mul_assoc, mul_left_comm, mul-pos, add-mul, zero-lt-suc}
use native.Mathlib.Omega.{arith}
use mathlib.Core.Path.{◌≡◌, refl, sym, ap, ◌∙◌, subst}
use mathlib.Core.Bool.{Bool, true, false, not, cond}
use lib.IntN.{ℤ, pos}
use lib.Dec.{T, leb, eqb, eqb-suc-zero}
use borrow.Author.Tests.{leb-true, leb-false, ltb-true}
use lib.Ieee.{Float, nan, inf, fin, Format, up, down, round, add, neg, sub, div, unlike, lt, le, fits, is_nan}
use lib.Ieee.Fits.{up_pos, down_pos, add-fits}
use lib.Ieee.Scale.{finite, round_same}
use Rattle.floats.proofs.Values.{own-round}
use Rattle.floats_laws.proofs.Keys.{key, lt_key}
use Rattle.floats_laws.proofs.Mono.{signed_key, signed_key-rises, round_signed_key, add_key, plus, minus, plus_mul, minus_mul}
use Rattle.floats_laws.proofs.Rules.{key→le, add_number, neg_finite, finite_number, le_right}
use Rattle.floats_laws.proofs.Rising.{nought, not_above, not_itself, div_rises, sub_falls}
use Rattle.floats.proofs.Rounded.{round_number}
use Rattle.floats_laws.proofs.Units.{one, one-fits}

-- a value that fits, as a signed fraction
own_key : (f : Format) (s : Bool) (m : ℕ) (e : ℤ) → T (fits f (fin s m e)) → key f (fin s m e) ≡ signed_key f (plus s (m * up e)) (minus s (m * up e)) (down e)
own_key f s m e t = ap (key f) (sym (own-round f s m e t)) ∙ round_signed_key f s (m * up e) (down e) (down_pos e)

plus_not : (s : Bool) (a : ℕ) → plus (not s) a ≡ minus s a
plus_not true a = refl
plus_not false a = refl

minus_not : (s : Bool) (a : ℕ) → minus (not s) a ≡ plus s a
minus_not true a = refl
minus_not false a = refl

-- the sum and the difference, with their products taken apart
sum_signed_key : (f : Format) (s : Bool) (m : ℕ) (e : ℤ) (t : Bool) (n : ℕ) (d : ℤ)
    → key f (add f (fin s m e) (fin t n d)) ≡ signed_key f (plus s (m * up e) * down d + plus t (n * up d) * down e) (minus s (m * up e) * down d + minus t (n * up d) * down e) (down e * down d)
sum_signed_key f s m e t n d = rw (← plus_mul s (m * up e) (down d), ← plus_mul t (n * up d) (down e), ← minus_mul s (m * up e) (down d), ← minus_mul t (n * up d) (down e)) (add_key f s m e t n d)

diff_signed_key : (f : Format) (s : Bool) (m : ℕ) (e : ℤ) (t : Bool) (n : ℕ) (d : ℤ)
    → key f (add f (fin s m e) (neg (fin t n d))) ≡ signed_key f (plus s (m * up e) * down d + minus t (n * up d) * down e) (minus s (m * up e) * down d + plus t (n * up d) * down e) (down e * down d)
unfolding neg
diff_signed_key f s m e t n d = rw (← plus_not t (n * up d), ← minus_not t (n * up d)) (sum_signed_key f s m e (not t) n d)

-- x - u <= v, or u + v <= x; and v <= x - u, or x <= u + v: of signed fractions
module _ (px nx dx pu nu du pv nv dv : ℕ) where
  abbrev A : ℕ
  A = (px * du + nu * dx) * dv + nv * (dx * du)

  abbrev B : ℕ
  B = pv * (dx * du) + (nx * du + pu * dx) * dv

  one_side : (B < A) → (pu * dv + pv * du) * dx + nx * (du * dv) ≤ px * (du * dv) + (nu * dv + nv * du) * dx
  one_side h = simp (add-mul, mul_assoc, mul_comm, mul_left_comm) (omega (arith, simp (add-mul, mul_assoc, mul_comm, mul_left_comm) at h))

  other_side : (A < B) → px * (du * dv) + (nu * dv + nv * du) * dx ≤ (pu * dv + pv * du) * dx + nx * (du * dv)
  other_side h = simp (add-mul, mul_assoc, mul_comm, mul_left_comm) (omega (arith, simp (add-mul, mul_assoc, mul_comm, mul_left_comm) at h))

module _ (f : Format) (sx : Bool) (mx : ℕ) (ex : ℤ) (su : Bool) (mu : ℕ) (eu : ℤ) (sv : Bool) (mv : ℕ) (ev : ℤ) (tx : T (fits f (fin sx mx ex))) (tv : T (fits f (fin sv mv ev))) where
  abbrev px : ℕ
  px = plus sx (mx * up ex)

  abbrev nx : ℕ
  nx = minus sx (mx * up ex)

  abbrev pu : ℕ
  pu = plus su (mu * up eu)

  abbrev nu : ℕ
  nu = minus su (mu * up eu)

  abbrev pv : ℕ
  pv = plus sv (mv * up ev)

  abbrev nv : ℕ
  nv = minus sv (mv * up ev)

  abbrev a : ℕ
  a = (px * down eu + nu * down ex) * down ev + nv * (down ex * down eu)

  abbrev b : ℕ
  b = pv * (down ex * down eu) + (nx * down eu + pu * down ex) * down ev

  below_key : key f (fin sx mx ex) < key f (add f (fin su mu eu) (fin sv mv ev)) → key f (add f (fin sx mx ex) (neg (fin su mu eu))) ≤ key f (fin sv mv ev)
  below_key h = go (leb a b) refl
    where
      go : (q : Bool) → leb a b ≡ q → key f (add f (fin sx mx ex) (neg (fin su mu eu))) ≤ key f (fin sv mv ev)
      go true e =
          rw (diff_signed_key f sx mx ex su mu eu, own_key f sv mv ev tv)
          (signed_key-rises f (px * down eu + nu * down ex) (nx * down eu + pu * down ex) (down ex * down eu) pv nv (down ev) (mul-pos (down_pos ex) (down_pos eu)) (down_pos ev) (leb-true a b e))
      go false e =
          absurd
          (let g = signed_key-rises f (pu * down ev + pv * down eu) (nu * down ev + nv * down eu) (down eu * down ev) px nx (down ex) (mul-pos (down_pos eu) (down_pos ev)) (down_pos ex) (one_side px nx (down ex) pu nu (down eu) pv nv (down ev) (leb-false a b e)) in
          omega (arith, sum_signed_key f su mu eu sv mv ev, own_key f sx mx ex tx))

  above-key : key f (add f (fin su mu eu) (fin sv mv ev)) < key f (fin sx mx ex) → key f (fin sv mv ev) ≤ key f (add f (fin sx mx ex) (neg (fin su mu eu)))
  above-key h = go (leb b a) refl
    where
      go : (q : Bool) → leb b a ≡ q → key f (fin sv mv ev) ≤ key f (add f (fin sx mx ex) (neg (fin su mu eu)))
      go true e =
          rw (diff_signed_key f sx mx ex su mu eu, own_key f sv mv ev tv)
          (signed_key-rises f pv nv (down ev) (px * down eu + nu * down ex) (nx * down eu + pu * down ex) (down ex * down eu) (down_pos ev) (mul-pos (down_pos ex) (down_pos eu)) (leb-true b a e))
      go false e =
          absurd
          (let g = signed_key-rises f px nx (down ex) (pu * down ev + pv * down eu) (nu * down ev + nv * down eu) (down eu * down ev) (down_pos ex) (mul-pos (down_pos eu) (down_pos ev)) (other_side px nx (down ex) pu nu (down eu) pv nv (down ev) (leb-false b a e)) in
          omega (arith, sum_signed_key f su mu eu sv mv ev, own_key f sx mx ex tx))

-- ---- the same over all floats
module _ (f : Format) where
  pub gap_below : (x u v : Float) → T (fits f x) → T (fits f v) → T (finite x) → T (finite u) → T (finite v) → lt x (add f u v) ≡ true → T (le (sub f x u) v)
  unfolding sub
  gap_below x u v p q a b c h =
      key→le f (add f x (neg u)) v (add-fits f x (neg u)) q (add_number f x (neg u) (finite_number f x a) (neg_finite f u b)) (finite_number f v c)
      (go x u v p q a b c (ltb-true (key f x) (key f (add f u v)) (sym (lt_key f x (add f u v) p (add-fits f u v) (finite_number f x a) (add_number f u v (finite_number f u b) c)) ∙ h)))
    where
      go : (x u v : Float) → T (fits f x) → T (fits f v) → T (finite x) → T (finite u) → T (finite v) → key f x < key f (add f u v) → key f (add f x (neg u)) ≤ key f v
      go nan u v p q a b c h = absurd a
      go (inf s) u v p q a b c h = absurd a
      go (fin s m e) nan v p q a b c h = absurd b
      go (fin s m e) (inf t) v p q a b c h = absurd b
      go (fin s m e) (fin t n d) nan p q a b c h = absurd c
      go (fin s m e) (fin t n d) (inf w) p q a b c h = absurd c
      go (fin s m e) (fin t n d) (fin w k g) p q a b c h = below_key f s m e t n d w k g p q h

  pub gap-above : (x u v : Float) → T (fits f x) → T (fits f v) → T (finite x) → T (finite u) → T (finite v) → lt (add f u v) x ≡ true → T (le v (sub f x u))
  unfolding sub
  gap-above x u v p q a b c h =
      key→le f v (add f x (neg u)) q (add-fits f x (neg u)) (finite_number f v c) (add_number f x (neg u) (finite_number f x a) (neg_finite f u b))
      (go x u v p q a b c (ltb-true (key f (add f u v)) (key f x) (sym (lt_key f (add f u v) x (add-fits f u v) p (add_number f u v (finite_number f u b) c) (finite_number f x a)) ∙ h)))
    where
      go : (x u v : Float) → T (fits f x) → T (fits f v) → T (finite x) → T (finite u) → T (finite v) → key f (add f u v) < key f x → key f v ≤ key f (add f x (neg u))
      go nan u v p q a b c h = absurd a
      go (inf s) u v p q a b c h = absurd a
      go (fin s m e) nan v p q a b c h = absurd b
      go (fin s m e) (inf t) v p q a b c h = absurd b
      go (fin s m e) (fin t n d) nan p q a b c h = absurd c
      go (fin s m e) (fin t n d) (inf w) p q a b c h = absurd c
      go (fin s m e) (fin t n d) (fin w k g) p q a b c h = above-key f s m e t n d w k g p q h

  -- ---- a size that is at least a positive finite r, divided by it, is at least 1; and what is taken from 1 then leaves at most 0
  div_self : (n : ℕ) (e : ℤ) → div f (fin false (suc n) e) (fin false (suc n) e) ≡ one
  unfolding div
  div_self n e =
      let M = suc n * up e in
      let p : 0 < M * down e = mul-pos (mul-pos (zero-lt-suc n) (up_pos e)) (down_pos e) in
      ap (λ (z : Bool). cond z (cond (eqb (suc n) 0) nan (inf false)) (round f false (M * down e) (M * down e))) (eqb-suc-zero n)
      ∙ round_same f false (M * down e) (M * down e) (1 * 2 ^ 0) 1 p (zero-lt-suc 0) (mul_comm (M * down e) 1)
      ∙ own-round f false 1 (pos 0) (one-fits f)

  pub quotient_number : (d r : Float) → T (not (is_nan d)) → T (finite r) → T (lt nought r) → T (not (is_nan (div f d r)))
  unfolding div is_nan
  quotient_number d nan u w h = absurd w
  quotient_number d (inf s) u w h = absurd w
  quotient_number d (fin true n g) u w h = absurd (not_above n g h)
  quotient_number d (fin false zero g) u w h = absurd (not_itself g h)
  quotient_number nan (fin false (suc n) g) u w h = absurd u
  quotient_number (inf s) (fin false (suc n) g) u w h = tt
  quotient_number (fin s m e) (fin false (suc n) g) u w h =
      subst (λ (z : Bool). T (not (is_nan (cond z (cond (eqb m 0) nan (inf (unlike s false))) (round f (unlike s false) (m * up e * down g) (suc n * up g * down e)))))) (sym (eqb-suc-zero n))
      (round_number f (unlike s false) (m * up e * down g) (suc n * up g * down e))

  pub div_one : (d r : Float) → T (finite r) → T (lt nought r) → T (le r d) → T (le one (div f d r))
  unfolding is_nan
  div_one d nan u h k = absurd u
  div_one d (inf s) u h k = absurd u
  div_one d (fin true n g) u h k = absurd (not_above n g h)
  div_one d (fin false zero g) u h k = absurd (not_itself g h)
  div_one d (fin false (suc n) g) u h k =
      subst (λ (z : Float). T (le z (div f d (fin false (suc n) g)))) (div_self n g)
      (div_rises f (fin false (suc n) g) d (fin false (suc n) g) tt h k (quotient_number (fin false (suc n) g) (fin false (suc n) g) tt tt h) (quotient_number d (fin false (suc n) g) (le_right (fin false (suc n) g) d k) tt h))

  pub one_number : (q : Float) → T (not (is_nan q)) → T (not (is_nan (sub f one q)))
  unfolding sub add neg is_nan
  one_number nan u = absurd u
  one_number (inf s) u = tt
  one_number (fin s m e) u = add_number f one (neg (fin s m e)) tt (neg_finite f (fin s m e) tt)

  pub one_less : (q : Float) → T (fits f q) → T (le one q) → T (le (sub f one q) (sub f one one))
  unfolding is_nan
  one_less q p h = sub_falls f one one q (one-fits f) p h (one_number one tt) (one_number q (le_right one q h))
