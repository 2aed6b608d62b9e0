-- Floats of 32 bits beside multiples of an eighth, which the format holds: a difference that is rounded stays on its side of such a multiple. A multiple is told by its distance above
-- -1000, as k and c eighths, so that signs go by themselves: x is at least, or at most, k - 1000 + c / 8.
use Prim.Native.Nat.{ℕ, ◌+◌, ◌-◌, ◌*◌, ◌^◌, ◌≤◌, ◌<◌}
use native.Mathlib.Nat.{le_trans, le_of_eq, mul_comm, mul_assoc, mul_right_comm, mul-pos, add-mul, zero-mul, mul-le-mul_right, le_of_mul-le-mul_right}
use native.Mathlib.Omega.{arith}
use mathlib.Core.Path.{◌≡◌, refl, sym, ap, ◌∙◌}
use mathlib.Core.Bool.{Bool, true, false, not, cond}
use borrow.Author.Tests.{ltb-true, ltb-false}
use lib.IntN.{ℤ}
use lib.Dec.{T, ltb, lit<}
use lib.Ieee.{Float, nan, inf, fin, binary32, up, down, round, sub, neg, le}
use lib.Ieee.Exact.{HasValue}
use lib.Ieee.Fits.{down_pos, round-fits, sub-fits}
use lib.Ieee.Scale.{finite}
use Rattle.sequences.specs.Pick.{by-case}
use Rattle.floats.specs.Names.{sub32}
use Rattle.floats.proofs.Rounded.{round_number}
use Rattle.floats_laws.proofs.Fractions.{held}
use Rattle.floats_laws.proofs.Keys.{key}
use Rattle.floats_laws.proofs.Mono.{plus, minus, signed_key, signed_key-rises, round_signed_key, add_key, le→signed}
use Rattle.floats_laws.proofs.Rules.{key→le, finite_number}

-- ---- the two bounds
abbrev pub From : Float → ℕ → ℕ → Type 0
From nan k c = ⊥
From (inf s) k c = ⊥
From (fin s m e) k c = 8 * (k * down e) + c * down e + minus s (m * up e) * 8 ≤ plus s (m * up e) * 8 + 8000 * down e

abbrev pub To : Float → ℕ → ℕ → Type 0
To nan k c = ⊥
To (inf s) k c = ⊥
To (fin s m e) k c = plus s (m * up e) * 8 + 8000 * down e ≤ 8 * (k * down e) + c * down e + minus s (m * up e) * 8

-- ---- k - 1000 + c / 8, as a number of eighths with its sign
record Marked (k c : ℕ) : Type 0 where
  sign : Bool
  n : ℕ
  few : n < 2 ^ 24
  place : cond sign (8 * k + c + n ≡ 8000) (8 * k + c ≡ 8000 + n)

marked : (k c : ℕ) → 8 * k + c ≤ 16000 → Marked k c
marked k c h =
    by-case (ltb (8 * k + c) 8000) (λ q. let l = ltb-true (8 * k + c) 8000 q in record { sign = true; n = 8000 - (8 * k + c); few = omega arith; place = omega arith })
    (λ q. let l = ltb-false (8 * k + c) 8000 q in record { sign = false; n = 8 * k + c - 8000; few = omega arith; place = omega arith })

-- ---- a float at or above it, or at or below it
pub spread : (k c d : ℕ) → (8 * k + c) * d ≡ 8 * (k * d) + c * d
spread k c d = add-mul (8 * k) c d ∙ ap (λ (z : ℕ). z + c * d) (mul_assoc 8 k d)

off : (k c n d : ℕ) → 8 * k + c ≡ 8000 + n → 8 * (k * d) + c * d ≡ 8000 * d + n * d
off k c n d h = sym (spread k c d) ∙ ap (λ (z : ℕ). z * d) h ∙ add-mul 8000 n d

off_below : (k c n d : ℕ) → 8 * k + c + n ≡ 8000 → 8 * (k * d) + c * d + n * d ≡ 8000 * d
off_below k c n d h = ap (λ (z : ℕ). z + n * d) (sym (spread k c d)) ∙ sym (add-mul (8 * k + c) n d) ∙ ap (λ (z : ℕ). z * d) h

-- a / q, which is n / 8, beside (P - N) / d
scaled : (a q n d : ℕ) → a * 8 ≡ n * q → a * d * 8 ≡ n * d * q
scaled a q n d h = mul_right_comm a d 8 ∙ ap (λ (z : ℕ). z * d) h ∙ mul_right_comm n q d

from-plus : (a q n d P N : ℕ) → 0 < q → a * 8 ≡ n * q → a * d + N * q ≤ P * q → n * d + N * 8 ≤ P * 8
from-plus a q n d P N Q h g =
    le_of_mul-le-mul_right
    (le_trans (le_of_eq (add-mul (n * d) (N * 8) q ∙ ap (λ (z : ℕ). z + N * 8 * q) (sym (scaled a q n d h)) ∙ ap (λ (z : ℕ). a * d * 8 + z) (mul_right_comm N 8 q) ∙ sym (add-mul (a * d) (N * q) 8)))
    (le_trans (mul-le-mul_right 8 g) (le_of_eq (mul_right_comm P q 8)))) Q

from-minus : (a q n d P N : ℕ) → 0 < q → a * 8 ≡ n * q → N * q ≤ P * q + a * d → N * 8 ≤ P * 8 + n * d
from-minus a q n d P N Q h g =
    le_of_mul-le-mul_right
    (le_trans (le_of_eq (mul_right_comm N 8 q))
    (le_trans (mul-le-mul_right 8 g) (le_of_eq (add-mul (P * q) (a * d) 8 ∙ ap (λ (z : ℕ). z + a * d * 8) (mul_right_comm P q 8) ∙ ap (λ (z : ℕ). P * 8 * q + z) (scaled a q n d h) ∙ sym (add-mul (P * 8) (n * d) q))))) Q

at_least : (x y : Float) (k c : ℕ) (w : Marked k c) → HasValue x w.sign w.n 8 → T (le x y) → T (finite y) → From y k c
at_least nan y k c w v h u = absurd v
at_least (inf t) y k c w v h u = absurd v
at_least (fin t a g) nan k c w v h u = absurd u
at_least (fin t a g) (inf z) k c w v h u = absurd u
at_least (fin t a g) (fin s m e) k c w v h u = go t w.sign w.n w.place v.0 v.1 (le→signed t a g s m e h)
  where
    go : (t r : Bool) (n : ℕ) → cond r (8 * k + c + n ≡ 8000) (8 * k + c ≡ 8000 + n) → t ≡ r → a * up g * 8 ≡ n * down g
        → plus t (a * up g) * down e + minus s (m * up e) * down g ≤ plus s (m * up e) * down g + minus t (a * up g) * down e
        → 8 * (k * down e) + c * down e + minus s (m * up e) * 8 ≤ plus s (m * up e) * 8 + 8000 * down e
    go false false n p z v h =
        let b = from-plus (a * up g) (down g) n (down e) (plus s (m * up e)) (minus s (m * up e)) (down_pos g) v (omega arith) in
        omega (arith, off k c n (down e) p)
    go true true n p z v h =
        let b = from-minus (a * up g) (down g) n (down e) (plus s (m * up e)) (minus s (m * up e)) (down_pos g) v (omega arith) in
        omega (arith, off_below k c n (down e) p)
    go false true n p z v h = absurd (let q : ◌≡◌ {A = ℕ} 0 1 = cc in omega arith)
    go true false n p z v h = absurd (let q : ◌≡◌ {A = ℕ} 0 1 = cc in omega arith)

at_most : (x y : Float) (k c : ℕ) (w : Marked k c) → HasValue x w.sign w.n 8 → T (le y x) → T (finite y) → To y k c
at_most nan y k c w v h u = absurd v
at_most (inf t) y k c w v h u = absurd v
at_most (fin t a g) nan k c w v h u = absurd u
at_most (fin t a g) (inf z) k c w v h u = absurd u
at_most (fin t a g) (fin s m e) k c w v h u = go t w.sign w.n w.place v.0 v.1 (le→signed s m e t a g h)
  where
    go : (t r : Bool) (n : ℕ) → cond r (8 * k + c + n ≡ 8000) (8 * k + c ≡ 8000 + n) → t ≡ r → a * up g * 8 ≡ n * down g
        → plus s (m * up e) * down g + minus t (a * up g) * down e ≤ plus t (a * up g) * down e + minus s (m * up e) * down g
        → plus s (m * up e) * 8 + 8000 * down e ≤ 8 * (k * down e) + c * down e + minus s (m * up e) * 8
    go false false n p z v h =
        let b = from-minus (a * up g) (down g) n (down e) (minus s (m * up e)) (plus s (m * up e)) (down_pos g) v (omega arith) in
        omega (arith, off k c n (down e) p)
    go true true n p z v h =
        let b = from-plus (a * up g) (down g) n (down e) (minus s (m * up e)) (plus s (m * up e)) (down_pos g) v (omega arith) in
        omega (arith, off_below k c n (down e) p)
    go false true n p z v h = absurd (let q : ◌≡◌ {A = ℕ} 0 1 = cc in omega arith)
    go true false n p z v h = absurd (let q : ◌≡◌ {A = ℕ} 0 1 = cc in omega arith)

-- ---- a difference, b / D less (P - N) / d, before it is rounded
abbrev pub Upon : ℕ → ℕ → ℕ → ℕ → ℕ → ℕ → ℕ → Type 0
Upon b D P N d k c = 8 * (k * d) * D + c * d * D + P * D * 8 ≤ b * d * 8 + N * D * 8 + 8000 * d * D

abbrev pub Beneath : ℕ → ℕ → ℕ → ℕ → ℕ → ℕ → ℕ → Type 0
Beneath b D P N d k c = b * d * 8 + N * D * 8 + 8000 * d * D ≤ 8 * (k * d) * D + c * d * D + P * D * 8

times-same : (n D d : ℕ) → n * (D * d) ≡ n * d * D
times-same n D d = ap (λ (z : ℕ). n * z) (mul_comm D d) ∙ sym (mul_assoc n d D)

over : (k c n d D : ℕ) → 8 * k + c ≡ 8000 + n → 8 * (k * d) * D + c * d * D ≡ 8000 * d * D + n * (D * d)
over k c n d D h = sym (add-mul (8 * (k * d)) (c * d) D) ∙ ap (λ (z : ℕ). z * D) (off k c n d h) ∙ add-mul (8000 * d) (n * d) D ∙ ap (λ (z : ℕ). 8000 * d * D + z) (sym (times-same n D d))

over_below : (k c n d D : ℕ) → 8 * k + c + n ≡ 8000 → 8 * (k * d) * D + c * d * D + n * (D * d) ≡ 8000 * d * D
over_below k c n d D h =
    ap (λ (z : ℕ). z + n * (D * d)) (sym (add-mul (8 * (k * d)) (c * d) D)) ∙ ap (λ (z : ℕ). (8 * (k * d) + c * d) * D + z) (times-same n D d) ∙ sym (add-mul (8 * (k * d) + c * d) (n * d) D) ∙ ap (λ (z : ℕ). z * D) (off_below k c n d h)

-- the same beside n / 8, as the laws of rounding ask for it
upon : (t s : Bool) (n B D M d k c : ℕ) → cond t (8 * k + c + n ≡ 8000) (8 * k + c ≡ 8000 + n) → Upon B D (plus s M) (minus s M) d k c
    → plus t n * (D * d) + (0 + minus (not s) (M * D)) * 8 ≤ (B * d + plus (not s) (M * D)) * 8 + minus t n * (D * d)
upon false false n B D M d k c p h = omega (arith, over k c n d D p, zero-mul D, zero-mul (D * d))
upon false true n B D M d k c p h = omega (arith, over k c n d D p, zero-mul D, zero-mul (D * d))
upon true false n B D M d k c p h = omega (arith, over_below k c n d D p, zero-mul D, zero-mul (D * d))
upon true true n B D M d k c p h = omega (arith, over_below k c n d D p, zero-mul D, zero-mul (D * d))

beneath : (t s : Bool) (n B D M d k c : ℕ) → cond t (8 * k + c + n ≡ 8000) (8 * k + c ≡ 8000 + n) → Beneath B D (plus s M) (minus s M) d k c
    → (B * d + plus (not s) (M * D)) * 8 + minus t n * (D * d) ≤ plus t n * (D * d) + (0 + minus (not s) (M * D)) * 8
beneath false false n B D M d k c p h = omega (arith, over k c n d D p, zero-mul D, zero-mul (D * d))
beneath false true n B D M d k c p h = omega (arith, over k c n d D p, zero-mul D, zero-mul (D * d))
beneath true false n B D M d k c p h = omega (arith, over_below k c n d D p, zero-mul D, zero-mul (D * d))
beneath true true n B D M d k c p h = omega (arith, over_below k c n d D p, zero-mul D, zero-mul (D * d))

module _ (b : ℕ) (g : ℤ) (s : Bool) (m : ℕ) (e : ℤ) (k c : ℕ) (l : 8 * k + c ≤ 16000) where
  abbrev difference : Float
  difference = sub32 (fin false b g) (fin s m e)

  abbrev mark : Float
  mark = round binary32 (marked k c l).sign (marked k c l).n 8

  mark_key : key binary32 mark ≡ signed_key binary32 (plus (marked k c l).sign (marked k c l).n) (minus (marked k c l).sign (marked k c l).n) 8
  mark_key = round_signed_key binary32 (marked k c l).sign (marked k c l).n 8 (lit< tt)

  difference-key : key binary32 difference ≡ signed_key binary32 (b * up g * down e + plus (not s) (m * up e * down g)) (0 + minus (not s) (m * up e * down g)) (down g * down e)
  unfolding sub neg
  difference-key = add_key binary32 false b g (not s) m e

  pub sub_from : T (finite difference) → Upon (b * up g) (down g) (plus s (m * up e)) (minus s (m * up e)) (down e) k c → From difference k c
  sub_from u h =
      let w = marked k c l in
      at_least mark difference k c w (held binary32 w.sign 146 3 w.n refl w.few)
      (key→le binary32 mark difference (round-fits binary32 w.sign w.n 8) (sub-fits binary32 (fin false b g) (fin s m e)) (round_number binary32 w.sign w.n 8) (finite_number binary32 difference u)
      (rw (mark_key, difference-key)
      (signed_key-rises binary32 (plus w.sign w.n) (minus w.sign w.n) 8 (b * up g * down e + plus (not s) (m * up e * down g)) (0 + minus (not s) (m * up e * down g)) (down g * down e) (lit< tt) (mul-pos (down_pos g) (down_pos e))
      (upon w.sign s w.n (b * up g) (down g) (m * up e) (down e) k c w.place h)))) u

  pub sub_to : T (finite difference) → Beneath (b * up g) (down g) (plus s (m * up e)) (minus s (m * up e)) (down e) k c → To difference k c
  sub_to u h =
      let w = marked k c l in
      at_most mark difference k c w (held binary32 w.sign 146 3 w.n refl w.few)
      (key→le binary32 difference mark (sub-fits binary32 (fin false b g) (fin s m e)) (round-fits binary32 w.sign w.n 8) (finite_number binary32 difference u) (round_number binary32 w.sign w.n 8)
      (rw (mark_key, difference-key)
      (signed_key-rises binary32 (b * up g * down e + plus (not s) (m * up e * down g)) (0 + minus (not s) (m * up e * down g)) (down g * down e) (plus w.sign w.n) (minus w.sign w.n) 8 (mul-pos (down_pos g) (down_pos e)) (lit< tt)
      (beneath w.sign s w.n (b * up g) (down g) (m * up e) (down e) k c w.place h)))) u
