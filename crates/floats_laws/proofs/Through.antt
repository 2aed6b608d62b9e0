-- Orders go on from one comparison to the next, for all floats, held by a format or not: x <= y < z and x < y <= z give x < z.
use Prim.Native.Nat.{ℕ, ◌+◌, ◌*◌, ◌<◌, ◌≤◌}
use native.Mathlib.Nat.{mul_comm, mul_assoc, mul_left_comm, mul-le-mul_right, mul-lt-mul_of_pos_right, lt_of_mul-lt-mul_right, add-mul, zero-mul}
use native.Mathlib.Omega.{arith}
use mathlib.Core.Path.{◌≡◌, refl}
use mathlib.Core.Bool.{Bool, true, false, false≢true}
use borrow.Author.Tests.{ltb-true, lt-ltb}
use lib.IntN.{ℤ}
use lib.Dec.{T}
use lib.Ieee.{Float, nan, inf, fin, up, down, lt, le, eq}
use lib.Ieee.Fits.{down_pos}
use Rattle.floats_laws.proofs.Mono.{plus, minus, le→signed}

module _ (m : ℕ) (e : ℤ) (n : ℕ) (d : ℤ) where
  abbrev left : ℕ
  left = m * up e * down d

  abbrev right : ℕ
  right = n * up d * down e

  lt→signed : (s t : Bool) → lt (fin s m e) (fin t n d) ≡ true → plus s (m * up e) * down d + minus t (n * up d) * down e < plus t (n * up d) * down e + minus s (m * up e) * down d
  unfolding lt
  lt→signed false false h = omega (arith, zero-mul (down e), zero-mul (down d), ltb-true left right h)
  lt→signed false true h = absurd (false≢true h)
  lt→signed true false h = omega (arith, zero-mul (down e), zero-mul (down d), ltb-true 0 (left + right) h)
  lt→signed true true h = omega (arith, zero-mul (down e), zero-mul (down d), ltb-true right left h)

  signed→lt : (s t : Bool) → plus s (m * up e) * down d + minus t (n * up d) * down e < plus t (n * up d) * down e + minus s (m * up e) * down d → lt (fin s m e) (fin t n d) ≡ true
  unfolding lt
  signed→lt false false h = lt-ltb left right (omega (arith, zero-mul (down e), zero-mul (down d)))
  signed→lt false true h = absurd (omega (arith, zero-mul (down e), zero-mul (down d)))
  signed→lt true false h = lt-ltb 0 (left + right) (omega (arith, zero-mul (down e), zero-mul (down d)))
  signed→lt true true h = lt-ltb right left (omega (arith, zero-mul (down e), zero-mul (down d)))

-- three signed fractions (p - n) / d
module _ (p n d p' n' d' p'' n'' d'' : ℕ) (D : 0 < d) (D' : 0 < d') (D'' : 0 < d'') where
  below-after : p * d' + n' * d ≤ p' * d + n * d' → p' * d'' + n'' * d' < p'' * d' + n' * d'' → p * d'' + n'' * d < p'' * d + n * d''
  below-after h k =
      let a = mul-le-mul_right d'' h in
      let b = mul-lt-mul_of_pos_right k D in
      lt_of_mul-lt-mul_right d'
      (simp (add-mul, mul_assoc, mul_comm, mul_left_comm) (omega (arith, simp (add-mul, mul_assoc, mul_comm, mul_left_comm) at a, simp (add-mul, mul_assoc, mul_comm, mul_left_comm) at b)))

  below-before : p * d' + n' * d < p' * d + n * d' → p' * d'' + n'' * d' ≤ p'' * d' + n' * d'' → p * d'' + n'' * d < p'' * d + n * d''
  below-before h k =
      let a = mul-lt-mul_of_pos_right h D'' in
      let b = mul-le-mul_right d k in
      lt_of_mul-lt-mul_right d'
      (simp (add-mul, mul_assoc, mul_comm, mul_left_comm) (omega (arith, simp (add-mul, mul_assoc, mul_comm, mul_left_comm) at a, simp (add-mul, mul_assoc, mul_comm, mul_left_comm) at b)))

pub le_lt : (x y z : Float) → T (le x y) → lt y z ≡ true → lt x z ≡ true
unfolding le lt eq
le_lt nan y z h k = absurd h
le_lt (inf true) nan z h k = absurd h
le_lt (inf true) (inf true) z h k = k
le_lt (inf true) (inf false) nan h k = absurd (false≢true k)
le_lt (inf true) (inf false) (inf t) h k = absurd (false≢true k)
le_lt (inf true) (inf false) (fin t n d) h k = refl
le_lt (inf true) (fin t n d) nan h k = absurd (false≢true k)
le_lt (inf true) (fin t n d) (inf w) h k = k
le_lt (inf true) (fin t n d) (fin w l g) h k = refl
le_lt (inf false) nan z h k = absurd h
le_lt (inf false) (inf true) z h k = absurd h
le_lt (inf false) (inf false) z h k = k
le_lt (inf false) (fin t n d) z h k = absurd h
le_lt (fin s m e) nan z h k = absurd h
le_lt (fin s m e) (inf true) z h k = absurd h
le_lt (fin s m e) (inf false) nan h k = absurd (false≢true k)
le_lt (fin s m e) (inf false) (inf t) h k = absurd (false≢true k)
le_lt (fin s m e) (inf false) (fin t n d) h k = absurd (false≢true k)
le_lt (fin s m e) (fin t n d) nan h k = absurd (false≢true k)
le_lt (fin s m e) (fin t n d) (inf w) h k = k
le_lt (fin s m e) (fin t n d) (fin w l g) h k =
    signed→lt m e l g s w
    (below-after (plus s (m * up e)) (minus s (m * up e)) (down e) (plus t (n * up d)) (minus t (n * up d)) (down d) (plus w (l * up g)) (minus w (l * up g)) (down g) (down_pos e) (down_pos d) (down_pos g)
    (le→signed s m e t n d h) (lt→signed n d l g t w k))

pub lt_le : (x y z : Float) → lt x y ≡ true → T (le y z) → lt x z ≡ true
unfolding le lt eq
lt_le nan y z h k = absurd (false≢true h)
lt_le (inf true) nan z h k = absurd (false≢true h)
lt_le (inf true) (inf true) z h k = absurd (false≢true h)
lt_le (inf true) (inf false) nan h k = absurd k
lt_le (inf true) (inf false) (inf true) h k = absurd k
lt_le (inf true) (inf false) (inf false) h k = refl
lt_le (inf true) (inf false) (fin t n d) h k = refl
lt_le (inf true) (fin t n d) nan h k = absurd k
lt_le (inf true) (fin t n d) (inf true) h k = absurd k
lt_le (inf true) (fin t n d) (inf false) h k = refl
lt_le (inf true) (fin t n d) (fin w l g) h k = refl
lt_le (inf false) nan z h k = absurd (false≢true h)
lt_le (inf false) (inf t) z h k = absurd (false≢true h)
lt_le (inf false) (fin t n d) z h k = absurd (false≢true h)
lt_le (fin s m e) nan z h k = absurd (false≢true h)
lt_le (fin s m e) (inf true) z h k = absurd (false≢true h)
lt_le (fin s m e) (inf false) nan h k = absurd k
lt_le (fin s m e) (inf false) (inf true) h k = absurd k
lt_le (fin s m e) (inf false) (inf false) h k = refl
lt_le (fin s m e) (inf false) (fin w l g) h k = absurd k
lt_le (fin s m e) (fin t n d) nan h k = absurd k
lt_le (fin s m e) (fin t n d) (inf true) h k = absurd k
lt_le (fin s m e) (fin t n d) (inf false) h k = refl
lt_le (fin s m e) (fin t n d) (fin w l g) h k =
    signed→lt m e l g s w
    (below-before (plus s (m * up e)) (minus s (m * up e)) (down e) (plus t (n * up d)) (minus t (n * up d)) (down d) (plus w (l * up g)) (minus w (l * up g)) (down g) (down_pos e) (down_pos d) (down_pos g)
    (lt→signed m e n d s t h) (le→signed t n d w l g k))
