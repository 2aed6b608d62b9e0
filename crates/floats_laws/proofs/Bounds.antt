-- The bounds of `Mag` through each operation, over the format.
use Prim.Native.Nat.{ℕ, zero, suc, ◌+◌, ◌-◌, ◌*◌, ◌^◌, ◌≤◌, ◌<◌}
use native.Mathlib.Nat.{le_trans, le_of_eq, mul_comm, mul_assoc, mul-mul-mul_comm, zero-mul, add-mul, mul-pos, mul-le-mul, mul-le-mul_right}
use native.Mathlib.Omega.{arith}
use mathlib.Core.Path.{◌≡◌, ap, ◌∙◌}
use mathlib.Core.Bool.{Bool, true, false, cond, ◌&&◌, beq}
use lib.IntN.{ℤ, pos}
use lib.Dec.{ltb, eqb, eqb→eq}
use lib.Pow.{pow_pos}
use lib.Ieee.{Float, nan, inf, fin, Format, prec, up, down, round, add, sub, neg, sum, mul, div, lt, of_int, is_nan, unlike}
use lib.Ieee.Fits.{down_pos}
use denote.Floats.{passes}
use Rattle.floats.specs.Choose.{max}
use Rattle.sequences.specs.Pick.{by-case}
use Rattle.floats_laws.proofs.Mag.{Mag, Upto, Least, least_pos, within, within-upto}

-- ---- the sign
pub neg_mag : (x : Float) (k : ℕ) → Mag x k → Mag (neg x) k
unfolding neg
neg_mag nan k h = h
neg_mag (inf s) k h = h
neg_mag (fin s m e) k h = h

-- ---- a choice has what both have
pub chosen : (P : Float → Type 0) (b : Bool) (x y : Float) → P x → P y → P (cond b x y)
chosen P true x y p q = p
chosen P false x y p q = q

module _ (x y : Float) (k : ℕ) where
  pub max_mag : Mag x k → Mag y k → Mag (max x y) k
  unfolding max
  max_mag p q = chosen (λ z. Mag z k) (is_nan x) y (cond (lt x y) y x) q (chosen (λ z. Mag z k) (lt x y) y x q p)

  pub max-upto : Upto x k → Upto y k → Upto (max x y) k
  unfolding max
  max-upto p q = chosen (λ z. Upto z k) (is_nan x) y (cond (lt x y) y x) q (chosen (λ z. Upto z k) (lt x y) y x q p)

-- ---- sums
more_than : (a b m n c : ℕ) → a ≤ m * c → b ≤ n * c → a + b ≤ (m + n) * c
more_than a b m n c h g = rw (add-mul m n c) (omega arith)

pub scaled : (x v w m : ℕ) → x ≤ m * v → x * w ≤ m * (v * w)
scaled x v w m h = le_trans (mul-le-mul_right w h) (le_of_eq (mul_assoc m v w))

-- what is above 0 has digits that are not 0
pub nonzero : (n : ℕ) (d : ℤ) → 0 < n * up d → eqb n 0 ≡ true → ⊥
nonzero zero d h q = omega (arith, zero-mul (up d))
nonzero (suc n) d h q = let e : suc n ≡ 0 = eqb→eq (suc n) 0 (passes _ q) in omega arith

module _ (f : Format) where
  part : (s : Bool) (x a b c m n : ℕ) → 0 < c → m + n ≤ 2 ^ prec f → x ≤ a + b → a ≤ m * c → b ≤ n * c → Mag (round f s x c) (m + n)
  part s x a b c m n C K l h g = within f s x c (m + n) C K (le_trans l (more_than a b m n c h g))

  sum_mag : (s t : Bool) (a b c m n : ℕ) → 0 < c → m + n ≤ 2 ^ prec f → a ≤ m * c → b ≤ n * c → Mag (sum f s a t b c) (m + n)
  unfolding sum
  sum_mag s t a b c m n C K h g =
      chosen (λ z. Mag z (m + n)) (beq s t) (round f s (a + b) c) (cond (ltb a b) (round f t (b - a) c) (round f (s && ltb b a) (a - b) c)) (part s (a + b) a b c m n C K (omega arith) h g)
      (chosen (λ z. Mag z (m + n)) (ltb a b) (round f t (b - a) c) (round f (s && ltb b a) (a - b) c) (part t (b - a) a b c m n C K (omega arith) h g) (part (s && ltb b a) (a - b) a b c m n C K (omega arith) h g))

  pub add_mag : (x y : Float) (a b : ℕ) → a + b ≤ 2 ^ prec f → Mag x a → Mag y b → Mag (add f x y) (a + b)
  unfolding add
  add_mag nan y a b K h g = absurd h
  add_mag (inf s) y a b K h g = absurd h
  add_mag (fin s m e) nan a b K h g = absurd g
  add_mag (fin s m e) (inf t) a b K h g = absurd g
  add_mag (fin s m e) (fin t n d) a b K h g =
      sum_mag s t (m * up e * down d) (n * up d * down e) (down e * down d) a b (mul-pos (down_pos e) (down_pos d)) K (scaled (m * up e) (down e) (down d) a h)
      (le_trans (scaled (n * up d) (down d) (down e) b g) (le_of_eq (ap (λ (z : ℕ). b * z) (mul_comm (down d) (down e)))))

  pub sub_mag : (x y : Float) (a b : ℕ) → a + b ≤ 2 ^ prec f → Mag x a → Mag y b → Mag (sub f x y) (a + b)
  unfolding sub
  sub_mag x y a b K h g = add_mag x (neg y) a b K h (neg_mag y b g)

  pub add_upto : (x y : Float) (a b : ℕ) → a + b ≤ 2 ^ prec f → Upto x a → Upto y b → Upto (add f x y) (a + b)
  unfolding add sum
  add_upto nan y a b K h g = absurd h
  add_upto (inf s) y a b K h g = absurd h
  add_upto (fin true m e) y a b K h g = absurd h
  add_upto (fin false m e) nan a b K h g = absurd g
  add_upto (fin false m e) (inf t) a b K h g = absurd g
  add_upto (fin false m e) (fin true n d) a b K h g = absurd g
  add_upto (fin false m e) (fin false n d) a b K h g =
      within-upto f (m * up e * down d + n * up d * down e) (down e * down d) (a + b) (mul-pos (down_pos e) (down_pos d)) K
      (more_than (m * up e * down d) (n * up d * down e) a b (down e * down d) (scaled (m * up e) (down e) (down d) a h)
      (le_trans (scaled (n * up d) (down d) (down e) b g) (le_of_eq (ap (λ (z : ℕ). b * z) (mul_comm (down d) (down e))))))

  -- the difference of two that have no sign is at most the larger
  pub apart_mag : (x y : Float) (k : ℕ) → k ≤ 2 ^ prec f → Upto x k → Upto y k → Mag (sub f x y) k
  unfolding sub add neg sum
  apart_mag nan y k K h g = absurd h
  apart_mag (inf s) y k K h g = absurd h
  apart_mag (fin true m e) y k K h g = absurd h
  apart_mag (fin false m e) nan k K h g = absurd g
  apart_mag (fin false m e) (inf t) k K h g = absurd g
  apart_mag (fin false m e) (fin true n d) k K h g = absurd g
  apart_mag (fin false m e) (fin false n d) k K h g =
      let a = m * up e * down d in
      let b = n * up d * down e in
      let c = down e * down d in
      let C : 0 < c = mul-pos (down_pos e) (down_pos d) in
      let p : a ≤ k * c = scaled (m * up e) (down e) (down d) k h in
      let q : b ≤ k * c = le_trans (scaled (n * up d) (down d) (down e) k g) (le_of_eq (ap (λ (z : ℕ). k * z) (mul_comm (down d) (down e)))) in
      chosen (λ z. Mag z k) (ltb a b) (round f true (b - a) c) (round f (false && ltb b a) (a - b) c) (within f true (b - a) c k C K (omega arith)) (within f (false && ltb b a) (a - b) c k C K (omega arith))

  -- ---- products and quotients
  crossed : (x v y w a b : ℕ) → x ≤ a * v → y ≤ b * w → x * y ≤ a * b * (v * w)
  crossed x v y w a b h g = le_trans (mul-le-mul h g) (le_of_eq (mul-mul-mul_comm a v b w))

  pub mul_mag : (x y : Float) (a b : ℕ) → a * b ≤ 2 ^ prec f → Mag x a → Mag y b → Mag (mul f x y) (a * b)
  unfolding mul
  mul_mag nan y a b K h g = absurd h
  mul_mag (inf s) y a b K h g = absurd h
  mul_mag (fin s m e) nan a b K h g = absurd g
  mul_mag (fin s m e) (inf t) a b K h g = absurd g
  mul_mag (fin s m e) (fin t n d) a b K h g = within f (unlike s t) (m * up e * (n * up d)) (down e * down d) (a * b) (mul-pos (down_pos e) (down_pos d)) K (crossed (m * up e) (down e) (n * up d) (down d) a b h g)

  pub mul_upto : (x y : Float) (a b : ℕ) → a * b ≤ 2 ^ prec f → Upto x a → Upto y b → Upto (mul f x y) (a * b)
  unfolding mul
  mul_upto nan y a b K h g = absurd h
  mul_upto (inf s) y a b K h g = absurd h
  mul_upto (fin true m e) y a b K h g = absurd h
  mul_upto (fin false m e) nan a b K h g = absurd g
  mul_upto (fin false m e) (inf t) a b K h g = absurd g
  mul_upto (fin false m e) (fin true n d) a b K h g = absurd g
  mul_upto (fin false m e) (fin false n d) a b K h g = within-upto f (m * up e * (n * up d)) (down e * down d) (a * b) (mul-pos (down_pos e) (down_pos d)) K (crossed (m * up e) (down e) (n * up d) (down d) a b h g)

  ratio : (x v n w a j : ℕ) → x ≤ a * v → w ≤ j * n → x * w ≤ a * j * (n * v)
  ratio x v n w a j h g = le_trans (mul-le-mul h g) (le_of_eq (mul-mul-mul_comm a v j n ∙ ap (λ (z : ℕ). a * j * z) (mul_comm v n)))

  pub div_mag : (x y : Float) (a j : ℕ) → a * j ≤ 2 ^ prec f → Mag x a → Least y j → Mag (div f x y) (a * j)
  unfolding div
  div_mag nan y a j K h g = absurd h
  div_mag (inf s) y a j K h g = absurd h
  div_mag (fin s m e) nan a j K h g = absurd g
  div_mag (fin s m e) (inf t) a j K h g = absurd g
  div_mag (fin s m e) (fin true n d) a j K h g = absurd g
  div_mag (fin s m e) (fin false n d) a j K h g =
      let P : 0 < n * up d = least_pos j (n * up d) (down d) (down_pos d) g in
      by-case (eqb n 0) (λ q. absurd (nonzero n d P q))
      (λ q. rw q (within f (unlike s false) (m * up e * down d) (n * up d * down e) (a * j) (mul-pos P (down_pos e)) K (ratio (m * up e) (down e) (n * up d) (down d) a j h g)))

  -- ---- conversions
  pub of_upto : (n k : ℕ) → k ≤ 2 ^ prec f → n ≤ k → Upto (of_int f (pos n)) k
  unfolding of_int
  of_upto n k K h = within-upto f n 1 k (pow_pos 0) K (omega arith)
