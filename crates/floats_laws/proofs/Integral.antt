-- `floor` and `ceil` are IEEE 754's rounding to a whole number, over the format: the only floats next to x as `Floored` and `Ceiled` say, and they never fall as x rises.
use Prim.Native.Nat.{ℕ, suc, ◌+◌, ◌-◌, ◌*◌, ◌/◌, ◌^◌, ◌≤◌, ◌<◌}
use native.Mathlib.Nat.{le_trans, le_of_eq, lt_of_le_of_lt, le_of_suc-le-suc, le_antisymm, mul-one, zero-mul, mul_right_comm, mul-le-mul_right, le_of_mul-le-mul_right, lt_of_mul-lt-mul_right, div-add-mod', mod-lt, div-le_self, div-one, zero-div}
use native.Mathlib.Omega.{arith}
use mathlib.Core.Path.{◌≡◌, refl, sym, ap, ◌∙◌, subst}
use mathlib.Core.Bool.{Bool, true, false, not}
use lib.IntN.{ℤ, pos, negsuc}
use lib.Dec.{T}
use lib.Pow.{pow_pos}
use lib.Ieee.{Float, nan, inf, fin, Format, up, down, round, neg, le, fits, is_nan}
use lib.Ieee.Fits.{down_pos}
use lib.Ieee.Exact.{HasValue}
use lib.Ieee.Back.{round_whole}
use lib.Ieee.Nearest.{div_mono}
use Rattle.floats.specs.Whole.{floor, ceil, cut, lift, Cut, Lifted, Whole, Floored, Ceiled}
use Rattle.floats.proofs.Values.{fine, unique}
use Rattle.floats.proofs.Floored.{kept, lift_le, ceil-is, floor-fits, floor-number, up_one}
use Rattle.floats_laws.proofs.Keys.{key}
use Rattle.floats_laws.proofs.Mono.{plus, minus, signed_key, signed_key-rises, round_signed_key, le→signed}
use Rattle.floats_laws.proofs.Rules.{key→le, le_left, le_right}
use Rattle.floats_laws.proofs.Rising.{le_refl, lowest, highest, past-lowest, past-highest, neg_falls}

-- ---- the two quotients
cuts : (a d : ℕ) → 0 < d → Cut a d (a / d)
cuts a d D = (omega (arith, div-add-mod' a d), omega (arith, div-add-mod' a d, mod-lt a D, up_one (a / d) d))

lifts : (a d : ℕ) → 0 < d → Lifted a d ((a + (d - 1)) / d)
lifts a d D =
    let q = (a + (d - 1)) / d in
    (omega (arith, div-add-mod' (a + (d - 1)) d, mod-lt (a + (d - 1)) D, up_one q d), omega (arith, div-add-mod' (a + (d - 1)) d))

-- each is the only whole number there
less : (n p d x : ℕ) → n * d ≤ x → x < (p + 1) * d → n ≤ p
less n p d x h k = le_of_suc-le-suc (let g : n < p + 1 = lt_of_mul-lt-mul_right d (lt_of_le_of_lt h k) in omega arith)

one-cut : (a d n p : ℕ) → Cut a d n → Cut a d p → n ≡ p
one-cut a d n p h k = le_antisymm (less n p d a h.0 k.1) (less p n d a k.0 h.1)

pub lift_most : (a d n p : ℕ) → n * d < a + d → a ≤ p * d → n ≤ p
lift_most a d n p h k = le_of_suc-le-suc (let g : n < p + 1 = lt_of_mul-lt-mul_right d (omega (arith, up_one p d)) in omega arith)

one-lift : (a d n p : ℕ) → Lifted a d n → Lifted a d p → n ≡ p
one-lift a d n p h k = le_antisymm (lift_most a d n p h.1 k.0) (lift_most a d p n k.1 h.0)

-- ---- rounding loses nothing of them
even-exact : (f : Format) (s : Bool) (m : ℕ) (e : ℤ) (q : ℕ) → T (fits f (fin s m e)) → m * up e ≡ q * down e → HasValue (round f s q 1) s q 1
even-exact f s m e q t h = subst (λ (y : Float). HasValue y s q 1) (sym (kept f s m e q t h)) (refl, mul-one (m * up e) ∙ h)

cut-exact : (f : Format) (s : Bool) (m : ℕ) (e : ℤ) → T (fits f (fin s m e)) → HasValue (round f s (cut m e) 1) s (cut m e) 1
cut-exact f s m (pos k) t = even-exact f s m (pos k) (cut m (pos k)) t (sym (mul-one (cut m (pos k)) ∙ div-one (m * 2 ^ k)))
cut-exact f s m (negsuc k) t = round_whole f s (cut m (negsuc k)) (omega (arith, (fine f s m (negsuc k) t).few, div-le_self (m * 1) (2 ^ suc k)))

lift-exact : (f : Format) (s : Bool) (m : ℕ) (e : ℤ) → T (fits f (fin s m e)) → HasValue (round f s (lift m e) 1) s (lift m e) 1
lift-exact f s m (pos k) t = even-exact f s m (pos k) (lift m (pos k)) t (sym (mul-one (lift m (pos k)) ∙ div-one (m * 2 ^ k + 0) ∙ plain (m * 2 ^ k)))
  where
    plain : (n : ℕ) → n + 0 ≡ n
    plain n = omega arith
lift-exact f s m (negsuc k) t = round_whole f s (lift m (negsuc k)) (omega (arith, (fine f s m (negsuc k) t).few, lift_le (m * 1) (2 ^ suc k) (pow_pos (suc k))))

-- ---- they are IEEE 754's
pub floor-is : (f : Format) (x : Float) → T (fits f x) → Floored x (floor f x)
unfolding floor
floor-is f nan t = refl
floor-is f (inf s) t = refl
floor-is f (fin false m e) t = record { n = cut m e; exact = cut-exact f false m e t; next = cuts (m * up e) (down e) (down_pos e) }
floor-is f (fin true m e) t = record { n = lift m e; exact = lift-exact f true m e t; next = lifts (m * up e) (down e) (down_pos e) }

pub ceil-is-up : (f : Format) (x : Float) → T (fits f x) → Ceiled x (ceil f x)
unfolding ceil
ceil-is-up f nan t = refl
ceil-is-up f (inf s) t = refl
ceil-is-up f (fin false m e) t = record { n = lift m e; exact = lift-exact f false m e t; next = lifts (m * up e) (down e) (down_pos e) }
ceil-is-up f (fin true m e) t = record { n = cut m e; exact = cut-exact f true m e t; next = cuts (m * up e) (down e) (down_pos e) }

module _ (f : Format) (y z : Float) (p : T (fits f y)) (q : T (fits f z)) where
  whole-only : (near : ℕ → Type 0) (s : Bool) → ((n k : ℕ) → near n → near k → n ≡ k) → Whole near s y → Whole near s z → y ≡ z
  whole-only near s same u v = unique f y z s u.n 1 (pow_pos 0) p q u.exact (subst (λ (k : ℕ). HasValue z s k 1) (same v.n u.n v.next u.next) v.exact)

  -- nothing else of the format is so
  pub floor-only : (x : Float) → Floored x y → Floored x z → y ≡ z
  floor-only nan u v = u ∙ sym v
  floor-only (inf s) u v = u ∙ sym v
  floor-only (fin false m e) u v = whole-only (Cut (m * up e) (down e)) false (one-cut (m * up e) (down e)) u v
  floor-only (fin true m e) u v = whole-only (Lifted (m * up e) (down e)) true (one-lift (m * up e) (down e)) u v

  pub ceil-only : (x : Float) → Ceiled x y → Ceiled x z → y ≡ z
  ceil-only nan u v = u ∙ sym v
  ceil-only (inf s) u v = u ∙ sym v
  ceil-only (fin false m e) u v = whole-only (Lifted (m * up e) (down e)) false (one-lift (m * up e) (down e)) u v
  ceil-only (fin true m e) u v = whole-only (Cut (m * up e) (down e)) true (one-cut (m * up e) (down e)) u v

-- ---- they rise with x
-- a / d at most b / c
lift_mono : (a d b c : ℕ) → 0 < d → 0 < c → a * c ≤ b * d → (a + (d - 1)) / d ≤ (b + (c - 1)) / c
lift_mono a d b c D C h =
    let p = (b + (c - 1)) / c in
    let g : b * d ≤ p * c * d = mul-le-mul_right d (lifts b c C).0 in
    let k : a ≤ p * d = le_of_mul-le-mul_right (le_trans h (le_trans g (le_of_eq (mul_right_comm p c d)))) C in
    lift_most a d ((a + (d - 1)) / d) p (lifts a d D).1 k

-- the whole numbers of two floats in order, as signed numbers
abbrev sized : Bool → ℕ → ℤ → ℕ
sized false m e = cut m e
sized true m e = lift m e

nothing : (d : ℕ) → 0 < d → (0 + (d - 1)) / d ≡ 0
nothing d D = one-lift 0 d ((0 + (d - 1)) / d) 0 (lifts 0 d D) (omega (arith, zero-mul d), omega (arith, zero-mul d))

sized_le : (s : Bool) (m : ℕ) (e : ℤ) (t : Bool) (n : ℕ) (g : ℤ) → plus s (m * up e) * down g + minus t (n * up g) * down e ≤ plus t (n * up g) * down e + minus s (m * up e) * down g
    → plus s (sized s m e) * 1 + minus t (sized t n g) * 1 ≤ plus t (sized t n g) * 1 + minus s (sized s m e) * 1
sized_le false m e false n g h = omega (arith, div_mono (m * up e) (down e) (n * up g) (down g) (down_pos e) (down_pos g) (omega (arith, zero-mul (down e), zero-mul (down g))))
sized_le false m e true n g h =
    let a : m * up e * down g ≤ 0 * down g = omega (arith, zero-mul (down e), zero-mul (down g)) in
    let b : n * up g * down e ≤ 0 * down e = omega (arith, zero-mul (down e), zero-mul (down g)) in
    let p : m * up e ≡ 0 = none (le_of_mul-le-mul_right a (down_pos g)) in
    let q : n * up g ≡ 0 = none (le_of_mul-le-mul_right b (down_pos e)) in
    let x : cut m e ≡ 0 = ap (λ (z : ℕ). z / down e) p ∙ zero-div (down e) in
    let y : lift n g ≡ 0 = ap (λ (z : ℕ). (z + (down g - 1)) / down g) q ∙ nothing (down g) (down_pos g) in
    omega arith
  where
    none : {z : ℕ} → z ≤ 0 → z ≡ 0
    none h = omega arith
sized_le true m e false n g h = omega arith
sized_le true m e true n g h = omega (arith, lift_mono (n * up g) (down g) (m * up e) (down e) (down_pos g) (down_pos e) (omega (arith, zero-mul (down e), zero-mul (down g))))

whole-key : (f : Format) (s : Bool) (m : ℕ) (e : ℤ) → key f (floor f (fin s m e)) ≡ signed_key f (plus s (sized s m e)) (minus s (sized s m e)) 1
unfolding floor
whole-key f false m e = round_signed_key f false (cut m e) 1 (pow_pos 0)
whole-key f true m e = round_signed_key f true (lift m e) 1 (pow_pos 0)

floor_inf : (f : Format) (s : Bool) → floor f (inf s) ≡ inf s
unfolding floor
floor_inf f s = refl

fin_inf : (s : Bool) (m : ℕ) (e : ℤ) → fin s m e ≡ inf true → ⊥
fin_inf s m e h = let z : ◌≡◌ {A = ℕ} 0 1 = cc in omega arith

module _ (f : Format) where
  fin_number : (s : Bool) (m : ℕ) (e : ℤ) → T (not (is_nan (floor f (fin s m e))))
  unfolding is_nan
  fin_number s m e = floor-number f (fin s m e) tt

  pub floor-rises : (x y : Float) → T (le x y) → T (le (floor f x) (floor f y))
  unfolding is_nan
  floor-rises nan y h = absurd (le_left nan y h)
  floor-rises (inf true) y h = subst (λ (z : Float). T (le z (floor f y))) (sym (floor_inf f true)) (lowest (floor f y) (floor-number f y (le_right (inf true) y h)))
  floor-rises (inf false) y h = subst (λ (z : Float). T (le (floor f (inf false)) (floor f z))) (sym (past-highest y h)) (le_refl (floor f (inf false)) (floor-number f (inf false) tt))
  floor-rises (fin s m e) nan h = absurd (le_right (fin s m e) nan h)
  floor-rises (fin s m e) (inf true) h = absurd (fin_inf s m e (past-lowest (fin s m e) h))
  floor-rises (fin s m e) (inf false) h = subst (λ (z : Float). T (le (floor f (fin s m e)) z)) (sym (floor_inf f false)) (highest (floor f (fin s m e)) (fin_number s m e))
  floor-rises (fin s m e) (fin t n g) h =
      key→le f (floor f (fin s m e)) (floor f (fin t n g)) (floor-fits f (fin s m e)) (floor-fits f (fin t n g)) (fin_number s m e) (fin_number t n g)
      (rw (whole-key f s m e, whole-key f t n g)
      (signed_key-rises f (plus s (sized s m e)) (minus s (sized s m e)) 1 (plus t (sized t n g)) (minus t (sized t n g)) 1 (pow_pos 0) (pow_pos 0) (sized_le s m e t n g (le→signed s m e t n g h))))

  pub ceil-rises : (x y : Float) → T (fits f x) → T (fits f y) → T (le x y) → T (le (ceil f x) (ceil f y))
  ceil-rises x y p q h =
      rw (← ceil-is f x, ← ceil-is f y)
      (neg_falls f (floor f (neg y)) (floor f (neg x)) (floor-fits f (neg y)) (floor-fits f (neg x)) (floor-rises (neg y) (neg x) (neg_falls f x y p q h)))
