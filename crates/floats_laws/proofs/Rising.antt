-- What rises with its operand, over the format and over all floats: infinities and both zeros count, and a NaN is shut out by the order itself or by the result.
use Prim.Native.Nat.{ℕ, zero, suc, ◌*◌, ◌<◌}
use native.Mathlib.Nat.{mul-pos, zero-mul, mul-zero, zero-lt-suc}
use native.Mathlib.Omega.{arith}
use mathlib.Core.Path.{◌≡◌, refl, sym, ap, ◌∙◌, subst}
use mathlib.Core.Bool.{Bool, true, false, not, cond, ◌||◌}
use lib.IntN.{ℤ, pos}
use lib.Dec.{T, eqb, ltb→lt, eqb→eq, eqb-suc-zero}
use lib.Ieee.{Float, nan, inf, fin, Format, up, down, round, add, sub, mul, div, neg, lt, le, eq, fits, is_nan, unlike}
use lib.Ieee.Fits.{add-fits, mul-fits, div-fits, neg-fits, up_pos, down_pos, and_l}
use lib.Ieee.Scale.{finite}
use Rattle.floats.proofs.Facts.{eq_self}
use Rattle.floats_laws.proofs.Keys.{over, side, key, key_neg}
use Rattle.floats_laws.proofs.Mono.{add_up, add_swap, mul_up, div_up, round_side, rounded-size_zero}
use Rattle.floats_laws.proofs.Rules.{le→key, key→le, le_left, le_right, add_number}

abbrev pub nought : Float
nought = fin false 0 (pos 0)

-- one of two tests
pub or_left : (a b : Bool) → T a → T (a || b)
or_left true b t = tt
or_left false b t = absurd t

pub or_right : (a b : Bool) → T b → T (a || b)
or_right true b t = tt
or_right false b t = t

-- ---- the ends of the order
pub le_refl : (x : Float) → T (not (is_nan x)) → T (le x x)
unfolding le
le_refl x u = or_right (lt x x) (eq x x) (subst T (sym (eq_self x)) u)

pub lowest : (x : Float) → T (not (is_nan x)) → T (le (inf true) x)
unfolding le lt eq is_nan
lowest nan u = u
lowest (inf true) u = tt
lowest (inf false) u = tt
lowest (fin s m e) u = tt

pub highest : (x : Float) → T (not (is_nan x)) → T (le x (inf false))
unfolding le lt eq is_nan
highest nan u = u
highest (inf true) u = tt
highest (inf false) u = tt
highest (fin s m e) u = tt

-- nothing but the end itself is beyond it
pub past-highest : (y : Float) → T (le (inf false) y) → y ≡ inf false
unfolding le lt eq
past-highest nan h = absurd h
past-highest (inf true) h = absurd h
past-highest (inf false) h = refl
past-highest (fin s m e) h = absurd h

pub past-lowest : (x : Float) → T (le x (inf true)) → x ≡ inf true
unfolding le lt eq
past-lowest nan h = absurd h
past-lowest (inf true) h = refl
past-lowest (inf false) h = absurd h
past-lowest (fin s m e) h = absurd h

pub not_lowest : (s : Bool) (m : ℕ) (e : ℤ) → T (le (fin s m e) (inf true)) → ⊥
unfolding le lt eq
not_lowest s m e h = h

not_below : (k : ℕ) (g : ℤ) → T (le nought (fin true (suc k) g)) → ⊥
unfolding le lt eq
not_below k g h =
    let e : 0 * 1 * down g ≡ suc k * up g * 1 = eqb→eq _ _ (and_l (eqb (0 * 1 * down g) (suc k * up g * 1)) _ h) in
    omega (arith, mul-pos (zero-lt-suc k) (up_pos g), zero-mul (down g))

pub not_above : (k : ℕ) (g : ℤ) → T (lt nought (fin true k g)) → ⊥
unfolding lt
not_above k g h = h

pub not_itself : (g : ℤ) → T (lt nought (fin false 0 g)) → ⊥
unfolding lt
not_itself g h = let l : 0 * 1 * down g < 0 * up g * 1 = ltb→lt _ _ h in omega (arith, zero-mul (up g), zero-mul (down g))

neg_number : (x : Float) → T (not (is_nan x)) → T (not (is_nan (neg x)))
unfolding neg is_nan
neg_number nan u = u
neg_number (inf s) u = tt
neg_number (fin s m e) u = tt

nan_left : (f : Format) (y : Float) → T (not (is_nan (add f nan y))) → ⊥
unfolding add is_nan
nan_left f y u = u

no_sum : (f : Format) (x : Float) → T (not (is_nan (add f x nan))) → ⊥
unfolding add is_nan
no_sum f nan u = u
no_sum f (inf s) u = u
no_sum f (fin s m e) u = u

module _ (f : Format) where
  pub neg_falls : (x y : Float) → T (fits f x) → T (fits f y) → T (le x y) → T (le (neg y) (neg x))
  neg_falls x y p q h =
      key→le f (neg y) (neg x) (neg-fits f y q) (neg-fits f x p) (neg_number y (le_right x y h)) (neg_number x (le_left x y h))
      (omega (arith, key_neg f x p (le_left x y h), key_neg f y q (le_right x y h), le→key f x y p q h))

  -- ---- sums and differences
  lowest-sum : (y : Float) → T (not (is_nan (add f (inf true) y))) → add f (inf true) y ≡ inf true
  unfolding add is_nan
  lowest-sum nan u = absurd u
  lowest-sum (inf true) u = refl
  lowest-sum (inf false) u = absurd u
  lowest-sum (fin s m e) u = refl

  highest-sum : (y : Float) → T (not (is_nan (add f (inf false) y))) → add f (inf false) y ≡ inf false
  unfolding add is_nan
  highest-sum nan u = absurd u
  highest-sum (inf true) u = absurd u
  highest-sum (inf false) u = refl
  highest-sum (fin s m e) u = refl

  end_sum : (w s : Bool) (m : ℕ) (e : ℤ) (t : Bool) (n : ℕ) (d : ℤ) → T (le (add f (fin s m e) (inf w)) (add f (fin t n d) (inf w)))
  unfolding add le lt eq
  end_sum true s m e t n d = tt
  end_sum false s m e t n d = tt

  pub add_rises : (x y z : Float) → T (le x y) → T (not (is_nan (add f x z))) → T (not (is_nan (add f y z))) → T (le (add f x z) (add f y z))
  add_rises nan y z h u v = absurd (nan_left f z u)
  add_rises (inf true) y z h u v = subst (λ (r : Float). T (le r (add f y z))) (sym (lowest-sum z u)) (lowest (add f y z) v)
  add_rises (inf false) y z h u v = subst (λ (r : Float). T (le (add f (inf false) z) (add f r z))) (sym (past-highest y h)) (le_refl (add f (inf false) z) u)
  add_rises (fin s m e) nan z h u v = absurd (nan_left f z v)
  add_rises (fin s m e) (inf true) z h u v = absurd (not_lowest s m e h)
  add_rises (fin s m e) (inf false) z h u v = subst (λ (r : Float). T (le (add f (fin s m e) z) r)) (sym (highest-sum z v)) (highest (add f (fin s m e) z) u)
  add_rises (fin s m e) (fin t n d) nan h u v = absurd (no_sum f (fin s m e) u)
  add_rises (fin s m e) (fin t n d) (inf w) h u v = end_sum w s m e t n d
  add_rises (fin s m e) (fin t n d) (fin w k g) h u v =
      key→le f (add f (fin s m e) (fin w k g)) (add f (fin t n d) (fin w k g)) (add-fits f (fin s m e) (fin w k g)) (add-fits f (fin t n d) (fin w k g)) u v (add_up f s m e t n d w k g h)

  swap-sum : (x y : Float) → T (not (is_nan (add f x y))) → T (not (is_nan (add f y x))) × (key f (add f x y) ≡ key f (add f y x))
  unfolding add is_nan
  swap-sum nan y u = absurd u
  swap-sum (inf s) nan u = absurd u
  swap-sum (inf true) (inf true) u = (u, refl)
  swap-sum (inf true) (inf false) u = absurd u
  swap-sum (inf false) (inf true) u = absurd u
  swap-sum (inf false) (inf false) u = (u, refl)
  swap-sum (inf s) (fin t n d) u = (u, refl)
  swap-sum (fin s m e) nan u = absurd u
  swap-sum (fin s m e) (inf t) u = (u, refl)
  swap-sum (fin s m e) (fin t n d) u = (sum_is t n d s m e, add_swap f s m e t n d)
    where
      sum_is : (t : Bool) (n : ℕ) (d : ℤ) (s : Bool) (m : ℕ) (e : ℤ) → T (not (is_nan (add f (fin t n d) (fin s m e))))
      sum_is t n d s m e = add_number f (fin t n d) (fin s m e) tt tt

  pub add_rises-right : (x y z : Float) → T (le y z) → T (not (is_nan (add f x y))) → T (not (is_nan (add f x z))) → T (le (add f x y) (add f x z))
  add_rises-right x y z h u v =
      let p = swap-sum x y u in
      let q = swap-sum x z v in
      let g = le→key f (add f y x) (add f z x) (add-fits f y x) (add-fits f z x) (add_rises y z x h p.0 q.0) in
      key→le f (add f x y) (add f x z) (add-fits f x y) (add-fits f x z) u v (omega (arith, p.1, q.1))

  pub sub_rises : (x y z : Float) → T (le x y) → T (not (is_nan (sub f x z))) → T (not (is_nan (sub f y z))) → T (le (sub f x z) (sub f y z))
  unfolding sub
  sub_rises x y z h u v = add_rises x y (neg z) h u v

  pub sub_falls : (x y z : Float) → T (fits f y) → T (fits f z) → T (le y z) → T (not (is_nan (sub f x y))) → T (not (is_nan (sub f x z))) → T (le (sub f x z) (sub f x y))
  unfolding sub
  sub_falls x y z p q h u v = add_rises-right x (neg z) (neg y) (neg_falls y z p q h) v u

  -- ---- products with a number that is not negative, quotients by one above 0
  none_of : (k : ℕ) (x : Float) → T (not (is_nan (cond (eqb k 0) nan x))) → cond (eqb k 0) nan x ≡ x
  unfolding is_nan
  none_of zero x u = absurd u
  none_of (suc k) x u = ap (λ (b : Bool). cond b nan x) (eqb-suc-zero k)

  inf_times : (s : Bool) (k : ℕ) (g : ℤ) → T (not (is_nan (mul f (inf s) (fin false k g)))) → mul f (inf s) (fin false k g) ≡ inf s
  unfolding mul
  inf_times true k g u = none_of k (inf true) u
  inf_times false k g u = none_of k (inf false) u

  nan_times : (z : Float) → T (not (is_nan (mul f nan z))) → ⊥
  unfolding mul is_nan
  nan_times z u = u

  times-rises : (x y : Float) (k : ℕ) (g : ℤ) → T (le x y) → T (not (is_nan (mul f x (fin false k g)))) → T (not (is_nan (mul f y (fin false k g)))) → T (le (mul f x (fin false k g)) (mul f y (fin false k g)))
  times-rises nan y k g h u v = absurd (nan_times (fin false k g) u)
  times-rises (inf true) y k g h u v = subst (λ (r : Float). T (le r (mul f y (fin false k g)))) (sym (inf_times true k g u)) (lowest (mul f y (fin false k g)) v)
  times-rises (inf false) y k g h u v = subst (λ (r : Float). T (le (mul f (inf false) (fin false k g)) (mul f r (fin false k g)))) (sym (past-highest y h)) (le_refl (mul f (inf false) (fin false k g)) u)
  times-rises (fin s m e) nan k g h u v = absurd (nan_times (fin false k g) v)
  times-rises (fin s m e) (inf true) k g h u v = absurd (not_lowest s m e h)
  times-rises (fin s m e) (inf false) k g h u v = subst (λ (r : Float). T (le (mul f (fin s m e) (fin false k g)) r)) (sym (inf_times false k g v)) (highest (mul f (fin s m e) (fin false k g)) u)
  times-rises (fin s m e) (fin t n d) k g h u v =
      key→le f (mul f (fin s m e) (fin false k g)) (mul f (fin t n d) (fin false k g)) (mul-fits f (fin s m e) (fin false k g)) (mul-fits f (fin t n d) (fin false k g)) u v (mul_up f s m e t n d k g h)

  inf_over : (s : Bool) (k : ℕ) (g : ℤ) → div f (inf s) (fin false k g) ≡ inf s
  unfolding div
  inf_over true k g = refl
  inf_over false k g = refl

  nan_over : (z : Float) → T (not (is_nan (div f nan z))) → ⊥
  unfolding div is_nan
  nan_over z u = u

  over-rises : (x y : Float) (k : ℕ) (g : ℤ) → T (le x y) → T (not (is_nan (div f x (fin false (suc k) g)))) → T (not (is_nan (div f y (fin false (suc k) g)))) → T (le (div f x (fin false (suc k) g)) (div f y (fin false (suc k) g)))
  over-rises nan y k g h u v = absurd (nan_over (fin false (suc k) g) u)
  over-rises (inf true) y k g h u v = subst (λ (r : Float). T (le r (div f y (fin false (suc k) g)))) (sym (inf_over true (suc k) g)) (lowest (div f y (fin false (suc k) g)) v)
  over-rises (inf false) y k g h u v = subst (λ (r : Float). T (le (div f (inf false) (fin false (suc k) g)) (div f r (fin false (suc k) g)))) (sym (past-highest y h)) (le_refl (div f (inf false) (fin false (suc k) g)) u)
  over-rises (fin s m e) nan k g h u v = absurd (nan_over (fin false (suc k) g) v)
  over-rises (fin s m e) (inf true) k g h u v = absurd (not_lowest s m e h)
  over-rises (fin s m e) (inf false) k g h u v = subst (λ (r : Float). T (le (div f (fin s m e) (fin false (suc k) g)) r)) (sym (inf_over false (suc k) g)) (highest (div f (fin s m e) (fin false (suc k) g)) u)
  over-rises (fin s m e) (fin t n d) k g h u v =
      key→le f (div f (fin s m e) (fin false (suc k) g)) (div f (fin t n d) (fin false (suc k) g)) (div-fits f (fin s m e) (fin false (suc k) g)) (div-fits f (fin t n d) (fin false (suc k) g)) u v (div_up f s m e t n d k g h)

  -- minus zero is not negative: every product with it is a zero
  zero_times : (s : Bool) (m : ℕ) (e : ℤ) (g : ℤ) → key f (mul f (fin s m e) (fin true 0 g)) ≡ over f
  unfolding mul
  zero_times s m e g =
      ap (λ (a : ℕ). key f (round f (unlike s true) a (down e * down g))) (ap (λ (z : ℕ). m * up e * z) (zero-mul (up g)) ∙ mul-zero (m * up e))
      ∙ round_side f (unlike s true) 0 (down e * down g) ∙ ap (side (over f) (unlike s true)) (rounded-size_zero f (down e * down g) (mul-pos (down_pos e) (down_pos g))) ∙ middle (unlike s true) (over f)
    where
      middle : (s : Bool) (o : ℕ) → side o s 0 ≡ o
      middle true o = omega arith
      middle false o = omega arith

  inf_zero : (s : Bool) (g : ℤ) → T (not (is_nan (mul f (inf s) (fin true 0 g)))) → ⊥
  unfolding mul is_nan
  inf_zero s g u = u

  zeros_rise : (x y : Float) (g : ℤ) → T (not (is_nan (mul f x (fin true 0 g)))) → T (not (is_nan (mul f y (fin true 0 g)))) → T (le (mul f x (fin true 0 g)) (mul f y (fin true 0 g)))
  zeros_rise nan y g u v = absurd (nan_times (fin true 0 g) u)
  zeros_rise (inf s) y g u v = absurd (inf_zero s g u)
  zeros_rise (fin s m e) nan g u v = absurd (nan_times (fin true 0 g) v)
  zeros_rise (fin s m e) (inf t) g u v = absurd (inf_zero t g v)
  zeros_rise (fin s m e) (fin t n d) g u v =
      key→le f (mul f (fin s m e) (fin true 0 g)) (mul f (fin t n d) (fin true 0 g)) (mul-fits f (fin s m e) (fin true 0 g)) (mul-fits f (fin t n d) (fin true 0 g)) u v
      (omega (arith, zero_times s m e g, zero_times t n d g))

  pub mul_rises : (x y z : Float) → T (finite z) → T (le nought z) → T (le x y) → T (not (is_nan (mul f x z))) → T (not (is_nan (mul f y z))) → T (le (mul f x z) (mul f y z))
  mul_rises x y nan c p h u v = absurd c
  mul_rises x y (inf w) c p h u v = absurd c
  mul_rises x y (fin false k g) c p h u v = times-rises x y k g h u v
  mul_rises x y (fin true zero g) c p h u v = zeros_rise x y g u v
  mul_rises x y (fin true (suc k) g) c p h u v = absurd (not_below k g p)

  pub div_rises : (x y z : Float) → T (finite z) → T (lt nought z) → T (le x y) → T (not (is_nan (div f x z))) → T (not (is_nan (div f y z))) → T (le (div f x z) (div f y z))
  div_rises x y nan c p h u v = absurd c
  div_rises x y (inf w) c p h u v = absurd c
  div_rises x y (fin true k g) c p h u v = absurd (not_above k g p)
  div_rises x y (fin false zero g) c p h u v = absurd (not_itself g p)
  div_rises x y (fin false (suc k) g) c p h u v = over-rises x y k g h u v
