-- A float without its sign, over the format: its pattern is what is left of the float's without the sign's weight.
use Rattle.std.proofs.Common.{◌≡◌, ℕ, zero, suc, ◌+◌, ◌%◌, ◌<◌, Bool, true, false, not, T, ℤ, sym, refl, ap, ◌∙◌, subst, mod-eq_of_lt, one-mul, arith}
use native.Mathlib.Nat.{mul-add-mod_self_right}
use lib.Ieee.{Float, nan, inf, fin, Format, binary32, binary64, top, fits, is_nan, nan_bits, to_bits, of_bits}
use lib.Ieee.Bits.{to_bits-lt, nan_bits_is, of_bits-to_bits}
use Rattle.floats.specs.Choose.{abs}

-- a negative value's pattern is that of its size, past the sign's weight
pub negative_is : (f : Format) (m : ℕ) (e : ℤ) → to_bits f (fin true m e) ≡ top f + to_bits f (fin false m e)
unfolding to_bits
negative_is f m e = shift (top f) _ _
  where
    shift : (t a b : ℕ) → t + a + b ≡ t + (0 + a + b)
    shift t a b = omega arith

pub other_fits : (f : Format) (s t : Bool) (m : ℕ) (e : ℤ) → T (fits f (fin s m e)) → T (fits f (fin t m e))
unfolding fits
other_fits f s t zero e h = h
other_fits f s t (suc m) e h = h

pub abs-fits : (f : Format) (x : Float) → T (fits f x) → T (fits f (abs x))
unfolding abs fits
abs-fits f nan h = h
abs-fits f (inf s) h = tt
abs-fits f (fin s m e) h = other_fits f s false m e h

pub abs-number : (x : Float) → T (not (is_nan x)) → T (not (is_nan (abs x)))
unfolding abs is_nan
abs-number nan u = u
abs-number (inf s) u = tt
abs-number (fin s m e) u = tt

past : (t a : ℕ) → a < t → (t + a) % t ≡ a
past t a h = ap (λ (n : ℕ). (n + a) % t) (sym (one-mul t)) ∙ mul-add-mod_self_right 1 t a ∙ mod-eq_of_lt h

module _ (f : Format) where
  size-under : (m : ℕ) (e : ℤ) → T (fits f (fin true m e)) → to_bits f (fin false m e) < top f
  size-under m e h = omega (arith, to_bits-lt f (fin true m e) h, negative_is f m e)

  inf_bits : (f : Format) (s : Bool) → to_bits f (inf s) % top f ≡ to_bits f (inf false)
  unfolding to_bits
  inf_bits binary32 true = refl
  inf_bits binary32 false = refl
  inf_bits binary64 true = refl
  inf_bits binary64 false = refl

  abs_bits : (x : Float) → T (fits f x) → T (not (is_nan x)) → to_bits f x % top f ≡ to_bits f (abs x)
  unfolding abs is_nan
  abs_bits nan p u = absurd u
  abs_bits (inf s) p u = inf_bits f s
  abs_bits (fin true m e) p u = ap (λ (b : ℕ). b % top f) (negative_is f m e) ∙ past (top f) (to_bits f (fin false m e)) (size-under m e p)
  abs_bits (fin false m e) p u = mod-eq_of_lt (size-under m e (other_fits f false true m e p))

  pub abs-back : (x : Float) → T (fits f x) → T (not (is_nan x)) → of_bits f (to_bits f x % top f) ≡ abs x
  abs-back x p u = ap (of_bits f) (abs_bits x p u) ∙ of_bits-to_bits f (abs x) (abs-fits f x p)

  pub abs_no_nan : (x : Float) → T (fits f x) → T (not (is_nan x)) → T (not (nan_bits f (to_bits f x % top f)))
  abs_no_nan x p u = subst (λ (b : Bool). T (not b)) (sym (nan_bits_is f (to_bits f x % top f) ∙ ap is_nan (abs-back x p u))) (abs-number x u)
