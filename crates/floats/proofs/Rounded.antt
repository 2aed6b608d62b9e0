-- What is rounded is a number, over the format: no NaN comes of it.
use Rattle.std.proofs.Common.{ℕ, zero, suc, ◌+◌, ◌-◌, ◌*◌, ◌^◌, Bool, true, false, cond, not, ◌&&◌, T, ltb}
use mathlib.Core.Bool.{beq}
use lib.Ieee.{Float, inf, Format, prec, emax, low, odd, units, round, sum, is_nan}
use lib.Ieee.Fits.{round_is}
use lib.Ieee.Order as Order
use lib.Ieee.Order.{drop}

odd_number : (d : ℕ) (s : Bool) (q k l : ℕ) → T (not (is_nan (odd d s q k l)))
unfolding odd is_nan
odd_number d s zero k l = tt
odd_number d s (suc q) k l = tt

pub cond_number : (t : Bool) (x y : Float) → T (not (is_nan x)) → T (not (is_nan y)) → T (not (is_nan (cond t x y)))
cond_number true x y a b = a
cond_number false x y a b = b

units_number : (f : Format) (s : Bool) (q k : ℕ) → T (not (is_nan (units f s q k)))
unfolding units is_nan
units_number f s q k = cond_number (ltb (q * 2 ^ k) (2 ^ (low f + suc (emax f)))) (odd (suc (prec f)) s q k (low f)) (inf s) (odd_number (suc (prec f)) s q k (low f)) tt

pub round_number : (f : Format) (s : Bool) (a b : ℕ) → T (not (is_nan (round f s a b)))
round_number f s a b = rw (round_is f s a b) (units_number f s (Order.kept (prec f) (a * 2 ^ low f) b) (drop (prec f) (a * 2 ^ low f) b))

module _ (f : Format) where
  pub sum_number : (s : Bool) (a : ℕ) (t : Bool) (b c : ℕ) → T (not (is_nan (sum f s a t b c)))
  unfolding sum
  sum_number s a t b c =
      cond_number (beq s t) (round f s (a + b) c) (cond (ltb a b) (round f t (b - a) c) (round f (s && ltb b a) (a - b) c)) (round_number f s (a + b) c)
      (cond_number (ltb a b) (round f t (b - a) c) (round f (s && ltb b a) (a - b) c) (round_number f t (b - a) c) (round_number f (s && ltb b a) (a - b) c))
