-- How fast the offset glides: at every lawful rate `phase_alpha` is at most 3 / 1,024 in size (it is 0.0025 at 8,000, where it is largest, since exp never falls).
use mathlib.Core.Path.{◌≡◌, refl, subst}
use mathlib.Core.Bool.{true, false, ◌&&◌}
use lib.IntN.{pos, negsuc}
use lib.Count.{count_trailing_zeros}
use lib.Dec.{T, lit≤, lit<}
use lib.Ieee.{Float, fin, binary32, binary64, of_bits, of_fields, to_bits, odd, units, size, span, climb, round, add, sub, mul, neg, sum, le, lt, eq, fits, is_nan}
use lib.Ieee.Fits.{sub-fits, and_l, and_r, cond-fits}
use lib.Ieee.Bits.{of_bits-fits}
use lib.Ieee.Scale.{finite}
use Rattle.floats.specs.Names.{f32, f64, sub64, mul64, div64}
use Rattle.floats_laws.proofs.Rules.{add_number, neg_finite, between-finite, le_trans as float-trans}
use Rattle.floats_laws.proofs.Rising.{sub_falls}
use Rattle.floats_laws.proofs.Products.{mul_rises-right}
use Rattle.floats_laws.proofs.Mag.{mag_finite}
use Rattle.floats_laws.proofs.Bounds.{mul_mag}
use Rattle.powers.specs.Placed.{edged, placed}
use Rattle.powers.specs.Exp64.{exp64, exp_bits, sided, scaled, exp_mantissa, high}
use Rattle.powers.proofs.Exp64Rises.{exp64_like}
use Rattle.settings.specs.Settings.{lawful_rate}
use Rattle.settings_laws.proofs.Rates.{rate_mag}
use Rattle.state.specs.Make.{alpha_of}
use Rattle.floats_laws.proofs.Fractions.{Under, Above, held, div_under}
use Rattle.floats_laws.proofs.Between.{under-between, under-least, under_most, above_of}

-- ---- e to the power
exp64-fits : (x : Float) → T (fits binary64 (exp64 x))
unfolding exp64 edged fits
exp64-fits x = cond-fits binary64 (is_nan x) _ _ tt (cond-fits binary64 (lt x (fin false 1 (pos 10))) _ _ (cond-fits binary64 (lt (fin true 1 (pos 10)) x) _ _ (of_bits-fits binary64 _) tt) tt)

abbrev lower : Float
lower = fin true 11 (negsuc 11)

abbrev upper : Float
upper = fin false 11 (negsuc 11)

abbrev pub one : Float
one = f64 0x3ff0000000000000

low_value : exp64 lower ≡ f64 0x3fefea078e44a18c
unfolding exp64 edged exp_bits sided scaled placed exp_mantissa high size span climb odd of_bits of_fields to_bits lt is_nan count_trailing_zeros
low_value = refl

high_value : exp64 upper ≡ f64 0x3ff00b03c8ddfb7b
unfolding exp64 edged exp_bits sided scaled placed exp_mantissa high size span climb odd of_bits of_fields to_bits lt is_nan count_trailing_zeros
high_value = refl

-- 1 less a number between the two lies within 3 / 1,024
left_small : (x : Float) → T (fits binary64 x) → T (le (f64 0x3fefea078e44a18c) x) → T (le x (f64 0x3ff00b03c8ddfb7b)) → Under (sub64 one x) 3 1024
unfolding of_bits sub add neg sum round units odd size span climb le lt eq is_nan fits
left_small x p h k =
    let a = f64 0x3fefea078e44a18c in
    let b = f64 0x3ff00b03c8ddfb7b in
    let u = between-finite binary64 a x b tt tt h k in
    let n = add_number binary64 one (neg x) tt (neg_finite binary64 x u) in
    under-between (sub64 one x) 3 (negsuc 9)
    (float-trans binary64 (fin true 3 (negsuc 9)) (sub64 one b) (sub64 one x) tt (sub-fits binary64 one b) (sub-fits binary64 one x) tt (sub_falls binary64 one x b p (of_bits-fits binary64 0x3ff00b03c8ddfb7b) k n tt))
    (float-trans binary64 (sub64 one x) (sub64 one a) (fin false 3 (negsuc 9)) (sub-fits binary64 one x) (sub-fits binary64 one a) tt (sub_falls binary64 one a x (of_bits-fits binary64 0x3fefea078e44a18c) p h tt n) tt)

-- ---- the exponent
abbrev twentieth : Float
twentieth = f64 0x3fa999999999999a

least-product : Above (mul64 twentieth (f32 0x45fa0000)) 399
unfolding of_bits mul round units odd size span climb
least-product = lit≤ tt

module _ (rate : Float) (p : T (fits binary32 rate)) (l : T (lawful_rate rate)) where
  abbrev product : Float
  product = mul64 twentieth rate

  product-above : Above product 399
  unfolding lawful_rate of_bits le lt eq
  product-above =
      let lowest = f32 0x45fa0000 in
      let highest = f32 0x48bb8000 in
      let bounds = le lowest rate && le rate highest in
      let m = rate_mag rate p l in
      above_of (mul64 twentieth lowest) product 399 (lit< tt) least-product
      (mul_rises-right binary64 lowest rate tt (mag_finite rate 384000 m) twentieth tt tt (and_l (le lowest rate) (le rate highest) (and_r (finite rate) bounds l)))
      (mag_finite product 384000 (mul_mag binary64 twentieth rate 1 384000 (lit≤ tt) (lit≤ tt) m))

  abbrev exponent : Float
  exponent = div64 (neg one) product

  exponent_small : Under exponent 11 4096
  unfolding of_bits neg
  exponent_small = div_under binary64 (neg one) product 1 1 399 11 4096 (lit< tt) (lit< tt) (lit< tt, lit≤ tt, held binary64 false 1062 12 11 refl (lit< tt)) (lit≤ tt) (lit≤ tt) product-above

  -- THE BOUND
  pub alpha_small : Under (alpha_of rate) 3 1024
  unfolding alpha_of
  alpha_small =
      let x = exponent in
      left_small (exp64 x) (exp64-fits x)
      (subst (λ (z : Float). T (le z (exp64 x))) low_value (exp64_like.never_falls lower x (under-least x 11 (negsuc 11) (lit< tt) exponent_small)))
      (subst (λ (z : Float). T (le (exp64 x) z)) high_value (exp64_like.never_falls x upper (under_most x 11 (negsuc 11) (lit< tt) exponent_small)))
