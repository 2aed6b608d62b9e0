-- The background's activity stays from 0 to 1: from a value there, over any accepted seconds.
use mathlib.Core.Bool.{Bool, true, false}
use lib.IntN.{pos}
use lib.Dec.{T}
use lib.Ieee.{Float, fin, binary32, of_bits, div, neg, lt, le, eq, fits, is_nan}
use lib.Ieee as Ieee
use lib.Ieee.Fits.{div-fits, and_l, and_r}
use lib.Ieee.Scale.{finite}
use Rattle.sequences.specs.Pick.{pick}
use Rattle.floats.specs.Names.{f32, div32}
use Rattle.floats_laws.proofs.Gap.{quotient_number}
use Rattle.floats_laws.proofs.Rising.{nought, neg_falls, div_rises}
use Rattle.floats_laws.proofs.Rules.{finite_number, neg_finite, le_trans}
use Rattle.powers.specs.Power.{exp}
use Rattle.powers.proofs.PowerLike.{in_unit}
use Rattle.elementary_laws.proofs.PowerRises.{exp_like}
use Rattle.elementary_laws.proofs.PowerValues.{power-fits}
use Rattle.frame.specs.Frame.{activity_step, activity_moved, activity_of, accepted}
use Rattle.floats_laws.proofs.Proportions.{Proportion, nought_unit, rest_unit, risen_unit, fallen_unit}
use Rattle.floats_laws.proofs.Units.{zero_fits}
use Rattle.floats_laws.proofs.Bounds.{chosen}

-- TRANSITION_SECONDS
abbrev transition : Float
transition = f32 0x3d4ccccd

abbrev minus_nought : Float
minus_nought = fin true 0 (pos 0)

transition_above : T (lt nought transition)
unfolding lt of_bits
transition_above = tt

ending : T (le (div binary32 minus_nought transition) nought)
unfolding div Ieee.round Ieee.units Ieee.odd Ieee.size Ieee.span Ieee.climb le lt eq of_bits
ending = tt

module _ (seconds : Float) (p : T (fits binary32 seconds)) (a : T (accepted seconds)) where
  -- -elapsed_seconds / TRANSITION_SECONDS
  abbrev exponent : Float
  exponent = div32 (neg seconds) transition

  exponent_most : T (le exponent nought)
  unfolding accepted of_bits is_nan neg
  exponent_most =
      let f = and_l (finite seconds) (le nought seconds) a in
      let l = and_r (finite seconds) (le nought seconds) a in
      let start = neg_falls binary32 nought seconds (zero_fits binary32 false) p l in
      le_trans binary32 exponent (div binary32 minus_nought transition) nought (div-fits binary32 (neg seconds) transition) (div-fits binary32 minus_nought transition) (zero_fits binary32 false)
      (div_rises binary32 (neg seconds) minus_nought transition tt transition_above start
      (quotient_number binary32 (neg seconds) transition (finite_number binary32 (neg seconds) (neg_finite binary32 seconds f)) tt transition_above) (quotient_number binary32 minus_nought transition tt tt transition_above))
      ending

  step_unit : Proportion (activity_step seconds)
  unfolding activity_step exp of_bits
  step_unit =
      let u = in_unit exp_like exponent exponent_most in
      rest_unit (record { held = power-fits _ exponent; least = u.0; most = u.1 })

pub activity_unit : (before : Float) (enabled : Bool) (seconds : Float) → T (fits binary32 seconds) → T (accepted seconds) → Proportion before → Proportion (activity_of before enabled seconds)
unfolding activity_of activity_moved pick of_bits
activity_unit before true seconds p a u = risen_unit u (step_unit seconds p a)
activity_unit before false seconds p a u = chosen Proportion (lt (activity_moved before false seconds) (f32 0x358637bd)) nought _ nought_unit (fallen_unit u (step_unit seconds p a))
