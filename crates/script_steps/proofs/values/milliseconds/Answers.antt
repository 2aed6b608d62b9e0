-- `milliseconds` meets its contract: the code's steps at a lawful rate come to the definition.
use native.Mathlib.Omega.{arith}
use mathlib.Core.Path.{◌≡◌, refl, sym, ap, ◌∙◌, subst}
use lib.Ieee.{Float, to_unsigned}
use denote.Floats.{passes}
use Rattle.floats.specs.Names.{mul64}
use Rattle.sequences.specs.Pick.{skipped}
use Rattle.settings.specs.Settings.{lawful_rate}
use Rattle.script_steps.specs.Values.{milliseconds_of}
use Rattle.script_steps.proofs.Exact.{many, Steps, steps}
use Rattle.script_steps.proofs.values.milliseconds.Goals as goal
use Rattle.script_steps.proofs.values.milliseconds.Goals.{After-to_u64-parts}

-- what the steps come to, of the whole number that the code has for the rate
come : (c : After-to_u64-parts) → Steps c.args.samples c.args.rate c.to_u64-parts.result
come c =
    let a = c.args in
    let code : to_unsigned 64 (mul64 a.rate many) ≡ c.to_u64-parts.result =
    sym (c.to_u64-parts.ensures ∙ ap (λ (x : Float). to_unsigned 64 (mul64 x many)) c.from.ensures) in
    subst (Steps a.samples a.rate) code
    (steps a.samples a.rate c.ranges.samples.fits (passes _ c.well_formed.1.0.1) (sym c.lawful_rate.ensures ∙ c.if-lawful_rate.true))

pub nonzero_div-result : goal.nonzero_div-result
nonzero_div-result c = (come c).some

pub overflow_mul-result : goal.overflow_mul-result
overflow_mul-result c = omega (arith, (come c).word)

pub nonzero_rem-result : goal.nonzero_rem-result
nonzero_rem-result c = (come c).some

pub overflow_mul-result-then-lawful_rate : goal.overflow_mul-result-then-lawful_rate
overflow_mul-result-then-lawful_rate c = omega (arith, (come c).few)

pub nonzero_div-result-then-lawful_rate : goal.nonzero_div-result-then-lawful_rate
nonzero_div-result-then-lawful_rate c = (come c).some

pub overflow_add-result : goal.overflow_add-result
overflow_add-result c = omega (arith, (come c).word)

pub returns-then-lawful_rate : goal.returns-then-lawful_rate
returns-then-lawful_rate c = (come c).is

pub returns-else-lawful_rate : goal.returns-else-lawful_rate
unfolding milliseconds_of
returns-else-lawful_rate c = skipped (lawful_rate _) _ _ _ (sym c.lawful_rate.ensures ∙ c.if-lawful_rate.false) refl
