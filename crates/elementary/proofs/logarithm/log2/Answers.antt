-- `log2` meets its contract: the rung and the digits of a normal number above zero are its fields; the rest is `rare`'s.
use mathlib.Core.Path.{◌≡◌, sym, ◌∙◌, subst}
use Prim.Native.Nat.{ℕ, ◌+◌, ◌-◌, ◌/◌, ◌%◌, ◌≤◌, ◌<◌}
use native.Mathlib.Omega.{arith}
use lib.Dec.{T}
use lib.Ieee.{Float, binary32, fits, to_bits}
use lib.Ieee.Bits.{of_bits-to_bits}
use lib.Ieee.Positive.{positive}
use denote.Floats.{passes}
use Rattle.floats.proofs.Facts.{eq_self}
use Rattle.floats_laws.proofs.PositiveBits.{pattern-positive}
use Rattle.elementary.specs.Log2.{fraction_of, joined_of, log_of}
use Rattle.elementary.proofs.Rungs.{rung-normal, digits-normal}
use Rattle.elementary.proofs.Tested.{log_is}
use Rattle.elementary.proofs.logarithm.log2.Goals as goal

-- a pattern of a normal number above zero
log-normal : (b : ℕ) → 8388608 ≤ b → joined_of (b / 8388608 + 22) (fraction_of (b % 8388608)) ≡ log_of b
unfolding log_of
log-normal b h = rw (rung-normal b h, digits-normal b h, back (b % 8388608))
  where
    back : (m : ℕ) → m + 8388608 - 8388608 ≡ m
    back m = omega arith

sound : (x : Float) → T (fits binary32 x) → 8388608 ≤ to_bits binary32 x → to_bits binary32 x < 2139095040 → T (positive x)
sound x f h k = subst (λ (y : Float). T (positive y)) (of_bits-to_bits binary32 x f) (pattern-positive binary32 (to_bits binary32 x) (omega arith) k)

pub float_to_bits-b : goal.float_to_bits-b
float_to_bits-b c = passes _ (sym (eq_self c.args.x) ∙ c.if-x.true)

pub returns-then-b-lt2139095040 : goal.returns-then-b-lt2139095040
returns-then-b-lt2139095040 c =
    let h = c.if-b-ge8388608.true in
    c.joined.ensures ∙ log-normal _ h ∙ sym (log_is c.args.x (sound c.args.x (passes _ c.well_formed.0.1) h c.if-b-lt2139095040.true))
