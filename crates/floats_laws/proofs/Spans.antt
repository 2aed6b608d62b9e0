-- Numbers above zero: what `Least` says of the order, and how a limit from below passes through the larger of two; and the strict order beside the other.
use Prim.Native.Nat.{ℕ, ◌*◌, ◌<◌}
use native.Mathlib.Nat.{zero-mul}
use native.Mathlib.Omega.{arith}
use mathlib.Core.Path.{◌≡◌, refl}
use mathlib.Core.Bool.{true, false}
use lib.Dec.{T, lt→ltb}
use lib.Ieee.{Float, nan, inf, fin, up, down, lt, le, is_nan}
use lib.Ieee.Fits.{down_pos}
use lib.Ieee.Bits.{is_true}
use denote.Floats.{passes}
use Rattle.sequences.specs.Pick.{by-case}
use Rattle.floats.specs.Choose.{max}
use Rattle.floats_laws.proofs.Rules.{lt→le}
use Rattle.floats_laws.proofs.Rising.{nought}
use Rattle.floats_laws.proofs.Mag.{Mag, Upto, Least, least_pos, least-up}
use Rattle.floats_laws.proofs.Through as Through

pub least-number : (x : Float) (j : ℕ) → Least x j → is_nan x ≡ false
unfolding is_nan
least-number nan j h = absurd h
least-number (inf s) j h = refl
least-number (fin s m e) j h = refl

pub least_above : (x : Float) (j : ℕ) → Least x j → T (lt nought x)
unfolding lt
least_above nan j h = absurd h
least_above (inf s) j h = absurd h
least_above (fin true m e) j h = absurd h
least_above (fin false m e) j h = lt→ltb (0 * 1 * down e) (m * up e * 1) (more (m * up e) (down e) (least_pos j (m * up e) (down e) (down_pos e) h))
  where
    more : (a d : ℕ) → 0 < a → 0 * 1 * d < a * 1
    more a d h = omega (arith, zero-mul d)

pub least-upto : (x : Float) (j k : ℕ) → Least x j → Mag x k → Upto x k
least-upto nan j k h g = g
least-upto (inf s) j k h g = g
least-upto (fin true m e) j k h g = h
least-upto (fin false m e) j k h g = g

-- the larger of a number that is at least 1 / j and another
pub max-least-left : (x y : Float) (j k : ℕ) → Least x j → Mag y k → Least (max x y) j
unfolding max
max-least-left x y j k L M = rw (least-number x j L) (by-case (lt x y) (λ e. rw e (least-up x y j k (lt→le x y e) L M)) (λ e. rw e L))

-- ---- strict order beside the other, as `T` has it
pub le_lt : (x y z : Float) → T (le x y) → T (lt y z) → T (lt x z)
le_lt x y z h g = passes _ (Through.le_lt x y z h (is_true (lt y z) g))

pub lt_le : (x y z : Float) → T (lt x y) → T (le y z) → T (lt x z)
lt_le x y z g h = passes _ (Through.lt_le x y z (is_true (lt x y) g) h)
