-- A number from 0 up to below the divisor is its own Euclidean remainder, over the format.
use Rattle.std.proofs.Common.{◌≡◌, Bool, true, false, cond, T, pos, sym, ap, subst}
use lib.Ieee.{Float, fin, Format, add, lt, le, fits}
use Rattle.floats.specs.Choose.{abs}
use Rattle.floats.specs.Remainder.{rem_euclid}
use Rattle.floats.proofs.Below.{le_not_lt}
use Rattle.floats.proofs.Remainders.{rem_inside}

pub euclid_inside : (f : Format) (x m : Float) → T (fits f x) → le (fin false 0 (pos 0)) x ≡ true → lt x m ≡ true → x ≡ rem_euclid f x m
unfolding rem_euclid
euclid_inside f x m p h k =
    let zero : Float = fin false 0 (pos 0) in
    subst (λ (r : Float). x ≡ cond (lt r zero) (add f r (abs m)) r) (rem_inside f x m p h k) (ap (λ (b : Bool). cond b (add f x (abs m)) x) (sym (le_not_lt x zero h)))
