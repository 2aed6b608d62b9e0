-- `floor` and `ceil` over the format: quotients, and what they keep.
use Rattle.std.proofs.Common.{◌≡◌, ℕ, ◌+◌, ◌-◌, ◌*◌, ◌/◌, ◌<◌, ◌≤◌, Bool, true, false, not, T, ℤ, sym, refl, ap, ◌∙◌, le_of_suc-le-suc, suc-mul, div-lt_iff_lt-mul, add-mul, one-mul, mul-one, le-mul_of_pos_right, arith, ltb→lt}
use lib.Ieee.{Float, nan, inf, fin, Format, up, down, neg, round, fits, is_nan}
use lib.Ieee.Fits.{down_pos, round-fits}
use lib.Ieee.Scale.{round_same}
use Rattle.floats.specs.Whole.{floor, ceil, cut, lift}
use Rattle.floats.proofs.Values.{own-round, neg_round}
use Rattle.floats.proofs.Rounded.{round_number}

-- ---- quotients
pub up_one : (q d : ℕ) → (q + 1) * d ≡ q * d + d
up_one q d = add-mul q 1 d ∙ ap (λ (z : ℕ). q * d + z) (one-mul d)

-- ---- a whole number is itself when rounded
pub kept : (f : Format) (s : Bool) (m : ℕ) (e : ℤ) (q : ℕ) → T (fits f (fin s m e)) → m * up e ≡ q * down e → round f s q 1 ≡ fin s m e
kept f s m e q t h = round_same f s q 1 (m * up e) (down e) (ltb→lt 0 1 tt) (down_pos e) (sym h ∙ sym (mul-one (m * up e))) ∙ own-round f s m e t

-- ---- `ceil` by `floor`
pub ceil-is : (f : Format) (x : Float) → neg (floor f (neg x)) ≡ ceil f x
unfolding floor ceil neg
ceil-is f nan = refl
ceil-is f (inf true) = refl
ceil-is f (inf false) = refl
ceil-is f (fin true m e) = neg_round f false (cut m e) 1
ceil-is f (fin false m e) = neg_round f true (lift m e) 1

-- ---- sizes
pub lift_le : (a d : ℕ) → 0 < d → (a + (d - 1)) / d ≤ a
lift_le a d D = le_of_suc-le-suc ((div-lt_iff_lt-mul D).1 (let g : a ≤ a * d = le-mul_of_pos_right a D in omega (arith, suc-mul a d)))

pub floor-fits : (f : Format) (x : Float) → T (fits f (floor f x))
unfolding floor fits
floor-fits f nan = tt
floor-fits f (inf s) = tt
floor-fits f (fin false m e) = round-fits f false (cut m e) 1
floor-fits f (fin true m e) = round-fits f true (lift m e) 1

-- the floor of a number is no NaN
pub floor-number : (f : Format) (x : Float) → T (not (is_nan x)) → T (not (is_nan (floor f x)))
unfolding floor is_nan
floor-number f nan t = t
floor-number f (inf s) t = tt
floor-number f (fin false m e) t = round_number f false (cut m e) 1
floor-number f (fin true m e) t = round_number f true (lift m e) 1
