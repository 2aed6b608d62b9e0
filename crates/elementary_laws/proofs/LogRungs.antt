-- The floats that log2 answers, `answer j f`: j - 149 and f units of 2^-24. They rise with f, and from each j to the next by one computed test.
use mathlib.Core.Path.{◌≡◌, refl, sym, ap, ◌∙◌, subst⁻¹}
use mathlib.Core.Logic.{inl, inr}
use mathlib.Core.Bool.{Bool, false, ◌&&◌}
use Prim.Native.Nat.{ℕ, zero, suc, zero-le, ◌*◌, ◌^◌, ◌≤◌, ◌<◌}
use native.Mathlib.Nat.{mul-one, mul_assoc, mul-pos, mul-le-mul_right, eq-or-lt_of_le, le_of_suc-le-suc, not-suc-le-zero}
use native.Mathlib.Nat as N
use native.Mathlib.Omega.{arith}
use lib.IntN.{pos, negsuc}
use lib.Dec.{T, leb→le}
use lib.Pow.{pow_pos, pow_mono, shl_lt}
use lib.Count.{count_trailing_zeros}
use lib.Ieee.{Float, nan, inf, fin, binary32, round, sum, add, sub, neg, mul, of_int, of_bits, of_fields, lt, eq, le, up, down, size, span, climb, units, odd, unlike}
use lib.Ieee.Exact.{HasValue, round_exact}
use lib.Ieee.Fits.{add-fits, and_l, and_r, down_pos}
use lib.Ieee.Order.{le_of_values}
use lib.Ieee.Scale.{finite, round_same}
use Rattle.floats_laws.proofs.Rules.{add_number, finite_number, le_trans}
use Rattle.floats_laws.proofs.Rising.{add_rises}
use Rattle.floats.proofs.Residues.{gathered}
use Rattle.sequences.specs.All.{all, all-at}

-- ---- f units of 2^-24, exact
abbrev part : ℕ → Float
part f = mul binary32 (of_int binary32 (pos f)) (of_bits binary32 0x33800000)

whole-value : (f : ℕ) → f < 2 ^ 24 → HasValue (of_int binary32 (pos f)) false f 1
unfolding of_int
whole-value f h = round_exact binary32 false f 1 f 149 (pow_pos 0) h (N.lt_of_lt_of_le (shl_lt 24 149 h) (pow_mono (leb→le 173 277 tt))) (sym (mul-one (f * 2 ^ 149)))

times_unit : (x : Float) (f : ℕ) → HasValue x false f 1 → mul binary32 x (fin false 1 (negsuc 23)) ≡ round binary32 false f (2 ^ 24)
unfolding mul
times_unit nan f v = absurd v
times_unit (inf s) f v = absurd v
times_unit (fin t m e) f v =
    ap (λ (s : Bool). round binary32 (unlike s false) (m * up e * (1 * 1)) (down e * 2 ^ 24)) v.0
    ∙ round_same binary32 false (m * up e * (1 * 1)) (down e * 2 ^ 24) f (2 ^ 24) (mul-pos (down_pos e) (pow_pos 24)) (pow_pos 24)
    (ap (λ (z : ℕ). z * 2 ^ 24) v.1 ∙ mul_assoc f (down e) (2 ^ 24))

unit_is : of_bits binary32 0x33800000 ≡ fin false 1 (negsuc 23)
unfolding of_bits
unit_is = refl

part-value : (f : ℕ) → f < 2 ^ 24 → HasValue (part f) false f (2 ^ 24)
part-value f h =
    subst⁻¹ (λ (x : Float). HasValue x false f (2 ^ 24)) (ap (mul binary32 (of_int binary32 (pos f))) unit_is ∙ times_unit (of_int binary32 (pos f)) f (whole-value f h))
    (round_exact binary32 false f (2 ^ 24) f 125 (pow_pos 24) h (N.lt_of_lt_of_le (shl_lt 24 125 h) (pow_mono (leb→le 149 277 tt))) (sym (gathered f 125 24)))

part_le : (f g : ℕ) → f ≤ g → g < 2 ^ 24 → T (le (part f) (part g))
part_le f g h k = le_of_values (part f) (part g) f (2 ^ 24) g (2 ^ 24) (pow_pos 24) (pow_pos 24) (part-value f (N.lt_of_le_of_lt h k)) (part-value g k) (mul-le-mul_right (2 ^ 24) h)

value-finite : (x : Float) (s : Bool) (a c : ℕ) → HasValue x s a c → T (finite x)
value-finite nan s a c v = v
value-finite (inf t) s a c v = v
value-finite (fin t m e) s a c v = tt

part-finite : (f : ℕ) → f < 2 ^ 24 → T (finite (part f))
part-finite f h = value-finite (part f) false f (2 ^ 24) (part-value f h)

-- ---- the rungs, 0 to 276; at 277 stands 128, which no answer passes
abbrev whole : ℕ → Float
whole j = sub binary32 (of_int binary32 (pos j)) (of_bits binary32 0x43150000)

abbrev pub answer : ℕ → ℕ → Float
answer j f = add binary32 (part f) (whole j)

unfoldable climbs : ℕ → Bool
climbs j = finite (whole j) && le (answer j 16777215) (answer (suc j) 0)

all_climb : T (all climbs 277)
unfolding climbs sub add neg sum round size span climb units odd count_trailing_zeros of_int of_bits of_fields mul le lt eq
all_climb = tt

whole-finite : (j : ℕ) → j < 277 → T (finite (whole j))
unfolding climbs
whole-finite j h = and_l (finite (whole j)) (le (answer j 16777215) (answer (suc j) 0)) (all-at climbs 277 all_climb j h)

climb_one : (j : ℕ) → j < 277 → T (le (answer j 16777215) (answer (suc j) 0))
unfolding climbs
climb_one j h = and_r (finite (whole j)) (le (answer j 16777215) (answer (suc j) 0)) (all-at climbs 277 all_climb j h)

-- on one rung
pub along : (j f g : ℕ) → j < 277 → f ≤ g → g < 2 ^ 24 → T (le (answer j f) (answer j g))
along j f g h l k =
    add_rises binary32 (part f) (part g) (whole j) (part_le f g l k)
    (add_number binary32 (part f) (whole j) (finite_number binary32 (part f) (part-finite f (N.lt_of_le_of_lt l k))) (whole-finite j h))
    (add_number binary32 (part g) (whole j) (finite_number binary32 (part g) (part-finite g k)) (whole-finite j h))

via : (i f j g k h : ℕ) → T (le (answer i f) (answer j g)) → T (le (answer j g) (answer k h)) → T (le (answer i f) (answer k h))
via i f j g k h a b = le_trans binary32 (answer i f) (answer j g) (answer k h) (add-fits binary32 (part f) (whole i)) (add-fits binary32 (part g) (whole j)) (add-fits binary32 (part h) (whole k)) a b

last : (f : ℕ) → f < 2 ^ 24 → f ≤ 16777215
last f h = omega arith

-- from any place on a rung to the start of any later one
pub upward : (i j f : ℕ) → i < j → j < 278 → f < 2 ^ 24 → T (le (answer i f) (answer j 0))
upward i zero f h k l = absurd (not-suc-le-zero h)
upward i (suc j) f h k l = elim (eq-or-lt_of_le (le_of_suc-le-suc h)) [
  | inl e ↦ subst⁻¹ (λ (n : ℕ). T (le (answer n f) (answer (suc j) 0))) e (step j f (le_of_suc-le-suc k) l)
  | inr g ↦ via i f j 0 (suc j) 0 (upward i j f g (before j k) l) (step j 0 (le_of_suc-le-suc k) (pow_pos 24))
]
  where
    before : (j : ℕ) → suc j < 278 → j < 278
    before j h = omega arith

    step : (j f : ℕ) → j < 277 → f < 2 ^ 24 → T (le (answer j f) (answer (suc j) 0))
    step j f h l = via j f j 16777215 (suc j) 0 (along j f 16777215 h (last f l) (leb→le 16777216 16777216 tt)) (climb_one j h)

pub across : (i j f g : ℕ) → i < j → j < 277 → f < 2 ^ 24 → g < 2 ^ 24 → T (le (answer i f) (answer j g))
across i j f g h k l m = via i f j 0 j g (upward i j f h (N.lt_trans k (leb→le 278 278 tt)) l) (along j 0 g k zero-le m)
