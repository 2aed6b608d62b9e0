-- What is due is not far ahead: where a stream's next start, or the Cloud's reference, is not after a reference of at most 2^34 in size, its index is near it; so are the group
-- and the opportunity that are under way there. So an index never passes 2^35 + 2 (Lanes.antt).
use Prim.Native.Nat.{ℕ, ◌+◌, ◌-◌, ◌*◌, ◌/◌, ◌%◌, ◌^◌, ◌≤◌, ◌<◌, zero-le, min}
use native.Mathlib.Nat.{le_trans, le_of_lt, le_of_suc-le-suc, add-mul, div-le_self, div-lt_iff_lt-mul, mod-le}
use native.Mathlib.Omega.{arith}
use mathlib.Core.Path.{refl, subst}
use mathlib.Core.Bool.{Bool, true, false, not}
use borrow.Author.Tests.{ltb-true, ltb-false}
use lib.IntN.{pos}
use lib.Dec.{T, ltb, lit≤, lit<}
use lib.Ieee.{Float, nan, inf, fin, binary64, of_bits, of_int, to_unsigned, up, down, units, odd, size, span, climb, round, add, sum, mul, le, lt, eq, fits, is_nan}
use lib.Ieee.Fits.{add-fits, down_pos}
use lib.Ieee.Scale.{finite}
use Rattle.sequences.specs.Pick.{by-case}
use Rattle.floats.specs.Names.{f64, add64, sub64, mul64, div64, zero64}
use Rattle.floats.specs.Whole.{floor}
use Rattle.floats.specs.Choose.{max}
use Rattle.floats.specs.Word.{product}
use Rattle.floats_laws.proofs.Rules.{finite_number, add_number, le_left, le_trans as float-trans}
use Rattle.floats_laws.proofs.Rising.{add_rises, add_rises-right, mul_rises}
use Rattle.floats_laws.proofs.Numbers.{mul_number}
use Rattle.floats_laws.proofs.Ends.{not_above}
use Rattle.floats_laws.proofs.Casting.{whole-rises}
use Rattle.floats_laws.proofs.Mag.{Mag, upto_mag, mag_finite, mag_le}
use Rattle.floats_laws.proofs.Bounds.{max_mag, div_mag, mul_mag, of_upto}
use Rattle.floats_laws.proofs.Powers.{of_power, floor_mag}
use Rattle.floats_laws.proofs.Fractions.{Under, mag_under}
use Rattle.floats_laws.proofs.Between.{under-least}
use Rattle.draws.specs.Draws.{random_of}
use Rattle.timing.specs.Starts.{half_cycle, start_of, gap_of, human_of, next_of}
use Rattle.timing.specs.Streams.{group_of, reference_of}
use Rattle.timing_laws.proofs.Starts.{start_mag, gap_mag, human_mag, about_mag}

-- ---- a float's whole part
pub unsigned_most : (w : ℕ) (x : Float) (k : ℕ) → Mag x k → to_unsigned w x ≤ k
unfolding to_unsigned
unsigned_most w nan k h = absurd h
unsigned_most w (inf s) k h = absurd h
unsigned_most w (fin true m e) k h = zero-le
unsigned_most w (fin false m e) k h = le_trans (least (m * up e / down e) (2 ^ w - 1)) (cut (m * up e) (down e) (down_pos e) h)
  where
    least : (a b : ℕ) → min a b ≤ a
    least a b = omega arith

    cut : (a d : ℕ) → 0 < d → a ≤ k * d → a / d ≤ k
    cut a d D h = le_of_suc-le-suc ((div-lt_iff_lt-mul D).1 (omega (arith, add-mul 1 k d)))

-- ---- the group under way
pub group_most : (reference : Float) → Mag reference (2 ^ 34) → group_of reference ≤ 2 ^ 35
unfolding group_of product of_bits
group_most reference h =
    let q = div64 reference (f64 0x4008000000000000) in
    let m1 = div_mag binary64 reference (f64 0x4008000000000000) (2 ^ 34) 1 (lit≤ tt) h (lit≤ tt) in
    let m2 = floor_mag binary64 q (2 ^ 34) (lit≤ tt) m1 in
    let n = unsigned_most 64 (max (floor binary64 q) zero64) (2 ^ 34) (max_mag (floor binary64 q) zero64 (2 ^ 34) m2 (lit≤ tt)) in
    le_trans (mod-le _ (2 ^ 64)) (omega (arith, n))

-- ---- sums from below
add_both : (a x b y : Float) → T (finite b) → T (finite y) → T (le a x) → T (le b y) → T (not (is_nan x)) → T (le (add64 a b) (add64 x y))
add_both a x b y u v h g n =
    float-trans binary64 (add64 a b) (add64 x b) (add64 x y) (add-fits binary64 a b) (add-fits binary64 x b) (add-fits binary64 x y)
    (add_rises binary64 a x b h (add_number binary64 a b (le_left a x h) u) (add_number binary64 x b n u))
    (add_rises-right binary64 x b y g (add_number binary64 x b n u) (add_number binary64 x y n v))

mag_least : (x : Float) (n : ℕ) → 0 < n * 1 → Mag x n → T (le (fin true n (pos 0)) x)
mag_least x n N m = under-least x n (pos 0) N (subst (λ (k : ℕ). Under x k 1) refl (mag_under x n 1 m))

-- nothing lies at or above what is after the reference, and at or before it
not_both : (bottom x reference : Float) → T (fits binary64 bottom) → T (fits binary64 x) → T (fits binary64 reference) → T (lt (fin false 1 (pos 34)) bottom) → T (le bottom x) → T (le x reference) → Mag reference (2 ^ 34) → ⊥
unfolding fits
not_both bottom x reference p q r l h k m =
    let top = fin false 1 (pos 34) in
    let below = float-trans binary64 bottom x top p q tt h (float-trans binary64 x reference top q r tt k (mag_le reference 1 (pos 34) (2 ^ 34) (lit< tt) (lit≤ tt) m)) in
    subst T (not_above binary64 bottom top p tt below) l

-- ---- a start that has come
abbrev three : Float
three = f64 0x4008000000000000

module _ (index key : ℕ) (sync : Bool) (u : index < 2 ^ 64) where
  abbrev group : Float
  group = of_int binary64 (pos (index / 2))

  abbrev second : Float
  second = mul64 (of_int binary64 (pos (index % 2))) (gap_of key)

  second_mag : Mag second 3
  second_mag = mul_mag binary64 (of_int binary64 (pos (index % 2))) (gap_of key) 1 3 (lit≤ tt) (upto_mag (of_int binary64 (pos (index % 2))) 1 (of_upto binary64 (index % 2) 1 (lit≤ tt) (one_most index))) (gap_mag key)
    where
      one_most : (n : ℕ) → n % 2 ≤ 1
      one_most n = omega arith

  -- 3 * 2^34 - 15
  abbrev bottom : Float
  bottom = add64 (add64 (add64 (mul64 (of_int binary64 (pos 17179869184)) three) (fin true 10 (pos 0))) (fin true 3 (pos 0))) (fin true 2 (pos 0))

  next-above : 2 ^ 34 ≤ index / 2 → T (le bottom (next_of index key sync))
  unfolding next_of of_bits le lt eq
  next-above h =
      let g = mul64 group three in
      let far = of_int binary64 (pos 17179869184) in
      let gf = mag_finite group (2 ^ 64) (of_power binary64 (index / 2) 64 (lit≤ tt) (le_trans (div-le_self index 2) (le_of_lt u))) in
      let ff = mag_finite far (2 ^ 34) (of_power binary64 17179869184 34 (lit≤ tt) (lit≤ tt)) in
      let n0 = mul_number binary64 group three gf tt in
      let fs = mag_finite (start_of key) 10 (start_mag key) in
      let f2 = mag_finite second 3 second_mag in
      let fh = mag_finite (human_of sync key) 2 (human_mag sync key) in
      let n1 = add_number binary64 g (start_of key) n0 fs in
      let n2 = add_number binary64 (add64 g (start_of key)) second n1 f2 in
      let l0 : T (le (mul64 far three) g) = mul_rises binary64 far group three tt tt (whole-rises binary64 17179869184 (index / 2) h) (mul_number binary64 far three ff tt) n0 in
      let l1 = add_both (mul64 far three) g (fin true 10 (pos 0)) (start_of key) tt fs l0 (mag_least (start_of key) 10 (lit< tt) (start_mag key)) n0 in
      let l2 = add_both _ (add64 g (start_of key)) (fin true 3 (pos 0)) second tt f2 l1 (mag_least second 3 (lit< tt) second_mag) n1 in
      add_both _ (add64 (add64 g (start_of key)) second) (fin true 2 (pos 0)) (human_of sync key) tt fh l2 (mag_least (human_of sync key) 2 (lit< tt) (human_mag sync key)) n2

  bottom_after : T (lt (fin false 1 (pos 34)) bottom)
  unfolding of_bits of_int add mul sum round units odd size span climb lt
  bottom_after = tt

  -- THE CLAIM, of a stream
  pub due-index : (reference : Float) → T (fits binary64 reference) → Mag reference (2 ^ 34) → T (le (next_of index key sync) reference) → index ≤ 2 ^ 35 + 1
  unfolding next_of
  due-index reference r m d =
      by-case (ltb (index / 2) (2 ^ 34)) (λ q. let l : index / 2 < 2 ^ 34 = ltb-true _ _ q in omega arith)
      (λ q. absurd (not_both bottom (next_of index key sync) reference (add-fits binary64 _ _) (add-fits binary64 _ _) r bottom_after (next-above (ltb-false _ _ q)) d m))

-- ---- an opportunity that has come
module _ (opportunity : ℕ) (u : opportunity < 2 ^ 64) where
  abbrev whole : Float
  whole = of_int binary64 (pos opportunity)

  abbrev off : Float
  off = mul64 (f64 0x3fe6666666666666) (sub64 (random_of opportunity 0) half_cycle)

  -- 2^34 + 4 + 0.5 - 2
  abbrev floor_of : Float
  floor_of = add64 (add64 (of_int binary64 (pos 17179869188)) half_cycle) (fin true 2 (pos 0))

  reference_above : 2 ^ 34 + 4 ≤ opportunity → T (le floor_of (reference_of opportunity))
  unfolding reference_of of_bits
  reference_above h =
      let far = of_int binary64 (pos 17179869188) in
      let n0 = finite_number binary64 whole (mag_finite whole (2 ^ 64) (of_power binary64 opportunity 64 (lit≤ tt) (le_of_lt u))) in
      let w = finite_number binary64 far (mag_finite far (2 ^ 35) (of_power binary64 17179869188 35 (lit≤ tt) (lit≤ tt))) in
      let m3 = about_mag (f64 0x3fe6666666666666) opportunity 0 (lit≤ tt) in
      let n1 = add_number binary64 whole half_cycle n0 tt in
      let l0 = add_rises binary64 far whole half_cycle (whole-rises binary64 17179869188 opportunity h) (add_number binary64 far half_cycle w tt) n1 in
      add_both (add64 far half_cycle) (add64 whole half_cycle) (fin true 2 (pos 0)) off tt (mag_finite off 2 m3) l0 (mag_least off 2 (lit< tt) m3) n1

  floor-after : T (lt (fin false 1 (pos 34)) floor_of)
  unfolding of_bits of_int add sum round units odd size span climb lt
  floor-after = tt

  pub due-opportunity : (reference : Float) → T (fits binary64 reference) → Mag reference (2 ^ 34) → T (le (reference_of opportunity) reference) → opportunity ≤ 2 ^ 34 + 3
  unfolding reference_of
  due-opportunity reference r m d =
      by-case (ltb opportunity (2 ^ 34 + 4)) (λ q. let l : opportunity < 2 ^ 34 + 4 = ltb-true _ _ q in omega arith)
      (λ q. absurd (not_both floor_of (reference_of opportunity) reference (add-fits binary64 _ _) (add-fits binary64 _ _) r floor-after (reference_above (ltb-false _ _ q)) d m))
