-- THE CLAIM: e^x at binary64 never falls as x rises, the infinities included. Each step keeps the order: the pattern of its size, the product, the side, the polynomial, the assembly.
use Rattle.std.proofs.Common.{◌≡◌, ℕ, zero, suc, ◌+◌, ◌-◌, ◌*◌, ◌/◌, ◌%◌, ◌^◌, ◌<◌, ◌≤◌, Bool, true, false, T, ℤ, pos, negsuc, refl, ap, ◌∙◌, subst, inl, inr, zero-le, le_trans, le_of_eq, le_refl, le-add_right, mul-le-mul_right, mod-eq_of_lt, zero-lt-suc, mul_assoc, mul-le-mul, eq-or-lt_of_le, mul-pos, zero-mul, arith, ltb→lt, leb→le, pow_pos, ltb-true, le-ltb, lt-ltb}
use mathlib.Core.Bool.{false≢true}
use native.Mathlib.Nat.{zero-div}
use lib.Count.{count_trailing_zeros}
use lib.Ieee.{Float, nan, inf, fin, binary64, up, down, size, span, climb, odd, lt, le, is_nan, of_bits, of_fields, to_bits}
use lib.Ieee.Fits.{up_pos, down_pos}
use Rattle.floats_laws.proofs.Mono.{le→signed}
use Rattle.floats_laws.proofs.Naturals.{sum-rises, div_rises, shifted-less}
use Rattle.floats_laws.proofs.PatternOrder.{patterns_rise, bits_under, sizes_rise}
use Rattle.floats.proofs.Sign.{negative_is}
use Rattle.floats.proofs.Division.{zero_pattern}
use Rattle.powers.specs.Placed.{edged, placed, placed64}
use Rattle.powers.specs.Exp64.{scaled, sided, high, exp_mantissa, exp_bits, exp64}
use Rattle.powers.proofs.Edges.{Inside, edged-rises}
use Rattle.powers.proofs.PlacedRises.{placed_climbs, placed-rises, placed-under}
use Rattle.powers.proofs.PowerLike.{PowerLike}
use Rattle.floats_laws.proofs.Rising.{nought}

-- ---- the polynomial
high-rises : {f g a b : ℕ} → f ≤ g → a ≤ b → high f a ≤ high g b
unfolding high
high-rises h k = div_rises (pow_pos 64) (mul-le-mul h k)

half-rises : (k : ℕ) {a b : ℕ} → a ≤ b → k + a / 2 ≤ k + b / 2
half-rises k h = omega arith

pub exp_mantissa-rises : {f g : ℕ} → f ≤ g → exp_mantissa f ≤ exp_mantissa g
unfolding exp_mantissa
exp_mantissa-rises {f} {g} h =
    half-rises 9223372036854775808 (high-rises h (sum-rises 12786308645202667078 (high-rises h (sum-rises 4431396893595047327 (high-rises h (sum-rises 1023870087593729323 (high-rises h (sum-rises 177423165967312138 (high-rises h (sum-rises 24596074363141346
    (high-rises h (sum-rises 2841446494121437 (high-rises h (sum-rises 281371416557637 (high-rises h (sum-rises 24365137105993 (high-rises h (sum-rises 1891383853468 (high-rises h (sum-rises 121001960384 (high-rises h (le_refl 11554055366))))))))))))))))))))))

pub exp_mantissa-low : (f : ℕ) → 9223372036854775808 ≤ exp_mantissa f
unfolding exp_mantissa
exp_mantissa-low f = le-add_right 9223372036854775808 _

at_last : exp_mantissa 18446744073709551615 ≤ 18446744073709551615
unfolding exp_mantissa high
at_last = leb→le (exp_mantissa 18446744073709551615) 18446744073709551615 tt

pub exp_mantissa-high : (f : ℕ) → f < 18446744073709551616 → exp_mantissa f ≤ 18446744073709551616
exp_mantissa-high f h = let k = exp_mantissa-rises {f = f} {g = 18446744073709551615} (omega arith) in omega (arith, k, at_last)

-- ---- the assembly
module _ (v w : ℕ) where
  whole-rises : v ≤ w → v / 4503599627370496 ≤ w / 4503599627370496
  whole-rises h = omega arith

  fraction-rises : v ≤ w → v / 4503599627370496 ≡ w / 4503599627370496 → v % 4503599627370496 * 4096 ≤ w % 4503599627370496 * 4096
  fraction-rises h e = omega arith

pub fraction-fits : (w : ℕ) → w % 4503599627370496 * 4096 < 18446744073709551616
fraction-fits w = omega arith

exp_bits-rises : (v w : ℕ) → v ≤ w → exp_bits v ≤ exp_bits w
unfolding exp_bits
exp_bits-rises v w h =
    elim (eq-or-lt_of_le (whole-rises v w h)) [
      | inl e ↦
          subst (λ (n : ℕ). placed64 (v / 4503599627370496) (exp_mantissa (v % 4503599627370496 * 4096)) ≤ placed64 n (exp_mantissa (w % 4503599627370496 * 4096))) e
          (placed-rises 4503599627370496 1024 0x7ff0000000000000 1026 (ltb→lt 0 1024 tt) (v / 4503599627370496) (exp_mantissa-rises (fraction-rises v w h e)))
      | inr l ↦
          placed_climbs 4503599627370496 1024 0x7ff0000000000000 1026 (ltb→lt 0 1024 tt) (v / 4503599627370496) (exp_mantissa (v % 4503599627370496 * 4096)) (w / 4503599627370496) (exp_mantissa (w % 4503599627370496 * 4096))
          (exp_mantissa-high (v % 4503599627370496 * 4096) (fraction-fits v)) (exp_mantissa-low (w % 4503599627370496 * 4096)) l
    ]

pub exp_bits-under : (w : ℕ) → exp_bits w ≤ 0x7ff0000000000000
unfolding exp_bits
exp_bits-under w = placed-under 4503599627370496 1024 0x7ff0000000000000 1026 (w / 4503599627370496) (exp_mantissa (w % 4503599627370496 * 4096))

-- ---- the product
abbrev digits : ℕ → ℕ
digits p = (p % 4503599627370496 + 4503599627370496) * 2048 * 13306513097844322492

nearest-rises : {a b : ℕ} → a ≤ b → (a + 1) / 2 ≤ (b + 1) / 2
nearest-rises h = omega arith

scaled-rises : (p q : ℕ) → p ≤ q → q < 4652218415073722368 → scaled p ≤ scaled q
unfolding scaled
scaled-rises p q h k =
    elim (eq-or-lt_of_le (whole-rises p q h)) [
      | inl e ↦
          subst (λ (x : ℕ). (digits p / 2 ^ (64 + (1032 - p / 4503599627370496)) + 1) / 2 ≤ (digits q / 2 ^ (64 + (1032 - x)) + 1) / 2) e
          (nearest-rises (div_rises (pow_pos s) (mul-le-mul_right 13306513097844322492 (mul-le-mul_right 2048 (rest-rises e)))))
      | inr l ↦ nearest-rises (shifted-less (digits p) (digits q) s t (twice (p % 4503599627370496) (q % 4503599627370496) (omega arith)) (omega arith))
    ]
  where
    s : ℕ
    s = 64 + (1032 - p / 4503599627370496)

    t : ℕ
    t = 64 + (1032 - q / 4503599627370496)

    rest-rises : p / 4503599627370496 ≡ q / 4503599627370496 → p % 4503599627370496 + 4503599627370496 ≤ q % 4503599627370496 + 4503599627370496
    rest-rises e = omega arith

    twice : (a b : ℕ) → a < 4503599627370496 → (a + 4503599627370496) * 2048 * 13306513097844322492 ≤ 2 * ((b + 4503599627370496) * 2048 * 13306513097844322492)
    twice a b h =
        let l : a + 4503599627370496 ≤ 2 * (b + 4503599627370496) = omega arith in
        le_trans (mul-le-mul_right 13306513097844322492 (mul-le-mul_right 2048 l))
        (le_of_eq (ap (λ (z : ℕ). z * 13306513097844322492) (mul_assoc 2 (b + 4503599627370496) 2048) ∙ mul_assoc 2 ((b + 4503599627370496) * 2048) 13306513097844322492))

-- ---- the side
module _ (p : ℕ) (h : p < 4652218415073722368) where
  sided-above : sided p ≡ 9223372036854775808 + scaled p
  unfolding sided
  sided-above =
      let l : p < 9223372036854775808 = omega arith in
      rw (lt-ltb p 9223372036854775808 l, mod-eq_of_lt l)

  sided-below : sided (9223372036854775808 + p) ≡ 9223372036854775808 - scaled p
  unfolding sided
  sided-below =
      let l : 9223372036854775808 ≤ 9223372036854775808 + p = omega arith in
      let e : (9223372036854775808 + p) % 9223372036854775808 ≡ p = omega arith in
      rw (le-ltb (9223372036854775808 + p) 9223372036854775808 l, e)

-- ---- x within the edges, as the pattern of its size
abbrev bits : ℕ → ℤ → ℕ
bits m e = to_bits binary64 (fin false m e)

size-inside : (s : Bool) (m : ℕ) (e : ℤ) → Inside (fin s m e) → m * up e < 2 ^ 10 * down e
unfolding lt
size-inside false m e i = let h : m * up e * 1 < 1 * 2 ^ 10 * down e = ltb-true _ _ i.0 in omega arith
size-inside true m e i = let h : m * up e * 1 < 1 * 2 ^ 10 * down e = ltb-true _ _ i.1 in omega arith

pub bits_inside : (s : Bool) (m : ℕ) (e : ℤ) → Inside (fin s m e) → bits m e < 4652218415073722368
bits_inside s m e i = bits_under binary64 10 m e (size-inside s m e i)

-- without the sign's weight
pub size_bits : (x : Float) → Inside x → to_bits binary64 x % 9223372036854775808 < 4652218415073722368
unfolding lt
size_bits nan i = absurd (false≢true i.0)
size_bits (inf true) i = absurd (false≢true i.1)
size_bits (inf false) i = absurd (false≢true i.0)
size_bits (fin false m e) i = let h = bits_inside false m e i in omega arith
size_bits (fin true m e) i = let h = bits_inside true m e i in omega (arith, negative_is binary64 m e)

sided-positive : (m : ℕ) (e : ℤ) → Inside (fin false m e) → sided (to_bits binary64 (fin false m e)) ≡ 9223372036854775808 + scaled (bits m e)
sided-positive m e i = sided-above (bits m e) (bits_inside false m e i)

sided_negative : (m : ℕ) (e : ℤ) → Inside (fin true m e) → sided (to_bits binary64 (fin true m e)) ≡ 9223372036854775808 - scaled (bits m e)
sided_negative m e i = ap sided (negative_is binary64 m e) ∙ sided-below (bits m e) (bits_inside true m e i)

-- a zero has no digits
zero_bits : (e : ℤ) → bits 0 e ≡ 0
unfolding to_bits size span climb
zero_bits (pos k) = simp zero-mul
zero_bits (negsuc k) = simp (zero-mul, zero-div)

scaled_zero : scaled 0 ≡ 0
unfolding scaled
scaled_zero = refl

none_of_none : (m : ℕ) (e : ℤ) (c : ℕ) → 0 < c → m * up e * c ≤ 0 → scaled (bits m e) ≡ 0
none_of_none zero e c C h = ap scaled (zero_bits e) ∙ scaled_zero
none_of_none (suc m) e c C h = absurd (some (suc m * up e * c) (mul-pos (mul-pos (zero-lt-suc m) (up_pos e)) C) h)
  where
    some : (a : ℕ) → 0 < a → a ≤ 0 → ⊥
    some a p q = omega arith

sides_rise : (s : Bool) (m : ℕ) (e : ℤ) (t : Bool) (n : ℕ) (d : ℤ) → Inside (fin s m e) → Inside (fin t n d) → T (le (fin s m e) (fin t n d)) → sided (to_bits binary64 (fin s m e)) ≤ sided (to_bits binary64 (fin t n d))
sides_rise false m e false n d i j h =
    let c = le→signed false m e false n d h in
    rw (sided-positive m e i, sided-positive n d j) (sum-rises 9223372036854775808 (scaled-rises (bits m e) (bits n d) (sizes_rise binary64 m e n d (omega (arith, zero-mul (down e), zero-mul (down d)))) (bits_inside false n d j)))
sides_rise true m e true n d i j h =
    let c = le→signed true m e true n d h in
    rw (sided_negative m e i, sided_negative n d j) (less (scaled-rises (bits n d) (bits m e) (sizes_rise binary64 n d m e (omega (arith, zero-mul (down e), zero-mul (down d)))) (bits_inside true m e i)))
  where
    less : {a b : ℕ} → b ≤ a → 9223372036854775808 - a ≤ 9223372036854775808 - b
    less l = omega arith
sides_rise true m e false n d i j h = rw (sided_negative m e i, sided-positive n d j) (apart (scaled (bits m e)) (scaled (bits n d)))
  where
    apart : (a b : ℕ) → 9223372036854775808 - a ≤ 9223372036854775808 + b
    apart a b = omega arith
sides_rise false m e true n d i j h =
    let c = le→signed false m e true n d h in
    rw (sided-positive m e i, sided_negative n d j, none_of_none m e (down d) (down_pos d) (omega (arith, zero-mul (down e), zero-mul (down d))), none_of_none n d (down e) (down_pos e) (omega (arith, zero-mul (down e), zero-mul (down d)))) (leb→le (9223372036854775808 + 0) (9223372036854775808 - 0) tt)

-- ---- the whole
sided-rises : (x y : Float) → Inside x → Inside y → T (le x y) → sided (to_bits binary64 x) ≤ sided (to_bits binary64 y)
unfolding lt
sided-rises nan y i j h = absurd (false≢true i.0)
sided-rises (inf true) y i j h = absurd (false≢true i.1)
sided-rises (inf false) y i j h = absurd (false≢true i.0)
sided-rises (fin s m e) nan i j h = absurd (false≢true j.0)
sided-rises (fin s m e) (inf true) i j h = absurd (false≢true j.1)
sided-rises (fin s m e) (inf false) i j h = absurd (false≢true j.0)
sided-rises (fin s m e) (fin t n d) i j h = sides_rise s m e t n d i j h

abbrev within : Float → Float
within x = of_bits binary64 (exp_bits (sided (to_bits binary64 x)))

within-rises : (x y : Float) → Inside x → Inside y → T (le x y) → T (le (within x) (within y))
within-rises x y i j h =
    let v = sided (to_bits binary64 x) in
    let w = sided (to_bits binary64 y) in
    patterns_rise binary64 (exp_bits v) (exp_bits w) (exp_bits-rises v w (sided-rises x y i j h)) (exp_bits-under w)

within-positive : (x : Float) → Inside x → T (le nought (within x))
within-positive x i =
    let w = sided (to_bits binary64 x) in
    subst (λ (z : Float). T (le z (of_bits binary64 (exp_bits w)))) zero_pattern (patterns_rise binary64 0 (exp_bits w) zero-le (exp_bits-under w))

exp64-rises : (x y : Float) → T (le x y) → T (le (exp64 x) (exp64 y))
unfolding exp64
exp64-rises = edged-rises within within-rises within-positive

pub exp64_like : PowerLike exp64
unfolding exp64 edged exp_bits sided scaled placed exp_mantissa high size span climb odd of_bits of_fields to_bits lt is_nan count_trailing_zeros
exp64_like = record { at_nan = refl; at_minus_infinity = refl; at_infinity = refl; at_zero = refl; at_minus_zero = refl; never_falls = exp64-rises }
