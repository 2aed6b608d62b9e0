-- `u64_to_f32` meets its contract: the leading digit's place fixes the exponent, and `Narrow` the rounding.
use Rattle.std.proofs.Common.{◌≡◌, ℕ, suc, ◌+◌, ◌-◌, ◌*◌, ◌%◌, ◌^◌, ◌<◌, ◌≤◌, min, false, ap, ◌∙◌, arith}
use lib.Count.{count_leading_zeros, leading_top}
use lib.Ieee.{binary32, of_bits, of_int, round}
use lib.Ieee.Nearest.{closest}
use Rattle.floats.proofs.Pack.{pow_lt_back}
use Rattle.floats.proofs.Narrow.{closest_half, shifted, unit_in, rounded-whole}
use Rattle.floats.proofs.cast.u64_to_f32.Goals as goal

module _ (n : ℕ) (h : 4294967296 ≤ n) (b : n < 2 ^ 64) where
  few : count_leading_zeros 64 n ≤ 31
  few =
      let t = leading_top 64 n (omega arith) b in
      let u : n < 2 ^ suc t.0 = t.3 in
      let g : 2 ^ 32 < 2 ^ suc t.0 = omega arith in
      omega (arith, t.1, pow_lt_back 32 (suc t.0) g)

  rounded : of_bits binary32 (min ((189 - count_leading_zeros 64 n) * 8388608 + closest n (2 ^ (40 - count_leading_zeros 64 n))) 2139095040) ≡ round binary32 false n 1
  rounded =
      let t = leading_top 64 n (omega arith) b in
      let j = t.0 in
      let e : count_leading_zeros 64 n + suc j ≡ 64 = t.1 in
      let z = few in
      ap (λ (w : ℕ). of_bits binary32 (min (w * 8388608 + closest n (2 ^ (40 - count_leading_zeros 64 n))) 2139095040)) (omega arith)
      ∙ ap (λ (w : ℕ). of_bits binary32 (min ((j + 126) * 8388608 + closest n (2 ^ w)) 2139095040)) (omega arith)
      ∙ rounded-whole n j (omega arith) t.2 t.3

pub overflow_cast-z : goal.overflow_cast-z
overflow_cast-z c = omega (arith, few c.args.n c.if-n-lt4294967296.false c.ranges.n.fits)

pub overflow_sub-z : goal.overflow_sub-z
overflow_sub-z c = omega (arith, few c.args.n c.if-n-lt4294967296.false c.ranges.n.fits)

pub overflow_sub-z-else-n-lt4294967296 : goal.overflow_sub-z-else-n-lt4294967296
overflow_sub-z-else-n-lt4294967296 c = omega (arith, few c.args.n c.if-n-lt4294967296.false c.ranges.n.fits)

pub nearest_part-requires : goal.nearest_part-requires
nearest_part-requires c = let f = few c.args.n c.if-n-lt4294967296.false c.ranges.n.fits in let both = unit_in (40 - count_leading_zeros 64 c.args.n) (omega arith) (omega arith) in record { two_or_more = both.0; divisor_fits = both.1 }

pub pack32-requires : goal.pack32-requires
pack32-requires c =
    let n = c.args.n in
    let f = few n c.if-n-lt4294967296.false c.ranges.n.fits in
    let u = unit_in (40 - count_leading_zeros 64 n) (omega arith) (omega arith) in
    record { exponent_fits = omega arith; digits_fit = omega (arith, c.nearest_part.ensures, closest_half n (1 * 2 ^ (40 - count_leading_zeros 64 n) % 2 ^ 64) u.0) }

pub returns-else-n-lt4294967296 : goal.returns-else-n-lt4294967296
unfolding of_int
returns-else-n-lt4294967296 c =
    let n = c.args.n in
    let h = c.if-n-lt4294967296.false in
    let f = few n h c.ranges.n.fits in
    c.pack32.ensures
    ∙ ap (λ (q : ℕ). of_bits binary32 (min ((189 - count_leading_zeros 64 n) * 8388608 + q) 2139095040)) (c.nearest_part.ensures ∙ ap (λ (u : ℕ). closest n u) (shifted (40 - count_leading_zeros 64 n) (omega arith)))
    ∙ rounded n h c.ranges.n.fits
