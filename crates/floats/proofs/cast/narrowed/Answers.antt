-- `narrowed` meets its contract: `Narrow` says for each range of the exponent which pattern the rounded value has.
use Rattle.std.proofs.Common.{ℕ, ◌+◌, ◌-◌, ◌*◌, ◌/◌, ◌%◌, ◌^◌, min, ap, ◌∙◌, arith, lit<}
use lib.Ieee.{binary32, of_bits}
use lib.Ieee.Nearest.{closest}
use Rattle.floats.proofs.Narrow.{closest_le, shifted, unit_in, narrow_tiny, narrow_low, narrow_high}
use Rattle.floats.proofs.cast.narrowed.Goals as goal

pub nearest_part-requires : goal.nearest_part-requires
nearest_part-requires c = let both = unit_in (926 - c.args.b / 4503599627370496) (omega arith) (omega arith) in record { two_or_more = both.0; divisor_fits = both.1 }

pub pack32-requires : goal.pack32-requires
pack32-requires c =
    let b = c.args.b in
    let q = c.nearest_part.ensures in
    record { exponent_fits = lit< tt; digits_fit = omega (arith, closest_le (b % 4503599627370496 + 4503599627370496) (1 * 2 ^ (926 - b / 4503599627370496) % 2 ^ 64)) }

pub pack32-requires-else-x-lt897 : goal.pack32-requires-else-x-lt897
pack32-requires-else-x-lt897 c =
    let b = c.args.b in
    let q = c.nearest_part-else-x-lt897.ensures in
    record { exponent_fits = omega arith; digits_fit = omega (arith, closest_le (b % 4503599627370496 + 4503599627370496) 536870912) }

pub returns-then-x-lt870 : goal.returns-then-x-lt870
returns-then-x-lt870 c = narrow_tiny c.args.b c.requires c.if-x-lt870.true

pub returns-then-x-lt897 : goal.returns-then-x-lt897
returns-then-x-lt897 c =
    let b = c.args.b in
    c.pack32.ensures
    ∙ ap (λ (q : ℕ). of_bits binary32 (min (0 * 8388608 + q) 2139095040))
    (c.nearest_part.ensures ∙ ap (λ (u : ℕ). closest (b % 4503599627370496 + 4503599627370496) u) (shifted (926 - b / 4503599627370496) (omega arith)))
    ∙ narrow_low b c.requires c.if-x-lt897.true c.if-x-lt870.false

pub returns-else-x-lt897 : goal.returns-else-x-lt897
returns-else-x-lt897 c =
    let b = c.args.b in
    c.pack32-else-x-lt897.ensures ∙ ap (λ (q : ℕ). of_bits binary32 (min ((b / 4503599627370496 - 897) * 8388608 + q) 2139095040)) c.nearest_part-else-x-lt897.ensures ∙ narrow_high b c.requires c.if-x-lt897.false
