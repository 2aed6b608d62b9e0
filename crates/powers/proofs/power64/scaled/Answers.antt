-- `scaled` meets its contract: the product's lower half is taken off first, then s places more; from 64 on nothing is left.
use Rattle.std.proofs.Common.{◌≡◌, ℕ, ◌+◌, ◌-◌, ◌*◌, ◌/◌, ◌%◌, ◌^◌, ◌<◌, ◌≤◌, sym, refl, ap, ◌∙◌, lt_of_lt_of_le, div-le_self, arith, pow_mono, pow-add}
use native.Mathlib.Nat.{div-div-eq-div-mul, div-eq_of_lt}
use Rattle.floats.proofs.Words.{product-fits}
use Rattle.powers.specs.Exp64.{scaled, high}
use Rattle.powers.proofs.power64.scaled.Goals as goal

by-steps : (x s : ℕ) → x / 18446744073709551616 / 2 ^ s ≡ x / 2 ^ (64 + s)
by-steps x s = div-div-eq-div-mul x (2 ^ 64) (2 ^ s) ∙ ap (λ (z : ℕ). x / z) (sym (pow-add 2 64 s))

is : (p s h : ℕ) → s ≡ 1032 - p / 4503599627370496 → h ≡ high ((p % 4503599627370496 + 4503599627370496) * 2048) 13306513097844322492 → (h / 2 ^ s + 1) / 2 ≡ scaled p
unfolding scaled high
is p s h e q = ap (λ (z : ℕ). (z / 2 ^ s + 1) / 2) q ∙ ap (λ (z : ℕ). (z + 1) / 2) (by-steps _ s) ∙ ap (λ (z : ℕ). ((p % 4503599627370496 + 4503599627370496) * 2048 * 13306513097844322492 / 2 ^ (64 + z) + 1) / 2) e

small : (p : ℕ) → (p % 4503599627370496 + 4503599627370496) * 2048 < 2 ^ 64
small p = omega arith

none : (p : ℕ) → 64 ≤ 1032 - p / 4503599627370496 → 0 ≡ scaled p
unfolding scaled
none p h = ap (λ (z : ℕ). (z + 1) / 2) (sym (div-eq_of_lt (lt_of_lt_of_le (product-fits 64 64 {a = (p % 4503599627370496 + 4503599627370496) * 2048} {b = 13306513097844322492} (small p) (omega arith)) (pow_mono (more h)))))
  where
    more : {s : ℕ} → 64 ≤ s → 128 ≤ 64 + s
    more l = omega arith

kept : (h s : ℕ) → h / 2 ^ s ≤ h
kept h s = div-le_self h (2 ^ s)

pub overflow_add-result : goal.overflow_add-result
overflow_add-result c = omega (arith, kept c.high.result (1032 - c.args.p / 4503599627370496))

pub returns-then-s-lt64 : goal.returns-then-s-lt64
returns-then-s-lt64 c =
    let p = c.args.p in
    (is p (1032 - p / 4503599627370496) c.high.result refl c.high.ensures.0, omega (arith, kept c.high.result (1032 - p / 4503599627370496)))

pub returns-else-s-lt64 : goal.returns-else-s-lt64
returns-else-s-lt64 c = (none c.args.p c.if-s-lt64.false, omega arith)
