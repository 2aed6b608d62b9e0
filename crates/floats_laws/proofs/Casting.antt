-- The casts, over the format: each rises with what it casts.
use Prim.Native.Nat.{ℕ, ◌*◌, ◌/◌, ◌^◌, ◌-◌, ◌≤◌, min, zero-le}
use native.Mathlib.Nat.{zero-mul, zero-div}
use native.Mathlib.Omega.{arith}
use mathlib.Core.Path.{◌≡◌, refl, sym, subst}
use mathlib.Core.Bool.{Bool, true, false, not}
use lib.IntN.{ℤ, pos}
use lib.Dec.{T, eqb, eqb→eq}
use lib.Pow.{pow_pos}
use lib.Ieee.{Float, nan, inf, fin, Format, up, down, round, of_int, to_unsigned, lt, le, eq, is_nan}
use lib.Ieee.Fits.{down_pos, round-fits, and_r}
use lib.Ieee.Nearest.{div_mono}
use lib.Ieee.Order.{round_mono}
use Rattle.floats.specs.Convert.{convert}
use Rattle.floats.proofs.Rounded.{round_number}
use Rattle.floats_laws.proofs.Mono.{signed_key-rises, round_signed_key, le→signed, plus, minus}
use Rattle.floats_laws.proofs.Rules.{key→le, le_left, le_right}
use Rattle.floats_laws.proofs.Rising.{lowest, highest, le_refl, past-highest, not_lowest}
use Rattle.floats_laws.proofs.Mag.{le_of}

module _ (f : Format) where
  pub convert_number : (x : Float) → T (not (is_nan x)) → T (not (is_nan (convert f x)))
  unfolding convert is_nan
  convert_number nan u = u
  convert_number (inf s) u = tt
  convert_number (fin s m e) u = round_number f s (m * up e) (down e)

  convert_inf : (s : Bool) → convert f (inf s) ≡ inf s
  unfolding convert
  convert_inf s = refl

  between : (s : Bool) (m : ℕ) (e : ℤ) (t : Bool) (n : ℕ) (d : ℤ) → T (le (fin s m e) (fin t n d)) → T (le (convert f (fin s m e)) (convert f (fin t n d)))
  unfolding convert
  between s m e t n d h =
      key→le f (round f s (m * up e) (down e)) (round f t (n * up d) (down d)) (round-fits f s (m * up e) (down e)) (round-fits f t (n * up d) (down d)) (round_number f s (m * up e) (down e)) (round_number f t (n * up d) (down d))
      (rw (round_signed_key f s (m * up e) (down e) (down_pos e), round_signed_key f t (n * up d) (down d) (down_pos d))
      (signed_key-rises f (plus s (m * up e)) (minus s (m * up e)) (down e) (plus t (n * up d)) (minus t (n * up d)) (down d) (down_pos e) (down_pos d) (le→signed s m e t n d h)))

  pub convert-rises : (x y : Float) → T (le x y) → T (le (convert f x) (convert f y))
  unfolding is_nan
  convert-rises nan y h = absurd (le_left nan y h)
  convert-rises (inf true) y h = subst (λ (z : Float). T (le z (convert f y))) (sym (convert_inf true)) (lowest (convert f y) (convert_number y (le_right (inf true) y h)))
  convert-rises (inf false) y h = subst (λ (z : Float). T (le (convert f (inf false)) (convert f z))) (sym (past-highest y h)) (le_refl (convert f (inf false)) (convert_number (inf false) tt))
  convert-rises (fin s m e) nan h = absurd (le_right (fin s m e) nan h)
  convert-rises (fin s m e) (inf true) h = absurd (not_lowest s m e h)
  convert-rises (fin s m e) (inf false) h = subst (λ (z : Float). T (le (convert f (fin s m e)) z)) (sym (convert_inf false)) (highest (convert f (fin s m e)) (convert_number (fin s m e) tt))
  convert-rises (fin s m e) (fin t n d) h = between s m e t n d h

  pub whole-rises : (m n : ℕ) → m ≤ n → T (le (of_int f (pos m)) (of_int f (pos n)))
  unfolding of_int
  whole-rises m n h = round_mono f m 1 n 1 (pow_pos 0) (pow_pos 0) (omega arith)

top_most : (w n : ℕ) → min n (2 ^ w - 1) ≤ 2 ^ w - 1
top_most w n = omega arith

pub unsigned_rises : (w : ℕ) (x y : Float) → T (le x y) → to_unsigned w x ≤ to_unsigned w y
unfolding to_unsigned le lt eq
unsigned_rises w nan y h = absurd h
unsigned_rises w (inf true) y h = zero-le
unsigned_rises w (inf false) nan h = absurd h
unsigned_rises w (inf false) (inf true) h = absurd h
unsigned_rises w (inf false) (inf false) h = omega arith
unsigned_rises w (inf false) (fin t n d) h = absurd h
unsigned_rises w (fin true m e) y h = zero-le
unsigned_rises w (fin false m e) nan h = absurd h
unsigned_rises w (fin false m e) (inf true) h = absurd h
unsigned_rises w (fin false m e) (inf false) h = top_most w (m * up e / down e)
unsigned_rises w (fin false m e) (fin true n d) h =
    let z : m * up e * down d ≡ 0 = eqb→eq _ _ (and_r (eqb (m * up e * down d) (n * up d * down e)) _ h) in
    omega (arith, div_mono (m * up e) (down e) 0 (down d) (down_pos e) (down_pos d) (omega (arith, zero-mul (down e))), zero-div (down d))
unsigned_rises w (fin false m e) (fin false n d) h = omega (arith, div_mono (m * up e) (down e) (n * up d) (down d) (down_pos e) (down_pos d) (le_of (m * up e * down d) (n * up d * down e) h))
