-- Two floats of a format that are level are the same float, or the two zeros.
use Prim.Native.Nat.{ℕ, zero, suc, ◌*◌, ◌<◌}
use native.Mathlib.Nat.{zero-mul, zero-lt-suc, mul-pos}
use native.Mathlib.Omega.{arith}
use mathlib.Core.Path.{◌≡◌, refl, sym, ap, ◌∙◌}
use mathlib.Core.Logic.{◌⊎◌, inl, inr}
use mathlib.Core.Bool.{Bool, true, false, ◌&&◌, true≢false}
use lib.IntN.{ℤ, pos}
use lib.Dec.{T, eqb, eqb→eq}
use lib.Ieee.{Float, nan, inf, fin, Format, up, down, eq, fits}
use lib.Ieee.Fits.{down_pos, and_l, and_r}
use denote.Floats.{passes}
use Rattle.floats.proofs.Values.{same_fin}

abbrev pub Zero : Float → Type 0
Zero x = (s : Bool) × (x ≡ fin s 0 (pos 0))

module _ (f : Format) where
  zero_is : (s : Bool) (m : ℕ) (e : ℤ) → T (fits f (fin s m e)) → m * up e ≡ 0 → fin s m e ≡ fin s 0 (pos 0)
  unfolding fits
  zero_is s m e p z = same_fin f s m e 0 (pos 0) p tt (ap (λ (k : ℕ). k * 1) z ∙ sym (zero-mul (down e)))

  none : (a d : ℕ) → 0 < d → a * d ≡ 0 → a ≡ 0
  none zero d D h = refl
  none (suc a) d D h = absurd (omega (arith, mul-pos (zero-lt-suc a) D))

  apart : (s : Bool) (m : ℕ) (e : ℤ) (t : Bool) (n : ℕ) (d : ℤ) → T (fits f (fin s m e)) → T (fits f (fin t n d)) → T (eqb (m * up e * down d) (n * up d * down e) && eqb (m * up e * down d) 0)
      → (fin s m e ≡ fin t n d) ⊎ (Zero (fin s m e) × Zero (fin t n d))
  apart s m e t n d p q h =
      let a = eqb→eq _ _ (and_l (eqb (m * up e * down d) (n * up d * down e)) _ h) in
      let b = eqb→eq _ _ (and_r (eqb (m * up e * down d) (n * up d * down e)) _ h) in
      inr ((s, zero_is s m e p (none (m * up e) (down d) (down_pos d) b)), (t, zero_is t n d q (none (n * up d) (down e) (down_pos e) (sym a ∙ b))))

  pub level : (x y : Float) → T (fits f x) → T (fits f y) → eq x y ≡ true → (x ≡ y) ⊎ (Zero x × Zero y)
  unfolding eq
  level nan y p q h = absurd (true≢false (sym h))
  level (inf s) nan p q h = absurd (true≢false (sym h))
  level (inf true) (inf true) p q h = inl refl
  level (inf true) (inf false) p q h = absurd (true≢false (sym h))
  level (inf false) (inf true) p q h = absurd (true≢false (sym h))
  level (inf false) (inf false) p q h = inl refl
  level (inf s) (fin t n d) p q h = absurd (true≢false (sym h))
  level (fin s m e) nan p q h = absurd (true≢false (sym h))
  level (fin s m e) (inf t) p q h = absurd (true≢false (sym h))
  level (fin true m e) (fin true n d) p q h = inl (same_fin f true m e n d p q (eqb→eq _ _ (and_l (eqb (m * up e * down d) (n * up d * down e)) true (passes _ h))))
  level (fin false m e) (fin false n d) p q h = inl (same_fin f false m e n d p q (eqb→eq _ _ (and_l (eqb (m * up e * down d) (n * up d * down e)) true (passes _ h))))
  level (fin true m e) (fin false n d) p q h = apart true m e false n d p q (passes _ h)
  level (fin false m e) (fin true n d) p q h = apart false m e true n d p q (passes _ h)
