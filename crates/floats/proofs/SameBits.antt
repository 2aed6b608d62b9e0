-- Two floats of one format with the same bits are one float.
use Rattle.std.proofs.Common.{◌≡◌, ℕ, true, T, eqb, sym, ap, ◌∙◌, eqb→eq}
use denote.Floats.{passes}
use lib.Ieee.{Float, Format, fits, to_bits, of_bits}
use lib.Ieee.Bits.{of_bits-to_bits}

pub same_bits : (f : Format) (x y : Float) → T (fits f x) → T (fits f y) → eqb (to_bits f x) (to_bits f y) ≡ true → x ≡ y
same_bits f x y p q h = sym (of_bits-to_bits f x p) ∙ ap (λ (b : ℕ). of_bits f b) (eqb→eq (to_bits f x) (to_bits f y) (passes _ h)) ∙ of_bits-to_bits f y q
