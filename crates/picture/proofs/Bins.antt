-- What the rows come to, each by one computed test: the widths, and that every row has a bin; and the sum of the entries.
use mathlib.Core.Path.{◌≡◌, refl, ap, ◌∙◌}
use Rattle.std.proofs.lemmas.List.Sums.{sum_by-cons}
use Rattle.std.specs.Prelude.{sum}
use mathlib.Core.Bool.{Bool, ◌&&◌}
use mathlib.Core.List.{List, [], ◌∷◌}
use Prim.Native.Nat.{ℕ, suc, ◌+◌, ◌-◌, ◌^◌, ◌≤◌, ◌<◌}
use native.Mathlib.Numerals.{add-one}
use lib.Dec.{T, eqb, leb, ltb, eqb→eq, leb→le, ltb→lt}
use lib.Ieee.Fits.{and_l, and_r}
use lib.ListN.{get_or}
use Rattle.sequences.specs.All.{all-at}
use Rattle.sequences.specs.Pick.{pick}
use Rattle.picture.specs.Rows.{row_width, first_bin, entries_sum}

-- by the octave of the row
abbrev pub widths : List ℕ
widths = 1 ∷ 1 ∷ 2 ∷ 4 ∷ 8 ∷ 16 ∷ 32 ∷ 64 ∷ 128 ∷ 256 ∷ 512 ∷ 1024 ∷ []

abbrev right : ℕ → Bool
right o = eqb (get_or widths o 0) (2 ^ (o - 1)) && leb (get_or widths o 0) 1024

rightly : (o : ℕ) → o < 12 → T (right o)
rightly o h = all-at right 12 tt o h

pub width_is : (o : ℕ) → o < 12 → get_or widths o 0 ≡ 2 ^ (o - 1)
width_is o h = eqb→eq _ _ (and_l (eqb (get_or widths o 0) (2 ^ (o - 1))) (leb (get_or widths o 0) 1024) (rightly o h))

pub width_most : (o : ℕ) → o < 12 → get_or widths o 0 ≤ 1024
width_most o h = leb→le _ _ (and_r (eqb (get_or widths o 0) (2 ^ (o - 1))) (leb (get_or widths o 0) 1024) (rightly o h))

abbrev rises : ℕ → Bool
rises row = ltb (first_bin row) (first_bin (suc row))

pub row_has_a_bin : (row : ℕ) → row < 89 → first_bin row < first_bin (row + 1)
unfolding first_bin row_width pick
row_has_a_bin row h = rw add-one (ltb→lt _ _ (all-at rises 89 tt row h))

-- the library's sum
pub sum_is : (es : List ℕ) → sum es ≡ entries_sum es
unfolding entries_sum
sum_is [] = refl
sum_is (e ∷ es) = sum_by-cons (λ x. x) e es ∙ ap (λ (n : ℕ). e + n) (sum_is es)
