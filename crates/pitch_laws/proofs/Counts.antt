-- How many octaves of a root lie from 20 Hz to the top, 4186.01 Hz or a lower one from 4,000 Hz on: 7 or 8, for every root above 0 and finite. Between the logarithms of the ends lie
-- 7.64 to 7.71; of the roundings of both differences no more than an eighth is asked.
use Prim.Native.Nat.{ℕ, ◌+◌, ◌*◌, ◌≤◌, ◌<◌}
use native.Mathlib.Nat.{mul-le-mul_right, mul-lt-mul_of_pos_right}
use native.Mathlib.Omega.{arith}
use mathlib.Core.Logic.{⊎_elim}
use mathlib.Core.Bool.{false, not}
use borrow.Author.Tests.{ltb-true, ltb-false}
use lib.IntN.{negsuc}
use lib.Dec.{T, ltb, lit≤}
use lib.Ieee.{Float, nan, inf, fin, binary32, up, down, is_nan, le}
use lib.Ieee.Fits.{down_pos, sub-fits}
use lib.Ieee.Scale.{finite}
use Rattle.sequences.specs.Pick.{by-case}
use Rattle.floats.specs.Names.{sub32}
use Rattle.floats.specs.Whole.{floor, ceil}
use Rattle.floats.proofs.Floored.{floor-fits}
use Rattle.floats_laws.proofs.Bounds.{sub_mag}
use Rattle.floats_laws.proofs.Ends.{not_above}
use Rattle.floats_laws.proofs.Integral.{floor-rises}
use Rattle.floats_laws.proofs.Mag.{Mag, mag_finite}
use Rattle.floats_laws.proofs.Mono.{plus, minus}
use Rattle.floats_laws.proofs.Naturals.{le_or_lt}
use Rattle.floats_laws.proofs.Rising.{sub_rises}
use Rattle.floats_laws.proofs.Rules.{finite_number}
use Rattle.floats_laws.proofs.Wholes.{At, at_not_below}
use Rattle.floats_laws.proofs.Eighths.{From, To, Upon, Beneath, spread, sub_from, sub_to}
use Rattle.floats_laws.proofs.Floors.{floor_down, ceil-up}

-- ---- the logarithms of 20, 4,000 and 4186.01, as fractions
abbrev pub log_of20 : Float
log_of20 = fin false 2265935 (negsuc 18)

abbrev pub log_of4000 : Float
log_of4000 = fin false 6273517 (negsuc 18)

abbrev pub log_of4186 : Float
log_of4186 = fin false 12615795 (negsuc 19)

-- ---- the bounds at other places
from_less : (y : Float) (k c i b : ℕ) → 8 * i + b ≤ 8 * k + c → From y k c → From y i b
from_less nan k c i b h g = g
from_less (inf s) k c i b h g = g
from_less (fin s m e) k c i b h g = omega (arith, spread k c (down e), spread i b (down e), mul-le-mul_right (down e) h)

apart : (y : Float) (k c b : ℕ) → b < c → From y k c → To y k b → ⊥
apart nan k c b l g h = g
apart (inf s) k c b l g h = g
apart (fin s m e) k c b l g h = omega (arith, mul-lt-mul_of_pos_right l (down_pos e))

-- ---- a root's logarithm r, which is (P - N) / d
not_upon : (b D P N d k c : ℕ) → (Upon b D P N d k c → ⊥) → b * d * 8 + N * D * 8 + 8000 * d * D < 8 * (k * d) * D + c * d * D + P * D * 8
not_upon b D P N d k c h = ⊎_elim (λ g. absurd (h g)) (λ g. g) (le_or_lt _ _)

not_beneath : (b D P N d k c : ℕ) → (Beneath b D P N d k c → ⊥) → 8 * (k * d) * D + c * d * D + P * D * 8 < b * d * 8 + N * D * 8 + 8000 * d * D
not_beneath b D P N d k c h = ⊎_elim (λ g. absurd (h g)) (λ g. g) (le_or_lt _ _)

-- A lower end above j - 1000 and an upper one below j - 993 would be less than 7 apart; a lower end below j - 999 + 1 / 8 and an upper one above j - 991 - 1 / 8, more than 7.75.
too_few : (P N d j : ℕ) → (Upon 6273517 524288 P N d j 56 → ⊥) → (Beneath 2265935 524288 P N d j 0 → ⊥) → ⊥
too_few P N d j h g = omega (arith, not_upon 6273517 524288 P N d j 56 h, not_beneath 2265935 524288 P N d j 0 g)

too_many : (P N d j : ℕ) → 0 < d → (Upon 2265935 524288 P N d j 9 → ⊥) → (Beneath 12615795 1048576 P N d j 71 → ⊥) → ⊥
too_many P N d j l h g = omega (arith, not_upon 2265935 524288 P N d j 9 h, not_beneath 12615795 1048576 P N d j 71 g)

enough : (r : Float) (j k : ℕ) → j ≤ 1200 → T (finite r) → T (finite (sub32 log_of20 r)) → T (finite (sub32 log_of4000 r)) → (To (sub32 log_of20 r) j 0 → ⊥) → (From (sub32 log_of4000 r) k 8 → ⊥) → j + 7 ≤ k
enough nan j k l u a b p q = absurd u
enough (inf s) j k l u a b p q = absurd u
enough (fin s m e) j k l u a b p q =
    by-case (ltb k (j + 7))
    (λ z.
    let h = ltb-true k (j + 7) z in
    absurd
    (too_few (plus s (m * up e)) (minus s (m * up e)) (down e) j (λ g. q (from_less (sub32 log_of4000 (fin s m e)) j 56 k 8 (omega arith) (sub_from 6273517 (negsuc 18) s m e j 56 (omega arith) b g)))
    (λ g. p (sub_to 2265935 (negsuc 18) s m e j 0 (omega arith) a g))))
    (λ z. ltb-false k (j + 7) z)

no_more : (r : Float) (j k : ℕ) → j ≤ 1200 → T (finite r) → T (finite (sub32 log_of20 r)) → T (finite (sub32 log_of4186 r)) → To (sub32 log_of20 r) j 8 → From (sub32 log_of4186 r) k 0 → k ≤ j + 8
no_more nan j k l u a b p q = absurd u
no_more (inf s) j k l u a b p q = absurd u
no_more (fin s m e) j k l u a b p q =
    by-case (ltb (j + 8) k)
    (λ z.
    let h = ltb-true (j + 8) k z in
    absurd
    (too_many (plus s (m * up e)) (minus s (m * up e)) (down e) j (down_pos e) (λ g. apart (sub32 log_of20 (fin s m e)) j 9 8 (lit≤ tt) (sub_from 2265935 (negsuc 18) s m e j 9 (omega arith) a g) p)
    (λ g. apart (sub32 log_of4186 (fin s m e)) j 72 71 (lit≤ tt) (from_less (sub32 log_of4186 (fin s m e)) k 0 j 72 (omega arith) q) (sub_to 12615795 (negsuc 19) s m e j 71 (omega arith) b g))))
    (λ z. ltb-false (j + 8) k z)

-- ---- the octaves of a root whose logarithm is r, up to a top whose logarithm is t
pub record Range (r t : Float) : Type 0 where
  pub first : ℕ
  pub last : ℕ
  pub first_at : At (ceil binary32 (sub32 log_of20 r)) first
  pub last_at : At (floor binary32 (sub32 t r)) last
  pub from : 846 ≤ first
  pub to : last ≤ 1162
  pub least : first + 6 ≤ last
  pub most : last ≤ first + 7

module _ (r t : Float) (u : Mag r 149) (v : Mag t 13) (h : T (le log_of4000 t)) (g : T (le t log_of4186)) where
  low_mag : Mag (sub32 log_of20 r) 154
  low_mag = sub_mag binary32 log_of20 r 5 149 (lit≤ tt) (lit≤ tt) u

  top_mag : (x : Float) → Mag x 13 → Mag (sub32 x r) 162
  top_mag x w = sub_mag binary32 x r 13 149 (lit≤ tt) w u

  number : (x : Float) → Mag x 13 → T (not (is_nan (sub32 x r)))
  number x w = finite_number binary32 (sub32 x r) (mag_finite (sub32 x r) 162 (top_mag x w))

  -- a higher top, a later last octave
  later : (x y : Float) (i k : ℕ) → Mag x 13 → Mag y 13 → T (le x y) → At (floor binary32 (sub32 x r)) i → At (floor binary32 (sub32 y r)) k → i ≤ k
  later x y i k p q l a b =
      at_not_below (floor binary32 (sub32 y r)) (floor binary32 (sub32 x r)) k i b a
      (not_above binary32 (floor binary32 (sub32 x r)) (floor binary32 (sub32 y r)) (floor-fits binary32 (sub32 x r)) (floor-fits binary32 (sub32 y r))
      (floor-rises binary32 (sub32 x r) (sub32 y r) (sub_rises binary32 x y r l (number x p) (number y q))))

  pub octaves_in_range : Range r t
  octaves_in_range =
      let a = ceil-up (sub32 log_of20 r) 154 (sub-fits binary32 log_of20 r) (lit≤ tt) low_mag in
      let b = floor_down (sub32 t r) 162 (sub-fits binary32 t r) (lit≤ tt) (top_mag t v) in
      let c = floor_down (sub32 log_of4000 r) 162 (sub-fits binary32 log_of4000 r) (lit≤ tt) (top_mag log_of4000 (lit≤ tt)) in
      let d = floor_down (sub32 log_of4186 r) 162 (sub-fits binary32 log_of4186 r) (lit≤ tt) (top_mag log_of4186 (lit≤ tt)) in
      let n = mag_finite r 149 u in
      let z = mag_finite (sub32 log_of20 r) 154 low_mag in
      let small : a.j ≤ 1200 = omega (arith, a.most) in
      let p = enough r a.j c.k small n z (mag_finite (sub32 log_of4000 r) 162 (top_mag log_of4000 (lit≤ tt))) a.past c.short in
      let q = no_more r a.j d.k small n z (mag_finite (sub32 log_of4186 r) 162 (top_mag log_of4186 (lit≤ tt))) a.to d.from in
      record {
        first = a.j + 1;
        last = b.k;
        first_at = a.at;
        last_at = b.at;
        from = omega (arith, a.least);
        to = b.most;
        least = omega (arith, later log_of4000 t c.k b.k (lit≤ tt) v h c.at b.at);
        most = omega (arith, later t log_of4186 b.k d.k v (lit≤ tt) g b.at d.at);
      }
