-- The scope's twelve marked examples hold: one claim of the whole table.
use Prim.Native.Nat.{ℕ, zero, suc, ◌+◌, ◌^◌}
use mathlib.Core.Path.{◌≡◌, refl, sym, ap, ◌∙◌}
use mathlib.Core.Bool.{true, false}
use mathlib.Core.List.{List, [], ◌∷◌}
use lib.Dec.{T, lit≤}
use lib.ListN.{set, replicate}
use lib.Ieee.{Float, binary32, add, sub, mul, div, sum, rem, round, size, span, climb, units, odd, lt, le, eq, is_nan, of_bits, of_fields, of_int, to_bits, neg}
use lib.Ieee.Bits.{of_bits-fits}
use Rattle.sequences.specs.Pick.{pick, picked, passed, either}
use Rattle.sequences.specs.Table.{from}
use Rattle.sequences.specs.Walk.{walk}
use Rattle.floats.specs.Names.{f32, f64, sub32, mul32, zero32}
use Rattle.floats.specs.Choose.{clamp, abs}
use Rattle.floats.specs.Remainder.{rem_euclid}
use Rattle.floats.specs.Word.{product}
use Rattle.draws.specs.Draws.{mix_of, key_of, random_of}
use Rattle.elementary.specs.Rung.{rung_of, digits_of}
use Rattle.elementary.specs.Sqrt.{scaled_of, root_bits, sqrt_of}
use Rattle.elementary.proofs.Squares.{root_is, perfect}
use Rattle.pitch.specs.Partials.{partial_count, kept_of, allowed_of, sum_of, harmonic_from, harmonic_of, without_of, drawn_from, partials_drawn, partials_of}
use Rattle.pitch_laws.proofs.Harmonics.{no_room}
use Rattle.settings.specs.Mending.{finite_or, phase_of}
use Rattle.state.specs.declared.Engine.{Engine}
use Rattle.engine_changes.specs.Changes.{retired_all, aligned, sought_phase, sought_of}
use Rattle.windows.specs.Opening.{cubic, taper_of, inside_of, openness_of}
use Rattle.promises.specs.Marked.{whole, float, picks, window, marked, Same}

mixed : mix_of 0 ≡ 0
unfolding mix_of product
mixed = refl

keyed : key_of 2 5 ≡ 2 ^ 62 + 2 ^ 60 + 5
unfolding key_of
keyed = refl

tapered : (taper_of (f32 0x3e800000) ≡ f32 0x3e200000) × (taper_of (f32 0x3f000000) ≡ f32 0x3f000000)
unfolding taper_of cubic clamp add sub mul sum round size span climb units odd lt le eq is_nan of_bits of_fields
tapered = (refl, refl)

phased : (phase_of (f32 0xbe800000) ≡ f32 0x3f400000) × (phase_of (f32 0xb0800000) ≡ f32 0x3f800000)
unfolding phase_of finite_or rem_euclid rem add sum round size span climb units odd lt le eq of_bits of_fields abs
phased = (refl, refl)

sought : (e : Engine) → (sought_of e (f64 0xbc30000000000000)).clock.phase ≡ f64 0x41cdcd6500000000
unfolding sought_of aligned retired_all sought_phase rem_euclid rem add sum round size span climb units odd lt le eq of_bits of_fields abs pick
sought e = refl

opened : (openness_of window (f32 0x41100000) ≡ f32 0x3f000000) × (openness_of window (f32 0x41400000) ≡ f32 0x00000000)
unfolding openness_of inside_of taper_of cubic clamp add sub mul div sum round size span climb units odd lt le eq is_nan of_bits of_fields abs
opened = (refl, refl)

-- ---- 12: 2.25 is a square, so the root is exact
rooted : sqrt_of (f32 0x40100000) ≡ f32 0x3fc00000
unfolding sqrt_of root_bits scaled_of rung_of digits_of lt eq is_nan to_bits of_bits of_fields odd
rooted = ap (λ (r : ℕ). of_bits binary32 (1056964608 + r)) (root_is 158329674399744 12582912 (perfect 12582912 (lit≤ tt)))

-- ---- 9: harmonic 1 alone has weight, so it is the pick whatever is drawn, and the only one
abbrev one : Float
one = f32 0x3f800000

abbrev alone : List Float
alone = one ∷ replicate 23 zero32

kept : allowed_of 24 (f32 0x3fc00000) (replicate 24 one) ≡ alone
unfolding allowed_of kept_of from of_int round size span climb units odd lt le eq of_bits of_fields pick
kept = refl

weighed : (le zero32 zero32 ≡ true) × (le one zero32 ≡ false)
unfolding le lt eq of_bits of_fields odd
weighed = (refl, refl)

passed-by : (n i : ℕ) (target : Float) (chosen : ℕ) → harmonic_from i (replicate n zero32) (target, chosen) ≡ chosen
unfolding harmonic_from
passed-by zero i target chosen = refl
passed-by (suc n) i target chosen = sym (picked (le zero32 zero32) _ _ weighed.0) ∙ passed-by n (suc i) target chosen

first-harmonic : (target : Float) → harmonic_of alone target ≡ 1
unfolding harmonic_of harmonic_from
first-harmonic target =
    sym (passed (le one zero32) _ _ weighed.1) ∙ either (λ (k : ℕ). k ≡ 1) (lt target one) _ _ refl (passed-by 23 1 (sub32 target one) 1)

no_more : (index n : ℕ) → drawn_from index n 1 (replicate 24 zero32) (1 ∷ 0 ∷ 0 ∷ []) ≡ 1 ∷ 0 ∷ 0 ∷ []
unfolding drawn_from sum_of walk add sum round size span climb units odd lt le eq of_bits of_fields neg pick
no_more index zero = refl
no_more index (suc n) = refl

one-turn : (index n : ℕ) → partials_drawn index alone (suc n) ≡ 1 ∷ 0 ∷ 0 ∷ []
unfolding partials_drawn drawn_from sum_of walk without_of add sum round size span climb units odd lt le eq of_bits of_fields neg pick
one-turn index n =
    let target = mul32 (random_of index 13) one in
    ap (λ (h : ℕ). drawn_from index n 1 (without_of alone h) (set (0 ∷ 0 ∷ 0 ∷ []) 0 h)) (first-harmonic target) ∙ no_more index n

picked_alone : (index : ℕ) → partials_of index (replicate 24 one) 24 (f32 0x3fc00000) ≡ 1 ∷ 0 ∷ 0 ∷ []
unfolding partials_of partial_count
picked_alone index =
    let P : ℕ → Type 0 = λ n. partials_drawn index alone n ≡ 1 ∷ 0 ∷ 0 ∷ [] in
    ap (λ (ws : List Float). partials_drawn index ws (partial_count (random_of index 12))) kept
    ∙ either P _ _ _ (one-turn index 0) (either P _ _ _ (one-turn index 1) (one-turn index 2))

-- ---- 8
one-fits : T (le one one)
unfolding le lt eq of_bits of_fields odd
one-fits = tt

pub marked_examples : (e : Engine) (index limit : ℕ) (weights : List Float) → Same (marked e index limit weights)
marked_examples e index limit weights = (
  ap whole mixed,
  (
    ap whole keyed,
    (
      ap float tapered.0,
      (
        ap float tapered.1,
        (
          ap float phased.0,
          (
            ap float phased.1,
            (
              ap float (sought e),
              (
                ap picks (no_room index weights limit one (of_bits-fits binary32 0x3f800000) one-fits),
                (ap picks (picked_alone index), (ap float opened.0, (ap float opened.1, (ap float rooted, tt)))),
              ),
            ),
          ),
        ),
      ),
    ),
  ),
)
