-- What `select_partials` answers, for any weights, number and ratio: three picks; those above 0 differ, lie within the number asked for and below the ratio limit, and had a weight above 0 (or NaN).
use Prim.Native.Nat.{ℕ, zero, suc, ◌+◌, ◌-◌, ◌≤◌, ◌<◌}
use native.Mathlib.Omega.{arith}
use mathlib.Core.Path.{◌≡◌, refl, sym, ap, ◌∙◌, subst}
use mathlib.Core.Bool.{true, false, not, true≢false}
use mathlib.Core.List.{List, [], ◌∷◌}
use borrow.Author.Tests.{ltb-true, ltb-false, leb-false, lt-ltb}
use denote.Floats.{passes}
use lib.Dec.{T, leb, ltb}
use lib.ListN.{length, get_or}
use lib.Seq.{ext_get_or}
use lib.Count.{count_leading_zeros, count_trailing_zeros}
use lib.IntN.{pos}
use lib.Ieee.{Float, nan, binary32, is_nan, lt, le, fits, of_int, round, size, span, climb, units, odd, of_bits, of_fields}
use lib.Ieee.Bits.{is_true, of_bits-fits}
use lib.Ieee.Fits.{of_int-fits}
use Rattle.sequences.specs.Pick.{pick, by-case}
use Rattle.sequences.specs.Table.{table, table_at, length_table}
use Rattle.floats_laws.proofs.Casting.{whole-rises}
use Rattle.floats_laws.proofs.Keys.{key, le_key, lt_key}
use Rattle.floats_laws.proofs.Rules.{le_right, le_trans}
use Rattle.draws.specs.Draws.{random_of}
use Rattle.floats.specs.Names.{zero32, one, as_float}
use Rattle.pitch.specs.Partials.{partial_count, kept_of, allowed_of, partials_drawn, partials_of}
use Rattle.pitch_laws.proofs.Picks.{Drawable, Chosen, chosen-drawn, nil_gone}
use Rattle.pitch.proofs.Turns.{count_most, length_drawn}

-- the harmonic p may be picked
pub record Lawful (limit : ℕ) (ratio : Float) (weights : List Float) (p : ℕ) : Type 0 where
  pub most : p ≤ 24
  pub within : p ≤ limit
  pub below : le ratio (as_float p) ≡ false
  pub heavy : le (get_or weights (p - 1) nan) zero32 ≡ false

pub record Picks (limit : ℕ) (ratio : Float) (weights : List Float) (picks : List ℕ) : Type 0 where
  pub three : length picks ≡ 3
  pub each : (k : ℕ) → 0 < get_or picks k 0 → Lawful limit ratio weights (get_or picks k 0)
  pub apart : (k l : ℕ) → (k ≡ l → ⊥) → 0 < get_or picks k 0 → get_or picks k 0 ≡ get_or picks l 0 → ⊥

-- ---- what is left of the weights says all but the draws
kept_heavy : (limit : ℕ) (ratio : Float) (i : ℕ) (w : Float) → le (kept_of limit ratio i w) zero32 ≡ false → (i < limit) × (le ratio (as_float (i + 1)) ≡ false) × (le w zero32 ≡ false)
unfolding kept_of pick
kept_heavy limit ratio i w h =
    by-case (leb limit i) (λ q. absurd (true≢false (sym nil_gone ∙ (rw q at h))))
    (λ q.
    by-case (le ratio (as_float (i + 1))) (λ s. absurd (true≢false (sym nil_gone ∙ (rw (q, s) at h)))) (λ s. (leb-false limit i q, s, rw (q, s) at h)))

lawful : (limit : ℕ) (ratio : Float) (weights : List Float) (p : ℕ) → Drawable (allowed_of limit ratio weights) p → Lawful limit ratio weights p
unfolding allowed_of
lawful limit ratio weights zero d = absurd (omega (arith, d.from))
lawful limit ratio weights (suc i) d =
    let g : ℕ → Float = λ (i : ℕ). kept_of limit ratio i (get_or weights i nan) in
    let l : suc i ≤ 24 = subst (λ (n : ℕ). suc i ≤ n) (length_table 24 g) d.to in
    let e : suc i - 1 ≡ i = omega arith in
    let f : i + 1 ≡ suc i = omega arith in
    let k = kept_heavy limit ratio i (get_or weights i nan) (ap (λ (w : Float). le w zero32) (sym (table_at 24 g i nan l) ∙ ap (λ (j : ℕ). get_or (table 24 g) j nan) (sym e)) ∙ d.heavy) in
    record { most = l; within = k.0; below = ap (λ (n : ℕ). le ratio (as_float n)) (sym f) ∙ k.1; heavy = ap (λ (j : ℕ). le (get_or weights j nan) zero32) e ∙ k.2 }

nothing_yet : (k : ℕ) → get_or {A = ℕ} (0 ∷ 0 ∷ 0 ∷ []) k 0 ≡ 0
nothing_yet zero = refl
nothing_yet (suc zero) = refl
nothing_yet (suc (suc zero)) = refl
nothing_yet (suc (suc (suc k))) = refl

at_first : (ws : List Float) → Chosen ws ws (0 ∷ 0 ∷ 0 ∷ [])
at_first ws =
    record {
      long = refl;
      still = λ j e. e;
      each = λ k p. absurd (omega (arith, nothing_yet k));
      gone = λ k p. absurd (omega (arith, nothing_yet k));
      apart = λ k l n p e. omega (arith, nothing_yet k);
    }

pub picks-lawful : (index : ℕ) (weights : List Float) (limit : ℕ) (ratio : Float) → Picks limit ratio weights (partials_of index weights limit ratio)
unfolding partials_of partials_drawn
picks-lawful index weights limit ratio =
    let n = partial_count (random_of index 12) in
    let ws = allowed_of limit ratio weights in
    let c = chosen-drawn index n 0 ws ws (0 ∷ 0 ∷ 0 ∷ []) (omega (arith, count_most (random_of index 12))) (at_first ws) in
    record {
      three = length_drawn index n 0 ws (0 ∷ 0 ∷ 0 ∷ []);
      each = λ k p. lawful limit ratio weights _ (c.1.each k p);
      apart = c.1.apart;
    }

-- ---- where nothing may be picked there are three zeros
none-lawful : (limit : ℕ) (ratio : Float) (weights : List Float) (picks : List ℕ) → Picks limit ratio weights picks → ((p : ℕ) → 0 < p → Lawful limit ratio weights p → ⊥) → picks ≡ 0 ∷ 0 ∷ 0 ∷ []
none-lawful limit ratio weights picks c none =
    ext_get_or 0 picks (0 ∷ 0 ∷ 0 ∷ []) c.three (λ k l. by-case (ltb 0 (get_or picks k 0)) (λ q. let p = ltb-true 0 (get_or picks k 0) q in absurd (none (get_or picks k 0) p (c.each k p))) (λ q. let z = ltb-false 0 (get_or picks k 0) q in omega (arith, nothing_yet k)))

-- no weight above 0
pub no_weight : (index : ℕ) (weights : List Float) (limit : ℕ) (ratio : Float) → ((j : ℕ) → j < 24 → le (get_or weights j nan) zero32 ≡ true) → partials_of index weights limit ratio ≡ 0 ∷ 0 ∷ 0 ∷ []
no_weight index weights limit ratio h =
    none-lawful limit ratio weights _ (picks-lawful index weights limit ratio) (λ p g c. true≢false (sym (h (p - 1) (omega (arith, c.most))) ∙ c.heavy))

-- a ratio limit of 1, or below it
pub one-is : as_float 1 ≡ one
unfolding of_int round size span climb units odd count_trailing_zeros count_leading_zeros of_bits of_fields
one-is = refl

pub no_room : (index : ℕ) (weights : List Float) (limit : ℕ) (ratio : Float) → T (fits binary32 ratio) → T (le ratio one) → partials_of index weights limit ratio ≡ 0 ∷ 0 ∷ 0 ∷ []
no_room index weights limit ratio f h = none-lawful limit ratio weights _ (picks-lawful index weights limit ratio) (λ p g c. true≢false (sym (is_true _ (past p g)) ∙ c.below))
  where
    past : (p : ℕ) → 0 < p → T (le ratio (as_float p))
    past p g =
        le_trans binary32 ratio one (as_float p) f (of_bits-fits binary32 0x3f800000) (of_int-fits binary32 (pos p)) h
        (subst (λ (x : Float). T (le x (as_float p))) one-is (whole-rises binary32 1 p g))

-- ---- a ratio limit that is a number is above every pick
pub pick-below : (limit : ℕ) (ratio : Float) (weights : List Float) (p : ℕ) → T (fits binary32 ratio) → T (not (is_nan ratio)) → Lawful limit ratio weights p → T (lt (as_float p) ratio)
pick-below limit ratio weights p f n c =
    let v = le_right (as_float p) (as_float p) (whole-rises binary32 p p (omega arith)) in
    let a = of_int-fits binary32 (pos p) in
    let h = leb-false (key binary32 ratio) (key binary32 (as_float p)) (sym (le_key binary32 ratio (as_float p) f a n v) ∙ c.below) in
    passes _ (lt_key binary32 (as_float p) ratio a f v n ∙ lt-ltb (key binary32 (as_float p)) (key binary32 ratio) h)
