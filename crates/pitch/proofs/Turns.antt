-- One turn of the draws of harmonics, and their end, as the loop of the code meets them.
use Rattle.std.proofs.Common.{◌≡◌, ℕ, zero, suc, ◌+◌, ◌-◌, ◌<◌, ◌≤◌, true, false, eqb, List, [], ◌∷◌, length, set, sym, refl, ap, ◌∙◌, add-one, arith, length-set}
use lib.Ieee.{Float, le}
use Rattle.floats.specs.Names.{mul32, zero32}
use Rattle.sequences.specs.Pick.{pick, picked, passed, either}
use Rattle.draws.specs.Draws.{random_of}
use Rattle.pitch.specs.Partials.{sum_of, harmonic_of, without_of, partial_count, drawn_from}

pub count_most : (draw : Float) → partial_count draw ≤ 3
unfolding partial_count
count_most draw = either (λ (n : ℕ). n ≤ 3) _ _ _ (omega arith) (either (λ (n : ℕ). n ≤ 3) _ _ _ (omega arith) (omega arith))

pub length_without : (weights : List Float) (harmonic : ℕ) → length (without_of weights harmonic) ≡ length weights
unfolding without_of
length_without weights harmonic = either (λ (l : List Float). length l ≡ length weights) (eqb harmonic 0) _ _ refl (length-set weights (harmonic - 1) zero32)

-- what is to be answered from the first slot is what is to be answered from this one, with the weights that are left and the harmonics selected so far
pub record Drawn (index count : ℕ) (weights : List Float) (slot : ℕ) (left : List Float) (selected : List ℕ) : Type 0 where
  pub below : slot ≤ count
  pub small : count ≤ 3
  pub long : length left ≡ 24
  pub three : length selected ≡ 3
  pub is : drawn_from index count 0 weights (0 ∷ 0 ∷ 0 ∷ []) ≡ drawn_from index (count - slot) slot left selected

pub drawn-none : (index count : ℕ) (weights : List Float) → count ≤ 3 → length weights ≡ 24 → Drawn index count weights 0 weights (0 ∷ 0 ∷ 0 ∷ [])
drawn-none index count weights h e =
    record {
      below = omega arith;
      small = h;
      long = e;
      three = refl;
      is = ap (λ (k : ℕ). drawn_from index k 0 weights (0 ∷ 0 ∷ 0 ∷ [])) (omega arith);
    }

module _ {index count : ℕ} {weights : List Float} {slot : ℕ} {left : List Float} {selected : List ℕ} (m : Drawn index count weights slot left selected) where
  drawn-turn : slot < count
      → drawn_from index count 0 weights (0 ∷ 0 ∷ 0 ∷ [])
      ≡ pick (le (sum_of left) zero32) selected
      (drawn_from index (count - (slot + 1)) (slot + 1) (without_of left (harmonic_of left (mul32 (random_of index (13 + slot)) (sum_of left))))
      (set selected slot (harmonic_of left (mul32 (random_of index (13 + slot)) (sum_of left)))))
  unfolding drawn_from
  drawn-turn h =
      let n : count - slot ≡ suc (count - (slot + 1)) = omega arith in
      m.is
      ∙ ap (λ (k : ℕ). drawn_from index k slot left selected) n
      ∙ ap
      (λ (k : ℕ). pick (le (sum_of left) zero32) selected
      (drawn_from index (count - (slot + 1)) k (without_of left (harmonic_of left (mul32 (random_of index (13 + slot)) (sum_of left))))
      (set selected slot (harmonic_of left (mul32 (random_of index (13 + slot)) (sum_of left))))))
      (sym (add-one slot))

  pub drawn-more : (total draw : Float) (harmonic : ℕ) (next : List Float)
      → slot < count
      → total ≡ sum_of left
      → le total zero32 ≡ false
      → draw ≡ random_of index (13 + slot)
      → harmonic ≡ harmonic_of left (mul32 draw total)
      → next ≡ without_of left harmonic
      → Drawn index count weights (slot + 1) next (set selected slot harmonic)
  drawn-more total draw harmonic next h e t d p q =
      let u : le (sum_of left) zero32 ≡ false = rw (← e) t in
      let v = drawn-turn h ∙ sym (passed _ _ _ u) in
      record {
        below = omega arith;
        small = m.small;
        long = ap length q ∙ length_without left harmonic ∙ m.long;
        three = length-set selected slot harmonic ∙ m.three;
        is = cc;
      }

  pub drawn_here : (total : Float) → slot < count → total ≡ sum_of left → le total zero32 ≡ true → selected ≡ drawn_from index count 0 weights (0 ∷ 0 ∷ 0 ∷ [])
  drawn_here total h e t = let u : le (sum_of left) zero32 ≡ true = rw (← e) t in picked _ _ _ u ∙ sym (drawn-turn h)

  pub drawn-all : count ≤ slot → selected ≡ drawn_from index count 0 weights (0 ∷ 0 ∷ 0 ∷ [])
  unfolding drawn_from
  drawn-all h = let n : count - slot ≡ 0 = omega arith in sym (m.is ∙ ap (λ (k : ℕ). drawn_from index k slot left selected) n)

-- three picks, however many are drawn
pub length_drawn : (index n slot : ℕ) (weights : List Float) (selected : List ℕ) → length (drawn_from index n slot weights selected) ≡ length selected
unfolding drawn_from
length_drawn index zero slot weights selected = refl
length_drawn index (suc n) slot weights selected =
    either (λ (r : List ℕ). length r ≡ length selected) (le (sum_of weights) zero32) _ _ refl (length_drawn index n (suc slot) _ _ ∙ length-set selected slot _)
