-- One turn of the weighted walk over the octaves, and its end, as the loop of the code meets them.
use Rattle.std.proofs.Common.{◌≡◌, ℕ, suc, ◌+◌, ◌-◌, ◌<◌, ◌≤◌, true, false, sym, ap, ◌∙◌, add-one, arith}
use lib.Ieee.{Float, lt}
use Rattle.floats.specs.Names.{sub32, zero32}
use Rattle.sequences.specs.Pick.{pick, picked, passed}
use Rattle.pitch.specs.Octave.{chosen_from}

-- what is to be answered from the first is what is to be answered from i, with so much left of the target
pub record Chosen (weight : ℕ → Float) (last count : ℕ) (target : Float) (i : ℕ) (left : Float) : Type 0 where
  pub below : i ≤ count
  pub is : chosen_from weight last count 0 target ≡ chosen_from weight last (count - i) i left

pub chosen_none : (weight : ℕ → Float) (last count : ℕ) (target : Float) → Chosen weight last count target 0 target
chosen_none weight last count target = record { below = omega arith; is = ap (λ (k : ℕ). chosen_from weight last k 0 target) (omega arith) }

module _ {weight : ℕ → Float} {last count : ℕ} {target : Float} {i : ℕ} {left : Float} (m : Chosen weight last count target i left) where
  chosen-turn : (r : Float) → i < count → r ≡ sub32 left (weight i)
      → chosen_from weight last count 0 target ≡ pick (lt r zero32) i (chosen_from weight last (count - (i + 1)) (i + 1) r)
  unfolding chosen_from
  chosen-turn r h e =
      let n : count - i ≡ suc (count - (i + 1)) = omega arith in
      m.is
      ∙ ap (λ (k : ℕ). chosen_from weight last k i left) n
      ∙ ap (λ (k : ℕ). pick (lt (sub32 left (weight i)) zero32) i (chosen_from weight last (count - (i + 1)) k (sub32 left (weight i)))) (sym (add-one i))
      ∙ ap (λ (z : Float). pick (lt z zero32) i (chosen_from weight last (count - (i + 1)) (i + 1) z)) (sym e)

  pub chosen_here : (r : Float) → i < count → r ≡ sub32 left (weight i) → lt r zero32 ≡ true → i ≡ chosen_from weight last count 0 target
  chosen_here r h e t = picked _ _ _ t ∙ sym (chosen-turn r h e)

  pub chosen_more : (r : Float) → i < count → r ≡ sub32 left (weight i) → lt r zero32 ≡ false → Chosen weight last count target (i + 1) r
  chosen_more r h e t = record { below = omega arith; is = chosen-turn r h e ∙ sym (passed _ _ _ t) }

  pub chosen_end : i ≡ count → last ≡ chosen_from weight last count 0 target
  unfolding chosen_from
  chosen_end e = let n : count - i ≡ 0 = omega arith in sym (m.is ∙ ap (λ (k : ℕ). chosen_from weight last k i left) n)
