-- The laws of plain digits: how a number goes on, digit by digit.
use Rattle.std.proofs.Common.{◌≡◌, ℕ, suc, ◌+◌, ◌-◌, ◌*◌, ◌<◌, ◌≤◌, List, ◌∷◌, length, get_or, drop, sym, refl, ap, ◌∙◌, arith, drop-cons, le-ltb, lt-ltb, eq-eqb, ne_eqb, Some, None}
use lib.Seq.{drop-length}
use Rattle.sequences.specs.Pick.{took, skipped}
use Rattle.masks.specs.Digits.{digits_held, number_from, digits_number}

pub no_digits : (s : List ℕ) → length s ≡ 0 → None ≡ digits_number s
unfolding digits_number
no_digits s h = took _ _ _ _ (eq-eqb _ _ h) refl

module _ (s : List ℕ) (some : length s ≡ 0 → ⊥) where
  pub whole : number_from 0 s ≡ digits_number s
  unfolding digits_number
  whole = skipped _ _ _ _ (ne_eqb _ _ some) refl

-- what is left from digit i on
module _ (s : List ℕ) (n i : ℕ) where
  pub ended : i ≡ length s → Some n ≡ number_from n (drop i s)
  unfolding number_from
  ended e = sym (ap (number_from n) (ap (λ (k : ℕ). drop k s) e ∙ drop-length s))

  module _ (h : i < length s) where
    next : number_from n (get_or s i 0 ∷ drop (suc i) s) ≡ number_from n (drop i s)
    next = ap (number_from n) (sym (drop-cons s i 0 h))

    pub below : get_or s i 0 < 48 → None ≡ number_from n (drop i s)
    unfolding number_from
    below l = took _ _ _ _ (lt-ltb _ _ l) refl ∙ next

    pub above : 48 ≤ get_or s i 0 → 57 < get_or s i 0 → None ≡ number_from n (drop i s)
    unfolding number_from
    above a l = skipped _ _ _ _ (le-ltb _ _ a) (took _ _ _ _ (lt-ltb _ _ l) refl) ∙ next

    pub digit : 48 ≤ get_or s i 0 → get_or s i 0 ≤ 57 → number_from (digits_held (n * 10 + (get_or s i 0 - 48))) (drop (i + 1) s) ≡ number_from n (drop i s)
    unfolding number_from
    digit a l =
        let one : i + 1 ≡ suc i = omega arith in
        ap (λ (k : ℕ). number_from (digits_held (n * 10 + (get_or s i 0 - 48))) (drop k s)) one ∙ skipped _ _ _ _ (le-ltb _ _ a) (skipped _ _ _ _ (le-ltb _ _ l) refl) ∙ next
