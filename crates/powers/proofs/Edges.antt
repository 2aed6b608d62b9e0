-- `edged` case by case, and where what stands within never falls and is never below 0, `edged` of it never falls.
use Rattle.std.proofs.Common.{◌≡◌, Bool, true, false, not, T, pos, sym, refl, ◌∙◌, subst}
use mathlib.Core.Path.{subst⁻¹}
use mathlib.Core.Bool.{false≢true}
use lib.Ieee.{Float, inf, fin, lt, le, eq, ne, is_nan}
use lib.Ieee.Compare.{differs_from_itself}
use lib.Ieee.Bits.{is_false}
use Rattle.floats.proofs.Facts.{ne_self}
use Rattle.floats_laws.proofs.Numbers.{lt_left-number}
use Rattle.floats_laws.proofs.Rules.{le_left, le_right}
use Rattle.floats_laws.proofs.Rising.{highest, nought}
use Rattle.floats_laws.proofs.Through.{le_lt, lt_le}
use Rattle.powers.specs.Placed.{edged}

abbrev pub upper_edge : Float
upper_edge = fin false 1 (pos 10)

abbrev pub lower_edge : Float
lower_edge = fin true 1 (pos 10)

module _ (g : Float → Float) (x : Float) where
  pub edged_nan : ne x x ≡ true → edged g x ≡ x
  unfolding edged
  edged_nan h = let e : is_nan x ≡ true = sym (ne_self x) ∙ h in rw e (sym (differs_from_itself x (subst T (sym h) tt)))

  pub edged-within : lt x upper_edge ≡ true → lt lower_edge x ≡ true → edged g x ≡ g x
  unfolding edged
  edged-within h k = rw (lt_left-number x upper_edge h, h, k)

  pub edged-low : lt x upper_edge ≡ true → lt lower_edge x ≡ false → edged g x ≡ nought
  unfolding edged
  edged-low h k = rw (lt_left-number x upper_edge h, h, k)

  pub edged-high : is_nan x ≡ false → lt x upper_edge ≡ false → edged g x ≡ inf false
  unfolding edged
  edged-high h k = rw (h, k)

-- ---- the law, at either width
abbrev pub Inside : Float → Type 0
Inside x = (lt x upper_edge ≡ true) × (lt lower_edge x ≡ true)

module _ (g : Float → Float) (rises : (x y : Float) → Inside x → Inside y → T (le x y) → T (le (g x) (g y))) (positive : (x : Float) → Inside x → T (le nought (g x))) where
  some_number : (x y : Float) → x ≡ y → T (not (is_nan y)) → T (not (is_nan x))
  some_number x y e u = subst⁻¹ (λ (z : Float). T (not (is_nan z))) e u

  pub edged-number : (x : Float) → T (not (is_nan x)) → T (not (is_nan (edged g x)))
  unfolding is_nan
  edged-number x u = go (lt x upper_edge) (lt lower_edge x) refl refl
    where
      go : (a b : Bool) → lt x upper_edge ≡ a → lt lower_edge x ≡ b → T (not (is_nan (edged g x)))
      go true true h k = some_number (edged g x) (g x) (edged-within g x h k) (le_right nought (g x) (positive x (h, k)))
      go true false h k = some_number (edged g x) nought (edged-low g x h k) tt
      go false b h k = some_number (edged g x) (inf false) (edged-high g x (is_false (is_nan x) u) h) tt

  pub edged-rises : (x y : Float) → T (le x y) → T (le (edged g x) (edged g y))
  unfolding le lt eq
  edged-rises x y l = go (lt x upper_edge) (lt lower_edge x) (lt y upper_edge) (lt lower_edge y) refl refl refl refl
    where
      under : lt y upper_edge ≡ true → lt x upper_edge ≡ false → ⊥
      under h k = false≢true (sym k ∙ le_lt x y upper_edge l h)

      over : lt lower_edge x ≡ true → lt lower_edge y ≡ false → ⊥
      over h k = false≢true (sym k ∙ lt_le lower_edge x y h l)

      go : (a b c d : Bool) → lt x upper_edge ≡ a → lt lower_edge x ≡ b → lt y upper_edge ≡ c → lt lower_edge y ≡ d → T (le (edged g x) (edged g y))
      go a b false d h k h' k' = subst⁻¹ (λ (z : Float). T (le (edged g x) z)) (edged-high g y (is_false (is_nan y) (le_right x y l)) h') (highest (edged g x) (edged-number x (le_left x y l)))
      go false b true d h k h' k' = absurd (under h' h)
      go true true true false h k h' k' = absurd (over k k')
      go true true true true h k h' k' = rw (edged-within g x h k, edged-within g y h' k') (rises x y (h, k) (h', k') l)
      go true false true true h k h' k' = rw (edged-low g x h k, edged-within g y h' k') (positive y (h', k'))
      go true false true false h k h' k' = rw (edged-low g x h k, edged-low g y h' k') tt
