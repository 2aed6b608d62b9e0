-- The loops over the places and their windows, the window of partial w of place p at p + 64 w, in an array
-- that already holds none at every place.
use Rattle.std.proofs.Common.{◌≡◌, ℕ, zero, suc, ◌+◌, ◌*◌, ◌/◌, ◌%◌, ◌<◌, ◌≤◌, eqb, List, length, get_or, set, replicate, sym, refl, ap, ◌∙◌, subst, arith, length-set, get_or-set_other, get_or-set_same, ext_get_or, eqb-true}
use borrow.Author.Tests.{eqb-false}
use lib.Seq.{set-get_or}
use Rattle.sequences.specs.Pick.{by-case}
use Rattle.sequences.specs.Table.{table, table_at, length_table}

module _ {A : Type 0} (x : A) where
  length_blank : (n : ℕ) → length (replicate n x) ≡ n
  length_blank zero = refl
  length_blank (suc n) = ap suc (length_blank n)

  at_blank : (n k : ℕ) → get_or (replicate n x) k x ≡ x
  at_blank zero k = refl
  at_blank (suc n) zero = refl
  at_blank (suc n) (suc k) = at_blank n k

-- how many turns come before that of window j
abbrev turn : ℕ → ℕ
turn j = 3 * (j % 64) + j / 64

-- the invariant of both loops: after t turns their windows are the rule's, the others x
pub record Blank {A : Type 0} (g : ℕ → A) (x : A) (t : ℕ) (ys : List A) : Type 0 where
  pub long : length ys ≡ 192
  pub done : (j : ℕ) → j < 192 → turn j < t → get_or ys j x ≡ g j
  pub rest : (j : ℕ) → j < 192 → t ≤ turn j → get_or ys j x ≡ x

module _ {A : Type 0} (g : ℕ → A) (x : A) where
  blank : Blank g x 0 (replicate 192 x)
  blank = record { long = length_blank x 192; done = λ j l h. absurd (omega arith); rest = λ j l h. at_blank x 192 j }

  pub blank_none : (y : A) → y ≡ x → Blank g x 0 (replicate 192 y)
  blank_none y e = subst (λ (z : A). Blank g x 0 (replicate 192 z)) (sym e) blank

  pub blank_turns : (t u : ℕ) (ys : List A) → Blank g x t ys → t ≡ u → Blank g x u ys
  blank_turns t u ys m e = subst (λ (v : ℕ). Blank g x v ys) e m

  module _ (p w : ℕ) (ys : List A) (m : Blank g x (3 * p + w) ys) (hp : p < 64) (hw : w < 3) where
    pub blank_stored : (y : A) → y ≡ g (p + 64 * w) → Blank g x (3 * p + (w + 1)) (set ys (p + 64 * w) y)
    blank_stored y e =
        record {
          long = length-set ys (p + 64 * w) y ∙ m.long;
          done =
              λ j l h.
              by-case (eqb j (p + 64 * w))
              (λ q.
              let same : j ≡ p + 64 * w = eqb-true j (p + 64 * w) q in
              subst (λ (k : ℕ). get_or (set ys (p + 64 * w) y) k x ≡ g k) (sym same)
              (get_or-set_same ys (p + 64 * w) y x (omega (arith, m.long)) ∙ e))
              (λ q.
              let other = eqb-false j (p + 64 * w) q in
              get_or-set_other ys (p + 64 * w) j y x other ∙ m.done j l (omega (arith, other)));
          rest = λ j l h. get_or-set_other ys (p + 64 * w) j y x (λ q. omega arith) ∙ m.rest j l (omega arith);
        }

    pub blank_left : x ≡ g (p + 64 * w) → Blank g x (3 * p + (w + 1)) ys
    blank_left e =
        subst (Blank g x (3 * p + (w + 1))) (set-get_or ys (p + 64 * w) x)
        (blank_stored (get_or ys (p + 64 * w) x) (m.rest (p + 64 * w) (omega arith) (omega arith) ∙ e))

  pub blank_all : (t : ℕ) (ys : List A) → Blank g x t ys → 192 ≤ t → ys ≡ table 192 g
  blank_all t ys m h =
      ext_get_or x ys (table 192 g) (m.long ∙ sym (length_table 192 g))
      (λ j l.
      let k : j < 192 = omega (arith, m.long) in
      m.done j k (omega arith) ∙ sym (table_at 192 g j x k))
