-- The search for an entry by its value.
use Prim.Native.Nat.{ℕ, zero, suc, ◌+◌, ◌-◌, ◌/◌, ◌≤◌, ◌<◌}
use native.Mathlib.Nat.{le_trans, lt_of_le_of_lt, le_antisymm, le_of_suc-le-suc, not-suc-le-zero}
use native.Mathlib.Omega.{arith}
use mathlib.Core.Path.{◌≡◌, refl, sym, ap, ◌∙◌}
use mathlib.Core.Bool.{true, false, cond}
use mathlib.Core.List.{List, [], ◌∷◌}
use borrow.Author.Tests.{eq-eqb, ne_eqb, eqb-true, eqb-false, leb-true, leb-false}
use lib.Dec.{eqb, leb}
use lib.ListN.{length, get_or}
use Rattle.sequences.specs.Pick.{by-case}
use Rattle.mask_records.specs.Decibels.{entries, entry_of, among, is_entry}
use Rattle.mask_records.proofs.Ruled.{entries-long, never_rises}

-- ---- what `among` says
pub among-at : (e : ℕ) (xs : List ℕ) (k : ℕ) → k < length xs → get_or xs k 0 ≡ e → among e xs ≡ true
unfolding among
among-at e [] k h p = absurd (not-suc-le-zero h)
among-at e (x ∷ xs) zero h p = rw (eq-eqb x e p)
among-at e (x ∷ xs) (suc k) h p = by-case (eqb x e) (λ y. rw y) (λ n. rw n (among-at e xs k (le_of_suc-le-suc h) p))

pub among_none : (e : ℕ) (xs : List ℕ) → ((k : ℕ) → k < length xs → get_or xs k 0 ≡ e → ⊥) → among e xs ≡ false
unfolding among
among_none e [] h = refl
among_none e (x ∷ xs) h = rw (ne_eqb x e (h 0 (omega arith))) (among_none e xs (λ k l. h (suc k) (omega arith)))

-- ---- the loop: every entry from base + size on is below e, and base's is not, unless base is 0
pub record Sought (e base size : ℕ) : Type 0 where
  pub some : 1 ≤ size
  pub inside : base + size ≤ 601
  pub past : (i : ℕ) → base + size ≤ i → i ≤ 600 → entry_of i < e
  pub here : 0 < base → e ≤ entry_of base

pub sought_all : (e : ℕ) → Sought e 0 601
sought_all e = record { some = omega arith; inside = omega arith; past = λ i h l. absurd (omega arith); here = λ h. absurd (omega arith) }

pub sought_half : (e base size step : ℕ) → Sought e base size → 1 < size → step ≡ cond (leb e (entry_of (base + size / 2))) (size / 2) 0 → Sought e (base + step) (size - size / 2)
sought_half e base size step s h p =
    by-case (leb e (entry_of (base + size / 2)))
    (λ y.
    let q : step ≡ size / 2 = rw y at p in
    record {
      some = omega arith;
      inside = omega (arith, s.inside);
      past = λ i g l. s.past i (omega arith) l;
      here = λ g. rw q (leb-true _ _ y);
    })
    (λ n.
    let q : step ≡ 0 = rw n at p in
    record {
      some = omega arith;
      inside = omega (arith, s.inside);
      past = λ i g l. lt_of_le_of_lt (never_rises (base + size / 2) i (omega arith) l) (leb-false _ _ n);
      here = λ g. let z : base + step ≡ base = omega arith in rw z (s.here (omega arith));
    })

pub sought_end : (e base size : ℕ) → Sought e base size → size ≤ 1 → eqb (entry_of base) e ≡ is_entry e
sought_end e base size s h =
    by-case (eqb (entry_of base) e)
    (λ y. y ∙ sym (among-at e entries base (omega (arith, entries-long, s.some, s.inside)) (eqb-true _ _ y)))
    (λ n. n ∙ sym (among_none e entries (λ k l p. none n k (omega (arith, entries-long)) p)))
  where
    none : eqb (entry_of base) e ≡ false → (k : ℕ) → k ≤ 600 → entry_of k ≡ e → ⊥
    none n k l p =
        by-case (leb k base)
        (λ y. let g = leb-true k base y in
        by-case (eqb k base) (λ u. let u2 : k ≡ base = eqb-true k base u in eqb-false _ _ n (ap entry_of (sym u2) ∙ p))
        (λ v. eqb-false _ _ n (le_antisymm (le_trans (never_rises k base g (omega (arith, s.some, s.inside))) (omega arith)) (s.here (let w = eqb-false k base v in omega arith)))))
        (λ z. let g = leb-false k base z in omega (arith, s.past k (omega arith) l))
