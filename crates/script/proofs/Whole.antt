-- When the reader takes a field: all of its tests at once, and back. And it finds the end of a script only where no byte is left.
use Rattle.std.specs.Prelude.{Some, None, Ok, Err}
use Prim.Native.Nat.{ℕ, ◌+◌, ◌-◌, ◌≤◌}
use mathlib.Core.Path.{◌≡◌, ap, subst}
use mathlib.Core.Bool.{Bool, true, false}
use mathlib.Core.List.{List, []}
use native.Mathlib.Omega.{arith}
use lib.ListN.{length, get_or, drop}
use lib.Dec.{eqb, ltb, leb}
use borrow.Author.Tests.{eq-eqb, ne_eqb, eqb-true, ltb-false, le-ltb, leb-true, le-leb}
use Rattle.sequences.specs.Pick.{by-case}
use Rattle.refusals.specs.declared.Refusal.{Refusal}
use Rattle.big_endian.specs.Numbers.{be16}
use Rattle.script.specs.Table.{kind_of, length_of, lawful, field_of}
use Rattle.script.specs.declared.tags.Kind.{Kind}
use Rattle.script.specs.declared.fields.Field.{Field}
use Rattle.script.specs.Field.{body_of, misplaced, unknown, read_of, Read}

-- the value of a field begins behind its tag and its length
abbrev pub value_of : List ℕ → List ℕ
value_of s = drop 3 s

abbrev pub kind_at : List ℕ → Kind
kind_at s = kind_of (get_or s 0 0)

pub record Whole (s : List ℕ) (first : Bool) (f : Field) (k : ℕ) : Type 0 where
  pub long : 3 ≤ length s
  pub in_place : misplaced (get_or s 0 0) first ≡ false
  pub known : unknown (get_or s 0 0) ≡ false
  pub said : be16 s 1 ≡ length_of (kind_at s)
  pub fits : length_of (kind_at s) ≤ length s - 3
  pub good : lawful (kind_at s) (value_of s) ≡ true
  pub is : field_of (kind_at s) (value_of s) ≡ f
  pub takes : 3 + length_of (kind_at s) ≡ k

bad_no_field : {X : Type 0} {c : Refusal} {f : Field} {k : ℕ} → ◌≡◌ {A = Read} (Err c) (Ok (Some (f, k))) → X
bad_no_field e = let z : ◌≡◌ {A = ℕ} 0 1 = cc in absurd (omega arith)

end_no_field : {X : Type 0} {f : Field} {k : ℕ} → ◌≡◌ {A = Read} (Ok None) (Ok (Some (f, k))) → X
end_no_field e = let z : ◌≡◌ {A = ℕ} 0 1 = cc in absurd (omega arith)

-- the field and its size, where there is one
abbrev got : Field × ℕ → Read → Field × ℕ
got d (Ok (Some p)) = p
got d (Ok None) = d
got d (Err r) = d

pub whole : (s : List ℕ) (first : Bool) {f : Field} {k : ℕ} → read_of s first ≡ Ok (Some (f, k)) → Whole s first f k
unfolding read_of body_of
whole s first {f} {k} e =
    by-case (eqb (length s) 0)
    (λ y. by-case first (λ b. bad_no_field (rw (y, b) at e)) (λ b. end_no_field (rw (y, b) at e)))
    (λ y. by-case (ltb (length s) 3)
    (λ z. bad_no_field (rw (y, z) at e))
    (λ z. by-case (misplaced (get_or s 0 0) first)
    (λ p. bad_no_field (rw (y, z, p) at e))
    (λ p. by-case (unknown (get_or s 0 0))
    (λ t. bad_no_field (rw (y, z, p, t) at e))
    (λ t. by-case (eqb (be16 s 1) (length_of (kind_at s)))
    (λ l. by-case (leb (length_of (kind_at s)) (length s - 3))
    (λ c. by-case (lawful (kind_at s) (value_of s))
    (λ g.
    let q : ◌≡◌ {A = Field × ℕ} (field_of (kind_at s) (value_of s), 3 + length_of (kind_at s)) (f, k) = ap (got (f, k)) (rw (y, z, p, t, l, c, g) at e) in
    record {
      long = ltb-false (length s) 3 z;
      in_place = p;
      known = t;
      said = eqb-true _ _ l;
      fits = leb-true _ _ c;
      good = g;
      is = ap (λ (p : Field × ℕ). p.0) q;
      takes = ap (λ (p : Field × ℕ). p.1) q;
    })
    (λ g. bad_no_field (rw (y, z, p, t, l, c, g) at e)))
    (λ c. bad_no_field (rw (y, z, p, t, l, c) at e)))
    (λ l. bad_no_field (rw (y, z, p, t, l) at e))))))

pub taken-whole : {s : List ℕ} {first : Bool} {f : Field} {k : ℕ} → Whole s first f k → read_of s first ≡ Ok (Some (f, k))
unfolding read_of body_of
taken-whole {s} w =
    let l = w.long in
    rw (ne_eqb (length s) 0 (λ z. omega arith), le-ltb (length s) 3 l, w.in_place, w.known, eq-eqb _ _ w.said, le-leb _ _ w.fits, w.good, w.is, w.takes)

-- ---- the end
abbrev Goes : Read → Type 0
Goes (Ok (Some (f, k))) = Unit {0}
Goes (Err c) = Unit {0}
Goes (Ok None) = ⊥

body_goes : (k : Kind) (s : List ℕ) → Goes (body_of k s)
unfolding body_of
body_goes k s =
    by-case (eqb (be16 s 1) (length_of k))
    (λ y. by-case (leb (length_of k) (length s - 3))
    (λ c. by-case (lawful k (drop 3 s)) (λ z. rw (y, c, z) tt) (λ z. rw (y, c, z) tt))
    (λ c. rw (y, c) tt))
    (λ y. rw y tt)

goes : (s : List ℕ) (first : Bool) → eqb (length s) 0 ≡ false → Goes (read_of s first)
unfolding read_of
goes s first y =
    by-case (ltb (length s) 3)
    (λ z. rw (y, z) tt)
    (λ z. by-case (misplaced (get_or s 0 0) first)
    (λ p. rw (y, z, p) tt)
    (λ p. by-case (unknown (get_or s 0 0)) (λ t. rw (y, z, p, t) tt) (λ t. rw (y, z, p, t) (body_goes (kind_at s) s))))

pub end_is-empty : (s : List ℕ) (first : Bool) → read_of s first ≡ Ok None → length s ≡ 0
end_is-empty s first e = by-case (eqb (length s) 0) (λ y. eqb-true _ _ y) (λ y. absurd (subst Goes e (goes s first y)))

-- where no byte is left, a later field is the end
pub end_of_all : (n : ℕ) → 2 ≤ n → read_of [] (eqb n 1) ≡ Ok None
unfolding read_of
end_of_all n h = rw (ne_eqb n 1 (λ e. omega arith))
