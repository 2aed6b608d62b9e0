-- A field that was read took at least three bytes, and no more than there are.
use Rattle.std.specs.Prelude.{Some, None, Ok, Err}
use Prim.Native.Nat.{ℕ, ◌+◌, ◌-◌, ◌≤◌}
use mathlib.Core.Bool.{Bool}
use mathlib.Core.List.{List}
use native.Mathlib.Omega.{arith}
use lib.ListN.{length, get_or, drop}
use lib.Dec.{eqb, ltb, leb}
use borrow.Author.Tests.{ltb-false, leb-true}
use Rattle.sequences.specs.Pick.{by-case}
use Rattle.big_endian.specs.Numbers.{be16}
use Rattle.script.specs.Table.{kind_of, lawful, length_of}
use Rattle.script.specs.Field.{body_of, misplaced, unknown, read_of, Read}
use Rattle.refusals.specs.declared.Refusal.{Refusal}
use Rattle.script.specs.declared.tags.Kind.{Kind}
use Rattle.script.specs.declared.fields.Field.{Field}

pub data Taken : Read → ℕ → Type 0 where
  field : {f : Field} {k m : ℕ} → 3 ≤ k → k ≤ m → Taken (Ok (Some (f, k))) m
  bad : {c : Refusal} {m : ℕ} → Taken (Err c) m
  end : {m : ℕ} → Taken (Ok None) m

body : (k : Kind) (s : List ℕ) → 3 ≤ length s → Taken (body_of k s) (length s)
unfolding body_of
body k s h =
    by-case (eqb (be16 s 1) (length_of k))
    (λ y. by-case (leb (length_of k) (length s - 3))
    (λ cut. by-case (lawful k (drop 3 s))
    (λ z. rw (y, cut, z) (field {k = 3 + length_of k} {m = length s} (omega arith) (omega (arith, leb-true (length_of k) (length s - 3) cut))))
    (λ z. rw (y, cut, z) bad))
    (λ cut. rw (y, cut) bad))
    (λ y. rw y bad)

pub taken : (s : List ℕ) (first : Bool) → Taken (read_of s first) (length s)
unfolding read_of
taken s first =
    by-case (eqb (length s) 0)
    (λ y. by-case first (λ b. rw (y, b) bad) (λ b. rw (y, b) end))
    (λ y. by-case (ltb (length s) 3)
    (λ z. rw (y, z) bad)
    (λ z. by-case (misplaced (get_or s 0 0) first)
    (λ p. rw (y, z, p) bad)
    (λ p. by-case (unknown (get_or s 0 0))
    (λ t. rw (y, z, p, t) bad)
    (λ t. rw (y, z, p, t) (body (kind_of (get_or s 0 0)) s (ltb-false (length s) 3 z))))))
