-- Demand 1 of what is written into a lent buffer, a listing or an event: 13 exactly where there is no room, and then nothing has moved.
use Prim.Native.Nat.{ℕ, ◌+◌, ◌-◌}
use mathlib.Core.Path.{◌≡◌}
use mathlib.Core.List.{List, [], ◌∷◌}
use native.Mathlib.Omega.{arith}
use lib.Dec.{ltb, leb}
use lib.ListN.{length}
use borrow.Author.Tests.{leb-true, leb-false, lt-ltb, le-ltb}
use Rattle.sequences.specs.Pick.{pick, by-case}
use Rattle.refusals.specs.Numbers.{answer_of}
use Rattle.text.specs.Put.{buffer_of}
use Rattle.script.specs.declared.fields.Field.{Field}
use Rattle.script_writer.specs.Encoded.{encoded}
use Rattle.script_writer.specs.Written.{written_of}
use Rattle.script_writer.proofs.Sizes.{three_bytes}
use Rattle.listing.specs.Listed.{room_for, listed_of, left_in}
use Rattle.promises.specs.Tests.{first_of, listed_number}

module _ (s o : List ℕ) where
  pub listed_by : listed_number (listed_of (length o) s) ≡ first_of ((ltb (length o) (room_for (length s)), 13) ∷ [])
  unfolding first_of pick
  listed_by = by-case (ltb (length o) (room_for (length s))) (λ y. rw y) (λ y. rw y)

  pub unlisted_by : (listed_number (listed_of (length o) s) ≡ 0 → ⊥) → left_in o s ≡ o
  unlisted_by n = by-case (ltb (length o) (room_for (length s))) (λ y. rw y) (λ y. absurd (n (rw y)))

module _ (f : Field) (o : List ℕ) (at : ℕ) where
  pub written_by_lem : answer_of (written_of (length o) at (encoded f)).1 ≡ first_of ((ltb (length o - at) (length (encoded f)), 13) ∷ [])
  unfolding written_of first_of pick
  written_by_lem =
      by-case (leb (at + length (encoded f)) (length o))
      (λ y. let h = leb-true (at + length (encoded f)) (length o) y in rw (y, le-ltb (length o - at) (length (encoded f)) (omega arith)))
      (λ y. let h = leb-false (at + length (encoded f)) (length o) y in rw (y, lt-ltb (length o - at) (length (encoded f)) (omega (arith, three_bytes f))))

  pub unwritten_by : (answer_of (written_of (length o) at (encoded f)).1 ≡ 0 → ⊥)
      → ((written_of (length o) at (encoded f)).0 ≡ at) × (buffer_of o at (encoded f) ≡ o)
  unfolding written_of buffer_of
  unwritten_by n =
      by-case (leb (at + length (encoded f)) (length o)) (λ y. absurd (n (rw y))) (λ y. (rw y, rw y))
