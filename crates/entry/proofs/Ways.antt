-- The ways out of the entry.
use Rattle.std.specs.Prelude.{Err}
use Prim.Native.Nat.{ℕ}
use mathlib.Core.Path.{◌≡◌}
use mathlib.Core.List.{List}
use lib.ListN.{length}
use borrow.Author.Tests.{eq-eqb, ne_eqb}
use Rattle.sequences.specs.Pick.{pick}
use Rattle.refusals.specs.Numbers.{Answer}
use Rattle.refusals.specs.declared.Refusal.TheVariants.{Lengths}
use Rattle.listing.specs.declared.ending.Ended.{Ended}
use Rattle.listing.specs.Ended.{ran_of}
use Rattle.entry.specs.Entry.{frame_bytes, if_taken, entry_answer, entry_bytes}

module _ (s o : List ℕ) where
  -- a lent length that is not a frame's
  pub lengths : (length o ≡ 2308 → ⊥) → (Err Lengths ≡ entry_answer s o) × (o ≡ entry_bytes s o)
  unfolding entry_answer entry_bytes pick
  lengths h = (rw (ne_eqb _ _ h), rw (ne_eqb _ _ h))

  -- the script's own answer
  pub ran : (e : Ended) (a : Answer) → length o ≡ 2308 → e ≡ ran_of s → e.answer ≡ a → (a ≡ entry_answer s o) × (if_taken a (frame_bytes e.frame) o ≡ entry_bytes s o)
  unfolding entry_answer entry_bytes pick
  ran e a h q told = (rw (eq-eqb _ _ h, ← q, told), rw (eq-eqb _ _ h, ← q, told))
