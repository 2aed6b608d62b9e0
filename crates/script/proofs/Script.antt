-- The laws in the words of a whole script.
use Prim.Native.Nat.{ℕ, ◌*◌, ◌≤◌}
use mathlib.Core.Path.{◌≡◌, refl}
use mathlib.Core.Bool.{Bool, true, false, cond}
use mathlib.Core.List.{List, ◌++◌}
use native.Mathlib.Omega.{arith}
use lib.ListN.{length, drop}
use lib.Dec.{leb}
use borrow.Author.Tests.{leb-true}
use Rattle.sequences.specs.Pick.{by-case}
use Rattle.refusals.specs.declared.Refusal.TheVariants.{Script}
use Rattle.script.specs.Reading.{Reading, stopped, ended, bad, reading_of}
use Rattle.script.proofs.Steps.{Reads, onward-reads}
use Rattle.script.proofs.Places.{own_all, three-each, within, stops_at, ends_at, own_and_rest, bad_not_ended}

-- a script that is read to its end is of lawful size
read_whole : (s : List ℕ) (r : Reading) (b : Bool) → leb (length s) 60000 ≡ b → (cond b r (stopped 0 (bad Script))).verdict ≡ ended → length s ≤ 60000
read_whole s r true e v = leb-true _ _ e
read_whole s r false e v = bad_not_ended v

pub script-lawful : (s : List ℕ) → (reading_of s).verdict ≡ ended → length s ≤ 60000
unfolding reading_of
script-lawful s v = read_whole s _ (leb (length s) 60000) refl v

-- the fields' own bytes in order, and then the rest from where the reader stopped, are the script
pub script_and_rest : (s : List ℕ) → own_all s (reading_of s).fields ++ drop (reading_of s).stop s ≡ s
unfolding reading_of
script_and_rest s = by-case (leb (length s) 60000) (λ y. rw y (own_and_rest s (onward-reads 1 0 s))) (λ y. rw y)

-- each field takes three bytes at least
pub script-three : (s : List ℕ) → 3 * length (reading_of s).fields ≤ length s
unfolding reading_of
script-three s =
    by-case (leb (length s) 60000)
    (λ y. rw y (let d = onward-reads 1 0 s in omega (arith, three-each d, within d)))
    (λ y. rw y (omega arith))

-- a script that is read to its end: its reading, and that the reader stops behind its last byte
module _ (s : List ℕ) (v : (reading_of s).verdict ≡ ended) where
  pub script-reads : Reads 1 0 s (reading_of s)
  unfolding reading_of
  script-reads = by-case (leb (length s) 60000) (λ y. rw y (onward-reads 1 0 s)) (λ y. bad_not_ended (rw y at v))

  pub script-ends : (reading_of s).stop ≡ length s
  script-ends = omega (arith, stops_at script-reads, ends_at script-reads v)
