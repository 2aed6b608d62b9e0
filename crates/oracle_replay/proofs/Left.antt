-- Laws of what fields leave: how the fields that are left go on, how many bytes they leave, and the ways out of handing them over.
use Prim.Native.Nat.{ℕ, zero, suc, ◌+◌, ◌-◌, ◌*◌, ◌≤◌, ◌<◌}
use mathlib.Core.Path.{◌≡◌, ◌∙◌}
use mathlib.Core.List.{List, [], ◌++◌}
use native.Mathlib.Nat.{zero-add}
use native.Mathlib.Omega.{arith}
use lib.Dec.{eqb}
use lib.ListN.{length, drop, length-append}
use borrow.Author.Tests.{eq-eqb, ne_eqb, eqb-false, le-leb, lt-leb}
use Rattle.sequences.specs.Pick.{pick, by-case}
use Rattle.text.specs.Put.{Put, joined}
use Rattle.text.proofs.Laws.{nothing, seq}
use Rattle.script_steps.specs.declared.Run.{Run}
use Rattle.script_steps.specs.Steps.{fresh}
use Rattle.listing.specs.declared.turns.Turn.{Turn}
use Rattle.listing.specs.Turns.{turn_of}
use Rattle.listing.proofs.TurnLaws.{turn-taken, turn_three}
use Rattle.oracle_late.specs.Late.{run_after}
use Rattle.oracle_replay.proofs.Whole.{state_length}
use Rattle.entry.proofs.FrameBytes.{frame_length}
use Rattle.oracle_replay.specs.Replay.{answer_byte, left_by, left_from, left_of, handed_count, handed_in}

-- what one field leaves
field_length : (run : Run) (answer : ℕ) → length (joined (left_by run answer)) ≡ 16493
unfolding left_by
field_length run answer = rw (length-append, length-append, state_length, frame_length)

module _ (start f : ℕ) (run : Run) (n at : ℕ) (s : List ℕ) where
  none_left : (turn_of run n at s).taken ≡ 0 → left_from start (suc f) run n at s ≡ []
  unfolding left_from
  none_left h = rw (eq-eqb _ _ h)

  one_more : ((turn_of run n at s).taken ≡ 0 → ⊥)
      → joined (left_by (run_after start n (turn_of run n at s).run) (answer_byte run n (drop at s))) ++ left_from start f (run_after start n (turn_of run n at s).run) (n + 1) (at + (turn_of run n at s).taken) s ≡ left_from start (suc f) run n at s
  unfolding left_from
  one_more h = rw (ne_eqb _ _ h)

-- whatever writes what the fields that are left leave, writes with what is written all of it
abbrev pub Goes : ℕ → List ℕ → List ℕ → ℕ → List ℕ → List ℕ → Run → ℕ → ℕ → ℕ → Type 0
Goes start script o₀ w₀ whole out run n at w =
    (p : List ℕ) (r : ℕ) → Put out p w r (left_from start (length script + 2 - n) run n at script) → Put o₀ p w₀ r whole

module _ (start : ℕ) (script o₀ : List ℕ) (w₀ : ℕ) (whole out : List ℕ) (run : Run) (n at w : ℕ) (t : Turn) (pos : 0 < n) (few : n ≤ at + 1) (in-s : at ≤ length script)
    (g : Goes start script o₀ w₀ whole out run n at w) (eq : t ≡ turn_of run n at script) where
  fuel : length script + 2 - n ≡ suc (length script + 2 - (n + 1))
  fuel = omega arith

  pub stop : t.taken ≡ 0 → Put o₀ out w₀ w whole
  stop h = g out w (rw (fuel, none_left start (length script + 2 - (n + 1)) run n at script (rw eq at h)) (nothing out w))

  pub go_on : {p : List ℕ} {r a : ℕ} {next : Run} → (t.taken ≡ 0 → ⊥) → next ≡ run_after start n t.run → a ≡ answer_byte run n (drop at script) → Put out p w r (joined (left_by next a)) → Goes start script o₀ w₀ whole p next (n + 1) (at + t.taken) r
  go_on {p} {r} {a} {next} h e told put q u rest =
      let m = run_after start n (turn_of run n at script).run in
      let same : next ≡ m = rw eq at e in
      let one : Put p q r u (left_from start (length script + 2 - (n + 1)) m (n + 1) (at + (turn_of run n at script).taken) script) = rw (← same) (rw eq at rest) in
      let first : Put out p w r (joined (left_by m (answer_byte run n (drop at script)))) = rw (← same, ← told) put in
      g q u (rw fuel (rw (one_more start (length script + 2 - (n + 1)) run n at script (rw eq at h)) at (seq first one)))

-- a field takes three bytes or more
from-size : (start f : ℕ) (run : Run) (n at : ℕ) (s : List ℕ) → length (left_from start f run n at s) ≤ 5498 * (length s - at)
unfolding left_from
from-size start zero run n at s = omega arith
from-size start (suc f) run n at s =
    let t = turn_of run n at s in
    let next = run_after start n t.run in
    by-case (eqb t.taken 0) (λ y. rw y (omega arith))
    (λ y.
    rw (y, length-append)
    (omega (arith, field_length next (answer_byte run n (drop at s)), turn-taken run n at s, turn_three run n at s (eqb-false t.taken 0 y), from-size start f next (n + 1) (at + t.taken) s)))

size : (start : ℕ) (s : List ℕ) → length (left_of start s) ≤ 5498 * length s
unfolding left_of
size start s = omega (arith, from-size start (length s + 1) fresh 1 0 s)

module _ (start : ℕ) (s o : List ℕ) where
  from_first : {p : List ℕ} {r : ℕ} → Put o p 0 r (left_from start (length s + 2 - 1) fresh 1 0 s) → Put o p 0 r (left_of start s)
  unfolding left_of
  from_first put =
      let e : length s + 2 - 1 ≡ length s + 1 = omega arith in
      rw e at put

  pub too_long : 60000 < length s → (0 ≡ handed_count start s o) × (o ≡ handed_in start s o)
  unfolding handed_count handed_in pick
  too_long h = (rw (lt-leb _ _ h), rw (lt-leb _ _ h))

  pub no_room : length s ≤ 60000 → length o < 5498 * length s → (0 ≡ handed_count start s o) × (o ≡ handed_in start s o)
  unfolding handed_count handed_in pick
  no_room h g = (rw (le-leb _ _ h, lt-leb _ _ g), rw (le-leb _ _ h, lt-leb _ _ g))

  pub all-fields : {p : List ℕ} {r : ℕ} → length s ≤ 60000 → 5498 * length s ≤ length o → Put o p 0 r (left_from start (length s + 2 - 1) fresh 1 0 s) → (r ≡ handed_count start s o) × (p ≡ handed_in start s o)
  unfolding handed_count handed_in pick
  all-fields {p} {r} h g put =
      let f = (from_first put).fits (omega (arith, size start s)) in
      (rw (le-leb _ _ h, le-leb _ _ g) (f.0 ∙ zero-add _), rw (le-leb _ _ h, le-leb _ _ g) f.1)
