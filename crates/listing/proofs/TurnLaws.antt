-- Laws of a turn: how many bytes it takes; and that the run with what the turn says is the turn.
use Rattle.std.proofs.Common.{◌≡◌, ℕ, ◌-◌, ◌≤◌, Bool, true, false, eqb, List, length, drop, refl, ap, ◌∙◌, zero-le, length-drop, Some, None, Ok, Err}
use Rattle.refusals.specs.declared.Refusal.{Refusal}
use Rattle.script.specs.Field.{Read, read_of}
use Rattle.script.proofs.Taken.{Taken, field, bad, end, taken}
use Rattle.script_steps.specs.declared.Run.{Run}
use Rattle.script_steps.specs.Replies.{Reply}
use Rattle.script_steps.specs.Steps.{step_of}
use Rattle.listing.specs.declared.turns.Said.{Said}
use Rattle.listing.specs.declared.turns.Turn.{Turn}
use Rattle.listing.specs.Saying.{refusal_said, said_of}
use Rattle.listing.specs.Turns.{told_of, refusal_of, replied_of, after_of, turn_of}

refusal_taken : (b : Bool) (run : Run) (n at k : ℕ) (r : Refusal) (m : ℕ) → k ≤ m → (refusal_of b run n at k r).taken ≤ m
refusal_taken true run n at k r m h = zero-le
refusal_taken false run n at k r m h = h

replied-taken : (n at k : ℕ) (run : Run) (a : Reply) (m : ℕ) → k ≤ m → (replied_of n at k run a).taken ≤ m
replied-taken n at k run (Ok None) m h = h
replied-taken n at k run (Err r) m h = refusal_taken (eqb n 1) run n at k r m h
replied-taken n at k run (Ok (Some v)) m h = h

after-taken : (run : Run) (n at : ℕ) (s : List ℕ) (r : Read) (m : ℕ) → Taken r m → (after_of run n at s r).taken ≤ m
after-taken run n at s (Ok (Some (f, k))) m (field lo hi) = replied-taken n at k (step_of run f).run (step_of run f).reply m hi
after-taken run n at s (Err r) m bad = zero-le
after-taken run n at s (Ok None) m end = zero-le

pub turn-taken : (run : Run) (n at : ℕ) (s : List ℕ) → (turn_of run n at s).taken ≤ length s - at
unfolding turn_of
turn-taken run n at s = rw length-drop at (after-taken run n at s (read_of (drop at s) (eqb n 1)) (length (drop at s)) (taken (drop at s) (eqb n 1)))

pub taken-left : (run : Run) (n at : ℕ) (s : List ℕ) (t : Turn) → t ≡ turn_of run n at s → t.taken ≤ length s - at
taken-left run n at s t eq = rw eq (turn-taken run n at s)

refusal_three : (b : Bool) (run : Run) (n at k : ℕ) (r : Refusal) → 3 ≤ k → ((refusal_of b run n at k r).taken ≡ 0 → ⊥) → 3 ≤ (refusal_of b run n at k r).taken
refusal_three true run n at k r h z = absurd (z refl)
refusal_three false run n at k r h z = h

replied-three : (n at k : ℕ) (run : Run) (a : Reply) → 3 ≤ k → ((replied_of n at k run a).taken ≡ 0 → ⊥) → 3 ≤ (replied_of n at k run a).taken
replied-three n at k run (Ok None) h z = h
replied-three n at k run (Err r) h z = refusal_three (eqb n 1) run n at k r h z
replied-three n at k run (Ok (Some v)) h z = h

after-three : (run : Run) (n at : ℕ) (s : List ℕ) (m : ℕ) (r : Read) → Taken r m → ((after_of run n at s r).taken ≡ 0 → ⊥) → 3 ≤ (after_of run n at s r).taken
after-three run n at s m (Ok (Some (f, k))) (field lo hi) z = replied-three n at k (step_of run f).run (step_of run f).reply lo z
after-three run n at s m (Err r) bad z = absurd (z refl)
after-three run n at s m (Ok None) end z = absurd (z refl)

pub turn_three : (run : Run) (n at : ℕ) (s : List ℕ) → ((turn_of run n at s).taken ≡ 0 → ⊥) → 3 ≤ (turn_of run n at s).taken
unfolding turn_of
turn_three run n at s = after-three run n at s (length (drop at s)) (read_of (drop at s) (eqb n 1)) (taken (drop at s) (eqb n 1))

-- the run with what the turn says
refusal_said_lem : (b : Bool) (run : Run) (n at k : ℕ) (r : Refusal) → told_of run (refusal_said b n at k r).line (refusal_said b n at k r).taken ≡ refusal_of b run n at k r
refusal_said_lem true run n at k r = refl
refusal_said_lem false run n at k r = refl

said_told : (n at k : ℕ) (run : Run) (a : Reply) → told_of run (said_of n at k a).line (said_of n at k a).taken ≡ replied_of n at k run a
unfolding said_of
said_told n at k run (Ok None) = refl
said_told n at k run (Err r) = refusal_said_lem (eqb n 1) run n at k r
said_told n at k run (Ok (Some v)) = refl

pub said_as : (n at k : ℕ) (run : Run) (a : Reply) (w : Said) → w ≡ said_of n at k a → told_of run w.line w.taken ≡ replied_of n at k run a
said_as n at k run a w p = ap (λ (x : Said). told_of run x.line x.taken) p ∙ said_told n at k run a
