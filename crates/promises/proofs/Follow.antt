-- The turns of a script go over the list of its fields.
use Rattle.std.specs.Prelude.{Some, None, Ok, Err}
use Prim.Native.Nat.{ℕ, zero, suc, ◌+◌, ◌<◌}
use mathlib.Core.Path.{◌≡◌, refl, sym, ap, ◌∙◌}
use mathlib.Core.Bool.{false, true≢false}
use mathlib.Core.List.{List, ◌∷◌}
use native.Mathlib.Omega.{arith}
use lib.ListN.{length, drop, length-drop}
use lib.Seq.{drop-drop}
use lib.Dec.{eqb}
use Rattle.sequences.specs.Pick.{by-case}
use Rattle.script_steps.specs.declared.Run.{Run}
use Rattle.script_steps.specs.Replies.{Reply}
use Rattle.script_steps.specs.Steps.{fresh, step_of}
use Rattle.refusals.specs.declared.Refusal.{Refusal}
use Rattle.listing.specs.declared.turns.Turn.{Turn}
use Rattle.listing.specs.Turns.{refusal_of, replied_of, bad_place, turn_of, turns_from, turns_of}
use Rattle.script.specs.Reading.{Reading, onward}
use Rattle.script.proofs.Steps.{Reads, field, wrong, end, onward-reads}
use Rattle.promises.specs.Over.{bad_at, turns_over}

-- a turn that goes on has taken the field's bytes
refusal_taken : (n : ℕ) (run : Run) (at k : ℕ) (r : Refusal) → eqb (refusal_of (eqb n 1) run n at k r).taken 0 ≡ false → (refusal_of (eqb n 1) run n at k r).taken ≡ k
refusal_taken n run at k r h = by-case (eqb n 1) (λ y. absurd (true≢false (rw y at h))) (λ y. rw y)

replied-taken : (n at k : ℕ) (run : Run) (a : Reply) → eqb (replied_of n at k run a).taken 0 ≡ false → (replied_of n at k run a).taken ≡ k
replied-taken n at k run (Ok None) h = refl
replied-taken n at k run (Err r) h = refusal_taken n run at k r h
replied-taken n at k run (Ok (Some v)) h = refl

-- in a script, which has s from `at` on
pub from-follows : (script : List ℕ) {n at : ℕ} {s : List ℕ} {r : Reading} → Reads n at s r → drop at script ≡ s → (most : ℕ) (run : Run) → length s < most
    → turns_from most run n at script ≡ turns_over run n r.fields (bad_at script r) r.verdict
unfolding turns_from turns_over turn_of bad_place
from-follows script (field e lo hi d) here zero run h = absurd (omega arith)
from-follows script {n} {at} {s} (field {f = f} {k = k} {r = r} e lo hi d) here (suc most) run h =
    let t = replied_of n at k (step_of run f).run (step_of run f).reply in
    rw (here, e)
    (ap (λ (ts : List Turn). t ∷ ts)
    (by-case (eqb t.taken 0)
    (λ y. rw y)
    (λ y. rw (y, replied-taken n at k (step_of run f).run (step_of run f).reply y) (from-follows script d (sym (drop-drop k at script) ∙ ap (drop k) here) most t.run (omega (arith, length-drop k s))))))
from-follows script (wrong e) here zero run h = absurd (omega arith)
from-follows script (wrong e) here (suc most) run h = rw (here, e)
from-follows script (end e) here zero run h = absurd (omega arith)
from-follows script (end e) here (suc most) run h = rw (here, e)

pub turns_follow : (s : List ℕ) → turns_of s ≡ turns_over fresh 1 (onward 1 0 s).fields (bad_at s (onward 1 0 s)) (onward 1 0 s).verdict
turns_follow s = from-follows s (onward-reads 1 0 s) refl (length s + 1) fresh (omega arith)
