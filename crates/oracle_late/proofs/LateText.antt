-- The text of a late listing: how what is left of it goes on, and how long it can be.
use Prim.Native.Nat.{ℕ, zero, suc, ◌+◌, ◌-◌, ◌*◌, ◌≤◌, ◌<◌}
use mathlib.Core.Path.{◌≡◌, sym}
use mathlib.Core.List.{List, ◌++◌, append-nil}
use native.Mathlib.Omega.{arith}
use lib.Dec.{eqb, leb}
use lib.ListN.{length, length-append}
use borrow.Author.Tests.{eq-eqb, ne_eqb, eqb-false}
use Rattle.sequences.specs.Pick.{by-case}
use Rattle.text.specs.Put.{Put}
use Rattle.text.proofs.Laws.{seq}
use Rattle.refusals.specs.declared.Refusal.TheVariants.{Script}
use Rattle.script_steps.specs.declared.Run.{Run}
use Rattle.script_steps.specs.Steps.{fresh}
use Rattle.listing.specs.declared.lines.Line.TheVariants as L
use Rattle.listing.specs.declared.turns.Turn.{Turn}
use Rattle.listing.specs.Lines.{text_of}
use Rattle.listing.specs.Listed.{room_for}
use Rattle.listing.specs.Turns.{turn_of}
use Rattle.listing.proofs.LineSizes.{line_size}
use Rattle.listing.proofs.TurnLaws.{turn-taken, turn_three}
use Rattle.oracle_late.specs.Late.{run_after, text_late, printed_late}

module _ (start f : ℕ) (run : Run) (n at : ℕ) (s : List ℕ) where
  last : (turn_of run n at s).taken ≡ 0 → text_of (turn_of run n at s).line ≡ text_late start (suc f) run n at s
  unfolding text_late
  last h = rw (eq-eqb _ _ h) (sym (append-nil _))

  more : ((turn_of run n at s).taken ≡ 0 → ⊥)
      → text_of (turn_of run n at s).line ++ text_late start f (run_after start n (turn_of run n at s).run) (n + 1) (at + (turn_of run n at s).taken) s ≡ text_late start (suc f) run n at s
  unfolding text_late
  more h = rw (ne_eqb _ _ h)

-- whatever writes the text that is left, writes with what is written the whole text
abbrev pub Goes : ℕ → List ℕ → List ℕ → ℕ → List ℕ → List ℕ → Run → ℕ → ℕ → ℕ → Type 0
Goes start script o₀ w₀ whole out run n at w =
    (p : List ℕ) (r : ℕ) → Put out p w r (text_late start (length script + 2 - n) run n at script) → Put o₀ p w₀ r whole

module _ (start : ℕ) (script o₀ : List ℕ) (w₀ : ℕ) (whole out p : List ℕ) (run : Run) (n at w r : ℕ) (t : Turn) (pos : 0 < n) (few : n ≤ at + 1) (in-s : at ≤ length script)
    (g : Goes start script o₀ w₀ whole out run n at w) (eq : t ≡ turn_of run n at script) (put : Put out p w r (text_of t.line)) where
  fuel : length script + 2 - n ≡ suc (length script + 2 - (n + 1))
  fuel = omega arith

  pub stop : t.taken ≡ 0 → Put o₀ p w₀ r whole
  stop h = g p r (rw fuel (rw (last start (length script + 2 - (n + 1)) run n at script (rw eq at h)) at (rw eq at put)))

  pub go_on : {next : Run} → (t.taken ≡ 0 → ⊥) → next ≡ run_after start n t.run → Goes start script o₀ w₀ whole p next (n + 1) (at + t.taken) r
  go_on {next} h e q u rest =
      let m = run_after start n (turn_of run n at script).run in
      let same : next ≡ m = rw eq at e in
      let one : Put p q r u (text_late start (length script + 2 - (n + 1)) m (n + 1) (at + (turn_of run n at script).taken) script) = rw (← same) (rw eq at rest) in
      g q u (rw fuel (rw (more start (length script + 2 - (n + 1)) run n at script (rw eq at h)) at (seq (rw eq at put) one)))

-- a field of three bytes or more has a line of at most 204, and one line more may end the run
from-size : (start f : ℕ) (run : Run) (n at : ℕ) (s : List ℕ) → length (text_late start f run n at s) ≤ 68 * (length s - at) + 204
unfolding text_late
from-size start zero run n at s = omega arith
from-size start (suc f) run n at s =
    let t = turn_of run n at s in
    by-case (eqb t.taken 0)
    (λ y. rw (y, length-append) (omega (arith, line_size t.line)))
    (λ y.
    rw (y, length-append)
    (omega (arith, line_size t.line, turn-taken run n at s, turn_three run n at s (eqb-false t.taken 0 y), from-size start f (run_after start n t.run) (n + 1) (at + t.taken) s)))

pub size_late : (start : ℕ) (s : List ℕ) → length (printed_late start s) ≤ room_for (length s)
unfolding printed_late
size_late start s =
    by-case (leb (length s) 60000) (λ y. rw y (omega (arith, from-size start (length s + 1) fresh 1 0 s)))
    (λ y. rw y (omega (arith, line_size (L.Bad 0 Script 0))))
