-- How long a listing can be.
use Rattle.std.proofs.Common.{ℕ, zero, suc, ◌+◌, ◌-◌, ◌*◌, ◌≤◌, eqb, leb, List, length, arith, length-append}
use borrow.Author.Tests.{eqb-false}
use Rattle.sequences.specs.Pick.{by-case}
use Rattle.refusals.specs.declared.Refusal.TheVariants.{Script}
use Rattle.script_steps.specs.declared.Run.{Run}
use Rattle.script_steps.specs.Steps.{fresh}
use Rattle.listing.specs.declared.lines.Line.TheVariants as L
use Rattle.listing.specs.Lines.{text_all}
use Rattle.listing.proofs.LineSizes.{line_size}
use Rattle.listing.specs.Turns.{turn_of, turns_from}
use Rattle.listing.proofs.TurnLaws.{turn-taken, turn_three}
use Rattle.listing.specs.Printed.{lines_of, printed}
use Rattle.listing.specs.Listed.{room_for}

-- a field of three bytes or more has a line of at most 204, and one line more may end the run
from-size : (f : ℕ) (run : Run) (n at : ℕ) (s : List ℕ) → length (text_all (lines_of (turns_from f run n at s))) ≤ 68 * (length s - at) + 204
unfolding turns_from
from-size zero run n at s = omega arith
from-size (suc f) run n at s =
    let t = turn_of run n at s in
    by-case (eqb t.taken 0)
    (λ y. rw (y, length-append) (omega (arith, line_size t.line)))
    (λ y.
    rw (y, length-append)
    (omega (arith, line_size t.line, turn-taken run n at s, turn_three run n at s (eqb-false t.taken 0 y), from-size f t.run (n + 1) (at + t.taken) s)))

pub size : (s : List ℕ) → length (printed s) ≤ room_for (length s)
unfolding printed
size s =
    by-case (leb (length s) 60000) (λ y. rw y (omega (arith, from-size (length s + 1) fresh 1 0 s)))
    (λ y. rw (y, length-append) (omega (arith, line_size (L.Bad 0 Script 0))))
