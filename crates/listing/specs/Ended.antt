-- What a whole script comes to. Definitions only.
use Rattle.std.specs.Prelude.{ℕ, cond, List, length, nat_le, Ok, Err}
use Rattle.refusals.specs.Numbers.{Answer}
use Rattle.refusals.specs.declared.Refusal.TheVariants.{Script}
use Rattle.script_steps.specs.declared.Run.{Run}
use Rattle.script_steps.specs.Steps.{fresh}
use Rattle.listing.specs.declared.lines.Line.{Line}
use Rattle.listing.specs.declared.lines.Line.TheVariants as L
use Rattle.listing.specs.declared.turns.Turn.{Turn}
use Rattle.listing.specs.declared.ending.Ended.{Ended}
use Rattle.listing.specs.Last.{last_turn_of}

-- the reader's number, or 1 in field 1
abbrev pub bad_of : Line → Answer
bad_of L.Nothing = Ok tt
bad_of (L.Frame n v) = Ok tt
bad_of (L.Refused n r) = Ok tt
bad_of (L.Bad n r p) = Err r
bad_of (L.End n) = Ok tt

abbrev pub ran_to : Run → Answer → Ended
ran_to run a = record { answer = a; frame = run.frame }

abbrev pub ended_of : Turn → Ended
ended_of t = ran_to t.run (bad_of t.line)

-- a script that is too long is not run
unfoldable pub ran_of : List ℕ → Ended
ran_of s = cond (nat_le (length s) 60000) (ended_of (last_turn_of s)) (ran_to fresh (Err Script))
