-- What a turn says, apart from the run. Definitions only.
use Rattle.std.specs.Prelude.{ℕ, Bool, cond, ◌==◌, Some, None, Ok, Err}
use Rattle.refusals.specs.declared.Refusal.{Refusal}
use Rattle.script_steps.specs.Replies.{Reply}
use Rattle.listing.specs.declared.lines.Line.{Line}
use Rattle.listing.specs.declared.lines.Line.TheVariants as L
use Rattle.listing.specs.declared.turns.Said.{Said}

abbrev pub says_of : Line → ℕ → Said
says_of line k = record { line = line; taken = k }

abbrev pub refusal_said : Bool → ℕ → ℕ → ℕ → Refusal → Said
refusal_said first n at k r = cond first (says_of (L.Bad n r at) 0) (says_of (L.Refused n r) k)

unfoldable pub said_of : ℕ → ℕ → ℕ → Reply → Said
said_of n at k (Ok None) = says_of L.Nothing k
said_of n at k (Err r) = refusal_said (n == 1) n at k r
said_of n at k (Ok (Some v)) = says_of (L.Frame n v) k
