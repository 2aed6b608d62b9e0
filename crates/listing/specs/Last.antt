-- The last turn of a script. Definitions only.
use Rattle.std.specs.Prelude.{ℕ, List, [], ◌∷◌}
use Rattle.script_steps.specs.Steps.{fresh}
use Rattle.listing.specs.declared.turns.Turn.{Turn}
use Rattle.listing.specs.Turns.{turn_of, turns_of}

-- the last of the turns, t where there is none
unfoldable pub last_of : Turn → List Turn → Turn
last_of t [] = t
last_of t (u ∷ us) = last_of u us

-- a script has one turn at least
unfoldable pub last_turn_of : List ℕ → Turn
last_turn_of s = last_of (turn_of fresh 1 0 s) (turns_of s)
