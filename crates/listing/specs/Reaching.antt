-- Turns one after the other, as far as is asked for. Definitions only.
use Rattle.std.specs.Prelude.{ℕ, zero, suc, ◌+◌, min, Bool, true, false, List, length, ◌==◌}
use Rattle.sequences.specs.Pick.{pick}
use Rattle.floats.specs.Word.{grown}
use Rattle.script_steps.specs.declared.Run.{Run}
use Rattle.listing.specs.declared.lines.Line.{Line}
use Rattle.listing.specs.declared.lines.Line.TheVariants as L
use Rattle.listing.specs.declared.turns.Reached.{Reached}
use Rattle.listing.specs.declared.turns.Turn.{Turn}
use Rattle.listing.specs.declared.turns.Until.{Until}
use Rattle.listing.specs.declared.turns.Until.TheVariants as U
use Rattle.listing.specs.Turns.{turn_of}

abbrev pub is_silent : Line → Bool
is_silent L.Nothing = true
is_silent (L.Frame n v) = false
is_silent (L.Refused n r) = false
is_silent (L.Bad n r p) = false
is_silent (L.End n) = false

abbrev pub is_frameless : Line → Bool
is_frameless L.Nothing = true
is_frameless (L.Frame n v) = false
is_frameless (L.Refused n r) = true
is_frameless (L.Bad n r p) = true
is_frameless (L.End n) = true

abbrev pub passes_by : Until → Line → Bool
passes_by U.Field line = false
passes_by U.Line line = is_silent line
passes_by U.Frame line = is_frameless line
passes_by U.End line = true

-- after a field that takes no byte nothing follows
unfoldable pub goes_on_of : Until → Line → ℕ → Bool
goes_on_of u line taken = pick (taken == 0) false (passes_by u line)

abbrev pub reached_at : Turn → ℕ → ℕ → Reached
reached_at t n at = record { turn = t; n = n; at = at }

-- from field n on, which stands at `at`, after at most f turns more
unfoldable pub reached_from : Until → ℕ → Run → ℕ → ℕ → List ℕ → Reached
reached_from u zero run n at s = reached_at (turn_of run n at s) n at
reached_from u (suc f) run n at s =
    let t = turn_of run n at s in
    pick (goes_on_of u t.line t.taken) (reached_from u f t.run (grown n) (at + t.taken) s) (reached_at t n at)

-- a place behind the script's end, where nothing is left of it, is its end
abbrev pub inside_of : ℕ → List ℕ → ℕ
inside_of at s = min at (length s)

-- a field takes a byte at least, so that there are no more turns than bytes
abbrev pub reached_of : Until → Run → ℕ → ℕ → List ℕ → Reached
reached_of u run n at s = reached_from u (length s) run n at s
