-- Refusal 6: which logarithms a mask takes. Definitions only.
use Rattle.std.specs.Prelude.{ℕ, ◌-◌, Bool, not, ◌&&◌, ◌||◌, List, ltb, length, get_or, Float}
use Rattle.std.specs.Float.{nan}
use Rattle.std.specs.Float.Ieee.{lt}
use Rattle.std.specs.Float.Ieee.Scale.{finite}
use Rattle.sequences.specs.All.{all}

-- what refusal 6 lets pass: a log at bin 1 or above is finite, and from bin 2 on not less than the one before it
unfoldable pub lawful_at : List Float → ℕ → Bool
lawful_at logs i = (ltb i 1 || finite (get_or logs i nan)) && (ltb i 2 || not (lt (get_or logs i nan) (get_or logs (i - 1) nan)))

unfoldable pub lawful_logs : List Float → Bool
lawful_logs logs = all (lawful_at logs) (length logs)
