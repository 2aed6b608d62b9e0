-- Flags compared as the code does are compared as the definition says.
use mathlib.Core.Path.{◌≡◌, refl}
use mathlib.Core.Bool.{Bool, true, false, beq}
use Rattle.sequences.specs.Pick.{pick}
use Rattle.sources.specs.Sources.{same_flag}

pub flags : (a b : Bool) → same_flag a b ≡ beq a b
unfolding pick
flags true true = refl
flags true false = refl
flags false true = refl
flags false false = refl
