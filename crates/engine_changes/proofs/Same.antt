-- Shapes and flags compared as the code does are compared as the definitions say.
use Rattle.std.proofs.Common.{◌≡◌, Bool, true, false, not, ◌&&◌, ◌||◌, refl}
use mathlib.Core.Bool.{beq}
use denote.Enum.Bare.{sameb}
use Rattle.settings.specs.contracts.Shape.{the_type}
use Rattle.settings.specs.declared.Shape.{Shape}
use Rattle.settings.specs.declared.Shape.TheVariants.{Sprinkle, Cloud}
use Rattle.settings.specs.Settings.{is_sprinkle}
use Rattle.sequences.specs.Pick.{pick}
use Rattle.sources.specs.Sources.{same_flag}
use Rattle.engine_changes.specs.Changes.{same_shape}

pub kinds : (a b : Shape) (u v : Bool) → (sameb the_type a b && beq u v) ≡ pick (same_shape a b) (same_flag u v) false
unfolding pick
kinds Sprinkle Sprinkle true true = refl
kinds Sprinkle Sprinkle true false = refl
kinds Sprinkle Sprinkle false true = refl
kinds Sprinkle Sprinkle false false = refl
kinds Sprinkle Cloud u v = refl
kinds Cloud Sprinkle u v = refl
kinds Cloud Cloud true true = refl
kinds Cloud Cloud true false = refl
kinds Cloud Cloud false true = refl
kinds Cloud Cloud false false = refl

pub entered : (old new : Shape) (was on : Bool) → (sameb the_type new Sprinkle && (not (sameb the_type old new) || (not was && on))) ≡ pick (is_sprinkle new) (pick (is_sprinkle old) (pick was false on) true) false
unfolding pick
entered Sprinkle Sprinkle true on = refl
entered Sprinkle Sprinkle false on = refl
entered Cloud Sprinkle was on = refl
entered old Cloud was on = refl
