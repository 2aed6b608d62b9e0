-- `bad_place` meets its contract: the one refusal, and all others.
use Rattle.std.proofs.Common.{◌≡◌, ◌==◌, false, refl}
use Rattle.sequences.specs.Pick.{took, skipped}
use Rattle.refusals.specs.declared.Refusal.{Refusal}
use Rattle.refusals.specs.declared.Refusal.TheVariants.{Rate, Slot, Size, Elapsed, Lengths, Logs, Seconds, Tag, Value, Place, Script, Room, HeaderCut, WrongLength, ValueCut, Attenuation, Record}
use Rattle.refusals.specs.Numbers.{number_of}
use Rattle.listing.specs.Turns.{bad_place}
use Rattle.listing.proofs.turns.bad_place.Goals as goal

-- no other refusal has its number
other_number : (r : Refusal) → (r ≡ HeaderCut → ⊥) → (number_of r == number_of HeaderCut) ≡ false
other_number Rate h = refl
other_number Slot h = refl
other_number Size h = refl
other_number Elapsed h = refl
other_number Lengths h = refl
other_number Logs h = refl
other_number Seconds h = refl
other_number Tag h = refl
other_number Value h = refl
other_number Place h = refl
other_number Script h = refl
other_number Room h = refl
other_number HeaderCut h = absurd (h refl)
other_number WrongLength h = refl
other_number ValueCut h = refl
other_number Attenuation h = refl
other_number Record h = refl

pub returns-in-HeaderCut : goal.returns-in-HeaderCut
unfolding bad_place
returns-in-HeaderCut c = rw c.in-HeaderCut.is (took _ _ _ _ refl refl)

pub returns-in_default : goal.returns-in_default
unfolding bad_place
returns-in_default c = skipped _ _ _ _ (other_number c.args.refusal c.in_default.not-HeaderCut) refl
