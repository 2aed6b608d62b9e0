-- The number of an answer fits in 32 bits.
use Rattle.std.specs.Prelude.{Ok, Err}
use Prim.Native.Nat.{◌^◌, ◌<◌}
use lib.Dec.{lit<}
use Rattle.refusals.specs.Numbers.{Answer, number_of, answer_of}
use Rattle.refusals.specs.declared.Refusal.{Refusal}
use Rattle.refusals.specs.declared.Refusal.TheVariants.{Rate, Slot, Size, Elapsed, Lengths, Logs, Seconds, Tag, Value, Place, Script, Room, HeaderCut, WrongLength, ValueCut, Attenuation, Record}

pub number_small : (r : Refusal) → number_of r < 2 ^ 32
number_small Rate = lit< tt
number_small Slot = lit< tt
number_small Size = lit< tt
number_small Elapsed = lit< tt
number_small Lengths = lit< tt
number_small Logs = lit< tt
number_small Seconds = lit< tt
number_small Tag = lit< tt
number_small Value = lit< tt
number_small Place = lit< tt
number_small Script = lit< tt
number_small Room = lit< tt
number_small HeaderCut = lit< tt
number_small WrongLength = lit< tt
number_small ValueCut = lit< tt
number_small Attenuation = lit< tt
number_small Record = lit< tt

pub answer_small : (a : Answer) → answer_of a < 2 ^ 32
answer_small (Ok tt) = lit< tt
answer_small (Err r) = number_small r
