-- What a call answers, and what it leaves in the lent buffer. Definitions only.
use Rattle.std.specs.Prelude.{ℕ, ◌+◌, ◌*◌, cond, List, length, nat_le, nat_lt, Result, Ok, Err}
use Rattle.text.specs.Put.{splice}
use Rattle.refusals.specs.declared.Refusal.{Refusal}
use Rattle.refusals.specs.declared.Refusal.TheVariants.{Room}
use Rattle.listing.specs.Printed.{printed}

-- the longest listing of n bytes of script: a field takes three bytes or more, its line has at most 204, and one line more may end the script; a script that is too long has one line
abbrev pub room_for : ℕ → ℕ
room_for n = cond (nat_le n 60000) (68 * n + 204) 204

-- the count of bytes listed, or why there are none
abbrev pub Listed : Type 0
Listed = Result ℕ Refusal

-- 13 where the buffer is shorter than that
abbrev pub listed_of : ℕ → List ℕ → Listed
listed_of has s = cond (nat_lt has (room_for (length s))) (Err Room) (Ok (length (printed s)))

abbrev pub left_in : List ℕ → List ℕ → List ℕ
left_in o s = cond (nat_lt (length o) (room_for (length s))) o (splice o 0 (printed s))
