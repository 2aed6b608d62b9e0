-- The numbers of the refusals, 01's and behind them 02's, and of an answer. Definitions only.
use Rattle.std.specs.Prelude.{ℕ, Result, Ok, Err}
use Rattle.refusals.specs.declared.Refusal.{Refusal}
use Rattle.refusals.specs.declared.Refusal.TheVariants.{Rate, Slot, Size, Elapsed, Lengths, Logs, Seconds, Tag, Value, Place, Script, Room, HeaderCut, WrongLength, ValueCut, Attenuation, Record}

abbrev pub number_of : Refusal → ℕ
-- the rate is not finite, or outside 8,000 to 384,000
number_of Rate = 1
-- slot 256 or above
number_of Slot = 2
-- a hop or an FFT size outside the limits
number_of Size = 3
-- elapsed samples above 2^40
number_of Elapsed = 4
-- lent lengths differ
number_of Lengths = 5
-- a log is not finite, or less than the one before it
number_of Logs = 6
-- a frame's elapsed seconds are negative or not finite
number_of Seconds = 7
-- script: an unknown tag
number_of Tag = 8
-- script: a flag, a shape or a direction out of range
number_of Value = 10
-- script: the rate is not first, or comes twice
number_of Place = 11
-- a script above 60,000 bytes
number_of Script = 12
-- 02, order 2: the lent buffer has too few free bytes
number_of Room = 13
-- 02, order 3: script: the header is cut
number_of HeaderCut = 14
-- 02, order 3: script: the length is not the tag's
number_of WrongLength = 15
-- 02, order 3: script: the value is cut
number_of ValueCut = 16
-- 02, order 5: the attenuation at some bin is a NaN
number_of Attenuation = 18
-- 02, order 5: a bin count outside 1 to 8,193, or bytes that are no record of a mask file
number_of Record = 19

-- what a call answers that gives nothing back
abbrev pub Answer : Type 0
Answer = Result Unit Refusal

-- 0 unless it refuses
abbrev pub answer_of : {A : Type 0} → Result A Refusal → ℕ
answer_of (Ok _) = 0
answer_of (Err r) = number_of r
