-- What writing a field answers. What it leaves in the buffer is `buffer_of` (`text`, Put.antt). Definitions only.
use Rattle.std.specs.Prelude.{ℕ, ◌+◌, cond, List, length, leb, Ok, Err}
use Rattle.refusals.specs.Numbers.{Answer}
use Rattle.refusals.specs.declared.Refusal.TheVariants.{Room}

-- the count after the field; 13 with the count so far where the free bytes are fewer than it needs
unfoldable pub written_of : ℕ → ℕ → List ℕ → ℕ × Answer
written_of has at w = cond (leb (at + length w) has) (at + length w, Ok tt) (at, Err Room)
