-- What a trigger answers, as demand 1 has it: the tests one after the other, and where the new particle stands. Definitions only.
use Rattle.std.specs.Prelude.{ℕ, ◌<◌, ◌≡◌, Bool, not, ◌||◌, eqb, length, Ok, Err, Some}
use Rattle.sequences.specs.All.{all}
use Rattle.sequences.specs.Pick.{pick}
use Rattle.refusals.specs.declared.Refusal.TheVariants.{Slot}
use Rattle.state.specs.declared.Engine.{Engine}
use Rattle.engine_triggers.specs.Triggers.{Fired, is_permitted}
use Rattle.engine_triggers.specs.declared.Outcome.TheVariants.{Born, NotEligible, Dropped}
use Rattle.promises.specs.Life.{place, Held, newborn}
use Rattle.promises.specs.Demand3.{Lowest}
use Rattle.promises.specs.Tests.{bad_slot}

-- the engine's places are an array of 64
abbrev pub Places : Engine → Type 0
Places e = length e.particles ≡ 64

-- a particle stands in every place
abbrev pub full : Engine → Bool
full e = all (λ i. (place e i).active) 64

-- Refused: slot 256 or above. Not eligible: disabled, not Sprinkle, or the slot's source is not eligible. Dropped: 64 attempts used, or no place free. Born: none of these.
abbrev pub answered : Engine → ℕ → Fired
answered e slot =
    pick (bad_slot slot) (Err Slot)
    (pick (not (is_permitted e slot)) (Ok NotEligible)
    (pick (eqb e.tally.attempts 64 || full e) (Ok Dropped) (Ok Born)))

-- the new particle stands in the lowest place that was free
pub record Settled (e : Engine) (index slot : ℕ) (after : Engine) : Type 0 where
  pub at : ℕ
  pub inside : at < 64
  pub free : Lowest e at
  pub stands : place after at ≡ newborn e index (Some slot)
  pub held : Held after at
