-- The triggers, line by line as the Rust has them, with the answers that 01 adds. Definitions only.
use Rattle.std.specs.Prelude.{ℕ, ◌^◌, Bool, false, ◌==◌, bit_xor, nat_lt, slice_index_or, Some, Result, Ok, Err}
use Rattle.floats.specs.Word.{grown}
use Rattle.sequences.specs.Pick.{pick}
use Rattle.refusals.specs.declared.Refusal.TheVariants.{Slot}
use Rattle.refusals.specs.Numbers.{number_of}
use Rattle.settings.specs.Settings.{is_sprinkle}
use Rattle.sources.specs.Sources.{is_eligible, max_sources}
use Rattle.state.specs.declared.Engine.{Engine}
use Rattle.state.specs.declared.Next.{Next}
use Rattle.refusals.specs.declared.Refusal.{Refusal}
use Rattle.engine_triggers.specs.declared.Outcome.{Outcome}
use Rattle.engine_triggers.specs.declared.Outcome.TheVariants.{Born, NotEligible, Dropped}
use Rattle.engine_triggers.specs.declared.Reserved.{Reserved}
use Rattle.engine_triggers.specs.declared.Triggered.{Triggered}
use Rattle.state.specs.State.{with_next, past_source}
use Rattle.births.specs.Birth.{born_of}

-- what a trigger answers
abbrev pub Fired : Type 0
Fired = Result Outcome Refusal

-- 01's number of an outcome: 0 unless it is a refusal
abbrev pub outcome_number : Fired → ℕ
outcome_number (Ok Born) = 0
outcome_number (Ok NotEligible) = 0
outcome_number (Ok Dropped) = 0
outcome_number (Err r) = number_of r

abbrev pub triggered_with : Fired → Engine → Triggered
triggered_with o e = record { outcome = o; engine = e }

-- self.immediate_index = self.immediate_index.wrapping_add(1)
abbrev pub with_index : Next → ℕ → Next
with_index n x =
    record {
      opportunity = n.opportunity;
      immediate_index = x;
      last_source = n.last_source;
      note_input_present = n.note_input_present;
    }

unfoldable pub reserved_of : Engine → Reserved
reserved_of e = record { index = e.next.immediate_index; engine = with_next e (with_index e.next (grown e.next.immediate_index)) }

-- self.config.enabled && self.config.shape == Shape::Sprinkle && self.sources[slot].eligible()
unfoldable pub is_permitted : Engine → ℕ → Bool
is_permitted e slot =
    pick e.config.enabled (pick (is_sprinkle e.config.shape) (is_eligible (slice_index_or e.sources slot past_source)) false) false

-- dropped where `dropped` grew
abbrev pub outcome_of : Engine → Engine → Triggered
outcome_of e out = pick (out.tally.dropped == e.tally.dropped) (triggered_with (Ok Born) out) (triggered_with (Ok Dropped) out)

-- self.birth(index ^ (1 << 63), Some(slot))
unfoldable pub triggered_by : Engine → ℕ → ℕ → Triggered
triggered_by e slot index =
    pick (nat_lt slot max_sources)
    (pick (is_permitted e slot) (outcome_of e (born_of e (bit_xor index (2 ^ 63)) (Some slot))) (triggered_with (Ok NotEligible) e))
    (triggered_with (Err Slot) e)

-- let index = self.reserve_trigger(); self.trigger_reserved(slot, index);
unfoldable pub triggered_of : Engine → ℕ → Triggered
triggered_of e slot = triggered_by (reserved_of e).engine slot (reserved_of e).index
