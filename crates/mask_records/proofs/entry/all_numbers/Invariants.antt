-- What the loop of `all_numbers` keeps.
use lib.ListN.{length, get_or}
use lib.Ieee.{nan}
use Rattle.sequences.specs.All.{all}
use Rattle.mask_records.specs.Entries.{entry_attenuation, is_number}
use Prim.Native.Nat.{ℕ, ◌≤◌}
use mathlib.Core.Path.{◌≡◌}
use Rattle.mask_records.proofs.entry.all_numbers.Given as goal

abbrev pub invariant-loop-openness : goal.invariant-loop-openness
invariant-loop-openness l = (l.ok ≡ all (λ (j : ℕ). is_number (entry_attenuation l.level (get_or l.opened j nan))) l.openness-index) × (l.openness-index ≤ length l.opened)
