-- What the loop of `fill` keeps.
use lib.ListN.{length, get_or}
use lib.Ieee.{nan}
use Rattle.sequences.specs.Table.{Filled}
use Rattle.mask_records.specs.Entries.{entry_attenuation, entry_for}
use Prim.Native.Nat.{ℕ}
use Rattle.mask_records.proofs.entry.fill.Given as goal

abbrev pub invariant-loop-i : goal.invariant-loop-i
invariant-loop-i l = Filled (λ (j : ℕ). entry_for (entry_attenuation l.level (get_or l.opened j nan))) (length l.opened) l.i l.out
