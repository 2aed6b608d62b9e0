-- What the loop of `put_windows` keeps.
use Prim.Native.Nat.{◌-◌}
use lib.ListN.{get_or}
use Rattle.text.proofs.Joined.{Pieces}
use Rattle.windows.specs.Opening.{empty_window}
use Rattle.entry.specs.Entry.{window_bytes}
use Rattle.entry.proofs.put_windows.Given as goal

abbrev pub invariant-loop-w : goal.invariant-loop-w
invariant-loop-w l = Pieces (λ k. window_bytes (get_or l.w-items k empty_window)) 192 l.initial.out l.initial.at l.out l.w-index l.at
