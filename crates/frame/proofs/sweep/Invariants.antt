-- What the loop of `sweep` keeps.
use Rattle.std.proofs.Common.{◌≤◌}
use Rattle.sequences.specs.Walk.{Walked, counting}
use Rattle.pool.specs.Pool.{free_particle}
use Rattle.frame.specs.Freed.{is_freed, sweep_one}
use Rattle.frame.specs.Shown.{shown_of}
use Rattle.frame.proofs.Pass.{Pass}
use Rattle.frame.proofs.sweep.Given as goal

abbrev pub invariant-loop-i : goal.invariant-loop-i
invariant-loop-i l =
    Pass (sweep_one l.sample l.rate) (shown_of l.sample l.rate) free_particle 64 l.initial.particles l.i l.particles l.shown
    × Walked (counting (is_freed l.sample l.rate)) 64 l.initial.particles 0 l.i l.freed
    × (l.freed ≤ l.i)
