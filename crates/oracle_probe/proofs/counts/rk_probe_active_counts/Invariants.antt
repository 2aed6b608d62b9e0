-- What the loop of `rk_probe_active_counts` keeps.
use Rattle.std.proofs.Common.{◌≡◌, ◌≤◌}
use Rattle.sequences.specs.Times.{iterate}
use Rattle.oracle_probe.specs.Counts.{sounding, fired, asked_of}
use Rattle.oracle_probe.proofs.counts.rk_probe_active_counts.Given as goal

abbrev pub invariant-loop : goal.invariant-loop
invariant-loop l =
    (l.engine ≡ iterate fired l.counter sounding) × (l.sum ≡ asked_of l.asked l.counter) × (l.counter ≤ l.events)
