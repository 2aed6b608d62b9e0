-- What the loop of `put_particles` keeps.
use Prim.Native.Nat.{◌-◌}
use lib.ListN.{get_or}
use Rattle.pool.specs.Pool.{free_particle}
use Rattle.oracle_replay.specs.Numbers.{particle_of}
use Rattle.oracle_replay.specs.State.{words_bytes}
use Rattle.text.proofs.Joined.{Pieces}
use Rattle.oracle_replay.proofs.written.put_particles.Given as goal

abbrev pub invariant-loop-particle : goal.invariant-loop-particle
invariant-loop-particle l = Pieces (λ k. words_bytes (particle_of (get_or l.particle-items k free_particle))) 64 l.initial.out l.initial.at l.out l.particle-index l.at
