-- `Particle::default` meets its contract by computation.
use mathlib.Core.Path.{refl}
use Rattle.pool.specs.Pool.{free_particle}
use Rattle.pool.proofs.ParticleDefault.default.Goals as goal

pub returns : goal.returns
unfolding free_particle
returns c = refl
