-- `put_particles` meets its contract: piece by piece.
use mathlib.Core.Path.{ap, ◌∙◌}
use Rattle.pool.specs.Pool.{free_particle}
use Rattle.sequences.specs.Default.{get_d_any}
use Rattle.oracle_replay.specs.Numbers.{particle_of}
use Rattle.oracle_replay.specs.State.{words_bytes, particles_bytes}
use Rattle.text.proofs.Joined.{none_yet, one_more, all_there}
use borrow.Author.Rules.{rules}
use Rattle.oracle_replay.proofs.written.put_particles.Goals as goal

pub loop-particle-init : goal.loop-particle-init
loop-particle-init c = none_yet _ _ _ _

pub loop-particle-preserved : goal.loop-particle-preserved
loop-particle-preserved c =
    let l = c.loop-particle in
    let a = c.args in
    let here = get_d_any a.particles l.particle-index _ free_particle (search rules) in
    one_more l.invariant (search rules) (ap words_bytes (c.particle-words.ensures ∙ ap particle_of here)) c.put_words-at.ensures

pub shape_of-out : goal.shape_of-out
shape_of-out c = c.loop-particle.invariant.same

pub returns : goal.returns
unfolding particles_bytes
returns c = all_there c.loop-particle.invariant (search rules)
