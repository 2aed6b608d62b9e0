-- What a birth stores, worked out from the parts of the engine that it reads. Definitions only.
use Rattle.std.specs.Prelude.{ℕ, List, ◌==◌, nat_lt, slice_set, Option, Some, None}
use Rattle.sequences.specs.Pick.{pick}
use Rattle.pool.specs.Pool.{free_particle}
use Rattle.pool.specs.declared.Particle.{Particle}
use Rattle.state.specs.declared.Engine.{Engine}
use Rattle.state.specs.declared.Tally.{Tally}
use Rattle.state.specs.State.{with_next, with_particles, with_tally}
use Rattle.state.specs.Tallies.{dropped_one, born_one}
use Rattle.pool.specs.Vacancies.{free_place}
use Rattle.births.specs.declared.arrivals.Arrival.{Arrival}
use Rattle.births.specs.Birth.{chosen_for, with_last, tried_one, newborn_for, is_barred}

-- ---- what is stored
abbrev pub turned_away : Option ℕ → Tally → Arrival
turned_away slot tally = record { particle = free_particle; tally = tally; slot = slot; place = None }

abbrev pub settled_with : Engine → Tally → ℕ → Option ℕ → Particle → Arrival
settled_with e tried index slot p = record { particle = p; tally = born_one tried index e.clock.sample p; slot = slot; place = Some (free_place e.particles) }

-- the lowest free place; where there is none, the birth is dropped
abbrev pub admitted_as : Engine → Tally → ℕ → Option ℕ → Arrival
admitted_as e tried index slot = pick (nat_lt (free_place e.particles) 64) (settled_with e tried index slot (newborn_for e index slot)) (turned_away slot (dropped_one tried))

abbrev pub attempted_as : Engine → ℕ → Option ℕ → Arrival
attempted_as e index slot =
    let tried = tried_one e.tally in
    pick (e.tally.attempts == 64) (turned_away slot (dropped_one e.tally))
    (pick (is_barred slot e.next.note_input_present) (turned_away slot tried) (admitted_as e tried index slot))

unfoldable pub arrival_of : Engine → ℕ → Option ℕ → Arrival
arrival_of e index own = attempted_as e index (chosen_for e index own)

-- the engine with it
abbrev pub placed_in : List Particle → Option ℕ → Particle → List Particle
placed_in ps None p = ps
placed_in ps (Some place) p = slice_set ps place p

unfoldable pub with_arrival : Engine → Arrival → Engine
with_arrival e a = with_tally (with_particles (with_next e (with_last e.next a.slot)) (placed_in e.particles a.place a.particle)) a.tally
