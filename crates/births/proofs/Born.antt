-- What a birth stores, by the four ways that it can go; and the engine with it is the engine after the birth.
use Rattle.std.proofs.Common.{◌≡◌, ℕ, Option, Some, None, true, false, eqb, ltb, set, sym, refl, ap, ◌∙◌}
use Rattle.sequences.specs.Pick.{pick, picked, passed, took, skipped, by-case}
use Rattle.births.specs.declared.voices.Voice.{Voice}
use Rattle.births.specs.Births.{newborn_of}
use Rattle.pool.specs.declared.Particle.{Particle}
use Rattle.pool.specs.Vacancies.{free_place}
use Rattle.state.specs.declared.Engine.{Engine}
use Rattle.state.specs.declared.Tally.{Tally}
use Rattle.state.specs.State.{with_next, with_particles, with_tally}
use Rattle.state.specs.Tallies.{dropped_one, born_one}
use Rattle.births.specs.declared.arrivals.Arrival.{Arrival}
use Rattle.births.specs.Birth.{chosen_by, voice_by, chosen_for, with_last, tried_one, voice_for, newborn_for, admitted_of, is_barred, attempted_of, born_of}
use Rattle.births.specs.Arrival.{turned_away, placed_in, settled_with, admitted_as, attempted_as, arrival_of, with_arrival}

module _ (e : Engine) (index : ℕ) (own slot : Option ℕ) (chosen : slot ≡ chosen_by e.sources e.next.last_source index own) where
  whole : (r : Arrival) → r ≡ attempted_as e index slot → r ≡ arrival_of e index own
  unfolding arrival_of chosen_for
  whole r p = p ∙ ap (attempted_as e index) chosen

  -- no attempt is left
  pub spent : (t : Tally) → t ≡ dropped_one e.tally → eqb e.tally.attempts 64 ≡ true → turned_away slot t ≡ arrival_of e index own
  spent t p h = whole (turned_away slot t) (took _ _ _ _ h (ap (turned_away slot) p))

  module _ (tried : Tally) (once : tried ≡ tried_one e.tally) (left : eqb e.tally.attempts 64 ≡ false) where
    -- notes are held
    pub turned : is_barred slot e.next.note_input_present ≡ true → turned_away slot tried ≡ arrival_of e index own
    turned h = whole (turned_away slot tried) (skipped _ _ _ _ left (took _ _ _ _ h (ap (turned_away slot) once)))

    module _ (free : is_barred slot e.next.note_input_present ≡ false) where
      admitted : (r : Arrival) → r ≡ admitted_as e tried index slot → r ≡ arrival_of e index own
      admitted r p = whole r (skipped _ _ _ _ left (skipped _ _ _ _ free (p ∙ ap (λ (t : Tally). admitted_as e t index slot) once)))

      -- every place is held
      pub crowded : (t : Tally) → t ≡ dropped_one tried → ltb (free_place e.particles) 64 ≡ false → turned_away slot t ≡ arrival_of e index own
      crowded t p h = admitted (turned_away slot t) (skipped _ _ _ _ h (ap (turned_away slot) p))

      -- it takes the lowest free place
      pub settled : (place : ℕ) (v : Voice) (p : Particle) (t : Tally) → place ≡ free_place e.particles → ltb (free_place e.particles) 64 ≡ true
          → v ≡ voice_by e.sources e.config.shape e.clock.phase e.prepared.sample_rate index slot
          → p ≡ newborn_of index v e.config e.prepared.sample_rate e.clock.sample e.partial_weights
          → t ≡ born_one tried index e.clock.sample p
          → record { particle = p; tally = t; slot = slot; place = Some place } ≡ arrival_of e index own
      unfolding newborn_for voice_for
      settled place v p t at h voiced made told =
          let young : p ≡ newborn_for e index slot = made ∙ ap (λ (w : Voice). newborn_of index w e.config e.prepared.sample_rate e.clock.sample e.partial_weights) voiced in
          let arrival : Arrival = record { particle = p; tally = t; slot = slot; place = Some place } in
          admitted arrival
          (took _ _ _ _ h
          (ap (λ (u : Tally). record { particle = p; tally = u; slot = slot; place = Some place }) told
          ∙ ap (λ (k : ℕ). record { particle = p; tally = born_one tried index e.clock.sample p; slot = slot; place = Some k }) at
          ∙ ap (settled_with e tried index slot) young))

-- ---- the engine with what is stored
module _ (e : Engine) (index : ℕ) where
  abbrev chose : Option ℕ → Engine
  chose slot = with_next e (with_last e.next slot)

  turned_stored : (slot : Option ℕ) (t : Tally) → with_arrival e (turned_away slot t) ≡ with_tally (chose slot) t
  unfolding with_arrival pick
  turned_stored slot t = refl

  settled_stored : (slot : Option ℕ) (t : Tally) (p : Particle)
      → with_arrival e (settled_with e t index slot p) ≡ with_tally (with_particles (chose slot) (set e.particles (free_place e.particles) p)) (born_one t index e.clock.sample p)
  unfolding with_arrival
  settled_stored slot t p = refl

  admitted_stored : (slot : Option ℕ) (t : Tally) → with_arrival e (admitted_as e t index slot) ≡ admitted_of (with_tally (chose slot) t) index slot
  unfolding admitted_of newborn_for voice_for
  admitted_stored slot t =
      by-case (ltb (free_place e.particles) 64)
      (λ h. ap (with_arrival e) (sym (picked _ _ _ h)) ∙ took _ _ _ _ h (settled_stored slot t (newborn_for e index slot)))
      (λ h. ap (with_arrival e) (sym (passed _ _ _ h)) ∙ skipped _ _ _ _ h (turned_stored slot (dropped_one t)))

  attempted_stored : (slot : Option ℕ) → with_arrival e (attempted_as e index slot) ≡ attempted_of (chose slot) index slot
  unfolding attempted_of
  attempted_stored slot =
      by-case (eqb e.tally.attempts 64)
      (λ h. ap (with_arrival e) (sym (picked _ _ _ h)) ∙ took _ _ _ _ h (turned_stored slot (dropped_one e.tally)))
      (λ h.
      ap (with_arrival e) (sym (passed _ _ _ h))
      ∙ skipped _ _ _ _ h
      (by-case (is_barred slot e.next.note_input_present)
      (λ b. ap (with_arrival e) (sym (picked _ _ _ b)) ∙ took _ _ _ _ b (turned_stored slot (tried_one e.tally)))
      (λ b. ap (with_arrival e) (sym (passed _ _ _ b)) ∙ skipped _ _ _ _ b (admitted_stored slot (tried_one e.tally)))))

  -- the engine with what the birth stores is the engine after the birth
  pub arrival_stored : (own : Option ℕ) → with_arrival e (arrival_of e index own) ≡ born_of e index own
  unfolding arrival_of born_of
  arrival_stored own = attempted_stored (chosen_for e index own)

-- ---- stored piece by piece
module _ (e : Engine) (a : Arrival) (born : Engine) (is : with_arrival e a ≡ born) where
  abbrev chosen : Engine
  chosen = with_next e (with_last e.next a.slot)

  -- with its particle at its place
  pub stored_placed : (i : ℕ) → a.place ≡ Some i → with_tally (with_particles chosen (set e.particles i a.particle)) a.tally ≡ born
  unfolding with_arrival
  stored_placed i h = ap (λ (k : Option ℕ). with_tally (with_particles chosen (placed_in e.particles k a.particle)) a.tally) (sym h) ∙ is

  -- with no place
  pub stored_away : a.place ≡ None → with_tally chosen a.tally ≡ born
  unfolding with_arrival
  stored_away h = ap (λ (k : Option ℕ). with_tally (with_particles chosen (placed_in e.particles k a.particle)) a.tally) (sym h) ∙ is

-- a birth by its answer
pub born-by : (e : Engine) (index : ℕ) (own : Option ℕ) (a : Arrival) → a ≡ arrival_of e index own → with_arrival e a ≡ born_of e index own
born-by e index own a p = ap (with_arrival e) p ∙ arrival_stored e index own
