-- The engine's number is the count over the places: in a new engine and a reset one, and after each act of a call, between two births of one sample too.
use Prim.Native.Nat.{ℕ, ◌+◌, ◌≤◌, ◌<◌}
use native.Mathlib.Omega.{arith}
use mathlib.Core.Path.{◌≡◌, refl, sym, ap, ◌∙◌, subst}
use mathlib.Core.Bool.{true}
use Rattle.std.specs.Prelude.{Option}
use mathlib.Core.List.{List, [], ◌∷◌, map}
use borrow.Author.Tests.{ltb-true}
use lib.Dec.{ltb}
use lib.ListN.{length, set, length-map, length-set}
use lib.Ieee.{Float}
use Rattle.sequences.specs.Counts.{count_set, count_kept, count-split}
use Rattle.sequences.specs.Every.{in_case}
use Rattle.sequences.specs.Pick.{pick, either}
use Rattle.sequences.specs.Walk.{walk, count_most}
use Rattle.floats.specs.Word.{difference, grown}
use Rattle.pool.specs.declared.Particle.{Particle}
use Rattle.pool.specs.Pool.{free_particle, retired_of, retire_one, retire_bound_one, retuned_of, retune_one}
use Rattle.pool.specs.Vacancies.{is_held, active_count, free_place}
use Rattle.pool.proofs.Lowest.{lowest-free}
use Rattle.births.specs.Births.{newborn_of}
use Rattle.state.specs.declared.Done.{Done}
use Rattle.state.specs.declared.Engine.{Engine}
use Rattle.state.specs.declared.Prepared.{Prepared}
use Rattle.state.specs.State.{with_particles}
use Rattle.state.specs.Make.{no_particles, new_on}
use Rattle.state.specs.Tallies.{born_one}
use Rattle.births.specs.Birth.{newborn_for, admitted_of, attempted_of, born_of}
use Rattle.engine.specs.New.{new_engine_of, reset_of}
use Rattle.engine_changes.specs.Changes.{retired_all}
use Rattle.frame.specs.Freed.{is_freed, sweep_one}
use Rattle.frame.proofs.Swept.{held_or_freed}
use Rattle.frame.specs.Call.{held_of, freed_of, renewed_of}
use Rattle.engine_laws.specs.Acts.{Act, birth, retire, retire_bound, retune, frame, source, streams, next, clock, weights, settings, act, perform, Call, acts_of, applied}
use Rattle.engine_laws.proofs.Performed.{calls_are_acts}

pub record Numbered (e : Engine) : Type 0 where
  pub places : length e.particles ≡ 64
  pub number : e.tally.held ≡ active_count e.particles

-- an engine with the same places and number
same : (e x : Engine) → x.particles ≡ e.particles → x.tally.held ≡ e.tally.held → Numbered e → Numbered x
same e x q n w = record { places = ap length q ∙ w.places; number = n ∙ w.number ∙ sym (ap active_count q) }

-- ---- where a run begins
numbered-made : (p : Prepared) → Numbered (new_on p)
unfolding new_on no_particles free_particle walk pick
numbered-made p = record { places = refl; number = refl }

pub numbered-new : (rate : Float) → Numbered (new_engine_of rate).engine
unfolding new_engine_of
numbered-new rate = either (λ (d : Done). Numbered d.engine) _ _ _ (numbered-made _) (numbered-made _)

pub numbered-reset : (e : Engine) → Numbered (reset_of e)
unfolding reset_of
numbered-reset e = numbered-made e.prepared

-- ---- a birth: only one that takes a place is counted
one_more : (held count : ℕ) → held ≡ count → count ≤ 64 → grown held ≡ count + 1
one_more held count q h = omega arith

newborn_active : (e : Engine) (index : ℕ) (slot : Option ℕ) → (newborn_for e index slot).active ≡ true
unfolding newborn_for newborn_of
newborn_active e index slot = refl

module _ (e : Engine) (w : Numbered e) (p : Particle) (active : p.active ≡ true) (room : free_place e.particles < 64) where
  abbrev place : ℕ
  place = free_place e.particles

  within : place < length e.particles
  within = subst (λ (n : ℕ). place < n) (sym w.places) room

  counted-one : active_count (set e.particles place p) ≡ active_count e.particles + 1
  counted-one =
      count_set is_held e.particles place p free_particle within (lowest-free e.particles within) active

  number-born : grown e.tally.held ≡ active_count (set e.particles place p)
  number-born = one_more e.tally.held (active_count e.particles) w.number (let most = count_most is_held e.particles in omega (arith, w.places)) ∙ sym counted-one

numbered_admitted : (e : Engine) (index : ℕ) (slot : Option ℕ) → Numbered e → Numbered (admitted_of e index slot)
unfolding admitted_of born_one
numbered_admitted e index slot w =
    in_case Numbered (ltb (free_place e.particles) 64) _ _
    (λ q.
    record {
      places = length-set e.particles (free_place e.particles) (newborn_for e index slot) ∙ w.places;
      number = number-born e w (newborn_for e index slot) (newborn_active e index slot) (ltb-true _ _ q);
    })
    (λ q. same e _ refl refl w)

numbered-born : (e : Engine) (index : ℕ) (own : Option ℕ) → Numbered e → Numbered (born_of e index own)
unfolding born_of attempted_of
numbered-born e index own w =
    either Numbered _ _ _ (same e _ refl refl w) (either Numbered _ _ _ (same e _ refl refl w) (numbered_admitted _ index _ (same e _ refl refl w)))

-- ---- a retirement and a new pitch leave who holds a place in it
numbered_mapped : (e : Engine) (f : Particle → Particle) → ((p : Particle) → (f p).active ≡ p.active) → Numbered e → Numbered (with_particles e (map f e.particles))
numbered_mapped e f h w = record { places = length-map e.particles f ∙ w.places; number = w.number ∙ sym (count_kept is_held f (λ i p. h p) e.particles) }

abbrev AsActive : Particle → Particle → Type 0
AsActive p x = x.active ≡ p.active

retire_active : (now : ℕ) (p : Particle) → AsActive p (retire_one now p)
unfolding retire_one retired_of
retire_active now p = either (AsActive p) _ _ _ refl refl

bound_active : (slot now : ℕ) (p : Particle) → AsActive p (retire_bound_one slot now p)
unfolding retire_bound_one retired_of
bound_active slot now p = either (AsActive p) _ _ _ (either (AsActive p) _ _ _ refl refl) refl

retune_active : (slot : ℕ) (hz : Float) (p : Particle) → AsActive p (retune_one slot hz p)
unfolding retune_one retuned_of
retune_active slot hz p = either (AsActive p) _ _ _ (either (AsActive p) _ _ _ refl refl) refl

-- ---- a frame: each that was held is still held, or freed and taken off
so_many_fewer : (held before freed after : ℕ) → held ≡ before → before ≤ 64 → after + freed ≡ before → difference held freed ≡ after
so_many_fewer held before freed after q h s = omega arith

numbered-renewed : (e : Engine) (activity : Float) → Numbered e → Numbered (renewed_of e (held_of e) (freed_of e) activity)
unfolding renewed_of held_of freed_of
numbered-renewed e activity w =
    let sample = e.clock.sample in
    let rate = e.prepared.sample_rate in
    let most = count_most is_held e.particles in
    let split = count-split is_held (sweep_one sample rate) (is_freed sample rate) (λ i p. held_or_freed sample rate p) e.particles in
    record { places = length-map e.particles (sweep_one sample rate) ∙ w.places; number = so_many_fewer e.tally.held (active_count e.particles) (freed_of e) (active_count (held_of e)) w.number (omega (arith, w.places)) split }

-- ---- every act, and every call
numbered-act : (e : Engine) (a : Act) → Numbered e → Numbered (act e a)
unfolding act retired_all
numbered-act e (birth index own) w = numbered-born e index own w
numbered-act e retire w = numbered_mapped e (retire_one e.clock.sample) (retire_active e.clock.sample) w
numbered-act e (retire_bound slot) w = numbered_mapped e (retire_bound_one slot e.clock.sample) (bound_active slot e.clock.sample) w
numbered-act e (retune slot hz) w = numbered_mapped e (retune_one slot hz) (retune_active slot hz) w
numbered-act e (frame seconds) w = numbered-renewed e _ w
numbered-act e (source slot s) w = same e _ refl refl w
numbered-act e (streams ss) w = same e _ refl refl w
numbered-act e (next n) w = same e _ refl refl w
numbered-act e (clock k) w = same e _ refl refl w
numbered-act e (weights ws) w = same e _ refl refl w
numbered-act e (settings c) w = same e _ refl refl w

pub numbered_performed : (e : Engine) (acts : List Act) → Numbered e → Numbered (perform e acts)
unfolding perform
numbered_performed e [] w = w
numbered_performed e (a ∷ rest) w = numbered_performed (act e a) rest (numbered-act e a w)

pub numbered-applied : (e : Engine) (c : Call) → Numbered e → Numbered (applied e c)
numbered-applied e c w = subst Numbered (calls_are_acts e c) (numbered_performed e (acts_of e c) w)
