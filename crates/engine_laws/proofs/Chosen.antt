-- A birth leaves an engine as sound as it was: the chosen slot is one of 256 or none, the newborn is fit, and 64 attempts are not passed.
use Prim.Native.Nat.{ℕ, suc, ◌+◌, ◌-◌, ◌^◌, ◌≤◌, ◌<◌}
use native.Mathlib.Nat.{le_trans, le_of_eq}
use native.Mathlib.Omega.{arith}
use mathlib.Core.Path.{◌≡◌, refl, sym, ◌∙◌, subst}
use mathlib.Core.Logic.{◌⊎◌, inl, inr}
use mathlib.Core.Bool.{Bool, true, false, ◌&&◌, true≢false}
use Rattle.std.specs.Prelude.{Option, Some, None, IfSome}
use mathlib.Core.List.{List, [], ◌∷◌}
use borrow.Author.Tests.{ltb-true, eqb-false}
use lib.Dec.{ltb, eqb}
use lib.ListN.{length, get_or, set, length-set}
use lib.Ieee.{Float}
use Rattle.floats.specs.Word.{grown}
use Rattle.sequences.specs.Pick.{pick, either}
use Rattle.pool.specs.declared.Particle.{Particle}
use Rattle.sources.specs.declared.Source.{Source}
use Rattle.sources.specs.Sources.{is_eligible}
use Rattle.sources.specs.Choosing.{is_alternative, nth_from, chosen_of}
use Rattle.state.specs.declared.Engine.{Engine}
use Rattle.state.specs.declared.Next.{Next}
use Rattle.state.specs.declared.Tally.{Tally}
use Rattle.state.specs.State.{with_next, with_particles, with_tally, past_source}
use Rattle.draws.proofs.Drawn.{mix_lt}
use Rattle.births.specs.Births.{newborn_of}
use Rattle.state.specs.Tallies.{dropped_one, hash_of, born_one}
use Rattle.births.specs.Birth.{chosen_for, with_last, tried_one, newborn_for, admitted_of, attempted_of, born_of}
use Rattle.sequences.specs.Every.{Every, every_set, in_case}
use Rattle.engine_laws.proofs.Sound.{Sound, Slot, Fit, FitPlace, Counted, Sounding, sounding_slot, engine_newborn}
use Rattle.timing_laws.proofs.Moves.{after-under}

-- ---- a slot that is chosen is one of 256, and may sound
abbrev Found : Option ℕ → ℕ → List Source → Type 0
Found k i ss = IfSome k (λ m. (j : ℕ) × (m ≡ i + j) × (j < length ss) × (is_eligible (get_or ss j past_source) ≡ true))

further : (k : Option ℕ) (i : ℕ) (s : Source) (ss : List Source) → Found k (suc i) ss → Found k i (s ∷ ss)
further None i s ss h = tt
further (Some m) i s ss (j, e, l, h) = (suc j, omega arith, omega arith, h)

first : (a b : Bool) → (a && b) ≡ true → a ≡ true
first true b h = refl
first false b h = absurd (true≢false (sym h))

found : (last : Option ℕ) (i : ℕ) (ss : List Source) (n : ℕ) → Found (nth_from last i ss n) i ss
unfolding nth_from is_alternative
found last i [] n = tt
found last i (s ∷ ss) n =
    in_case (λ (k : Option ℕ). Found k i (s ∷ ss)) (is_alternative last i s) _ _
    (λ a. in_case (λ (k : Option ℕ). Found k i (s ∷ ss)) (eqb n 0) _ _ (λ t. (0, omega arith, omega arith, first (is_eligible s) _ a)) (λ t. further _ i s ss (found last (suc i) ss (n - 1))))
    (λ a. further _ i s ss (found last (suc i) ss n))

sounding : (k : Option ℕ) (ss : List Source) → length ss ≡ 256 → Found k 0 ss → Sounding ss k
sounding None ss l h = tt
sounding (Some m) ss l (j, e, b, f) = (omega arith, subst (λ (n : ℕ). is_eligible (get_or ss n past_source) ≡ true) (omega arith) f)

chosen-sounding : (last : Option ℕ) (ss : List Source) (draw : Float) → length ss ≡ 256 → Sounding ss (chosen_of last ss draw)
unfolding chosen_of
chosen-sounding last ss draw l = either (Sounding ss) _ _ _ (sounding _ ss l (found None 0 ss 0)) (sounding _ ss l (found last 0 ss _))

pub chosen_most : (last : Option ℕ) (ss : List Source) (draw : Float) → length ss ≡ 256 → Slot (chosen_of last ss draw)
chosen_most last ss draw l = sounding_slot ss _ (chosen-sounding last ss draw l)

slot-sounding : (e : Engine) (index : ℕ) (own : Option ℕ) → Sound e → Sounding e.sources own → Sounding e.sources (chosen_for e index own)
unfolding chosen_for
slot-sounding e index None s h = chosen-sounding e.next.last_source e.sources _ s.slots
slot-sounding e index (Some k) s h = h

pub slot_most : (e : Engine) (index : ℕ) (own : Option ℕ) → Sound e → Sounding e.sources own → Slot (chosen_for e index own)
slot_most e index own s h = sounding_slot e.sources _ (slot-sounding e index own s h)

-- ---- the choice, the counters and the places
pub sound_next : (e : Engine) (n : Next) → Sound e → Slot n.last_source → n.immediate_index < 2 ^ 64 → Sound (with_next e n)
sound_next e n s h i =
    record {
      made = s.made;
      settled = s.settled;
      tried = s.tried;
      last = h;
      time = s.time;
      places = s.places;
      slots = s.slots;
      formed = s.formed;
      active = s.active;
      held = s.held;
      lanes = s.lanes;
      reserved = i;
      counted = s.counted;
    }

pub sound_tally : (e : Engine) (t : Tally) → Sound e → t.attempts ≤ 64 → Counted t → Sound (with_tally e t)
sound_tally e t s h c =
    record {
      made = s.made;
      settled = s.settled;
      tried = h;
      last = s.last;
      time = s.time;
      places = s.places;
      slots = s.slots;
      formed = s.formed;
      active = s.active;
      held = s.held;
      lanes = s.lanes;
      reserved = s.reserved;
      counted = c;
    }

pub sound_particles : (e : Engine) (ps : List Particle) → Sound e → length ps ≡ 64 → Every (FitPlace e.clock.sample) ps → Sound (with_particles e ps)
sound_particles e ps s l h =
    record {
      made = s.made;
      settled = s.settled;
      tried = s.tried;
      last = s.last;
      time = s.time;
      places = l;
      slots = s.slots;
      formed = s.formed;
      active = s.active;
      held = h;
      lanes = s.lanes;
      reserved = s.reserved;
      counted = s.counted;
    }

-- ---- the counters
counted-dropped : (t : Tally) → Counted t → Counted (dropped_one t)
counted-dropped t c = record { births = c.births; dropped = after-under t.dropped; hash = c.hash }

counted-tried : (t : Tally) → Counted t → Counted (tried_one t)
counted-tried t c = record { births = c.births; dropped = c.dropped; hash = c.hash }

counted-born : (t : Tally) (index sample : ℕ) (p : Particle) → Counted t → Counted (born_one t index sample p)
unfolding born_one hash_of
counted-born t index sample p c = record { births = after-under t.births; dropped = c.dropped; hash = mix_lt _ }

born-attempts : (t : Tally) (index sample : ℕ) (p : Particle) → (born_one t index sample p).attempts ≡ t.attempts
unfolding born_one
born-attempts t index sample p = refl

-- ---- the birth
newborn-held : (e : Engine) (index : ℕ) (slot : Option ℕ) → Sound e → Sounding e.sources slot → FitPlace e.clock.sample (newborn_for e index slot)
unfolding newborn_for newborn_of
newborn-held e index slot s o = (λ a. engine_newborn e index slot s o, λ a. absurd (true≢false a))

-- the particle of a birth, whether or not it finds a place
pub birth-fit : (e : Engine) (index : ℕ) (own : Option ℕ) → Sound e → Sounding e.sources own → Fit e.clock.sample (newborn_for e index (chosen_for e index own))
birth-fit e index own s o = engine_newborn e index (chosen_for e index own) s (slot-sounding e index own s o)

sound_admitted : (e : Engine) (index : ℕ) (slot : Option ℕ) → Sound e → Sounding e.sources slot → Sound (admitted_of e index slot)
unfolding admitted_of
sound_admitted e index slot s o =
    let p = newborn_for e index slot in
    either Sound _ _ _
    (sound_tally (with_particles e (set e.particles _ p)) (born_one e.tally index e.clock.sample p)
    (sound_particles e (set e.particles _ p) s (length-set e.particles _ _ ∙ s.places)
    (every_set (FitPlace e.clock.sample) e.particles _ p (newborn-held e index slot s o) s.held))
    (le_trans (le_of_eq (born-attempts e.tally index e.clock.sample p)) s.tried) (counted-born e.tally index e.clock.sample p s.counted))
    (sound_tally e _ s s.tried (counted-dropped e.tally s.counted))

one_more : (n : ℕ) → n ≤ 64 → (n ≡ 64 → ⊥) → grown n ≤ 64
one_more n h d = omega arith

sound_attempted : (e : Engine) (index : ℕ) (slot : Option ℕ) → Sound e → Sounding e.sources slot → Sound (attempted_of e index slot)
unfolding attempted_of
sound_attempted e index slot s o =
    in_case Sound (eqb e.tally.attempts 64) _ _ (λ q. sound_tally e _ s s.tried (counted-dropped e.tally s.counted))
    (λ q.
    let t = sound_tally e (tried_one e.tally) s (one_more e.tally.attempts s.tried (eqb-false e.tally.attempts 64 q)) (counted-tried e.tally s.counted) in
    either Sound _ _ _ t (sound_admitted (with_tally e (tried_one e.tally)) index slot t o))

pub sound_born : (e : Engine) (index : ℕ) (own : Option ℕ) → Sound e → Sounding e.sources own → Sound (born_of e index own)
unfolding born_of
sound_born e index own s o =
    let h = slot_most e index own s o in
    sound_attempted (with_next e (with_last e.next (chosen_for e index own))) index (chosen_for e index own) (sound_next e (with_last e.next (chosen_for e index own)) s h s.reserved)
    (slot-sounding e index own s o)
