-- What a trigger answers: the tests of its birth, in order, and the place that the new particle has.
use Rattle.std.specs.Prelude.{Ok, Err}
use Prim.Native.Nat.{ℕ, ◌<◌, ◌≤◌, ◌^◌}
use native.Mathlib.Omega.{arith}
use mathlib.Core.Path.{◌≡◌, refl, sym, ap, ◌∙◌, subst}
use mathlib.Core.Bool.{true, false, ◌||◌, true≢false}
use denote.Floats.{passes}
use borrow.Author.Tests.{ne_eqb, eq-eqb, ltb-true, ltb-false}
use Rattle.std.specs.Prelude.{Some}
use lib.Bits.{bit_xor}
use lib.Dec.{eqb, ltb}
use lib.Ieee.Bits.{is_true}
use Rattle.sequences.specs.All.{all-at, all_true}
use Rattle.sequences.specs.Pick.{pick, picked, passed, by-case}
use Rattle.refusals.specs.declared.Refusal.TheVariants.{Slot}
use Rattle.pool.specs.Vacancies.{free_place}
use Rattle.pool.proofs.Lowest.{held_below}
use Rattle.births.specs.Births.{newborn_of}
use Rattle.state.specs.declared.Engine.{Engine}
use Rattle.floats.specs.Word.{grown}
use Rattle.state.specs.Tallies.{born_one}
use Rattle.births.specs.Birth.{chosen_for, voice_for, newborn_for, attempted_of, born_of}
use Rattle.engine_triggers.specs.Triggers.{Fired}
use Rattle.engine_triggers.specs.declared.Outcome.TheVariants.{Born, NotEligible, Dropped}
use Rattle.engine_triggers.specs.declared.Triggered.{Triggered}
use Rattle.engine_triggers.specs.Triggers.{triggered_with, reserved_of, is_permitted, outcome_of, triggered_by, triggered_of}
use Rattle.engine_laws.specs.Acts.{act, perform, trigger_acts, reserved, acts_of, applied}
use Rattle.engine_laws.proofs.Performed.{calls_are_acts}
use Rattle.promises.specs.Life.{place, permitted}
use Rattle.promises.specs.Demand3.{Lowest}
use Rattle.promises.specs.Triggers.{Places, full, answered, Settled}
use Rattle.promises.proofs.Lives.{lowest-is}
use Rattle.promises.proofs.Stories.{moved_on, settled_so, dropped_so, placed}

-- ---- `dropped` tells which it was
born-outcome : (e out : Engine) → out.tally.dropped ≡ e.tally.dropped → (outcome_of e out).outcome ≡ Ok Born
born-outcome e out q = ap (λ (t : Triggered). t.outcome) (sym (picked _ (triggered_with (Ok Born) out) (triggered_with (Ok Dropped) out) (eq-eqb out.tally.dropped e.tally.dropped q)))

dropped-outcome : (e out : Engine) → out.tally.dropped ≡ grown e.tally.dropped → (outcome_of e out).outcome ≡ Ok Dropped
dropped-outcome e out q =
    ap (λ (t : Triggered). t.outcome)
    (sym (passed _ (triggered_with (Ok Born) out) (triggered_with (Ok Dropped) out) (ne_eqb out.tally.dropped e.tally.dropped (λ h. moved_on e.tally.dropped (sym h ∙ q)))))

-- ---- no place is free exactly where all are held
module _ (e : Engine) (len : Places e) where
  free-at : ltb (free_place e.particles) 64 ≡ true → Lowest e (free_place e.particles)
  free-at f = let g : free_place e.particles < 64 = ltb-true _ _ f in lowest-is e (omega (arith, len))

  not_full : ltb (free_place e.particles) 64 ≡ true → full e ≡ false
  not_full f =
      by-case (full e)
      (λ y. absurd (true≢false (sym (is_true _ (all-at (λ i. (place e i).active) 64 (passes (full e) y) (free_place e.particles) (ltb-true _ _ f))) ∙ (free-at f).0)))
      (λ n. n)

  is-full : ltb (free_place e.particles) 64 ≡ false → full e ≡ true
  is-full f = let g : 64 ≤ free_place e.particles = ltb-false _ _ f in all_true (λ i. (place e i).active) 64 (λ i l. held_below e.particles i (omega arith))

-- ---- the birth of a trigger, whose source is its own slot
module _ (e : Engine) (len : Places e) (slot index : ℕ) (s : ltb slot 256 ≡ true) where
  allowed : permitted e index (Some slot) ≡ true
  unfolding chosen_for
  allowed = refl

  worn_out : eqb e.tally.attempts 64 ≡ true → (born_of e index (Some slot)).tally.dropped ≡ grown e.tally.dropped
  unfolding born_of attempted_of
  worn_out a = ap (λ (x : Engine). x.tally.dropped) (sym (picked (eqb e.tally.attempts 64) _ _ a))

  birth-answers : (outcome_of e (born_of e index (Some slot))).outcome ≡ pick (eqb e.tally.attempts 64 || full e) (Ok Dropped) (Ok Born)
  unfolding act pick born_one
  birth-answers =
      by-case (eqb e.tally.attempts 64) (λ a. rw a (dropped-outcome e (born_of e index (Some slot)) (worn_out a)))
      (λ a.
      by-case (ltb (free_place e.particles) 64)
      (λ f. rw (a, not_full e len f) (born-outcome e (born_of e index (Some slot)) (sym (ap (λ (x : Engine). x.tally.dropped) (settled_so e len index (Some slot) a allowed f)))))
      (λ f. rw (a, is-full e len f) (dropped-outcome e (born_of e index (Some slot)) (sym (ap (λ (x : Engine). x.tally.dropped) (dropped_so e len index (Some slot) a allowed f))))))

  birth_settles : (outcome_of e (born_of e index (Some slot))).outcome ≡ Ok Born → Settled e index slot (born_of e index (Some slot))
  unfolding act pick newborn_for newborn_of
  birth_settles b =
      by-case (eqb e.tally.attempts 64) (λ a. never (sym (dropped-outcome e (born_of e index (Some slot)) (worn_out a)) ∙ b))
      (λ a.
      by-case (ltb (free_place e.particles) 64)
      (λ f.
      let l = ltb-true _ _ f in
      let there = placed e len index (Some slot) a allowed (free_place e.particles) l (free-at e len f) in
      record { at = free_place e.particles; inside = l; free = free-at e len f; stands = there; held = ap (λ p. p.active) there })
      (λ f. never (sym (dropped-outcome e (born_of e index (Some slot)) (sym (ap (λ (x : Engine). x.tally.dropped) (dropped_so e len index (Some slot) a allowed f)))) ∙ b)))
    where
      never : ◌≡◌ {A = Fired} (Ok Dropped) (Ok Born) → Settled e index slot (born_of e index (Some slot))
      never q = absurd (let z : ◌≡◌ {A = ℕ} 0 1 = cc in omega arith)

-- ---- the calls
module _ (e : Engine) (len : Places e) (slot index : ℕ) where
  pub reserved_answers : (triggered_by e slot index).outcome ≡ answered e slot
  unfolding triggered_by pick
  reserved_answers =
      by-case (ltb slot 256)
      (λ s. by-case (is_permitted e slot) (λ p. rw (s, p) (birth-answers e len slot (bit_xor index (2 ^ 63)) s)) (λ p. rw (s, p)))
      (λ s. rw s)

  fired_engine : ltb slot 256 ≡ true → is_permitted e slot ≡ true → born_of e (bit_xor index (2 ^ 63)) (Some slot) ≡ (triggered_by e slot index).engine
  unfolding acts_of trigger_acts perform act applied pick
  fired_engine s p = rw (s, p) at (calls_are_acts e (reserved slot index))

  pub reserved_born : (triggered_by e slot index).outcome ≡ Ok Born → Settled e (bit_xor index (2 ^ 63)) slot (triggered_by e slot index).engine
  unfolding triggered_by pick
  reserved_born b =
      by-case (ltb slot 256)
      (λ s.
      by-case (is_permitted e slot) (λ p. subst (Settled e (bit_xor index (2 ^ 63)) slot) (fired_engine s p) (birth_settles e len slot (bit_xor index (2 ^ 63)) s (rw (s, p) at b)))
      (λ p. absurd (let q : ◌≡◌ {A = Fired} (Ok NotEligible) (Ok Born) = rw (s, p) at b in let z : ◌≡◌ {A = ℕ} 0 1 = cc in omega arith)))
      (λ s. absurd (let q : (Err Slot) ≡ (Ok Born) = rw s at b in let z : ◌≡◌ {A = ℕ} 0 1 = cc in omega arith))

-- a trigger with an index of its own: reserving it moves nothing that an answer reads
module _ (e : Engine) (len : Places e) (slot : ℕ) where
  pub trigger_answers : (triggered_of e slot).outcome ≡ answered e slot
  unfolding triggered_of reserved_of is_permitted
  trigger_answers = reserved_answers (reserved_of e).engine len slot e.next.immediate_index

  pub trigger_born : (triggered_of e slot).outcome ≡ Ok Born → Settled e (bit_xor e.next.immediate_index (2 ^ 63)) slot (triggered_of e slot).engine
  unfolding triggered_of reserved_of newborn_for voice_for chosen_for
  trigger_born b =
      let got = reserved_born (reserved_of e).engine len slot e.next.immediate_index b in
      record { at = got.at; inside = got.inside; free = got.free; stands = got.stands; held = got.held }
