-- What each act does to one place, beside what demand 3 tells of it.
use Prim.Native.Nat.{ℕ, ◌≤◌, ◌<◌}
use native.Mathlib.Decide.{ℕ_discrete}
use native.Mathlib.Omega.{arith}
use mathlib.Core.Path.{◌≡◌, refl, sym, ap, ◌∙◌, subst}
use mathlib.Core.Logic.{◌⊎◌, inl, inr}
use mathlib.Core.Bool.{Bool, true, false, not, ◌&&◌, ◌||◌}
use mathlib.Core.List.{List, map}
use borrow.Author.Tests.{eqb-false, ltb-true, ltb-false}
use lib.Dec.{eqb, ltb}
use lib.ListN.{length, get_or, set, length-set, get_or-map, get_or-eq_default}
use lib.Seq.{get_or-set_same, get_or-set_other}
use lib.Ieee.{Float, le}
use Rattle.sequences.specs.Pick.{pick, picked, passed, by-case}
use Rattle.floats.specs.Names.{f64}
use Rattle.pool.specs.declared.Particle.{Particle}
use Rattle.std.specs.Prelude.{Option, Some, None}
use Rattle.std.specs.Option.{option_eq}
use Rattle.pool.specs.Pool.{free_particle, first_retirement, retired_of, retire_one, retire_bound_one, retuned_of, retune_one}
use Rattle.pool.specs.Vacancies.{free_place}
use Rattle.pool.proofs.Lowest.{lowest-free, held_below}
use Rattle.state.specs.declared.Engine.{Engine}
use Rattle.births.specs.Birth.{chosen_for, voice_for, newborn_for, is_barred, admitted_of, attempted_of, born_of}
use Rattle.engine_changes.specs.Changes.{retired_all}
use Rattle.frame.specs.Freed.{seconds_of, retirement_of, due_of, sweep_one}
use Rattle.frame.specs.Call.{held_of, renewed_of}
use Rattle.engine_laws.specs.Acts.{Act, birth, retire, retire_bound, retune, frame, source, streams, next, clock, weights, settings, act}
use Rattle.sequences.specs.Every.{in_case}
use Rattle.promises.specs.Life.{place, permitted, newborn, life_of, Fate, living, freed, age, faded, due, first_retired, retired_at, told}
use Rattle.promises.specs.Demand3.{Lowest}

-- what an act does to what stands at a place, but for a birth that takes it
abbrev pub touched : Engine → Act → Particle → Particle
touched e (frame seconds) p = sweep_one e.clock.sample e.prepared.sample_rate p
touched e retire p = retire_one e.clock.sample p
touched e (retire_bound slot) p = retire_bound_one slot e.clock.sample p
touched e (retune slot hz) p = retune_one slot hz p
touched e (birth index own) p = p
touched e (source slot s) p = p
touched e (streams ss) p = p
touched e (next n) p = p
touched e (clock k) p = p
touched e (weights ws) p = p
touched e (settings c) p = p

abbrev pub fate_of : Particle → Fate
fate_of p = pick p.active (living (life_of p)) freed

keep : (p : Particle) → p.active ≡ true → living (life_of p) ≡ fate_of p
keep p h = picked p.active (living (life_of p)) freed h

-- ---- the engine's tests are those told
faded-is : (e : Engine) (x : Option ℕ) → retirement_of x e.clock.sample e.prepared.sample_rate ≡ faded e x
unfolding retirement_of seconds_of
faded-is e None = refl
faded-is e (Some since) = refl

pub due-is : (e : Engine) (p : Particle) → due e (life_of p) ≡ due_of e.clock.sample e.prepared.sample_rate p
unfolding due due_of seconds_of
due-is e p = ap (λ (x : Float). le p.lifetime (age e (life_of p)) || le (f64 0x3ff0000000000000) x) (sym (faded-is e p.retirement))

first-is : (x : Option ℕ) (now : ℕ) → first_retired x now ≡ Some (first_retirement x now)
first-is None now = refl
first-is (Some since) now = refl

retired_life : (now : ℕ) (p : Particle) → retired_at now (life_of p) ≡ life_of (retired_of now p)
unfolding retired_of
retired_life now p = ap (λ (r : Option ℕ). record { birth = p.birth; lifetime = p.lifetime; source = None; retired = r }) (first-is p.retirement now)

retired-told : (now : ℕ) (p : Particle) → p.active ≡ true → living (retired_at now (life_of p)) ≡ fate_of (retired_of now p)
unfolding retired_of
retired-told now p h = ap living (retired_life now p) ∙ keep (retired_of now p) h

-- ---- for a particle that holds its place, the act does what is told
swept_told : (p : Particle) → p.active ≡ true → (b : Bool) → pick b freed (living (life_of p)) ≡ fate_of (pick b free_particle p)
unfolding pick free_particle
swept_told p h true = refl
swept_told p h false = keep p h

bound-told : (now : ℕ) (p : Particle) → p.active ≡ true → (b : Bool) → living (pick b (retired_at now (life_of p)) (life_of p)) ≡ fate_of (pick b (retired_of now p) p)
unfolding pick
bound-told now p h true = retired-told now p h
bound-told now p h false = keep p h

retuned_told : (hz : Float) (p : Particle) → p.active ≡ true → (b : Bool) → living (life_of p) ≡ fate_of (pick b (retuned_of hz p) p)
unfolding pick retuned_of
retuned_told hz p h true = keep (retuned_of hz p) h
retuned_told hz p h false = keep p h

pub touched_told : (e : Engine) (a : Act) (p : Particle) → p.active ≡ true → told e a (life_of p) ≡ fate_of (touched e a p)
unfolding told sweep_one retire_one retire_bound_one retune_one
touched_told e (frame seconds) p h =
    swept_told p h (due e (life_of p)) ∙ ap (λ (b : Bool). fate_of (pick b free_particle p)) (due-is e p) ∙ ap fate_of (picked p.active _ p h)
touched_told e retire p h = retired-told e.clock.sample p h ∙ ap fate_of (picked p.active _ p h)
touched_told e (retire_bound slot) p h = bound-told e.clock.sample p h (option_eq eqb p.source (Some slot)) ∙ ap fate_of (picked p.active _ p h)
touched_told e (retune slot hz) p h = retuned_told hz p h (option_eq eqb p.source (Some slot)) ∙ ap fate_of (picked p.active _ p h)
touched_told e (birth index own) p h = keep p h
touched_told e (source slot s) p h = keep p h
touched_told e (streams ss) p h = keep p h
touched_told e (next n) p h = keep p h
touched_told e (clock k) p h = keep p h
touched_told e (weights ws) p h = keep p h
touched_told e (settings c) p h = keep p h

-- a free place stays as it is, but for a birth
pub untouched : (e : Engine) (a : Act) (p : Particle) → p.active ≡ false → touched e a p ≡ p
unfolding sweep_one retire_one retire_bound_one retune_one
untouched e (frame seconds) p h = sym (passed p.active _ p h)
untouched e retire p h = sym (passed p.active _ p h)
untouched e (retire_bound slot) p h = sym (passed p.active _ p h)
untouched e (retune slot hz) p h = sym (passed p.active _ p h)
untouched e (birth index own) p h = refl
untouched e (source slot s) p h = refl
untouched e (streams ss) p h = refl
untouched e (next n) p h = refl
untouched e (clock k) p h = refl
untouched e (weights ws) p h = refl
untouched e (settings c) p h = refl

-- ---- the lowest free place
pub lowest-is : (e : Engine) → free_place e.particles < length e.particles → Lowest e (free_place e.particles)
lowest-is e h = (lowest-free e.particles h, held_below e.particles)

pub barred-is : (e : Engine) (index : ℕ) (own : Option ℕ) → not (is_barred (chosen_for e index own) e.next.note_input_present) ≡ permitted e index own
unfolding is_barred
barred-is e index own = refl

-- ---- a birth
-- it took place i, and left the engine x
pub record Taking (e : Engine) (index : ℕ) (own : Option ℕ) (i : ℕ) (x : Engine) : Type 0 where
  pub low : Lowest e i
  pub allowed : permitted e index own ≡ true
  pub inside : e.tally.attempts ≡ 64 → ⊥
  pub now_is : place x i ≡ newborn e index own

module _ (e : Engine) (index : ℕ) (own : Option ℕ) (i : ℕ) where
  abbrev Result : Engine → Type 0
  Result x = (place x i ≡ place e i) ⊎ Taking e index own i x

  settled : (x : Engine) → eqb e.tally.attempts 64 ≡ false → is_barred (chosen_for e index own) e.next.note_input_present ≡ false
      → x.particles ≡ set e.particles (free_place e.particles) (newborn e index own) → Result x
  settled x a b q = go (ℕ_discrete i (free_place e.particles))
    where
      at : place x i ≡ get_or (set e.particles (free_place e.particles) (newborn e index own)) i free_particle
      at = ap (λ (ps : List Particle). get_or ps i free_particle) q

      here : i ≡ free_place e.particles → free_place e.particles < length e.particles → Result x
      here s l =
          inr
          (record {
            low = subst (Lowest e) (sym s) (lowest-is e l);
            allowed = sym (barred-is e index own) ∙ ap not b;
            inside = eqb-false e.tally.attempts 64 a;
            now_is = at ∙ ap (λ (k : ℕ). get_or (set e.particles (free_place e.particles) (newborn e index own)) k free_particle) s ∙ get_or-set_same e.particles (free_place e.particles) (newborn e index own) free_particle l;
          })

      -- a place past the last holds nothing
      beyond : i ≡ free_place e.particles → length e.particles ≤ free_place e.particles → Result x
      beyond s l =
          inl
          (at
          ∙ get_or-eq_default (set e.particles (free_place e.particles) (newborn e index own)) free_particle (omega (arith, length-set e.particles (free_place e.particles) (newborn e index own)))
          ∙ sym (get_or-eq_default e.particles free_particle (omega arith)))

      go : Dec (i ≡ free_place e.particles) → Result x
      go (yes s) = by-case (ltb (free_place e.particles) (length e.particles)) (λ l. here s (ltb-true _ _ l)) (λ l. beyond s (ltb-false _ _ l))
      go (no n) = inl (at ∙ get_or-set_other e.particles (free_place e.particles) i (newborn e index own) free_particle n)

  pub result : Result (born_of e index own)
  unfolding born_of attempted_of admitted_of newborn_for voice_for
  result =
      in_case Result (eqb e.tally.attempts 64) _ _ (λ a. inl refl)
      (λ a.
      in_case Result (is_barred (chosen_for e index own) e.next.note_input_present) _ _ (λ b. inl refl)
      (λ b. in_case Result (ltb (free_place e.particles) 64) _ _ (λ f. settled _ a b refl) (λ f. inl refl)))

-- a birth among the acts took place i
pub record Newly (e : Engine) (a : Act) (i : ℕ) : Type 0 where
  pub index : ℕ
  pub own : Option ℕ
  pub is : a ≡ birth index own
  pub taking : Taking e index own i (act e a)

-- ---- an act
place_map : (f : Particle → Particle) → f free_particle ≡ free_particle → (ps : List Particle) (i : ℕ) → get_or (map f ps) i free_particle ≡ f (get_or ps i free_particle)
place_map f fe ps i = subst (λ (d : Particle). get_or (map f ps) i d ≡ f (get_or ps i free_particle)) fe (get_or-map f ps i free_particle)

pub free-free : free_particle.active ≡ false
unfolding free_particle
free-free = refl

pub changed : (e : Engine) (a : Act) (i : ℕ) → (place (act e a) i ≡ touched e a (place e i)) ⊎ Newly e a i
unfolding act retired_all renewed_of held_of
changed e (frame seconds) i = inl (place_map (touched e (frame seconds)) (untouched e (frame seconds) free_particle free-free) e.particles i)
changed e retire i = inl (place_map (touched e retire) (untouched e retire free_particle free-free) e.particles i)
changed e (retire_bound slot) i = inl (place_map (touched e (retire_bound slot)) (untouched e (retire_bound slot) free_particle free-free) e.particles i)
changed e (retune slot hz) i = inl (place_map (touched e (retune slot hz)) (untouched e (retune slot hz) free_particle free-free) e.particles i)
changed e (birth index own) i = go (result e index own i)
  where
    go : (place (born_of e index own) i ≡ place e i) ⊎ Taking e index own i (born_of e index own) → (place (act e (birth index own)) i ≡ place e i) ⊎ Newly e (birth index own) i
    go (inl q) = inl q
    go (inr t) = inr (record { index = index; own = own; is = refl; taking = t })
changed e (source slot s) i = inl refl
changed e (streams ss) i = inl refl
changed e (next n) i = inl refl
changed e (clock k) i = inl refl
changed e (weights ws) i = inl refl
changed e (settings c) i = inl refl
