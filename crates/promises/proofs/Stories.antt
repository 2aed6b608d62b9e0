-- Demand 3 over any acts: by induction on their list.
use Prim.Native.Nat.{ℕ, ◌≤◌, ◌<◌}
use native.Mathlib.Omega.{arith}
use mathlib.Core.Path.{◌≡◌, refl, sym, ap, ◌∙◌, subst}
use mathlib.Core.Logic.{◌⊎◌, inl, inr, ⊎_elim, ◌↔◌}
use mathlib.Core.Bool.{Bool, true, false, not, true≢false}
use mathlib.Core.List.{List, [], ◌∷◌}
use borrow.Author.Tests.{ne_eqb, ltb-true, ltb-false, lt-ltb}
use lib.Dec.{eqb, ltb}
use lib.ListN.{length, get_or, set}
use lib.Seq.{get_or-set_same}
use lib.Ieee.{Float}
use Rattle.floats.specs.Word.{grown}
use Rattle.sequences.specs.Pick.{pick, picked, passed, by-case}
use Rattle.sequences.specs.First.{first-is}
use Rattle.pool.specs.declared.Particle.{Particle}
use Rattle.std.specs.Prelude.{Option, Some, None}
use Rattle.std.specs.Option.{option_eq}
use Rattle.pool.specs.Pool.{free_particle}
use Rattle.pool.specs.Vacancies.{is_free, free_place}
use Rattle.pool.proofs.Lowest.{held_below}
use Rattle.state.specs.declared.Engine.{Engine}
use Rattle.state.specs.State.{with_next, with_tally}
use Rattle.state.specs.Tallies.{dropped_one, born_one}
use Rattle.births.specs.Birth.{chosen_for, with_last, tried_one, voice_for, newborn_for, settled_at, is_barred, admitted_of, attempted_of, born_of}
use Rattle.frame.specs.Freed.{sweep_one}
use Rattle.engine_laws.specs.Acts.{Act, birth, retire, retire_bound, retune, frame, source, streams, next, clock, weights, settings, act, perform}
use Rattle.promises.specs.Life.{place, Held, permitted, newborn, Life, life_of, Fate, living, freed, due, first_retired, retired_at, told, lives_on, story}
use Rattle.promises.specs.Demand3.{Lowest, Born, FirstDue, Fixed}
use Rattle.promises.proofs.Lives.{touched, fate_of, touched_told, untouched, due-is, lowest-is, barred-is, Newly, changed}

-- ---- keeps
pub not_living : (l : Life) → freed ≡ living l → ⊥
not_living l q = let z : ◌≡◌ {A = ℕ} 0 1 = cc in omega arith

never : (l : Life) {A : Type 0} → living l ≡ freed → A
never l q = absurd (not_living l (sym q))

fate_living : (p : Particle) (l : Life) → fate_of p ≡ living l → (p.active ≡ true) × (life_of p ≡ l)
unfolding pick
fate_living p l h = go p.active refl h
  where
    go : (b : Bool) → p.active ≡ b → pick b (living (life_of p)) freed ≡ living l → (p.active ≡ true) × (life_of p ≡ l)
    go true q h = (q, cc)
    go false q h = absurd (not_living l h)

-- for a particle that holds its place the engine does what is told
fate_after : (e : Engine) (a : Act) (i : ℕ) → Held e i → told e a (life_of (place e i)) ≡ fate_of (place (act e a) i)
fate_after e a i h = go (changed e a i)
  where
    go : (place (act e a) i ≡ touched e a (place e i)) ⊎ Newly e a i → told e a (life_of (place e i)) ≡ fate_of (place (act e a) i)
    go (inl q) = touched_told e a (place e i) h ∙ ap fate_of (sym q)
    go (inr n) = absurd (true≢false (sym h ∙ n.taking.low.0))

pub keeps : (e : Engine) (later : List Act) (i : ℕ) → Held e i → (l : Life) → story e later (life_of (place e i)) ≡ living l
    → Held (perform e later) i × (life_of (place (perform e later) i) ≡ l)
unfolding story perform
keeps e [] i h l s = (h, cc)
keeps e (a ∷ rest) i h l s = go (told e a (life_of (place e i))) (fate_after e a i h) s (keeps (act e a) rest i)
  where
    go : (f : Fate) → f ≡ fate_of (place (act e a) i) → lives_on f (story (act e a) rest) ≡ living l
        → (Held (act e a) i → (l : Life) → story (act e a) rest (life_of (place (act e a) i)) ≡ living l → Held (perform (act e a) rest) i × (life_of (place (perform (act e a) rest) i) ≡ l))
        → Held (perform (act e a) rest) i × (life_of (place (perform (act e a) rest) i) ≡ l)
    go freed q s ih = absurd (not_living l s)
    go (living m) q s ih =
        let k = fate_living (place (act e a) i) m (sym q) in
        ih k.0 l (subst (λ (x : Life). story (act e a) rest x ≡ living l) (sym k.1) s)

-- ---- frees
pub frees : (e : Engine) (i : ℕ) → Held e i → (seconds : Float) → due e (life_of (place e i)) ≡ true → place (act e (frame seconds)) i ≡ free_particle
unfolding sweep_one
frees e i h seconds d = go (changed e (frame seconds) i)
  where
    go : (place (act e (frame seconds)) i ≡ touched e (frame seconds) (place e i)) ⊎ Newly e (frame seconds) i → place (act e (frame seconds)) i ≡ free_particle
    go (inl q) = q ∙ sym (picked (place e i).active _ _ h) ∙ sym (picked _ free_particle (place e i) (sym (due-is e (place e i)) ∙ d))
    go (inr n) = absurd (true≢false (sym h ∙ n.taking.low.0))

-- an act that frees is a frame, and the particle was due
record DueAct (e : Engine) (a : Act) (l : Life) : Type 0 where
  seconds : Float
  is : a ≡ frame seconds
  when : due e l ≡ true

pub frame-due : (e : Engine) (l : Life) → pick (due e l) freed (living l) ≡ freed → due e l ≡ true
frame-due e l q = by-case (due e l) (λ y. y) (λ n. never l (passed (due e l) freed (living l) n ∙ q))

frees-only : (e : Engine) (a : Act) (l : Life) → told e a l ≡ freed → DueAct e a l
unfolding told
frees-only e (frame seconds) l q = record { seconds = seconds; is = refl; when = frame-due e l q }
frees-only e retire l q = never (retired_at e.clock.sample l) q
frees-only e (retire_bound slot) l q = never (pick (option_eq eqb l.source (Some slot)) (retired_at e.clock.sample l) l) q
frees-only e (birth index own) l q = never l q
frees-only e (retune slot hz) l q = never l q
frees-only e (source slot s) l q = never l q
frees-only e (streams ss) l q = never l q
frees-only e (next n) l q = never l q
frees-only e (clock k) l q = never l q
frees-only e (weights ws) l q = never l q
frees-only e (settings c) l q = never l q

-- ---- fixed
stands : (r : ℕ) (x : Option ℕ) (now : ℕ) → x ≡ Some r → first_retired x now ≡ Some r
stands r None now q = absurd (let z : ◌≡◌ {A = ℕ} 0 1 = cc in omega arith)
stands r (Some since) now q = q

same : (l l' : Life) → living l ≡ living l' → Fixed l l'
same l l' q = let p : l ≡ l' = cc in subst (λ (x : Life). Fixed l x) p (refl, refl, λ r h. h)

marked : (now : ℕ) (l l' : Life) → living (retired_at now l) ≡ living l' → Fixed l l'
marked now l l' q = let f = same (retired_at now l) l' q in (f.0, f.1, λ r h. f.2 r (stands r l.retired now h))

pub fixed_on : (l m n : Life) → Fixed l m → Fixed m n → Fixed l n
fixed_on l m n f g = (g.0 ∙ f.0, g.1 ∙ f.1, λ r h. g.2 r (f.2 r h))

fixed-one : (e : Engine) (a : Act) (l l' : Life) → told e a l ≡ living l' → Fixed l l'
unfolding told
fixed-one e (frame seconds) l l' q =
    by-case (due e l) (λ y. absurd (not_living l' (picked (due e l) freed (living l) y ∙ q))) (λ n. same l l' (passed (due e l) freed (living l) n ∙ q))
fixed-one e retire l l' q = marked e.clock.sample l l' q
fixed-one e (retire_bound slot) l l' q =
    by-case (option_eq eqb l.source (Some slot)) (λ y. marked e.clock.sample l l' (ap living (picked (option_eq eqb l.source (Some slot)) (retired_at e.clock.sample l) l y) ∙ q))
    (λ n. same l l' (ap living (passed (option_eq eqb l.source (Some slot)) (retired_at e.clock.sample l) l n) ∙ q))
fixed-one e (birth index own) l l' q = same l l' q
fixed-one e (retune slot hz) l l' q = same l l' q
fixed-one e (source slot s) l l' q = same l l' q
fixed-one e (streams ss) l l' q = same l l' q
fixed-one e (next n) l l' q = same l l' q
fixed-one e (clock k) l l' q = same l l' q
fixed-one e (weights ws) l l' q = same l l' q
fixed-one e (settings c) l l' q = same l l' q

pub fixed : (e : Engine) (later : List Act) (l l' : Life) → story e later l ≡ living l' → Fixed l l'
unfolding story
fixed e [] l l' s = same l l' s
fixed e (a ∷ rest) l l' s = go (told e a l) refl s (λ (m : Life). fixed (act e a) rest m l')
  where
    go : (f : Fate) → told e a l ≡ f → lives_on f (story (act e a) rest) ≡ living l' → ((m : Life) → story (act e a) rest m ≡ living l' → Fixed m l') → Fixed l l'
    go freed q s ih = absurd (not_living l' s)
    go (living m) q s ih = fixed_on l m l' (fixed-one e a l m q) (ih m s)

-- ---- ends
pub first-due : (e : Engine) (later : List Act) (l : Life) → story e later l ≡ freed → FirstDue e later l
unfolding story perform
first-due e [] l s = absurd (not_living l (sym s))
first-due e (a ∷ rest) l s = go (told e a l) refl s (λ (m : Life). first-due (act e a) rest m)
  where
    go : (f : Fate) → told e a l ≡ f → lives_on f (story (act e a) rest) ≡ freed → ((m : Life) → story (act e a) rest m ≡ freed → FirstDue (act e a) rest m) → FirstDue e (a ∷ rest) l
    go freed q s ih =
        let d = frees-only e a l q in
        record { before = []; seconds = d.seconds; after = rest; then = l; split = ap {B = List Act} (λ b. b ∷ rest) d.is; lives = refl; is_due = d.when }
    go (living m) q s ih =
        let d = ih m s in
        record {
          before = a ∷ d.before;
          seconds = d.seconds;
          after = d.after;
          then = d.then;
          split = ap {B = List Act} (λ r. a ∷ r) d.split;
          lives = ap (λ (f : Fate). lives_on f (story (act e a) d.before)) q ∙ d.lives;
          is_due = d.is_due;
        }

pub ends : (e : Engine) (i : ℕ) → Held e i → (later : List Act) → story e later (life_of (place e i)) ≡ freed
    → (d : FirstDue e later (life_of (place e i))) × (place (act (perform e d.before) (frame d.seconds)) i ≡ free_particle)
ends e i h later s =
    let d = first-due e later (life_of (place e i)) s in
    let k = keeps e d.before i h d.then d.lives in
    (d, frees (perform e d.before) i k.0 d.seconds (subst (λ (l : Life). due (perform e d.before) l ≡ true) (sym k.1) d.is_due))

-- ---- born
Lived : Engine → List Act → ℕ → Type 0
Lived e acts i = Held e i × (story e acts (life_of (place e i)) ≡ living (life_of (place (perform e acts) i)))

earlier : (e : Engine) (a : Act) (rest : List Act) (i : ℕ) (l : Life) → Born (act e a) rest i l → Born e (a ∷ rest) i l
unfolding perform
earlier e a rest i l b =
    record {
      before = a ∷ b.before;
      index = b.index;
      own = b.own;
      after = b.after;
      split = ap {B = List Act} (λ r. a ∷ r) b.split;
      lowest = b.lowest;
      allowed = b.allowed;
      inside = b.inside;
      lives = b.lives;
    }

pub was_held : (e : Engine) (a : Act) (i : ℕ) → Held (act e a) i → Held e i ⊎ Newly e a i
was_held e a i h = go (changed e a i)
  where
    go : (place (act e a) i ≡ touched e a (place e i)) ⊎ Newly e a i → Held e i ⊎ Newly e a i
    go (inl q) = by-case (place e i).active (λ y. inl y) (λ n. absurd (true≢false (sym h ∙ ap (λ (p : Particle). p.active) (q ∙ untouched e a (place e i) n) ∙ n)))
    go (inr n) = inr n

begun : (e : Engine) (a : Act) (rest : List Act) (i : ℕ) (l : Life) → Newly e a i → story (act e a) rest (life_of (place (act e a) i)) ≡ living l → Born e (a ∷ rest) i l
unfolding perform
begun e a rest i l n s =
    record {
      before = [];
      index = n.index;
      own = n.own;
      after = rest;
      split = ap {B = List Act} (λ b. b ∷ rest) n.is;
      lowest = n.taking.low;
      allowed = n.taking.allowed;
      inside = n.taking.inside;
      lives =
          subst (λ (x : Life). story (act e (birth n.index n.own)) rest x ≡ living l) (ap life_of n.taking.now_is)
          (subst (λ (b : Act). story (act e b) rest (life_of (place (act e a) i)) ≡ living l) n.is s);
    }

traced : (e : Engine) (acts : List Act) (i : ℕ) → Held (perform e acts) i → Born e acts i (life_of (place (perform e acts) i)) ⊎ Lived e acts i
unfolding perform story Lived
traced e [] i h = inr (h, refl)
traced e (a ∷ rest) i h = go (traced (act e a) rest i h)
  where
    held : Held (act e a) i → story (act e a) rest (life_of (place (act e a) i)) ≡ living (life_of (place (perform (act e a) rest) i)) → Held e i
        → lives_on (told e a (life_of (place e i))) (story (act e a) rest) ≡ living (life_of (place (perform (act e a) rest) i))
    held h' s y =
        ap (λ (f : Fate). lives_on f (story (act e a) rest)) (fate_after e a i y ∙ sym (picked (place (act e a) i).active (living (life_of (place (act e a) i))) freed h')) ∙ s

    go : Born (act e a) rest i (life_of (place (perform (act e a) rest) i)) ⊎ Lived (act e a) rest i
        → Born e (a ∷ rest) i (life_of (place (perform e (a ∷ rest)) i)) ⊎ Lived e (a ∷ rest) i
    go (inl b) = inl (earlier e a rest i (life_of (place (perform (act e a) rest) i)) b)
    go (inr x) = ⊎_elim {A = Held e i} {B = Newly e a i} (λ y. inr (y, held x.0 x.1 y)) (λ n. inl (begun e a rest i _ n x.1)) (was_held e a i x.0)

-- a run that begins with no place held: who holds a place was born in it
pub born : (e : Engine) (acts : List Act) → ((i : ℕ) → (place e i).active ≡ false) → (i : ℕ) → Held (perform e acts) i → Born e acts i (life_of (place (perform e acts) i))
unfolding Lived
born e acts none i h =
    ⊎_elim {A = Born e acts i (life_of (place (perform e acts) i))} {B = Lived e acts i} (λ b. b) (λ x. absurd (true≢false (sym x.0 ∙ none i))) (traced e acts i h)

-- ---- a permitted birth inside the attempt limit
pub below_not : (n : ℕ) → n < 64 → eqb n 64 ≡ false
below_not n h = ne_eqb n 64 (λ q. absurd (omega (arith, q)))

pub moved_on : (n : ℕ) → n ≡ grown n → ⊥
moved_on n h = omega arith

open_to : (e : Engine) (index : ℕ) (own : Option ℕ) → permitted e index own ≡ true → is_barred (chosen_for e index own) e.next.note_input_present ≡ false
open_to e index own p = go (is_barred (chosen_for e index own) e.next.note_input_present) (barred-is e index own ∙ p)
  where
    go : (b : Bool) → not b ≡ true → b ≡ false
    go true q = absurd (true≢false (sym q))
    go false q = refl

module _ (e : Engine) (len : length e.particles ≡ 64) (index : ℕ) (own : Option ℕ) (a : eqb e.tally.attempts 64 ≡ false) (p : permitted e index own ≡ true) where
  abbrev slot : Option ℕ
  slot = chosen_for e index own

  -- the attempt is counted
  abbrev out : Engine
  out = with_tally (with_next e (with_last e.next slot)) (tried_one e.tally)

  reached : admitted_of out index slot ≡ act e (birth index own)
  unfolding act born_of attempted_of
  reached = passed (is_barred slot e.next.note_input_present) _ _ (open_to e index own p) ∙ passed (eqb e.tally.attempts 64) _ _ a

  pub settled_so : ltb (free_place e.particles) 64 ≡ true → settled_at out (free_place e.particles) (newborn e index own) index ≡ act e (birth index own)
  unfolding admitted_of newborn_for voice_for
  settled_so f = picked (ltb (free_place e.particles) 64) _ _ f ∙ reached

  pub dropped_so : ltb (free_place e.particles) 64 ≡ false → with_tally out (dropped_one out.tally) ≡ act e (birth index own)
  unfolding admitted_of
  dropped_so f = passed (ltb (free_place e.particles) 64) _ _ f ∙ reached

  abbrev drops : Engine → ℕ
  drops x = x.tally.dropped

  there : (act e (birth index own)).tally.dropped ≡ grown e.tally.dropped → (i : ℕ) → i < 64 → Held e i
  unfolding born_one
  there h i l =
      by-case (ltb (free_place e.particles) 64) (λ f. absurd (moved_on e.tally.dropped (ap drops (settled_so f) ∙ h)))
      (λ f. held_below e.particles i (let g : 64 ≤ free_place e.particles = ltb-false _ _ f in omega arith))

  back : ((i : ℕ) → i < 64 → Held e i) → (act e (birth index own)).tally.dropped ≡ grown e.tally.dropped
  back h =
      by-case (ltb (free_place e.particles) 64)
      (λ f.
      let g = ltb-true _ _ f in
      absurd (true≢false (sym (h (free_place e.particles) g) ∙ (lowest-is e (omega (arith, len))).0)))
      (λ f. sym (ap drops (dropped_so f)))

  pub dropped : ((act e (birth index own)).tally.dropped ≡ grown e.tally.dropped) ↔ ((i : ℕ) → i < 64 → Held e i)
  dropped = (there, back)

  pub placed : (i : ℕ) → i < 64 → Lowest e i → place (act e (birth index own)) i ≡ newborn e index own
  placed i l low =
      let s : i ≡ free_place e.particles = first-is is_free free_particle e.particles i (omega (arith, len)) (ap not low.0) (λ j m. ap not (low.1 j m)) in
      let f = lt-ltb (free_place e.particles) 64 (omega arith) in
      ap (λ (x : Engine). place x i) (sym (settled_so f))
      ∙ ap (λ (k : ℕ). get_or (set e.particles (free_place e.particles) (newborn e index own)) k free_particle) s
      ∙ get_or-set_same e.particles (free_place e.particles) (newborn e index own) free_particle (omega (arith, len))
