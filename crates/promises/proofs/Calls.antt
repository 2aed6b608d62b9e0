-- Demand 3 over calls: a call that is no accepted frame, or finds the particle not due, leaves it its place, and one that finds it due frees it.
use Prim.Native.Nat.{ℕ}
use mathlib.Core.Path.{◌≡◌, refl, sym, ap, ◌∙◌, subst}
use mathlib.Core.Logic.{◌↔◌}
use mathlib.Core.Bool.{true≢false}
use mathlib.Core.List.{List, [], ◌∷◌}
use Rattle.sequences.specs.Pick.{picked}
use Rattle.pool.specs.declared.Particle.{Particle}
use Rattle.pool.specs.Pool.{free_particle}
use Rattle.state.specs.declared.Engine.{Engine}
use Rattle.frame.specs.Frame.{accepted}
use Rattle.engine_laws.specs.Acts.{frame, perform, Call, acts_of, applied}
use Rattle.engine_laws.proofs.Performed.{calls_are_acts}
use Rattle.promises.specs.Life.{place, Held, Life, life_of, Fate, living, freed, story}
use Rattle.promises.specs.Runs.{run}
use Rattle.promises.specs.Demand3.{DueFrame, Fixed, NoneDue}
use Rattle.promises.proofs.Lives.{free-free}
use Rattle.promises.proofs.Stories.{keeps, fixed, fixed_on, frees}
use Rattle.promises.proofs.Quiet.{only_frames}

-- ---- one call
module _ (e : Engine) (c : Call) (i : ℕ) (h : Held e i) where
  abbrev life : Life
  life = life_of (place e i)

  -- a life that goes on over the call's acts keeps its place
  goes_on : (l : Life) → story e (acts_of e c) life ≡ living l → Held (applied e c) i × Fixed life (life_of (place (applied e c) i))
  goes_on l s =
      let k = keeps e (acts_of e c) i h l s in
      subst (λ (x : Engine). Held x i × Fixed life (life_of (place x i))) (calls_are_acts e c) (k.0, subst (Fixed life) (sym k.1) (fixed e (acts_of e c) life l s))

  held_on : (DueFrame e c life → ⊥) → Held (applied e c) i × Fixed life (life_of (place (applied e c) i))
  held_on n = go (story e (acts_of e c) life) refl
    where
      go : (f : Fate) → story e (acts_of e c) life ≡ f → Held (applied e c) i × Fixed life (life_of (place (applied e c) i))
      go (living l) s = goes_on l s
      go freed s = absurd (n (only_frames e c life s))

  due-frees : DueFrame e c life → place (applied e c) i ≡ free_particle
  unfolding acts_of perform
  due-frees d =
      let acts : acts_of e c ≡ frame d.seconds ∷ [] = ap (acts_of e) d.is ∙ sym (picked (accepted d.seconds) (frame d.seconds ∷ []) [] d.taken) in
      ap (λ (x : Engine). place x i) (sym (calls_are_acts e c) ∙ ap (perform e) acts) ∙ frees e i h d.seconds d.is_due

  freed-due : place (applied e c) i ≡ free_particle → DueFrame e c life
  freed-due q = go (story e (acts_of e c) life) refl
    where
      go : (f : Fate) → story e (acts_of e c) life ≡ f → DueFrame e c life
      go (living l) s = absurd (true≢false (sym (goes_on l s).0 ∙ ap (λ (p : Particle). p.active) q ∙ free-free))
      go freed s = only_frames e c life s

  pub freed-by : (place (applied e c) i ≡ free_particle) ↔ DueFrame e c life
  freed-by = (freed-due, due-frees)

-- ---- any calls
pub until : (e : Engine) (later : List Call) (i : ℕ) → Held e i → NoneDue e later i → Held (run e later) i × Fixed (life_of (place e i)) (life_of (place (run e later) i))
unfolding run
until e [] i h n = (h, (refl, refl, λ r q. q))
until e (c ∷ cs) i h n =
    let one = held_on e c i h n.0 in
    let rest = until (applied e c) cs i one.0 n.1 in
    (rest.0, fixed_on (life_of (place e i)) (life_of (place (applied e c) i)) (life_of (place (run (applied e c) cs) i)) one.1 rest.1)
