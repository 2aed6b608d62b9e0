-- Demand 3, of every moment of every run of calls, and over its calls.
use Prim.Native.Nat.{ℕ, zero, suc, ◌-◌, ◌^◌, ◌≤◌}
use native.Mathlib.Omega.{arith}
use mathlib.Core.Path.{◌≡◌, refl, sym, ap, ◌∙◌, subst}
use mathlib.Core.Bool.{false, true≢false}
use mathlib.Core.List.{List, [], ◌∷◌, ◌++◌}
use borrow.Author.Tests.{ltb-true, ltb-false}
use lib.Dec.{ltb}
use lib.ListN.{length, get_or, replicate, get_or-eq_default}
use lib.Ieee.{of_bits}
use Rattle.sequences.specs.Pick.{either, by-case}
use Rattle.pool.specs.Pool.{free_particle}
use Rattle.state.specs.declared.Done.{Done}
use Rattle.state.specs.declared.Engine.{Engine}
use Rattle.state.specs.declared.Prepared.{Prepared}
use Rattle.state.specs.Make.{no_particles, new_on}
use Rattle.engine.specs.New.{new_engine_of, reset_of}
use Rattle.frame.specs.Freed.{elapsed_of}
use Rattle.engine_laws.specs.Acts.{Act, perform, Call, acts_of, applied}
use Rattle.sequences.specs.Every.{every_at}
use Rattle.engine_laws.proofs.Sound as sound
use Rattle.engine_laws.proofs.Sound.{Sound, Fit}
use Rattle.engine_laws.proofs.Stays.{sound_new, sound_reset}
use Rattle.engine_laws.proofs.Performed.{perform_append, calls_are_acts}
use Rattle.engine_laws.proofs.Moments.{AllMeant, meant_append, meant_before, calls_meant, sound_performed, sound_applied}
use Rattle.promises.specs.Life.{place, Held}
use Rattle.promises.specs.Runs.{run, history, AllTyped, Begins, new, reset}
use Rattle.promises.specs.Demand3.{AtMoment, OverCalls, Demand3}
use Rattle.promises.proofs.Stories as stories
use Rattle.promises.proofs.Quiet.{only_frames}
use Rattle.promises.proofs.Calls.{until, freed-by}

-- ---- runs
-- a run of calls is the acts of its history, one after the other
pub run_is : (e : Engine) (cs : List Call) → perform e (history e cs) ≡ run e cs
unfolding run history perform
run_is e [] = refl
run_is e (c ∷ cs) =
    perform_append e (acts_of e c) (history (applied e c) cs) ∙ ap (λ (x : Engine). perform x (history (applied e c) cs)) (calls_are_acts e c) ∙ run_is (applied e c) cs

pub history_meant : (e : Engine) (cs : List Call) → AllTyped cs → Sound e → AllMeant e (history e cs)
unfolding history
history_meant e [] t s = tt
history_meant e (c ∷ cs) t s =
    let m = calls_meant e c t.0 s in
    let n = history_meant (applied e c) cs t.1 (sound_applied e c t.0 s) in
    meant_append e (acts_of e c) (history (applied e c) cs) m (subst (λ (x : Engine). AllMeant x (history (applied e c) cs)) (sym (calls_are_acts e c)) n)

pub sound_run : (e : Engine) (cs : List Call) → AllTyped cs → Sound e → Sound (run e cs)
sound_run e cs t s = subst Sound (run_is e cs) (sound_performed e (history e cs) (history_meant e cs t s) s)

-- ---- where they begin
abbrev NoneHeld : Engine → Type 0
NoneHeld e = (i : ℕ) → (place e i).active ≡ false

repeated : (n i : ℕ) → (get_or (replicate n free_particle) i free_particle).active ≡ false
unfolding free_particle
repeated zero i = refl
repeated (suc n) zero = refl
repeated (suc n) (suc i) = repeated n i

none-new : (p : Prepared) → NoneHeld (new_on p)
unfolding new_on no_particles
none-new p i = repeated 64 i

pub begins_sound : (e : Engine) → Begins e → Sound e × NoneHeld e
unfolding new_engine_of reset_of
begins_sound e (new rate f) = (sound_new rate f, either (λ (d : Done). NoneHeld d.engine) _ _ _ (none-new _) (none-new _))
begins_sound e (reset e' cs b t) = (sound_reset (run e' cs) (sound_run e' cs t (begins_sound e' b).0), none-new _)

-- ---- what a sound engine has at each place
held-fit : (e : Engine) → Sound e → (i : ℕ) → Held e i → Fit e.clock.sample (place e i)
held-fit e s i h =
    by-case (ltb i (length e.particles))
    (λ l. (every_at (sound.FitPlace e.clock.sample) e.particles i free_particle (ltb-true _ _ l) s.held).0 h)
    (λ l. absurd (true≢false (sym h ∙ ap (λ p. p.active) (get_or-eq_default e.particles free_particle (ltb-false _ _ l)) ∙ repeated 0 i)))

plain : (since now : ℕ) → since ≤ now → now ≤ 2 ^ 40 → elapsed_of since now ≡ now - since
plain since now h l = omega arith

-- ---- every moment of every run of calls
at_moment : (start : Engine) → Begins start → (cs : List Call) → AllTyped cs → (before after : List Act) → history start cs ≡ before ++ after
    → AtMoment start before (perform start before)
unfolding of_bits
at_moment start b cs t before after split =
    let e = perform start before in
    let s = begins_sound start b in
    let m = meant_before start before after (subst (AllMeant start) split (history_meant start cs t s.0)) in
    let now = sound_performed start before m s.0 in
    record {
      born = stories.born start before s.1;
      at_most_ten = λ i h. (held-fit e now i h).most;
      past = λ i h. plain (place e i).birth e.clock.sample (held-fit e now i h).born now.time;
      faded_since = λ i h r q. plain r e.clock.sample ((held-fit e now i h).retired r q).1 now.time;
      fixed = stories.fixed e;
      keeps = λ i h later l q. stories.keeps e later i h l q;
      ends = stories.ends e;
      only = only_frames e;
      dropped = λ index own a. stories.dropped e now.places index own (stories.below_not e.tally.attempts a);
      placed = λ index own a. stories.placed e now.places index own (stories.below_not e.tally.attempts a);
    }

-- ---- the calls of every run
over-calls : (start : Engine) → Begins start → (cs : List Call) → AllTyped cs → (i : ℕ) → Held (run start cs) i → OverCalls (run start cs) i
unfolding of_bits
over-calls start b cs t i h =
    let e = run start cs in
    let now = sound_run start cs t (begins_sound start b).0 in
    record { at_most_ten = (held-fit e now i h).most; until = λ later n. until e later i h n; frees = λ later n c. let u = until e later i h n in freed-by (run e later) c i u.0 }

-- THE PROMISE
pub demand3 : Demand3
demand3 =
    record {
      calls_are_acts = λ e c. calls_are_acts e c;
      runs_are_acts = λ e cs. run_is e cs;
      moments = λ start b cs t before after split. at_moment start b cs t before after split;
      calls = λ start b cs t i h. over-calls start b cs t i h;
    }
