-- What every run keeps: call by call and act by act, from where the run begins.
use mathlib.Core.Path.{sym, subst}
use mathlib.Core.List.{List, [], ◌∷◌}
use Rattle.state.specs.declared.Engine.{Engine}
use Rattle.engine_laws.specs.Acts.{perform, Call, acts_of, applied}
use Rattle.engine_laws.proofs.Sound.{Sound}
use Rattle.engine_laws.proofs.Performed.{calls_are_acts}
use Rattle.engine_laws.proofs.Moments.{AllMeant, meant_before, calls_meant, sound_performed, sound_applied}
use Rattle.engine_laws.proofs.Numbered.{numbered_performed}
use Rattle.engine_laws.proofs.Ranged.{Ranged, ranged_new, ranged_reset}
use Rattle.engine_laws.proofs.RangedMoments.{AllInside, ranged_performed, inside_append, inside-before, calls-inside}
use Rattle.engine_laws.proofs.Weighed.{Weighed, weighed-new, weighed-reset, weighed-applied}
use Rattle.engine_laws.proofs.Lawful.{lawful, own-weights}
use Rattle.promises.specs.Runs.{run, history, AllTyped, Begins, new, reset}
use Rattle.promises.specs.EveryRun.{EveryRun}
use Rattle.promises.proofs.Demand3.{run_is, history_meant, sound_run, begins_sound}
use Rattle.promises.proofs.PlacesHeld.{begins-numbered, numbered-run}

-- ---- a call
ranged_applied : (e : Engine) (c : Call) → AllInside e (acts_of e c) → Ranged e → Ranged (applied e c)
ranged_applied e c i g = subst Ranged (calls_are_acts e c) (ranged_performed e (acts_of e c) i g)

-- ---- a run
history-inside : (e : Engine) (cs : List Call) → AllTyped cs → Sound e → Ranged e → AllInside e (history e cs)
unfolding history
history-inside e [] t s g = tt
history-inside e (c ∷ cs) t s g =
    let m = calls_meant e c t.0 s in
    let i = calls-inside e c t.0 s g m in
    let n = history-inside (applied e c) cs t.1 (sound_applied e c t.0 s) (ranged_applied e c i g) in
    inside_append e (acts_of e c) (history (applied e c) cs) i (subst (λ (x : Engine). AllInside x (history (applied e c) cs)) (sym (calls_are_acts e c)) n)

ranged_run : (e : Engine) (cs : List Call) → AllTyped cs → Sound e → Ranged e → Ranged (run e cs)
ranged_run e cs t s g = subst Ranged (run_is e cs) (ranged_performed e (history e cs) (history-inside e cs t s g) g)

weighed-run : (e : Engine) (cs : List Call) → AllTyped cs → Sound e → Weighed e → Weighed (run e cs)
unfolding run
weighed-run e [] t s w = w
weighed-run e (c ∷ cs) t s w = weighed-run (applied e c) cs t.1 (sound_applied e c t.0 s) (weighed-applied e c t.0 s w)

begins_ranged : (e : Engine) → Begins e → Ranged e × Weighed e
begins_ranged e (new rate f) = (ranged_new rate, weighed-new rate)
begins_ranged e (reset e' cs b t) = (ranged_reset (run e' cs), weighed-reset (run e' cs) (sound_run e' cs t (begins_sound e' b).0))

-- THE PROMISE
pub every_run : EveryRun
every_run =
    record {
      lawful = λ start b cs t.
          let s = (begins_sound start b).0 in
          lawful (run start cs) (sound_run start cs t s) (ranged_run start cs t s (begins_ranged start b).0) (numbered-run start cs (begins-numbered start b));
      lawful_within = λ start b cs t before after split.
          let s = (begins_sound start b).0 in
          let g = (begins_ranged start b).0 in
          let m = meant_before start before after (subst (AllMeant start) split (history_meant start cs t s)) in
          let i = inside-before start before after (subst (AllInside start) split (history-inside start cs t s g)) in
          lawful (perform start before) (sound_performed start before m s) (ranged_performed start before i g) (numbered_performed start before (begins-numbered start b));
      weighed = λ start b cs t.
          let s = (begins_sound start b).0 in
          own-weights (run start cs) (sound_run start cs t s) (weighed-run start cs t s (begins_ranged start b).1);
    }
