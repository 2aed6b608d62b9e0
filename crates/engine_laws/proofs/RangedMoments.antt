-- The ranges of clock, streams and opportunity hold at every moment of a run: after each act of a call, between two births of one sample too.
use Prim.Native.Nat.{ℕ, zero, suc, ◌+◌, ◌^◌, ◌≤◌, ◌<◌}
use native.Mathlib.Omega.{arith}
use mathlib.Core.Path.{◌≡◌, refl, sym, subst}
use Rattle.std.specs.Prelude.{Option}
use mathlib.Core.List.{List, [], ◌∷◌, ◌++◌}
use borrow.Author.Tests.{ltb-false, leb-true}
use lib.Dec.{ltb, leb}
use lib.ListN.{get_or}
use lib.Ieee.{Float, lt, le}
use Rattle.sequences.specs.Pick.{either}
use Rattle.sequences.specs.Every.{Every, in_case}
use Rattle.sequences.specs.Times.{iterate}
use Rattle.refusals.specs.Numbers.{Answer}
use Rattle.settings.specs.declared.Config.{Config}
use Rattle.settings.specs.declared.Shape.{Shape}
use Rattle.settings.specs.declared.Shape.TheVariants.{Sprinkle, Cloud}
use Rattle.settings.specs.Settings.{max_hop, checked_of}
use Rattle.settings.specs.Mending.{mended_of}
use Rattle.timing.specs.Streams.{reference_of}
use Rattle.timing_laws.proofs.Lanes.{Streamed, all-aligned}
use Rattle.engine_laws.proofs.Clocks.{Clocked, Reach, reference_reach}
use Rattle.engine_laws.proofs.Opportunities.{opportunity_most}
use Rattle.state.specs.declared.Engine.{Engine}
use Rattle.state.specs.State.{with_config, past_stream}
use Rattle.births.specs.Birth.{born_of, attempted_of, admitted_of}
use Rattle.engine_samples.specs.Sample.{tried_of, lane_of, delivered_of, stepped_of}
use Rattle.engine_changes.specs.Changes.{retired_all, reweighed, switched, offset, sought_clock}
use Rattle.engine_triggers.specs.Triggers.{reserved_of}
use Rattle.frame.specs.Call.{renewed_of}
use Rattle.engine_laws.specs.Acts.{Act, birth, retire, retire_bound, retune, frame, source, streams, next, clock, weights, settings, act, perform, tried_acts, lane_acts, shape_acts, deliver_acts, sample_acts, advance_acts, restart_acts, weigh_acts, switch_acts, offset_acts, configure_acts, checked_acts, trigger_acts, Call, configure, note_input, set_source, retire_source, release_source, trigger, reserve, reserved, seek, advance, take_frame, Typed, acts_of}
use Rattle.engine_samples.proofs.Untouched.{delivered_keeps}
use Rattle.engine_laws.proofs.Joins.{steps_count}
use Rattle.engine_laws.proofs.Sound.{Sound, Settled}
use Rattle.engine_laws.proofs.Stays.{sound_config}
use Rattle.engine_laws.proofs.Performed.{tried, lane_done, deliver_done, weigh_done, switch-done, offset-done, advance-done}
use Rattle.engine_laws.proofs.Moments.{AllMeant, sound_performed, meant_before, meant_after}
use Rattle.engine_laws.proofs.Ranged.{Ranged, ticked_clocked, engine_reach, moved-lanes, moved-opportunity, offset_clocked, all-prepared, sought_clocked, sought_opportunity_lem}

-- what is true besides of an act that a call makes: three groups have ranges
abbrev pub Inside : Engine → Act → Type 0
Inside e (birth index own) = Unit {0}
Inside e retire = Unit {0}
Inside e (retire_bound slot) = Unit {0}
Inside e (retune slot hz) = Unit {0}
Inside e (frame seconds) = Unit {0}
Inside e (source slot s) = Unit {0}
Inside e (streams ss) = Every Streamed ss
Inside e (next n) = n.opportunity ≤ opportunity_most
Inside e (clock k) = Clocked k
Inside e (weights ws) = Unit {0}
Inside e (settings c) = Unit {0}

-- an engine with the same three groups
same : (e x : Engine) → x.clock ≡ e.clock → x.streams ≡ e.streams → x.next.opportunity ≡ e.next.opportunity → Ranged e → Ranged x
same e x k l n g =
    record { clocked = subst Clocked (sym k) g.clocked; streamed = subst (Every Streamed) (sym l) g.streamed; opportunity = subst (λ (i : ℕ). i ≤ opportunity_most) (sym n) g.opportunity }

ranged_born : (e : Engine) (index : ℕ) (own : Option ℕ) → Ranged e → Ranged (born_of e index own)
unfolding born_of attempted_of admitted_of
ranged_born e index own g =
    either Ranged _ _ _ (same e _ refl refl refl g) (either Ranged _ _ _ (same e _ refl refl refl g) (either Ranged _ _ _ (same e _ refl refl refl g) (same e _ refl refl refl g)))

ranged_act : (e : Engine) (a : Act) → Inside e a → Ranged e → Ranged (act e a)
unfolding act retired_all renewed_of
ranged_act e (birth index own) m g = ranged_born e index own g
ranged_act e retire m g = same e _ refl refl refl g
ranged_act e (retire_bound slot) m g = same e _ refl refl refl g
ranged_act e (retune slot hz) m g = same e _ refl refl refl g
ranged_act e (frame seconds) m g = same e _ refl refl refl g
ranged_act e (source slot x) m g = same e _ refl refl refl g
ranged_act e (streams ss) m g = record { clocked = g.clocked; streamed = m; opportunity = g.opportunity }
ranged_act e (next n) m g = record { clocked = g.clocked; streamed = g.streamed; opportunity = m }
ranged_act e (clock k) m g = record { clocked = m; streamed = g.streamed; opportunity = g.opportunity }
ranged_act e (weights ws) m g = same e _ refl refl refl g
ranged_act e (settings c) m g = same e _ refl refl refl g

-- ---- lists of acts
abbrev pub AllInside : Engine → List Act → Type 0
AllInside e [] = Unit {0}
AllInside e (a ∷ rest) = Inside e a × AllInside (act e a) rest

pub ranged_performed : (e : Engine) (acts : List Act) → AllInside e acts → Ranged e → Ranged (perform e acts)
unfolding perform
ranged_performed e [] m g = g
ranged_performed e (a ∷ rest) m g = ranged_performed (act e a) rest m.1 (ranged_act e a m.0 g)

pub inside_append : (e : Engine) (xs ys : List Act) → AllInside e xs → AllInside (perform e xs) ys → AllInside e (xs ++ ys)
unfolding perform
inside_append e [] ys m n = n
inside_append e (x ∷ xs) ys m n = (m.0, inside_append (act e x) xs ys m.1 n)

pub inside-before : (e : Engine) (xs ys : List Act) → AllInside e (xs ++ ys) → AllInside e xs
inside-before e [] ys m = tt
inside-before e (x ∷ xs) ys m = (m.0, inside-before (act e x) xs ys m.1)

-- what a part's proof is given: where it starts, and that its acts are meant
abbrev Given : Engine → List Act → Type 0
Given e acts = Sound e × Ranged e × AllMeant e acts

-- one part, then another from where the first leads
then : (e e' : Engine) (xs ys : List Act) → perform e xs ≡ e' → Given e (xs ++ ys) → (Given e xs → AllInside e xs) → (Given e' ys → AllInside e' ys) → AllInside e (xs ++ ys)
then e e' xs ys q v m n =
    let b = meant_before e xs ys v.2 in
    let i = m (v.0, v.1, b) in
    let s = sound_performed e xs b v.0 in
    let g = ranged_performed e xs i v.1 in
    inside_append e xs ys i
    (subst (λ (x : Engine). AllInside x ys) (sym q) (n (subst Sound q s, subst Ranged q g, subst (λ (x : Engine). AllMeant x ys) q (meant_after e xs ys v.2))))

-- ---- a sample
tried-inside : (e : Engine) (lane : ℕ) (reference : Float) → lane < 3 → Reach reference → Sound e → Ranged e → AllInside e (tried_acts e lane reference)
unfolding tried_acts act
tried-inside e lane reference h r s g =
    in_case (AllInside e) (lt reference (get_or e.streams lane past_stream).next) _ _ (λ q. tt)
    (λ q. (moved-lanes e s g lane reference h r q, either (AllInside _) _ _ _ (either (AllInside _) _ _ _ (tt, tt) tt) tt))

lane_inside : (e : Engine) (lane : ℕ) (reference : Float) → lane < 3 → Reach reference → Given e (lane_acts e lane reference) → AllInside e (lane_acts e lane reference)
unfolding lane_acts
lane_inside e lane reference h r v =
    then e (tried_of e lane reference) (tried_acts e lane reference) _ (tried e lane reference) v (λ w. tried-inside e lane reference h r w.0 w.1)
    (λ w. tried-inside (tried_of e lane reference) lane reference h r w.0 w.1)

shape-inside : (shape : Shape) (e : Engine) (reference : Float) → Reach reference → Given e (shape_acts shape e reference) → AllInside e (shape_acts shape e reference)
unfolding shape_acts act
shape-inside Sprinkle e reference r v =
    let one = lane_of e 0 reference in
    then e one (lane_acts e 0 reference) _ (lane_done e 0 reference) v (lane_inside e 0 reference (omega arith) r)
    (λ w.
    then one (lane_of one 1 reference) (lane_acts one 1 reference) _ (lane_done one 1 reference) w (lane_inside one 1 reference (omega arith) r)
    (lane_inside (lane_of one 1 reference) 2 reference (omega arith) r))
shape-inside Cloud e reference r v =
    in_case (AllInside e) (le (reference_of e.next.opportunity) reference) _ _ (λ q. (moved-opportunity e v.0 v.1 reference r q, either (AllInside _) _ _ _ (tt, tt) tt)) (λ q. tt)

deliver_inside : (e : Engine) → Given e (deliver_acts e) → AllInside e (deliver_acts e)
unfolding deliver_acts
deliver_inside e v =
    either (λ acts. AllMeant e acts → AllInside e acts) _ _ _ (λ m. shape-inside e.config.shape e _ (engine_reach e v.0 v.1) (v.0, v.1, m)) (λ m. tt) v.2

sample_inside : (e : Engine) → e.clock.sample + 1 ≤ 2 ^ 40 → Given e (sample_acts e) → AllInside e (sample_acts e)
unfolding sample_acts
sample_inside e h v =
    let now : (delivered_of e).clock.sample ≡ e.clock.sample = delivered_keeps (λ (x : Engine). x.clock.sample) (λ e ps n t. refl) (λ e ss. refl) e in
    then e (delivered_of e) (deliver_acts e) _ (deliver_done e) v (deliver_inside e) (λ w. (ticked_clocked (delivered_of e) w.0 w.1 (omega (arith, now)), tt))

advance-inside : (n : ℕ) (e : Engine) → e.clock.sample + n ≤ 2 ^ 40 → Given e (advance_acts n e) → AllInside e (advance_acts n e)
unfolding advance_acts
advance-inside zero e h v = tt
advance-inside (suc n) e h v =
    let k = steps_count n e (omega arith) in
    then e (iterate stepped_of n e) (advance_acts n e) _ (advance-done n e) v (advance-inside n e (omega arith)) (sample_inside (iterate stepped_of n e) (omega (arith, k)))

-- ---- configure
restart-inside : (e : Engine) (old : Config) → Sound e → Ranged e → AllInside e (restart_acts e old)
unfolding restart_acts
restart-inside e old s g =
    either (AllInside e) _ _ _ (all-aligned _ e.config.sync (engine_reach e s g).1, tt) (either (AllInside e) _ _ _ tt (all-prepared e s g e.config.sync, tt))

configure-inside : (e : Engine) (c : Config) → Settled c → Given e (configure_acts e c) → AllInside e (configure_acts e c)
unfolding configure_acts weigh_acts switch_acts offset_acts act
configure-inside e c h v =
    let weighed = reweighed e c in
    let kind = switched weighed c in
    let moved = offset kind c.phase in
    then e weighed (weigh_acts e c) _ (weigh_done e c) v (λ w. either (AllInside e) _ _ _ tt (tt, tt))
    (λ t.
    then weighed kind (switch_acts weighed c) _ (switch-done weighed c) t (λ w. either (AllInside weighed) _ _ _ tt (tt, tt))
    (λ u.
    then kind moved (offset_acts kind c.phase) _ (offset-done kind c.phase) u (λ w. either (AllInside kind) _ _ _ (offset_clocked c h kind.clock w.1.clocked, tt) tt)
    (λ x. (tt, restart-inside (with_config moved c) e.config (sound_config moved c x.0 h) (same moved _ refl refl refl x.1)))))

checked-inside : (e : Engine) (c : Config) → Typed (configure c) → Given e (checked_acts (checked_of c) e c) → AllInside e (checked_acts (checked_of c) e c)
unfolding checked_of
checked-inside e c f v =
    in_case (λ (a : Answer). AllMeant e (checked_acts a e c) → AllInside e (checked_acts a e c)) (ltb max_hop c.hop_samples) _ _ (λ q m. tt)
    (λ q m. configure-inside e (mended_of c) (record { asked = c; singles = f; hop = ltb-false _ _ q; is = refl }) (v.0, v.1, m)) v.2

-- ---- triggers
trigger-inside : (e : Engine) (slot index : ℕ) → AllInside e (trigger_acts e slot index)
unfolding trigger_acts
trigger-inside e slot index = either (AllInside e) _ _ _ (either (AllInside e) _ _ _ (tt, tt) tt) tt

-- ---- every call
pub calls-inside : (e : Engine) (c : Call) → Typed c → Sound e → Ranged e → AllMeant e (acts_of e c) → AllInside e (acts_of e c)
unfolding acts_of act retired_all reserved_of
calls-inside e (configure c) f s g m = checked-inside e c f (s, g, m)
calls-inside e (note_input present) f s g m = (g.opportunity, tt)
calls-inside e (set_source slot x) f s g m = either (AllInside e) _ _ _ (either (AllInside e) _ _ _ tt (tt, either (AllInside _) _ _ _ (tt, tt) tt)) tt
calls-inside e (retire_source slot) f s g m = either (AllInside e) _ _ _ (tt, (tt, tt)) tt
calls-inside e (release_source slot) f s g m = either (AllInside e) _ _ _ (tt, tt) tt
calls-inside e (trigger slot) f s g m = (g.opportunity, trigger-inside (reserved_of e).engine slot e.next.immediate_index)
calls-inside e reserve f s g m = (g.opportunity, tt)
calls-inside e (reserved slot index) f s g m = trigger-inside e slot index
calls-inside e (seek cycles) f s g m =
    let k = sought_clocked e s cycles f in
    (tt, (k, (sought_opportunity_lem e s cycles f, (all-aligned _ e.config.sync (reference_reach (sought_clock e cycles) k s.time).1, tt))))
calls-inside e (advance n) f s g m =
    in_case (λ acts. AllMeant e acts → AllInside e acts) (leb (e.clock.sample + n) (2 ^ 40)) _ _ (λ q w. advance-inside n e (leb-true _ _ q) (s, g, w)) (λ q w. tt) m
calls-inside e (take_frame bin_hz seconds) f s g m = either (AllInside e) _ _ _ (tt, tt) tt
