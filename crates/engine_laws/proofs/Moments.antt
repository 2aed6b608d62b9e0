-- An engine is sound at every moment of a run: after each act of a call, between two births of one sample too.
use Prim.Native.Nat.{ℕ, zero, suc, ◌+◌, ◌^◌, ◌≤◌, ◌<◌}
use native.Mathlib.Nat.{le_refl}
use native.Mathlib.Omega.{arith}
use mathlib.Core.Path.{◌≡◌, refl, sym, ◌∙◌, subst}
use mathlib.Core.Bool.{true}
use mathlib.Core.List.{List, [], ◌∷◌, ◌++◌}
use borrow.Author.Tests.{ltb-true, ltb-false, leb-true}
use lib.Dec.{T, ltb, leb}
use lib.Pow.{pow_pos}
use lib.ListN.{length, length-set}
use lib.Ieee.{Float, binary32, fits, lt}
use lib.Ieee.Scale.{finite}
use Rattle.sequences.specs.Pick.{either}
use Rattle.sequences.specs.Times.{iterate}
use Rattle.floats_laws.proofs.Rising.{nought}
use Rattle.pool.specs.Pool.{retire_bound_one, retune_one}
use Rattle.refusals.specs.Numbers.{Answer}
use Rattle.settings.specs.declared.Config.{Config}
use Rattle.settings.specs.declared.Shape.{Shape}
use Rattle.settings.specs.declared.Shape.TheVariants.{Sprinkle, Cloud}
use Rattle.settings.specs.Settings.{max_hop, checked_of}
use Rattle.settings.specs.Mending.{mended_of}
use Rattle.sources.specs.Sources.{is_pitched}
use Rattle.state.specs.declared.Engine.{Engine}
use Rattle.state.specs.State.{with_config, past_source}
use Rattle.engine_samples.specs.Sample.{tried_of, lane_of, delivered_of, ticked_of, stepped_of}
use Rattle.engine_changes.specs.Changes.{retired_all, reweighed, switched, offset}
use Rattle.engine_triggers.specs.Triggers.{is_permitted, reserved_of}
use Rattle.frame.specs.Frame.{accepted}
use Rattle.frame_laws.proofs.Background.{activity_unit}
use Rattle.engine_laws.specs.Acts.{Act, birth, retire, retire_bound, retune, frame, source, streams, next, clock, weights, settings, act, perform, tried_acts, lane_acts, shape_acts, deliver_acts, sample_acts, advance_acts, restart_acts, weigh_acts, switch_acts, offset_acts, configure_acts, checked_acts, trigger_acts, Call, configure, note_input, set_source, retire_source, release_source, trigger, reserve, reserved, seek, advance, take_frame, Singles, Typed, acts_of, applied}
use Rattle.sequences.specs.Every.{every_get_or, in_case}
use Rattle.engine_samples.proofs.Untouched.{delivered_keeps}
use Rattle.engine_laws.proofs.Joins.{steps_count, grown_small}
use Rattle.engine_laws.proofs.Sound.{Sound, Settled, Slot, Sounding, past_formed}
use Rattle.engine_laws.proofs.Kept.{held-retire-bound, held-retune-one}
use Rattle.engine_laws.proofs.Voices.{FormedSource, pitched-sounds}
use Rattle.engine_laws.proofs.Chosen.{sound_next, sound_born}
use Rattle.engine_laws.proofs.Stays.{sound_streams, sound_clock, sound_config, sound_weights, sound_source, sound_mapped, sound_retired, no_source_formed, three-aligned, three-prepared, permitted-sounding}
use Rattle.engine_laws.proofs.Frames.{sound_renewed}
use Rattle.engine_laws.proofs.Performed.{tried, lane_done, deliver_done, weigh_done, switch-done, offset-done, advance-done, calls_are_acts}
use Rattle.timing_laws.proofs.Moves.{after-under}
use denote.Floats.{passes}

-- what is true of an act that a call makes
abbrev pub Meant : Engine → Act → Type 0
Meant e (birth index own) = Sounding e.sources own
Meant e retire = Unit {0}
Meant e (retire_bound slot) = Unit {0}
Meant e (retune slot hz) = T (fits binary32 hz) × (T (lt nought hz) × T (finite hz))
Meant e (frame seconds) = T (fits binary32 seconds) × (accepted seconds ≡ true)
Meant e (source slot s) = FormedSource s
Meant e (streams ss) = length ss ≡ 3
Meant e (next n) = Slot n.last_source × (n.immediate_index < 2 ^ 64)
Meant e (clock k) = (e.clock.sample ≤ k.sample) × (k.sample ≤ 2 ^ 40)
Meant e (weights ws) = Unit {0}
Meant e (settings c) = Settled c

sound_act : (e : Engine) (a : Act) → Meant e a → Sound e → Sound (act e a)
unfolding act
sound_act e (birth index own) m s = sound_born e index own s m
sound_act e retire m s = sound_retired e s
sound_act e (retire_bound slot) m s = sound_mapped e (retire_bound_one slot e.clock.sample) s (held-retire-bound slot e.clock.sample)
sound_act e (retune slot hz) m s = sound_mapped e (retune_one slot hz) s (held-retune-one slot e.clock.sample hz m.0 m.1)
sound_act e (frame seconds) m s = sound_renewed e _ (activity_unit e.activity e.config.enabled seconds m.0 (passes (accepted seconds) m.1) s.active) s
sound_act e (source slot x) m s = sound_source e slot x m s
sound_act e (streams ss) m s = sound_streams e ss m s
sound_act e (next n) m s = sound_next e n s m.0 m.1
sound_act e (clock k) m s = sound_clock e k s m.0 m.1
sound_act e (weights ws) m s = sound_weights e ws s
sound_act e (settings c) m s = sound_config e c s m

-- ---- lists of acts
abbrev pub AllMeant : Engine → List Act → Type 0
AllMeant e [] = Unit {0}
AllMeant e (a ∷ rest) = Meant e a × AllMeant (act e a) rest

pub sound_performed : (e : Engine) (acts : List Act) → AllMeant e acts → Sound e → Sound (perform e acts)
unfolding perform
sound_performed e [] m s = s
sound_performed e (a ∷ rest) m s = sound_performed (act e a) rest m.1 (sound_act e a m.0 s)

pub meant_append : (e : Engine) (xs ys : List Act) → AllMeant e xs → AllMeant (perform e xs) ys → AllMeant e (xs ++ ys)
unfolding perform
meant_append e [] ys m n = n
meant_append e (x ∷ xs) ys m n = (m.0, meant_append (act e x) xs ys m.1 n)

pub meant_before : (e : Engine) (xs ys : List Act) → AllMeant e (xs ++ ys) → AllMeant e xs
meant_before e [] ys m = tt
meant_before e (x ∷ xs) ys m = (m.0, meant_before (act e x) xs ys m.1)

pub meant_after : (e : Engine) (xs ys : List Act) → AllMeant e (xs ++ ys) → AllMeant (perform e xs) ys
unfolding perform
meant_after e [] ys m = m
meant_after e (x ∷ xs) ys m = meant_after (act e x) xs ys m.1

-- one part, then another from where the first leads
then : (e e' : Engine) (xs ys : List Act) → perform e xs ≡ e' → Sound e → AllMeant e xs → (Sound e' → AllMeant e' ys) → AllMeant e (xs ++ ys)
then e e' xs ys q s m n =
    meant_append e xs ys m (subst (λ (x : Engine). AllMeant x ys) (sym q) (n (subst Sound q (sound_performed e xs m s))))

-- ---- a sample
tried_meant : (e : Engine) (lane : ℕ) (reference : Float) → Sound e → AllMeant e (tried_acts e lane reference)
unfolding tried_acts act
tried_meant e lane reference s =
    either (AllMeant e) _ _ _ tt (length-set e.streams lane _ ∙ s.lanes, either (AllMeant _) _ _ _ (either (AllMeant _) _ _ _ (tt, tt) tt) tt)

lane_meant : (e : Engine) (lane : ℕ) (reference : Float) → Sound e → AllMeant e (lane_acts e lane reference)
unfolding lane_acts
lane_meant e lane reference s =
    then e (tried_of e lane reference) (tried_acts e lane reference) _ (tried e lane reference) s (tried_meant e lane reference s) (λ t. tried_meant (tried_of e lane reference) lane reference t)

shape_meant : (shape : Shape) (e : Engine) (reference : Float) → Sound e → AllMeant e (shape_acts shape e reference)
unfolding shape_acts act
shape_meant Sprinkle e reference s =
    let one = lane_of e 0 reference in
    then e one (lane_acts e 0 reference) _ (lane_done e 0 reference) s (lane_meant e 0 reference s)
    (λ t. then one (lane_of one 1 reference) (lane_acts one 1 reference) _ (lane_done one 1 reference) t (lane_meant one 1 reference t) (λ u. lane_meant (lane_of one 1 reference) 2 reference u))
shape_meant Cloud e reference s = either (AllMeant e) _ _ _ ((s.last, s.reserved), either (AllMeant _) _ _ _ (tt, tt) tt) tt

deliver_meant : (e : Engine) → Sound e → AllMeant e (deliver_acts e)
unfolding deliver_acts
deliver_meant e s = either (AllMeant e) _ _ _ (shape_meant e.config.shape e _ s) tt

sample_meant : (e : Engine) → Sound e → e.clock.sample + 1 ≤ 2 ^ 40 → AllMeant e (sample_acts e)
unfolding sample_acts ticked_of
sample_meant e s h =
    let now : (delivered_of e).clock.sample ≡ e.clock.sample = delivered_keeps (λ (x : Engine). x.clock.sample) (λ e ps n t. refl) (λ e ss. refl) e in
    let one = grown_small (delivered_of e).clock.sample (omega (arith, now)) in
    then e (delivered_of e) (deliver_acts e) _ (deliver_done e) s (deliver_meant e s) (λ t. ((omega (arith, one), omega (arith, one, now)), tt))

advance_meant : (n : ℕ) (e : Engine) → Sound e → e.clock.sample + n ≤ 2 ^ 40 → AllMeant e (advance_acts n e)
unfolding advance_acts
advance_meant zero e s h = tt
advance_meant (suc n) e s h =
    let k = steps_count n e (omega arith) in
    then e (iterate stepped_of n e) (advance_acts n e) _ (advance-done n e) s (advance_meant n e s (omega arith)) (λ t. sample_meant (iterate stepped_of n e) t (omega (arith, k)))

-- ---- configure
restart_meant : (e : Engine) (old : Config) → AllMeant e (restart_acts e old)
unfolding restart_acts
restart_meant e old = either (AllMeant e) _ _ _ (three-aligned _ e.config.sync, tt) (either (AllMeant e) _ _ _ tt (three-prepared e.streams e.config.sync, tt))

configure_meant : (e : Engine) (c : Config) → Settled c → Sound e → AllMeant e (configure_acts e c)
unfolding configure_acts weigh_acts switch_acts offset_acts act
configure_meant e c h s =
    let weighed = reweighed e c in
    let kind = switched weighed c in
    let moved = offset kind c.phase in
    then e weighed (weigh_acts e c) _ (weigh_done e c) s (either (AllMeant e) _ _ _ tt (tt, tt))
    (λ t.
    then weighed kind (switch_acts weighed c) _ (switch-done weighed c) t (either (AllMeant weighed) _ _ _ tt (tt, tt))
    (λ u.
    then kind moved (offset_acts kind c.phase) _ (offset-done kind c.phase) u (either (AllMeant kind) _ _ _ ((le_refl _, u.time), tt) tt)
    (λ v. (h, restart_meant (with_config moved c) e.config))))

checked_meant : (e : Engine) (c : Config) → Singles c → Sound e → AllMeant e (checked_acts (checked_of c) e c)
unfolding checked_of
checked_meant e c g s =
    in_case (λ (a : Answer). AllMeant e (checked_acts a e c)) (ltb max_hop c.hop_samples) _ _ (λ q. tt)
    (λ q. configure_meant e (mended_of c) (record { asked = c; singles = g; hop = ltb-false _ _ q; is = refl }) s)

-- ---- triggers
trigger_meant : (e : Engine) (slot index : ℕ) → AllMeant e (trigger_acts e slot index)
unfolding trigger_acts
trigger_meant e slot index =
    in_case (AllMeant e) (ltb slot 256) _ _ (λ l. in_case (AllMeant e) (is_permitted e slot) _ _ (λ q. (permitted-sounding e slot (ltb-true _ _ l) q, tt)) (λ q. tt)) (λ l. tt)

-- ---- every call
pub calls_meant : (e : Engine) (c : Call) → Typed c → Sound e → AllMeant e (acts_of e c)
unfolding acts_of act retired_all reserved_of
calls_meant e (configure c) f s = checked_meant e c f s
calls_meant e (note_input present) f s = ((s.last, s.reserved), tt)
calls_meant e (set_source slot x) f s =
    either (AllMeant e) _ _ _
    (either (AllMeant e) _ _ _ tt (record { hz = f.0; strength = f.1 }, in_case (AllMeant _) (is_pitched x.frequency_hz) _ _ (λ q. ((f.0, pitched-sounds x.frequency_hz q), tt)) (λ q. tt))) tt
calls_meant e (retire_source slot) f s = either (AllMeant e) _ _ _ (no_source_formed, (tt, tt)) tt
calls_meant e (release_source slot) f s =
    let old = every_get_or FormedSource e.sources slot past_source past_formed s.formed in
    either (AllMeant e) _ _ _ (record { hz = old.hz; strength = old.strength }, tt) tt
calls_meant e (trigger slot) f s = ((s.last, after-under _), trigger_meant (reserved_of e).engine slot e.next.immediate_index)
calls_meant e reserve f s = ((s.last, after-under _), tt)
calls_meant e (reserved slot index) f s = trigger_meant e slot index
calls_meant e (seek cycles) f s = (tt, ((le_refl _, s.time), ((tt, pow_pos 64), (three-aligned _ e.config.sync, tt))))
calls_meant e (advance n) f s = in_case (AllMeant e) (leb (e.clock.sample + n) (2 ^ 40)) _ _ (λ q. advance_meant n e s (leb-true _ _ q)) (λ q. tt)
calls_meant e (take_frame bin_hz seconds) f s = in_case (AllMeant e) (accepted seconds) _ _ (λ q. ((f, q), tt)) (λ q. tt)

pub sound_applied : (e : Engine) (c : Call) → Typed c → Sound e → Sound (applied e c)
sound_applied e c t s = subst Sound (calls_are_acts e c) (sound_performed e (acts_of e c) (calls_meant e c t s) s)
