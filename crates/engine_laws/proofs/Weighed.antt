-- The weights of the harmonics are those of the settings' rolloff.
-- It holds before and after each call; within `configure` the weights come before the settings.
use Prim.Native.Nat.{ℕ, zero, suc}
use mathlib.Core.Path.{◌≡◌, refl, sym, ap, ◌∙◌, subst}
use Rattle.std.specs.Prelude.{Option, Some}
use mathlib.Core.List.{List}
use borrow.Author.Tests.{ltb-false}
use lib.Dec.{T, ltb}
use lib.Ieee.{Float, binary32, eq, fits}
use lib.Ieee.Bits.{of_bits-fits}
use Rattle.sequences.specs.Pick.{either}
use Rattle.sequences.specs.Every.{in_case}
use Rattle.sequences.specs.Times.{iterate}
use Rattle.floats.specs.Names.{f32, zero32}
use Rattle.refusals.specs.Numbers.{Answer}
use Rattle.settings.specs.declared.Config.{Config}
use Rattle.settings.specs.Settings.{max_hop, checked_of}
use Rattle.settings.specs.Mending.{mended_of}
use Rattle.settings_laws.proofs.Again.{held_fits}
use Rattle.sources.specs.declared.Source.{Source}
use Rattle.state.specs.declared.Done.{Done}
use Rattle.state.specs.declared.Engine.{Engine}
use Rattle.state.specs.declared.Prepared.{Prepared}
use Rattle.state.specs.State.{with_config}
use Rattle.state.specs.Make.{weights_of, prepared_of, new_on}
use Rattle.engine.specs.New.{new_engine_of, reset_of}
use Rattle.births.specs.Birth.{born_of}
use Rattle.engine_samples.specs.Sample.{ticked_of, stepped_of}
use Rattle.engine.specs.Advance.{advanced_of}
use Rattle.engine_changes.specs.Changes.{retired_all, aligned, reweighed, switched, offset, restarted, configured_to, answered_by, configured_of, notes_of, sought_of}
use Rattle.engine_sources.specs.Slots.{supplied_of, set_source_of, retire_source_of, release_source_of}
use Rattle.engine_triggers.specs.declared.Triggered.{Triggered}
use Rattle.engine_triggers.specs.Triggers.{reserved_of, triggered_by, triggered_of}
use Rattle.frame.specs.declared.Framed.{Framed}
use Rattle.frame.specs.Call.{renewed_of, taken_of, refused_of, framed_of}
use Rattle.frame_laws.proofs.Newborn.{engine_logs}
use Rattle.frame_laws.proofs.Shapes.{Logs}
use Rattle.engine_laws.specs.Acts.{Singles, Call, configure, note_input, set_source, retire_source, release_source, trigger, reserve, reserved, seek, advance, take_frame, Typed, applied}
use Rattle.engine_samples.proofs.Untouched.{born-keeps, delivered_keeps}
use Rattle.engine_laws.proofs.Sound.{Made, Settled, Sound}
use Rattle.engine_laws.proofs.Rolloffs.{weights-level}

-- ---- the groups that it speaks of
abbrev Groups : Type 0
Groups = List Float × Prepared × Config

abbrev groups : Engine → Groups
groups e = (e.partial_weights, e.prepared, e.config)

abbrev Matching : Groups → Type 0
Matching g = g.0 ≡ weights_of g.1.partial_logs g.2.partial_rolloff_db

abbrev pub Weighed : Engine → Type 0
Weighed e = Matching (groups e)

-- ---- new and reset
weighed-on : (p : Prepared) → Made p → Weighed (new_on p)
unfolding new_on prepared_of
weighed-on p m = subst (λ (q : Prepared). q.default_partial_weights ≡ weights_of q.partial_logs (f32 0x40c00000)) (sym m.is) refl

newly : (rate : Float) → Weighed (new_on (prepared_of rate))
unfolding new_on prepared_of
newly rate = refl

pub weighed-new : (rate : Float) → Weighed (new_engine_of rate).engine
unfolding new_engine_of
weighed-new rate = either (λ (d : Done). Weighed d.engine) _ _ _ (newly rate) (newly (f32 0x473b8000))

pub weighed-reset : (e : Engine) → Sound e → Weighed (reset_of e)
unfolding reset_of
weighed-reset e s = weighed-on e.prepared s.made

-- ---- a birth and a sample touch none of the three
weighed-born : (e : Engine) (index : ℕ) (own : Option ℕ) → Weighed e → Weighed (born_of e index own)
weighed-born e index own w = subst Matching (sym (born-keeps groups (λ e ps n t. refl) e index own)) w

weighed_stepped : (e : Engine) → Weighed e → Weighed (stepped_of e)
unfolding stepped_of ticked_of
weighed_stepped e w = subst Matching (sym (delivered_keeps groups (λ e ps n t. refl) (λ e ss. refl) e)) w

weighed_steps : (n : ℕ) (e : Engine) → Weighed e → Weighed (iterate stepped_of n e)
unfolding iterate
weighed_steps zero e w = w
weighed_steps (suc n) e w = weighed_stepped (iterate stepped_of n e) (weighed_steps n e w)

-- ---- configure
settled-rolloff : (c : Config) → Settled c → T (fits binary32 c.partial_rolloff_db)
unfolding mended_of
settled-rolloff c h = subst (λ (d : Config). T (fits binary32 d.partial_rolloff_db)) (sym h.is) (held_fits h.asked.partial_rolloff_db (f32 0x40c00000) zero32 (f32 0x41c00000) h.singles.rolloff (of_bits-fits binary32 0x40c00000) (of_bits-fits binary32 0) (of_bits-fits binary32 0x41c00000))

pub made_logs : (p : Prepared) → Made p → Logs p.partial_logs
unfolding prepared_of
made_logs p m = subst (λ (q : Prepared). Logs q.partial_logs) (sym m.is) engine_logs

-- what the engine has after `configure`, whatever else that does
reweighed_matching : (e : Engine) (c : Config) → Sound e → Settled c → Weighed e → Matching ((reweighed e c).partial_weights, e.prepared, c)
unfolding reweighed
reweighed_matching e c s h w =
    in_case (λ (x : Engine). Matching (x.partial_weights, e.prepared, c)) (eq c.partial_rolloff_db e.config.partial_rolloff_db) _ _
    (λ q.
    w
    ∙ sym (weights-level e.prepared.partial_logs (made_logs e.prepared s.made) c.partial_rolloff_db e.config.partial_rolloff_db (settled-rolloff c h) (settled-rolloff e.config s.settled) q))
    (λ q. refl)

switched-keeps : (e : Engine) (c : Config) → groups (switched e c) ≡ groups e
unfolding switched retired_all
switched-keeps e c = either (λ x. groups x ≡ groups e) _ _ _ refl refl

offset-keeps : (e : Engine) (phase : Float) → groups (offset e phase) ≡ groups e
unfolding offset
offset-keeps e phase = either (λ x. groups x ≡ groups e) _ _ _ refl refl

restarted-keeps : (e : Engine) (old : Config) → groups (restarted e old) ≡ groups e
unfolding restarted aligned
restarted-keeps e old = either (λ x. groups x ≡ groups e) _ _ _ refl (either (λ x. groups x ≡ groups e) _ _ _ refl refl)

reweighed-prepared : (e : Engine) (c : Config) → (reweighed e c).prepared ≡ e.prepared
unfolding reweighed
reweighed-prepared e c = either (λ (x : Engine). x.prepared ≡ e.prepared) _ _ _ refl refl

weighed-configured-to : (e : Engine) (c : Config) → Sound e → Settled c → Weighed e → Weighed (configured_to e c)
unfolding configured_to
weighed-configured-to e c s h w =
    let r = reweighed e c in
    let moved = offset (switched r c) c.phase in
    let same : groups moved ≡ groups r = offset-keeps (switched r c) c.phase ∙ switched-keeps r c in
    let after : groups (restarted (with_config moved c) e.config) ≡ (r.partial_weights, e.prepared, c) =
    restarted-keeps (with_config moved c) e.config ∙ ap (λ (g : Groups). (g.0, g.1, c)) same ∙ ap (λ (p : Prepared). (r.partial_weights, p, c)) (reweighed-prepared e c) in
    subst Matching (sym after) (reweighed_matching e c s h w)

weighed-configured : (e : Engine) (c : Config) → Singles c → Sound e → Weighed e → Weighed (configured_of e c).engine
unfolding configured_of checked_of
weighed-configured e c f s w =
    in_case (λ (a : Answer). Weighed (answered_by a e c).engine) (ltb max_hop c.hop_samples) _ _ (λ q. w)
    (λ q. weighed-configured-to e (mended_of c) s (record { asked = c; singles = f; hop = ltb-false _ _ q; is = refl }) w)

-- ---- the other calls
weighed_triggered : (e : Engine) (slot index : ℕ) → Weighed e → Weighed (triggered_by e slot index).engine
unfolding triggered_by
weighed_triggered e slot index w =
    let P : Triggered → Type 0 = λ t. Weighed t.engine in
    either P _ _ _ (either P _ _ _ (let b = weighed-born e _ (Some slot) w in either P _ _ _ b b) w) w

weighed-placed : (e : Engine) (slot : ℕ) (s : Source) → Weighed e → Weighed (supplied_of e slot s)
unfolding supplied_of
weighed-placed e slot s w = either Weighed _ _ _ w w

-- THE CLAIM
pub weighed-applied : (e : Engine) (c : Call) → Typed c → Sound e → Weighed e → Weighed (applied e c)
unfolding applied notes_of set_source_of retire_source_of release_source_of triggered_of reserved_of sought_of retired_all aligned advanced_of framed_of taken_of refused_of renewed_of
weighed-applied e (configure c) f s w = weighed-configured e c f s w
weighed-applied e (note_input present) f s w = w
weighed-applied e (set_source slot x) f s w = either (λ (d : Done). Weighed d.engine) _ _ _ (either Weighed _ _ _ w (weighed-placed e slot x w)) w
weighed-applied e (retire_source slot) f s w = either (λ (d : Done). Weighed d.engine) _ _ _ w w
weighed-applied e (release_source slot) f s w = either (λ (d : Done). Weighed d.engine) _ _ _ w w
weighed-applied e (trigger slot) f s w = weighed_triggered (reserved_of e).engine slot _ w
weighed-applied e reserve f s w = w
weighed-applied e (reserved slot index) f s w = weighed_triggered e slot index w
weighed-applied e (seek cycles) f s w = w
weighed-applied e (advance n) f s w = either (λ (d : Done). Weighed d.engine) _ _ _ (weighed_steps n e w) w
weighed-applied e (take_frame bin_hz seconds) f s w = either (λ (r : Framed). Weighed r.engine) _ _ _ w w
