-- No call but an accepted frame frees: the acts of every other call are quiet.
use Rattle.std.specs.Prelude.{Ok, Err}
use Prim.Native.Nat.{ℕ, zero, suc}
use mathlib.Core.Path.{◌≡◌, refl, sym, ap, ◌∙◌, subst}
use mathlib.Core.Bool.{Bool, true, false, ◌&&◌}
use mathlib.Core.List.{List, [], ◌∷◌, ◌++◌}
use lib.Dec.{T}
use lib.Ieee.{Float}
use Rattle.sequences.specs.Pick.{picked, passed, either, by-case}
use Rattle.sequences.specs.Times.{iterate}
use Rattle.refusals.specs.Numbers.{Answer}
use Rattle.settings.specs.declared.Config.{Config}
use Rattle.settings.specs.declared.Shape.{Shape}
use Rattle.settings.specs.declared.Shape.TheVariants.{Sprinkle, Cloud}
use Rattle.settings.specs.Settings.{checked_of}
use Rattle.settings.specs.Mending.{mended_of}
use Rattle.state.specs.declared.Engine.{Engine}
use Rattle.state.specs.State.{with_config}
use Rattle.engine_samples.specs.Sample.{lane_of, stepped_of}
use Rattle.engine_changes.specs.Changes.{reweighed, switched, offset}
use Rattle.engine_triggers.specs.Triggers.{reserved_of}
use Rattle.frame.specs.Frame.{accepted}
use Rattle.engine_laws.specs.Acts.{Act, birth, retire, retire_bound, retune, frame, source, streams, next, clock, weights, settings, act, tried_acts, lane_acts, shape_acts, deliver_acts, sample_acts, advance_acts, restart_acts, weigh_acts, switch_acts, offset_acts, configure_acts, checked_acts, trigger_acts, Call, configure, note_input, set_source, retire_source, release_source, trigger, reserve, reserved, seek, advance, take_frame, acts_of}
use Rattle.promises.specs.Life.{Life, Fate, living, freed, due, told, lives_on, story}
use Rattle.promises.specs.Demand3.{DueFrame}
use Rattle.promises.proofs.Stories.{not_living, first-due}

abbrev quiet : Act → Bool
quiet (frame seconds) = false
quiet (birth index own) = true
quiet retire = true
quiet (retire_bound slot) = true
quiet (retune slot hz) = true
quiet (source slot s) = true
quiet (streams ss) = true
quiet (next n) = true
quiet (clock k) = true
quiet (weights ws) = true
quiet (settings c) = true

abbrev all_quiet : List Act → Bool
all_quiet [] = true
all_quiet (a ∷ rest) = quiet a && all_quiet rest

abbrev Quiet : List Act → Type 0
Quiet acts = T (all_quiet acts)

loud : (xs ys : List Act) (seconds : Float) → Quiet (xs ++ frame seconds ∷ ys) → ⊥
loud [] ys seconds h = h
loud (x ∷ xs) ys seconds h = go (quiet x) h (loud xs ys seconds)
  where
    go : (b : Bool) → T (b && all_quiet (xs ++ frame seconds ∷ ys)) → (Quiet (xs ++ frame seconds ∷ ys) → ⊥) → ⊥
    go true h ih = ih h
    go false h ih = h

append : (xs ys : List Act) → Quiet xs → Quiet ys → Quiet (xs ++ ys)
append [] ys h g = g
append (x ∷ xs) ys h g = go (quiet x) h (append xs ys)
  where
    go : (b : Bool) → T (b && all_quiet xs) → (Quiet xs → Quiet ys → Quiet (xs ++ ys)) → T (b && all_quiet (xs ++ ys))
    go true h ih = ih h g
    go false h ih = absurd h

-- ---- a sample
tried-quiet : (e : Engine) (lane : ℕ) (reference : Float) → Quiet (tried_acts e lane reference)
unfolding tried_acts
tried-quiet e lane reference = either Quiet _ _ _ tt (either Quiet _ _ _ (either Quiet _ _ _ tt tt) tt)

lane_quiet : (e : Engine) (lane : ℕ) (reference : Float) → Quiet (lane_acts e lane reference)
unfolding lane_acts
lane_quiet e lane reference = append (tried_acts e lane reference) _ (tried-quiet e lane reference) (tried-quiet _ lane reference)

shape-quiet : (shape : Shape) (e : Engine) (reference : Float) → Quiet (shape_acts shape e reference)
unfolding shape_acts
shape-quiet Sprinkle e reference =
    let one = lane_of e 0 reference in
    let two = lane_of one 1 reference in
    append (lane_acts e 0 reference) (lane_acts one 1 reference ++ lane_acts two 2 reference) (lane_quiet e 0 reference)
    (append (lane_acts one 1 reference) (lane_acts two 2 reference) (lane_quiet one 1 reference) (lane_quiet two 2 reference))
shape-quiet Cloud e reference = either Quiet _ _ _ (either Quiet _ _ _ tt tt) tt

sample_quiet : (e : Engine) → Quiet (sample_acts e)
unfolding sample_acts deliver_acts
sample_quiet e = append (deliver_acts e) _ (either Quiet _ _ _ (shape-quiet e.config.shape e _) tt) tt

advance-quiet : (n : ℕ) (e : Engine) → Quiet (advance_acts n e)
unfolding advance_acts
advance-quiet zero e = tt
advance-quiet (suc n) e = append (advance_acts n e) _ (advance-quiet n e) (sample_quiet (iterate stepped_of n e))

-- ---- the other calls
restart-quiet : (e : Engine) (old : Config) → Quiet (restart_acts e old)
unfolding restart_acts
restart-quiet e old = either Quiet _ _ _ tt (either Quiet _ _ _ tt tt)

configure-quiet : (e : Engine) (c : Config) → Quiet (configure_acts e c)
unfolding configure_acts weigh_acts switch_acts offset_acts
configure-quiet e c =
    let weighed = reweighed e c in
    let kind = switched weighed c in
    let last = restart_acts (with_config (offset kind c.phase) c) e.config in
    append (weigh_acts e c) (switch_acts weighed c ++ (offset_acts kind c.phase ++ (settings c ∷ last))) (either Quiet _ _ _ tt tt)
    (append (switch_acts weighed c) (offset_acts kind c.phase ++ (settings c ∷ last)) (either Quiet _ _ _ tt tt)
    (append (offset_acts kind c.phase) (settings c ∷ last) (either Quiet _ _ _ tt tt) (restart-quiet (with_config (offset kind c.phase) c) e.config)))

checked-quiet : (a : Answer) (e : Engine) (c : Config) → Quiet (checked_acts a e c)
checked-quiet (Ok tt) e c = configure-quiet e (mended_of c)
checked-quiet (Err r) e c = tt

trigger-quiet : (e : Engine) (slot index : ℕ) → Quiet (trigger_acts e slot index)
unfolding trigger_acts
trigger-quiet e slot index = either Quiet _ _ _ (either Quiet _ _ _ tt tt) tt

still : (e : Engine) (acts : List Act) (l : Life) → Quiet acts → story e acts l ≡ freed → ⊥
still e acts l h s = let d = first-due e acts l s in loud d.before d.after d.seconds (subst Quiet d.split h)

one-frame : (e : Engine) (seconds : Float) (l : Life) → story e (frame seconds ∷ []) l ≡ freed → due e l ≡ true
unfolding story told
one-frame e seconds l s =
    by-case (due e l) (λ y. y)
    (λ n. absurd (not_living l (sym (ap (λ (f : Fate). lives_on f (story (act e (frame seconds)) [])) (passed (due e l) freed (living l) n) ∙ s))))

pub only_frames : (e : Engine) (c : Call) (l : Life) → story e (acts_of e c) l ≡ freed → DueFrame e c l
unfolding acts_of
only_frames e (configure c) l s = absurd (still e _ l (checked-quiet (checked_of c) e c) s)
only_frames e (note_input present) l s = absurd (still e _ l tt s)
only_frames e (set_source slot x) l s = absurd (still e _ l (either Quiet _ _ _ (either Quiet _ _ _ tt (either Quiet _ _ _ tt tt)) tt) s)
only_frames e (retire_source slot) l s = absurd (still e _ l (either Quiet _ _ _ tt tt) s)
only_frames e (release_source slot) l s = absurd (still e _ l (either Quiet _ _ _ tt tt) s)
only_frames e (trigger slot) l s = absurd (still e _ l (trigger-quiet (reserved_of e).engine slot _) s)
only_frames e reserve l s = absurd (still e _ l tt s)
only_frames e (reserved slot index) l s = absurd (still e _ l (trigger-quiet e slot index) s)
only_frames e (seek cycles) l s = absurd (still e _ l tt s)
only_frames e (advance n) l s = absurd (still e _ l (either Quiet _ _ _ (advance-quiet n e) tt) s)
only_frames e (take_frame bin_hz seconds) l s =
    by-case (accepted seconds)
    (λ y. record { bin_hz = bin_hz; seconds = seconds; is = refl; taken = y; is_due = one-frame e seconds l (ap (λ (acts : List Act). story e acts l) (picked (accepted seconds) (frame seconds ∷ []) [] y) ∙ s) })
    (λ n. absurd (still e [] l tt (ap (λ (acts : List Act). story e acts l) (passed (accepted seconds) (frame seconds ∷ []) [] n) ∙ s)))
