-- A sample at which nothing is due moves the clock alone, and so do those of `wait`.
use Rattle.std.proofs.Common.{◌≡◌, ℕ, zero, suc, ◌+◌, true, false, get_or, sym, refl, ap, ◌∙◌, subst}
use lib.Ieee.{Float, lt}
use Rattle.sequences.specs.Pick.{pick, picked, passed, took, skipped, by-case, both}
use Rattle.sequences.specs.Times.{iterate, iterate-none, iterate-more, iterate_add}
use Rattle.floats.proofs.Below.{lt_not_le}
use Rattle.settings.specs.declared.Shape.{Shape}
use Rattle.settings.specs.declared.Shape.TheVariants.{Sprinkle, Cloud}
use Rattle.timing.specs.Streams.{reference_of}
use Rattle.state.specs.declared.Clock.{Clock}
use Rattle.state.specs.declared.Engine.{Engine}
use Rattle.state.specs.State.{with_clock, past_stream, reference_now}
use Rattle.engine_samples.specs.Sample.{stepped_of, delivered_of, ticked_of, by_shape_of, lanes_of, lane_of, tried_of, cloud_of}
use Rattle.engine_samples.specs.declared.waiting.Starts.{Starts}
use Rattle.engine_samples.specs.declared.waiting.Tempo.{Tempo}
use Rattle.engine_samples.specs.declared.waiting.Waited.{Waited}
use Rattle.engine_samples.specs.Waiting.{starts_of, shape_starts, nothing_due, clock_after, waited_of, starts_for, tempo_for}

-- ---- before every start
before-each : (s : Starts) (r : Float) → nothing_due s r ≡ true → (lt r s.first ≡ true) × (lt r s.second ≡ true) × (lt r s.third ≡ true)
unfolding nothing_due
before-each s r h =
    let a = both (lt r s.first) (pick (lt r s.second) (lt r s.third) false) h in
    let b = both (lt r s.second) (lt r s.third) a.1 in
    (a.0, b.0, b.1)

-- ---- nothing is delivered
tried-none : (e : Engine) (lane : ℕ) (r : Float) → lt r (get_or e.streams lane past_stream).next ≡ true → tried_of e lane r ≡ e
unfolding tried_of
tried-none e lane r h = sym (took _ _ _ _ h refl)

lane_none : (e : Engine) (lane : ℕ) (r : Float) → lt r (get_or e.streams lane past_stream).next ≡ true → lane_of e lane r ≡ e
unfolding lane_of
lane_none e lane r h = let t = tried-none e lane r h in ap (λ (x : Engine). tried_of x lane r) t ∙ t

lanes-none : (e : Engine) (r : Float) → lt r (get_or e.streams 0 past_stream).next ≡ true → lt r (get_or e.streams 1 past_stream).next ≡ true → lt r (get_or e.streams 2 past_stream).next ≡ true → lanes_of e r ≡ e
unfolding lanes_of
lanes-none e r a b c = ap (λ (x : Engine). lane_of (lane_of x 1 r) 2 r) (lane_none e 0 r a) ∙ ap (λ (x : Engine). lane_of x 2 r) (lane_none e 1 r b) ∙ lane_none e 2 r c

cloud-none : (e : Engine) (r : Float) → lt r (reference_of e.next.opportunity) ≡ true → cloud_of e r ≡ e
unfolding cloud_of
cloud-none e r h = sym (skipped _ _ _ _ (lt_not_le r (reference_of e.next.opportunity) h) refl)

shape-none : (shape : Shape) (e : Engine) (r : Float) → nothing_due (shape_starts shape e.streams e.next.opportunity) r ≡ true → by_shape_of shape e r ≡ e
unfolding by_shape_of shape_starts
shape-none Sprinkle e r h = let p = before-each (shape_starts Sprinkle e.streams e.next.opportunity) r h in lanes-none e r p.0 p.1 p.2
shape-none Cloud e r h = cloud-none e r (before-each (shape_starts Cloud e.streams e.next.opportunity) r h).0

pub delivered_none : (e : Engine) → nothing_due (starts_for e) (reference_now e.clock) ≡ true → delivered_of e ≡ e
unfolding delivered_of starts_of
delivered_none e h =
    let r = reference_now e.clock in
    by-case e.config.scheduled
    (λ t. sym (took _ _ _ _ t (sym (shape-none e.config.shape e r (ap (λ (s : Starts). nothing_due s r) (picked e.config.scheduled _ _ t) ∙ h)))))
    (λ f. sym (skipped _ _ _ _ f refl))

ticked : (e : Engine) (k : Clock) → ticked_of (with_clock e k) ≡ with_clock e (clock_after (tempo_for e) k)
unfolding ticked_of clock_after
ticked e k = refl

-- ---- a sample at which nothing is due moves the clock alone
pub stepped_clock : (e : Engine) (k : Clock) → nothing_due (starts_for e) (reference_now k) ≡ true → stepped_of (with_clock e k) ≡ with_clock e (clock_after (tempo_for e) k)
unfolding stepped_of
stepped_clock e k h = ap ticked_of (delivered_none (with_clock e k) h) ∙ ticked e k

-- so do those of `wait`
abbrev Stepped : Engine → Clock → Waited → Type 0
Stepped e k w = with_clock e w.clock ≡ iterate stepped_of w.count (with_clock e k)

waited_stepped : (e : Engine) (n : ℕ) (k : Clock) → Stepped e k (waited_of (starts_for e) (tempo_for e) n k)
unfolding waited_of
waited_stepped e zero k = iterate-none stepped_of _
waited_stepped e (suc n) k =
    by-case (nothing_due (starts_for e) (reference_now k))
    (λ h.
    let k' = clock_after (tempo_for e) k in
    let w = waited_of (starts_for e) (tempo_for e) n k' in
    subst (Stepped e k) (picked _ _ _ h)
    (waited_stepped e n k' ∙ ap (iterate stepped_of w.count) (iterate-more stepped_of 0 _ _ _ (iterate-none stepped_of _) (sym (stepped_clock e k h))) ∙ iterate_add stepped_of 1 w.count (with_clock e k)))
    (λ h. subst (Stepped e k) (passed _ _ _ h) (iterate-none stepped_of _))

-- the same after i samples, with the starts and the tempo as a caller has them
pub waited_after : (e₀ e : Engine) (i n : ℕ) (s : Starts) (t : Tempo) (w : Waited) → e ≡ iterate stepped_of i e₀ → s ≡ starts_for e → t ≡ tempo_for e → w ≡ waited_of s t n e.clock
    → with_clock e w.clock ≡ iterate stepped_of (i + w.count) e₀
waited_after e₀ e i n s t w h p q v =
    let is : w ≡ waited_of (starts_for e) (tempo_for e) n e.clock = v ∙ ap (λ (z : Starts). waited_of z t n e.clock) p ∙ ap (λ (z : Tempo). waited_of (starts_for e) z n e.clock) q in
    subst (Stepped e e.clock) (sym is) (waited_stepped e n e.clock)
    ∙ ap (λ (z : Engine). iterate stepped_of w.count z) h
    ∙ iterate_add stepped_of i w.count e₀
