-- `advance` meets its contract: n steps, inside the limit, those at which nothing is due by the clock alone.
use native.Mathlib.Omega.{arith}
use Prim.Native.Nat.{ℕ, ◌≤◌, ◌<◌, ◌+◌, ◌-◌, ◌^◌}
use mathlib.Core.Path.{◌≡◌, refl, ap, ◌∙◌}
use Rattle.sequences.specs.Pick.{took, skipped}
use Rattle.sequences.specs.Times.{iterate, iterate-none, iterate-more}
use borrow.Author.Tests.{le-leb, lt-leb}
use Rattle.engine_samples.specs.Sample.{stepped_of}
use Rattle.refusals.specs.declared.Refusal.TheVariants.{Elapsed}
use Rattle.state.specs.declared.Done.{Done}
use Rattle.state.specs.declared.Engine.{Engine}
use Rattle.state.specs.State.{with_clock, taken, refused}
use Rattle.engine_samples.proofs.NothingDue.{waited_after}
use Rattle.engine_samples.proofs.Waits.{waited_few}
use Rattle.engine_samples.proofs.Delivered.{by-lanes, by-cloud, by-none}
use Rattle.engine.specs.Advance.{advanced_of}
use borrow.Author.Rules.{rules}
use Rattle.engine.proofs.time.advance.Goals as goal
use Rattle.engine.proofs.time.advance.Goals.{then-config+in-Sprinkle, then-config+in-Cloud, else-config}

-- past the limit
beyond : (e : Engine) (n : ℕ) → 2 ^ 40 < e.clock.sample + n → refused Elapsed e ≡ advanced_of e n
unfolding advanced_of
beyond e n h = skipped _ _ _ _ (lt-leb _ _ h) refl

-- inside it
within : (e : Engine) (n : ℕ) (out : Engine) → e.clock.sample + n ≤ 2 ^ 40 → out ≡ iterate stepped_of n e → taken out ≡ advanced_of e n
unfolding advanced_of
within e n out h p = took _ _ _ _ (le-leb _ _ h) (ap taken p)

pub returns-then-samples-gt-MAX_ELAPSED_SAMPLES : goal.returns-then-samples-gt-MAX_ELAPSED_SAMPLES
returns-then-samples-gt-MAX_ELAPSED_SAMPLES c =
    let d = beyond c.args.engine.now c.args.samples (omega arith) in
    record { answer = ap (λ (x : Done). x.answer) d; engine = ap (λ (x : Done). x.engine) d }

pub returns-then-engine-samples : goal.returns-then-engine-samples
returns-then-engine-samples c =
    let d = beyond c.args.engine.now c.args.samples (omega arith) in
    record { answer = ap (λ (x : Done). x.answer) d; engine = ap (λ (x : Done). x.engine) d }

pub loop-i-init : goal.loop-i-init
loop-i-init c = (search rules, iterate-none stepped_of _)

pub overflow_add-i : goal.overflow_add-i
overflow_add-i c = let few = waited_few _ _ _ _ _ c.wait-waited.ensures in let m = c.loop-i.invariant.0 in omega arith

pub returns-then-i-samples : goal.returns-then-i-samples
returns-then-i-samples c =
    let e = c.args.engine.now in
    let waited = waited_after _ _ _ _ _ _ _ c.loop-i.invariant.1 c.next_starts-starts.ensures c.tempo_of-tempo.ensures c.wait-waited.ensures in
    let d = within e c.args.samples _ (omega arith) (waited ∙ ap (λ (k : ℕ). iterate stepped_of k e) c.if-i-samples.true) in
    record { answer = ap (λ (x : Done). x.answer) d; engine = ap (λ (x : Done). x.engine) d }

pub overflow_add-i-in-loop-i : goal.overflow_add-i-in-loop-i
overflow_add-i-in-loop-i c =
    let few : c.wait-waited.result.count ≤ c.args.samples - c.loop-i.i = waited_few _ _ _ _ _ c.wait-waited.ensures in
    let below : c.loop-i.i ≤ c.args.samples = c.loop-i.invariant.0 in
    let top : c.args.samples ≤ 2 ^ 40 = c.if-samples-gt-MAX_ELAPSED_SAMPLES.false in
    let other : c.loop-i.i + c.wait-waited.result.count ≡ c.args.samples → ⊥ = c.if-i-samples.false in
    omega arith

pub loop-i-smaller : goal.loop-i-smaller
loop-i-smaller c =
    let few : c.wait-waited.result.count ≤ c.args.samples - c.loop-i.i = waited_few _ _ _ _ _ c.wait-waited.ensures in
    let below : c.loop-i.i ≤ c.args.samples = c.loop-i.invariant.0 in
    let top : c.args.samples ≤ 2 ^ 40 = c.if-samples-gt-MAX_ELAPSED_SAMPLES.false in
    let other : c.loop-i.i + c.wait-waited.result.count ≡ c.args.samples → ⊥ = c.if-i-samples.false in
    omega arith

pub loop-i-preserved : goal.loop-i-preserved
loop-i-preserved c =
    let few : c.wait-waited.result.count ≤ c.args.samples - c.loop-i.i = waited_few _ _ _ _ _ c.wait-waited.ensures in
    let below : c.loop-i.i ≤ c.args.samples = c.loop-i.invariant.0 in
    let top : c.args.samples ≤ 2 ^ 40 = c.if-samples-gt-MAX_ELAPSED_SAMPLES.false in
    let other : c.loop-i.i + c.wait-waited.result.count ≡ c.args.samples → ⊥ = c.if-i-samples.false in
    let e = with_clock c.loop-i.engine c.wait-waited.result.clock in
    let d = c.if-config.engine in
    let t = c.tempo_of-tempo.result in
    let tempo = c.tempo_of-tempo.ensures in
    let stepped =
    ap (with_clock d) c.clock_after-engine.ensures
    ∙ elim c.if-config.branch [
      | then-config+in-Sprinkle w ↦ by-lanes e d t tempo w.if-config.true w.in-Sprinkle.is (w.engine-is ∙ w.lanes.ensures)
      | then-config+in-Cloud w ↦ by-cloud e d t tempo w.if-config.true w.in-Cloud.is (w.engine-is ∙ w.cloud.ensures)
      | else-config w ↦ by-none e d t tempo w.if-config.false w.engine-is
    ] in (
      omega arith,
      iterate-more stepped_of _ _ _ _ (waited_after _ _ _ _ _ _ _ c.loop-i.invariant.1 c.next_starts-starts.ensures c.tempo_of-tempo.ensures c.wait-waited.ensures) stepped,
    )
