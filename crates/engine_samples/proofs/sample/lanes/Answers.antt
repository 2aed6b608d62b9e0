-- `lanes` meets its contract: six tries, two for each lane.
use Rattle.std.proofs.Common.{◌≡◌, ℕ, ◌/◌, sym, refl, ap, ◌∙◌, arith, rules}
use lib.Ieee.{Float}
use Rattle.sequences.specs.Times.{times, times_none, times_more}
use Rattle.state.specs.declared.Engine.{Engine}
use Rattle.engine_samples.specs.Sample.{lane_of, lanes_of}
use Rattle.engine_samples.proofs.Tries.{try, not_due, moved-silent, moved-born}
use Rattle.engine_samples.proofs.sample.lanes.Goals as goal
use Rattle.engine_samples.proofs.sample.lanes.Goals.{then-reference-stream, else-reference-stream+then-sounds, else-reference-stream+else-sounds}

all : (e : Engine) (reference : Float) → times (try reference) 6 e ≡ lanes_of e reference
unfolding times lanes_of lane_of
all e reference = refl

pub loop-k-init : goal.loop-k-init
loop-k-init c = (search rules, times_none _ _)

pub loop-k-preserved : goal.loop-k-preserved
loop-k-preserved c =
    let r = c.args.reference in
    let e = c.loop-k.engine in
    let lane : ℕ = c.loop-k.k / 2 in
    let on = times_more (try r) _ _ _ _ c.loop-k.invariant.1 in
    elim c.if-reference-stream.branch [
      | then-reference-stream w ↦ (search rules, on (w.engine-is ∙ not_due e lane r w.if-reference-stream.true))
      | else-reference-stream+then-sounds w ↦
          let m = w.move_on-moved in
          (search rules, on (w.engine-is ∙ moved-born e lane r m.result m.ensures w.if-reference-stream.false _ _ (sym w.sounds.ensures ∙ w.if-sounds.true) w.sprinkle_key.ensures w.bear.ensures))
      | else-reference-stream+else-sounds w ↦
          let m = w.move_on-moved in
          (search rules, on (w.engine-is ∙ moved-silent e lane r m.result m.ensures w.if-reference-stream.false (sym w.sounds.ensures ∙ w.if-sounds.false)))
    ]

pub returns : goal.returns
returns c =
    let m = c.loop-k.invariant in
    let six : c.loop-k.k ≡ 6 = omega arith in
    m.1 ∙ ap (λ (k : ℕ). times (try c.args.reference) k c.args.engine.now) six ∙ all c.args.engine.now c.args.reference
