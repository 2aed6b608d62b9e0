-- `choice` meets its contract: the draw, held to the last one.
use Prim.Native.Nat.{ℕ, ◌-◌}
use mathlib.Core.Path.{refl, sym, ap, ◌∙◌}
use Rattle.sequences.specs.Pick.{took, skipped}
use borrow.Author.Tests.{lt-ltb, le-ltb}
use lib.Dec.{ltb}
use lib.Ieee.{Float, to_unsigned}
use Rattle.sources.specs.Choosing.{choice_of}
use Rattle.floats.specs.Names.{mul32}
use Rattle.sources.proofs.choice.choice.Goals as goal

pub returns-then-at-n : goal.returns-then-at-n
unfolding choice_of
returns-then-at-n c =
    let n = c.args.n in
    let draw = c.args.draw in
    let at = c.to_u64-at.ensures ∙ ap (λ (x : Float). to_unsigned 64 (mul32 draw x)) c.u64_to_f32.ensures in
    took _ _ _ _ (sym (ap (λ (k : ℕ). ltb (n - 1) k) at) ∙ lt-ltb _ _ c.if-at-n.true) refl

pub returns : goal.returns
unfolding choice_of
returns c =
    let n = c.args.n in
    let draw = c.args.draw in
    let at = c.to_u64-at.ensures ∙ ap (λ (x : Float). to_unsigned 64 (mul32 draw x)) c.u64_to_f32.ensures in
    skipped _ _ _ _ (sym (ap (λ (k : ℕ). ltb (n - 1) k) at) ∙ le-ltb _ _ c.if-at-n.false) at
