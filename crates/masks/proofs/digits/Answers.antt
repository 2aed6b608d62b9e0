-- `digits` meets its contract: a digit a turn.
use Rattle.std.proofs.Common.{ℕ, ◌+◌, drop, refl, ap, ◌∙◌, arith}
use Rattle.masks.specs.Digits.{number_from}
use Rattle.masks.proofs.Numbers.{no_digits, whole, ended, below, above, digit}
use Rattle.masks.proofs.digits.Goals as goal

pub returns-then-text-eq0 : goal.returns-then-text-eq0
returns-then-text-eq0 c = no_digits _ c.if-text-eq0.true

pub loop-c-init : goal.loop-c-init
loop-c-init c = (omega arith, refl, omega arith, refl)

pub returns-then-c-lt48 : goal.returns-then-c-lt48
returns-then-c-lt48 c = let l = c.loop-c in below c.args.text.now l.n l.c-index (omega (arith, c.loop-c-test.true, l.invariant.1)) c.if-c-lt48.true ∙ l.invariant.3 ∙ whole _ c.if-text-eq0.false

pub returns-then-c-gt57 : goal.returns-then-c-gt57
returns-then-c-gt57 c = let l = c.loop-c in above c.args.text.now l.n l.c-index (omega (arith, c.loop-c-test.true, l.invariant.1)) c.if-c-lt48.false c.if-c-gt57.true ∙ l.invariant.3 ∙ whole _ c.if-text-eq0.false

pub loop-c-preserved : goal.loop-c-preserved
loop-c-preserved c =
    let l = c.loop-c in
    let s = c.args.text.now in
    let more = ap (λ (x : ℕ). number_from x (drop (l.c-index + 1) s)) c.held-n.ensures.0 ∙ digit s l.n l.c-index (omega (arith, c.loop-c-test.true, l.invariant.1)) c.if-c-lt48.false c.if-c-gt57.false in
    (c.held-n.ensures.1, l.invariant.1, omega (arith, c.loop-c-test.true), more ∙ l.invariant.3)

pub returns : goal.returns
returns c = let l = c.loop-c in ended c.args.text.now l.n l.c-index (omega (arith, c.loop-c-test.false, l.invariant.1, l.invariant.2)) ∙ l.invariant.3 ∙ whole _ c.if-text-eq0.false
