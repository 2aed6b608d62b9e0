-- `goes_on` meets its contract: whether a byte was taken, and how far is asked for.
use Rattle.std.proofs.Common.{sym, refl, ap, ◌∙◌, eq-eqb, ne_eqb}
use Rattle.sequences.specs.Pick.{took, skipped}
use Rattle.listing.specs.declared.turns.Until.{Until}
use Rattle.listing.specs.Reaching.{passes_by, goes_on_of}
use Rattle.listing.proofs.turns.goes_on.Goals as goal

pub returns-then-taken-eq0 : goal.returns-then-taken-eq0
unfolding goes_on_of
returns-then-taken-eq0 c = took _ _ _ _ (eq-eqb _ _ c.if-taken-eq0.true) refl

pub returns-in-Field : goal.returns-in-Field
unfolding goes_on_of
returns-in-Field c = skipped _ _ _ _ (ne_eqb _ _ c.if-taken-eq0.false) (sym (ap (λ (u : Until). passes_by u c.args.line) c.in-Field.is))

pub returns-in-Line : goal.returns-in-Line
unfolding goes_on_of
returns-in-Line c = skipped _ _ _ _ (ne_eqb _ _ c.if-taken-eq0.false) (c.silent.ensures ∙ sym (ap (λ (u : Until). passes_by u c.args.line) c.in-Line.is))

pub returns-in-Frame : goal.returns-in-Frame
unfolding goes_on_of
returns-in-Frame c = skipped _ _ _ _ (ne_eqb _ _ c.if-taken-eq0.false) (c.frameless.ensures ∙ sym (ap (λ (u : Until). passes_by u c.args.line) c.in-Frame.is))

pub returns-in-End : goal.returns-in-End
unfolding goes_on_of
returns-in-End c = skipped _ _ _ _ (ne_eqb _ _ c.if-taken-eq0.false) (sym (ap (λ (u : Until). passes_by u c.args.line) c.in-End.is))
