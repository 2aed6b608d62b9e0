-- `harmonic` meets its contract: the walk, turn by turn.
use Rattle.std.proofs.Common.{sym, ◌∙◌, rules}
use Rattle.sequences.specs.Pick.{picked, passed}
use Rattle.sequences.specs.Rest.{rest-none, rest_more, rest_here, rest_all}
use Rattle.pitch.specs.Partials.{harmonic_from, harmonic_of}
use Rattle.pitch.proofs.harmonics.harmonic.Goals as goal

pub loop-i-init : goal.loop-i-init
loop-i-init c = rest-none _ 24 _ _ (search rules)

pub loop-i-preserved-then-weight : goal.loop-i-preserved-then-weight
unfolding harmonic_from
loop-i-preserved-then-weight c = rest_more c.loop-i.invariant _ _ (search rules) (sym (picked _ _ _ c.if-weight.true))

pub loop-i-preserved : goal.loop-i-preserved
unfolding harmonic_from
loop-i-preserved c = rest_more c.loop-i.invariant _ _ (search rules) (sym (passed _ _ _ c.if-left-weight.false ∙ passed _ _ _ c.if-weight.false))

pub returns-then-i-eq-MAX_PARTIALS : goal.returns-then-i-eq-MAX_PARTIALS
unfolding harmonic_of harmonic_from
returns-then-i-eq-MAX_PARTIALS c = sym (rest_all c.loop-i.invariant (search rules))

pub returns-then-left-weight : goal.returns-then-left-weight
unfolding harmonic_of harmonic_from
returns-then-left-weight c = picked _ _ _ c.if-left-weight.true ∙ passed _ _ _ c.if-weight.false ∙ sym (rest_here c.loop-i.invariant _ (search rules))
