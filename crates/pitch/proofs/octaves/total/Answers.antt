-- `total` meets its contract: the library's sum begins at -0.0 too.
use Rattle.std.proofs.Common.{refl, ◌∙◌, arith, rules}
use Rattle.std.proofs.lemmas.Iterator.{YieldsList-from_range, YieldsList-from_map}
use Rattle.std.proofs.lemmas.Iterator.Consumers.{YieldsList-at}
use Rattle.floats.specs.Names.{add32, minus_zero32}
use Rattle.sequences.specs.Chains.{steps, summed}
use Rattle.pitch.specs.Octave.{weight_of, total_of}
use Rattle.pitch.proofs.octaves.total.Goals as goal

pub returns : goal.returns
unfolding total_of
returns c =
    summed (λ s w. add32 s w) minus_zero32 _ c.sum.ensures.ran
    (YieldsList-from_map _ (weight_of c.args.low c.args.span c.args.upward) (YieldsList-at c.map.ensures.source (YieldsList-from_range 0 c.args.count c.args.count refl (omega arith))) c.map.ensures.closure (λ x r q k. search rules))
    ∙ steps (λ s w. add32 s w) (weight_of c.args.low c.args.span c.args.upward) c.args.count minus_zero32
