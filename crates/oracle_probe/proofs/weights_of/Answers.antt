-- `weights_of` meets its contract: a weight for each index.
use Rattle.std.proofs.Common.{rules}
use Rattle.sequences.specs.Calls.{tabled_by}
use Rattle.oracle_probe.specs.Numbers.{weight_from, weights_from}
use Rattle.oracle_probe.proofs.weights_of.Goals as goal

pub returns : goal.returns
unfolding weights_from
returns c = tabled_by _ (weight_from c.args.seed) _ (λ i y q k. search rules) c.from_fn.ensures.items
