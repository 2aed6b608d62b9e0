-- `allowed` meets its contract: a weight for each index.
use Rattle.std.proofs.Common.{get_or, rules}
use lib.Ieee.{nan}
use Rattle.sequences.specs.Calls.{tabled_by}
use Rattle.pitch.specs.Partials.{kept_of, allowed_of}
use Rattle.pitch.proofs.harmonics.allowed.Goals as goal

pub returns : goal.returns
unfolding allowed_of
returns c = tabled_by _ (λ i. kept_of c.args.limit c.args.max_ratio i (get_or c.args.weights i nan)) _ (λ i y q k. search rules) c.from_fn.ensures.items
