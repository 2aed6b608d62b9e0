-- `partial_logs` meets its contract: a logarithm for each index.
use Rattle.std.proofs.Common.{◌+◌, pos, rules}
use lib.Ieee.{binary32, of_int}
use Rattle.sequences.specs.Calls.{tabled_by}
use Rattle.elementary.specs.Log2.{log2_of}
use Rattle.state.specs.Make.{partial_logs_of}
use Rattle.state.proofs.make.partial_logs.Goals as goal

pub returns : goal.returns
unfolding partial_logs_of
returns c = tabled_by _ (λ i. log2_of (of_int binary32 (pos (i + 1)))) _ (λ i y q k. search rules) c.from_fn.ensures.items
