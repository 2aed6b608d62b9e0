-- `rk_probe_select_partials` meets its contract: the callees' answers, put together.
use Rattle.std.proofs.Common.{List, ap, ◌∙◌}
use lib.Ieee.{Float}
use Rattle.pitch.specs.Partials.{partials_of}
use Rattle.oracle_probe.specs.Numbers.{packed_of}
use Rattle.oracle_probe.proofs.rk_probe_select_partials.Goals as goal

pub returns : goal.returns
returns c =
    let a = c.args in
    c.packed.ensures ∙ ap packed_of (c.select_partials.ensures ∙ ap (λ (w : List Float). partials_of a.index w a.limit a.max_ratio) c.weights_of-weights.ensures)
