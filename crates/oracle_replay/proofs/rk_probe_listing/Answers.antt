-- `rk_probe_listing` meets its contract: the listing's own.
use mathlib.Core.Path.{◌∙◌, ap}
use Rattle.oracle_replay.specs.Replay.{count_of}
use Rattle.oracle_replay.proofs.rk_probe_listing.Goals as goal

pub returns : goal.returns
returns c =
    let e = c.list_script.ensures in
    (c.count.ensures ∙ ap count_of e.0, e.1)
