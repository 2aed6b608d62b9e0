-- `rem_euclid` meets its contract: the callees' answers, put together.
use Rattle.std.proofs.Common.{false, cond, pos, ap, ◌∙◌}
use lib.Ieee.{Float, fin, lt, of_bits}
use Rattle.floats.proofs.Chosen.{euclid-is}
use Rattle.floats.proofs.remainder.rem_euclid.Goals as goal

pub returns : goal.returns
unfolding of_bits
returns g c =
    let t = g.T.Real in
    let m = g.met.T.Real in
    c.pick.ensures ∙ ap (λ (w : Float). cond (lt w (fin false 0 (pos 0))) c.add.result c.rem-r.result) c.wide.ensures
    ∙ euclid-is t.value t.of m.own m.stands t.format (t.value c.args.x) (t.value c.args.m) c.rem-r.result c.abs.result c.add.result c.rem-r.ensures c.abs.ensures
    (m.adds c.rem-r.result c.abs.result c.add.result c.add.ensures)
