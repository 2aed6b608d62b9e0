-- `min` meets its contract: the picks are the definition's.
use Rattle.std.proofs.Common.{Bool, cond, ap, ◌∙◌}
use lib.Ieee.{lt, ne, is_nan}
use Rattle.floats.specs.Choose.{min}
use Rattle.floats.proofs.Facts.{ne_self}
use Rattle.floats.proofs.Chosen.{chosen_of_three}
use Rattle.floats.proofs.choices.min.Goals as goal

pub returns : goal.returns
unfolding min ne
returns g c =
    let t = g.T.Real in
    let r = g.met.T.Real in
    let a = c.args in
    rw (c.pick-2.ensures, c.pick.ensures, c.ne.ensures, r.level, c.lt.ensures, r.below)
    (ap (λ (b : Bool). cond b a.y (cond (lt (t.value a.y) (t.value a.x)) a.y a.x)) (ne_self (t.value a.x))
    ∙ chosen_of_three t.value t.of r.own (is_nan (t.value a.x)) (lt (t.value a.y) (t.value a.x)) a.y a.y a.x)
