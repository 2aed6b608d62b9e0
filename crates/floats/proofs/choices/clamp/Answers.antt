-- `clamp` meets its contract: the two picks are the definition's.
use Rattle.floats.proofs.Chosen.{clamp-is}
use Rattle.floats.proofs.choices.clamp.Goals as goal

pub returns : goal.returns
returns g c = let t = g.T.Real in let r = g.met.T.Real in rw (c.pick.ensures, c.lt-2.ensures, r.below, c.pick-y.ensures, c.lt.ensures, r.below) (clamp-is t.value t.of r.own c.args.x c.args.a c.args.b)
