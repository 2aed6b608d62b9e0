-- `bear` meets its contract: the engine with what the birth stores is the engine after it.
use Rattle.births.proofs.Born.{born-by, stored_placed, stored_away}
use Rattle.births.proofs.arrivals.bear.Goals as goal

pub returns-in-Some : goal.returns-in-Some
returns-in-Some c =
    let e = c.args.engine.now in
    stored_placed e c.birth-arrival.result _ (born-by e _ _ _ c.birth-arrival.ensures.is) _ c.in-Some.is

pub returns-in_default : goal.returns-in_default
returns-in_default c =
    let e = c.args.engine.now in
    stored_away e c.birth-arrival.result _ (born-by e _ _ _ c.birth-arrival.ensures.is) c.in_default.is
