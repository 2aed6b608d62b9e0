-- `prepare` meets its contract: the callees' answers, put together.
use Rattle.state.specs.Make.{prepared_of}
use Rattle.state.proofs.make.prepare.Goals as goal

pub returns : goal.returns
unfolding prepared_of
returns c = rw (c.alpha.ensures, c.weights-default_partial_weights.ensures, c.partial_logs-partial_logs.ensures, c.from-rate.ensures)
