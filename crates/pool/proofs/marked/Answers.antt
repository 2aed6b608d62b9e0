-- `marked` meets its contract by computation.
use borrow.Author.Rules.{rules}
use Rattle.pool.specs.Pool.{retired_of}
use Rattle.pool.proofs.marked.Goals as goal

pub returns : goal.returns
unfolding retired_of
returns c = search rules
