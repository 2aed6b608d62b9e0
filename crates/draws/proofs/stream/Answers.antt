-- `stream` meets its contract: the table is the definition's list.
use borrow.Author.Rules.{rules}
use Rattle.draws.specs.Draws.{streams, stream_of}
use Rattle.draws.proofs.stream.Goals as goal

pub returns : goal.returns
unfolding stream_of streams
returns c = search rules
