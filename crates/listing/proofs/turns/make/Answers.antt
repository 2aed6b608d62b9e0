-- `make` meets its contract: the new engine, and what is told of its answer.
use Rattle.std.proofs.Common.{ap}
use Rattle.state.specs.declared.Done.{Done}
use Rattle.listing.proofs.Fields.{by-done}
use Rattle.listing.proofs.turns.make.Goals as goal

pub returns : goal.returns
returns c =
    let made = c.new_engine-done in
    by-done c.args.run.now _ _ _ _ (ap (λ (x : Done). x.answer) made.ensures) (ap (λ (x : Done). x.engine) made.ensures) c.answered.ensures
