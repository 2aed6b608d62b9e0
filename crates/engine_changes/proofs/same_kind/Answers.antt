-- `same_kind` meets its contract: one test, then the other.
use Rattle.engine_changes.specs.Changes.{same_kind}
use Rattle.engine_changes.proofs.Same.{kinds}
use Rattle.engine_changes.proofs.same_kind.Goals as goal

pub returns-then-eq : goal.returns-then-eq
unfolding same_kind
returns-then-eq c = let a = c.args.before in let b = c.args.after in rw (← kinds a.shape b.shape a.enabled b.enabled, ← c.eq.ensures, c.if-eq.true)

pub returns-else-eq : goal.returns-else-eq
unfolding same_kind
returns-else-eq c = let a = c.args.before in let b = c.args.after in rw (← kinds a.shape b.shape a.enabled b.enabled, ← c.eq.ensures, c.if-eq.false)
