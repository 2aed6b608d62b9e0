-- `enters_sprinkle` meets its contract: one test after the other.
use Rattle.engine_changes.specs.Changes.{enters}
use Rattle.engine_changes.proofs.Same.{entered}
use Rattle.engine_changes.proofs.enters_sprinkle.Goals as goal

pub returns-then-ne : goal.returns-then-ne
unfolding enters
returns-then-ne c = let a = c.args.before in let b = c.args.after in rw (← entered a.shape b.shape a.enabled b.enabled, ← c.eq.ensures, c.if-eq.true, ← c.ne.ensures, c.if-ne.true)

pub returns-then-not-before : goal.returns-then-not-before
unfolding enters
returns-then-not-before c = let a = c.args.before in let b = c.args.after in rw (← entered a.shape b.shape a.enabled b.enabled, ← c.eq.ensures, c.if-eq.true, ← c.ne.ensures, c.if-ne.false, c.if-not-before.true)

pub returns-else-not-before : goal.returns-else-not-before
unfolding enters
returns-else-not-before c = let a = c.args.before in let b = c.args.after in rw (← entered a.shape b.shape a.enabled b.enabled, ← c.eq.ensures, c.if-eq.true, ← c.ne.ensures, c.if-ne.false, c.if-not-before.false)

pub returns-else-eq : goal.returns-else-eq
unfolding enters
returns-else-eq c = let a = c.args.before in let b = c.args.after in rw (← entered a.shape b.shape a.enabled b.enabled, ← c.eq.ensures, c.if-eq.false)
