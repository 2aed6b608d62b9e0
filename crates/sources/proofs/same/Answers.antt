-- `same` meets its contract: the derived equality is the definition.
use Rattle.sources.specs.Sources.{same}
use Rattle.sources.proofs.Flags.{flags}
use Rattle.sources.proofs.same.Goals as goal

pub returns : goal.returns
unfolding same
returns c = rw (c.eq.ensures, flags c.args.a.eligible c.args.b.eligible)
