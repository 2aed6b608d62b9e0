-- `quiet` meets its contract: two tests.
use mathlib.Core.Path.{sym, ap}
use mathlib.Core.Bool.{Bool, ◌||◌}
use lib.Ieee.{eq}
use Rattle.floats.specs.Names.{zero32}
use Rattle.mask_gains.specs.Gains.{quiet_of}
use Rattle.mask_gains.proofs.gain.quiet.Goals as goal

pub returns-then-depth_db : goal.returns-then-depth_db
unfolding quiet_of
returns-then-depth_db c = sym (ap (λ (b : Bool). b || eq c.args.activity zero32) c.if-depth_db.true)

pub returns : goal.returns
unfolding quiet_of
returns c = sym (ap (λ (b : Bool). b || eq c.args.activity zero32) c.if-depth_db.false)
