-- `attenuation_db` meets its contract: one test, then the callees' answers, put together.
use Rattle.sequences.specs.Pick.{picked, skipped}
use Rattle.windows.specs.Attenuation.{attenuation_of, log_place}
use Rattle.windows.proofs.attenuation.attenuation_db.Goals as goal

pub returns-then-depth_db : goal.returns-then-depth_db
unfolding attenuation_of
returns-then-depth_db c = picked _ _ _ c.if-depth_db.true

pub returns : goal.returns
unfolding attenuation_of log_place
returns c =
    skipped _ _ _ _ c.if-depth_db.false
    (rw (c.clamp.ensures, c.opened-openness.ensures, c.log2-log.ensures, c.max.ensures))
