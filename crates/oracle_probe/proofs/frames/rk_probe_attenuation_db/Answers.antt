-- `rk_probe_attenuation_db` meets its contract: the callees' answers, put together.
use Rattle.oracle_probe.proofs.frames.rk_probe_attenuation_db.Goals as goal

pub returns : goal.returns
returns c = rw (c.attenuation_db.ensures, c.frame_of-frame.ensures)
