-- `take` meets its contract: the callees' answers, put together.
use Rattle.frame.specs.Call.{held_of, freed_of, windows_by, renewed_of, taken_of}
use Rattle.frame.proofs.take.Goals as goal

pub returns : goal.returns
unfolding taken_of windows_by held_of freed_of renewed_of
returns c =
    let s = c.sweep-freed.ensures in
    record {
      frame = rw (c.activity-activity.ensures, c.windows-windows.ensures, c.max_hz.ensures, s.shown, s.held);
      engine = rw (c.renew.ensures, c.activity-activity.ensures, s.freed, s.held);
    }
