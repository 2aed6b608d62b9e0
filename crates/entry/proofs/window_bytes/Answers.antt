-- `window_bytes` meets its contract: number by number.
use Rattle.entry.proofs.window_bytes.Goals as goal

pub returns : goal.returns
returns c = rw (c.single-a.ensures, c.single-r.ensures, c.single-c.ensures)
