-- `frame_of` meets its contract: a window for each index.
use Rattle.std.proofs.Common.{rules}
use Rattle.sequences.specs.Calls.{tabled_by}
use Rattle.oracle_probe.specs.Frames.{flat_window, flat_frame}
use Rattle.oracle_probe.proofs.frames.frame_of.Goals as goal

pub returns : goal.returns
unfolding flat_frame
returns c = rw (tabled_by _ (flat_window c.args.flat.now) _ (λ i y q k. search rules) c.from_fn-windows.ensures.items)
