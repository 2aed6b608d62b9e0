-- `Frame::default` meets its contract: 192 empty windows.
use Rattle.windows.specs.Opening.{no_windows}
use Rattle.windows.proofs.FrameDefault.default.Goals as goal

pub returns : goal.returns
unfolding no_windows
returns c = rw c.default.ensures
