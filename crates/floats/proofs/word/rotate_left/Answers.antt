-- `rotate_left` meets its contract: `Words.turned`.
use Rattle.std.proofs.Common.{◌∙◌}
use Rattle.floats.proofs.Words.{turned}
use Rattle.floats.proofs.word.rotate_left.Goals as goal

pub returns : goal.returns
returns c = c.rotate_left.ensures ∙ turned c.args.x c.args.n c.ranges.x.fits
