-- `prepare` meets its contract: the bin table of the script's rate.
use Rattle.std.proofs.Common.{ap, ◌∙◌}
use lib.Ieee.{Float}
use Rattle.mask_gains.specs.Bins.{bin_table_of}
use Rattle.mask_files.proofs.rate.prepare.Goals as goal

pub returns : goal.returns
returns c = let a = c.args in c.bin_table.ensures ∙ ap (λ (x : Float). bin_table_of x a.fft_size a.logs.now) c.rate.ensures
