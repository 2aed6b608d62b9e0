-- `shape` meets its contract: the gains from what was opened, or the refusal handed on.
use Rattle.std.proofs.lemmas.Result.{err_from_is_err_and}
use Rattle.mask_gains.proofs.Shaped.{shaped_taken, shaped_refused}
use Rattle.mask_gains.proofs.gain.shape.Goals as goal

pub returns-in_err-open_bins : goal.returns-in_err-open_bins
returns-in_err-open_bins c =
    let p = err_from_is_err_and c.from_residual.result c.from_residual.ensures.1 in
    rw (p.1, p.2) (shaped_refused _ _ _ _ _ c.requires.0 c.requires.1 _ _ c.open_bins.ensures _ c.in_err-open_bins.was)

pub returns : goal.returns
returns c =
    shaped_taken _ _ _ _ _ c.requires.0 c.requires.1 _ _ c.open_bins.ensures _ c.in_ok-open_bins.was c.finish.ensures
