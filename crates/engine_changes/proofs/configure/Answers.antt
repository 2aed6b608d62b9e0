-- `configure` meets its contract: by what the check answers, and one step after the other.
use Rattle.std.proofs.Common.{Err, refl, ap, ◌∙◌}
use Rattle.std.proofs.lemmas.Result.{err_from_is_err_and}
use Rattle.engine_changes.specs.Changes.{configured_to, configured_of}
use Rattle.engine_changes.proofs.configure.Goals as goal

pub returns-in_err-checked : goal.returns-in_err-checked
unfolding configured_of
returns-in_err-checked c =
    let p = err_from_is_err_and c.from_residual.result c.from_residual.ensures.1 in
    rw (← c.checked.ensures, c.in_err-checked.was) (record { answer = p.1 ∙ ap Err p.2; engine = refl })

pub returns : goal.returns
unfolding configured_of configured_to
returns c = rw (← c.checked.ensures, c.in_ok-checked.was) (record { answer = refl; engine = rw (c.restart.ensures, c.offset.ensures, c.switch.ensures, c.reweigh.ensures, c.mended-config.ensures) })
