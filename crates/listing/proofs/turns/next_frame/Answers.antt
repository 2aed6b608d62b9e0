-- `next_frame` meets its contract: the turns up to the next frame.
use Rattle.std.proofs.Common.{ℕ, ap, ◌∙◌, arith}
use Rattle.listing.specs.declared.turns.Until.TheVariants as U
use Rattle.listing.specs.Reaching.{reached_of}
use Rattle.listing.proofs.turns.next_frame.Goals as goal

pub take_turns-requires : goal.take_turns-requires
take_turns-requires c = omega (arith, c.inside-at.ensures)

pub returns : goal.returns
returns c =
    let a = c.args in
    c.take_turns.ensures ∙ ap (λ (at : ℕ). reached_of U.Frame a.run a.n at a.script.now) c.inside-at.ensures
