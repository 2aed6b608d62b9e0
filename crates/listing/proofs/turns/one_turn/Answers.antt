-- `one_turn` meets its contract: the first turn alone.
use Rattle.std.proofs.Common.{ℕ, ap, ◌∙◌, arith}
use Rattle.listing.specs.declared.turns.Reached.{Reached}
use Rattle.listing.specs.declared.turns.Until.TheVariants as U
use Rattle.listing.specs.Reaching.{inside_of, reached_of}
use Rattle.listing.proofs.Going.{field-turn}
use Rattle.listing.proofs.turns.one_turn.Goals as goal

pub take_turns-reached-requires : goal.take_turns-reached-requires
take_turns-reached-requires c = omega (arith, c.inside-at.ensures)

pub returns : goal.returns
returns c =
    let a = c.args in
    let s = a.script.now in
    ap (λ (r : Reached). r.turn) (c.take_turns-reached.ensures ∙ ap (λ (at : ℕ). reached_of U.Field a.run a.n at s) c.inside-at.ensures) ∙ field-turn a.run a.n (inside_of a.at s) s
