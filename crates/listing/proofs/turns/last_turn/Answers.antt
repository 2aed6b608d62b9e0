-- `last_turn` meets its contract: all turns, from a fresh run on.
use Rattle.std.proofs.Common.{◌+◌, ◌^◌, ◌<◌, length, ap, ◌∙◌, arith}
use Rattle.script_steps.specs.declared.Run.{Run}
use Rattle.listing.specs.declared.turns.Reached.{Reached}
use Rattle.listing.specs.declared.turns.Until.TheVariants as U
use Rattle.listing.specs.Reaching.{reached_of}
use Rattle.listing.proofs.Going.{script-turn}
use Rattle.listing.proofs.turns.last_turn.Goals as goal

pub returns : goal.returns
returns c =
    let s = c.args.script.now in
    let top : length s + 1 < 2 ^ 64 = omega (arith, c.well_formed.0) in
    ap (λ (r : Reached). r.turn) (c.take_turns-reached.ensures ∙ ap (λ (run : Run). reached_of U.End run 1 0 s) c.fresh.ensures) ∙ script-turn s top
