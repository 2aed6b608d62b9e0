-- `take_turns` meets its contract: each field's turn is the definition's, and the turns go as far as is asked for.
use mathlib.Core.Path.{refl}
use Rattle.std.proofs.Common.{◌≡◌, Ok, ℕ, ◌+◌, ◌-◌, ◌≤◌, length, sym, ap, ◌∙◌, subst, arith}
use Rattle.script.proofs.Part.{rest}
use Rattle.listing.proofs.Going.{Going, none-ends, going_start, going_ends, going_on, further}
use Rattle.listing.specs.declared.turns.Turn.{Turn}
use Rattle.listing.specs.Reaching.{reached_at}
use Rattle.listing.proofs.TurnLaws.{taken-left}
use Rattle.listing.specs.Turns.{told_of, turn_of}
use Rattle.listing.specs.declared.lines.Line.TheVariants as L
use Rattle.listing.proofs.Fields.{turn_as, turn_of_lem}
use Rattle.listing.proofs.turns.take_turns.Goals as goal
use Rattle.listing.proofs.turns.take_turns.Goals.{After-replied-said}

-- the turn of the field
turned : (c : After-replied-said) → told_of c.step-reply.new.run c.replied-said.result.line c.replied-said.result.taken ≡ turn_of c.loop-field.run c.loop-field.n c.loop-field.at c.args.script.now
turned c =
    let at = c.loop-field.at in
    let s = c.args.script.now in
    turn_of_lem _ _ at s _ (rw (rest at s) at c.read_field-read.ensures) _ _ _ _ _ (c.in-Ok-Some.is ∙ ap Ok (rw c.in-Ok-Some.is at c.in-Ok-Some.field-0-is)) c.step-reply.ensures c.replied-said.ensures

pub loop-field-init : goal.loop-field-init
loop-field-init c = let a = c.args in going_start a.until a.script.now a.run a.n a.at c.requires

pub slice_bounds-read_field-count : goal.slice_bounds-read_field-count
slice_bounds-read_field-count c = let fits = c.loop-field.invariant.within in omega arith

pub slice_bounds-read_field-start : goal.slice_bounds-read_field-start
slice_bounds-read_field-start c = let fits = c.loop-field.invariant.within in omega arith

pub slice_bounds-read_field-end : goal.slice_bounds-read_field-end
slice_bounds-read_field-end c = let fits = c.loop-field.invariant.within in omega arith

pub overflow_add-at : goal.overflow_add-at
overflow_add-at c =
    let a = c.args in
    let l = c.loop-field in
    let run = l.run in
    let eq = turned (goal.at.overflow_add-at c).After-replied-said in
    let le : c.replied-said.result.taken ≤ length a.script.now - l.at = taken-left run l.n l.at a.script.now _ eq in
    let more = further a.until a.script.now a.run a.n a.at run l.n l.at l.invariant _ eq (sym c.goes_on.ensures ∙ c.if-goes_on.true) in
    omega (arith, le, c.well_formed.1.1.1.1.0)

pub loop-field-smaller : goal.loop-field-smaller
loop-field-smaller c =
    let a = c.args in
    let l = c.loop-field in
    let run = l.run in
    let eq = turned (goal.at.loop-field-smaller c).After-replied-said in
    let le : c.replied-said.result.taken ≤ length a.script.now - l.at = taken-left run l.n l.at a.script.now _ eq in
    let more = further a.until a.script.now a.run a.n a.at run l.n l.at l.invariant _ eq (sym c.goes_on.ensures ∙ c.if-goes_on.true) in
    omega arith

pub loop-field-preserved : goal.loop-field-preserved
loop-field-preserved c =
    let a = c.args in
    let l = c.loop-field in
    let run = l.run in
    let eq = turned (goal.at.loop-field-preserved c).After-replied-said in
    subst (λ (m : ℕ). Going a.until a.script.now a.run a.n a.at c.step-reply.new.run m (l.at + c.replied-said.result.taken)) refl (going_on a.until a.script.now a.run a.n a.at run l.n l.at l.invariant _ eq (sym c.goes_on.ensures ∙ c.if-goes_on.true))

pub returns-else-goes_on : goal.returns-else-goes_on
returns-else-goes_on c =
    let a = c.args in
    let l = c.loop-field in
    let run = l.run in
    let eq = turned (goal.at.returns-else-goes_on c).After-replied-said in
    c.reach.ensures ∙ ap (λ (t : Turn). reached_at t l.n l.at) c.told.ensures ∙ going_ends a.until a.script.now a.run a.n a.at run l.n l.at l.invariant _ eq (sym c.goes_on.ensures ∙ c.if-goes_on.false)

pub returns-in-Err : goal.returns-in-Err
returns-in-Err c =
    let a = c.args in
    let l = c.loop-field in
    let run = l.run in
    let is = rw (rest l.at a.script.now) at c.read_field-read.ensures in
    let eq = turn_as run l.n l.at a.script.now _ is _ c.in-Err.is in
    let told = c.told-in-Err.ensures ∙ ap (λ (p : ℕ). told_of run (L.Bad l.n c.in-Err.refusal p) 0) c.bad_place-place.ensures in
    c.reach-in-Err.ensures ∙ ap (λ (t : Turn). reached_at t l.n l.at) told ∙ going_ends a.until a.script.now a.run a.n a.at run l.n l.at l.invariant _ eq (none-ends a.until _)

pub returns-in-Ok-None : goal.returns-in-Ok-None
returns-in-Ok-None c =
    let a = c.args in
    let l = c.loop-field in
    let run = l.run in
    let is = rw (rest l.at a.script.now) at c.read_field-read.ensures in
    let eq = turn_as run l.n l.at a.script.now _ is _ (c.in-Ok-None.is ∙ ap Ok (rw c.in-Ok-None.is at c.in-Ok-None.field-0-is)) in
    let told = c.told-in-Ok-None.ensures ∙ ap (λ (x : ℕ). told_of run (L.End x) 0) c.before-in-Ok-None.ensures in
    c.reach-in-Ok-None.ensures ∙ ap (λ (t : Turn). reached_at t l.n l.at) told ∙ going_ends a.until a.script.now a.run a.n a.at run l.n l.at l.invariant _ eq (none-ends a.until _)
