-- `birth` meets its contract: the choice, the attempt, the place.
use Rattle.std.proofs.Common.{sym, ◌∙◌, eq-eqb, ne_eqb, ltb-true, subst, ℕ, ◌<◌}
use Rattle.pool.proofs.Lowest.{vacant-is, none-is}
use Rattle.births.proofs.Born.{spent, turned, crowded, settled}
use Rattle.births.proofs.arrivals.birth.Goals as goal

pub returns-then-tally-eq-MAX_BIRTH_ATTEMPTS-clause-is : goal.returns-then-tally-eq-MAX_BIRTH_ATTEMPTS-clause-is
returns-then-tally-eq-MAX_BIRTH_ATTEMPTS-clause-is c = c.turned_away.ensures ∙ spent _ _ _ _ c.choose-slot.ensures _ c.drop_one.ensures (eq-eqb _ _ c.if-tally-eq-MAX_BIRTH_ATTEMPTS.true)

pub returns-then-barred-clause-is : goal.returns-then-barred-clause-is
returns-then-barred-clause-is c =
    c.turned_away-then-barred.ensures
    ∙ turned _ _ _ _ c.choose-slot.ensures _ c.try_one-tried.ensures (ne_eqb _ _ c.if-tally-eq-MAX_BIRTH_ATTEMPTS.false) (sym c.barred.ensures ∙ c.if-barred.true)

pub returns-in_default-clause-is : goal.returns-in_default-clause-is
returns-in_default-clause-is c =
    c.turned_away-in_default.ensures
    ∙ crowded _ _ _ _ c.choose-slot.ensures _ c.try_one-tried.ensures (ne_eqb _ _ c.if-tally-eq-MAX_BIRTH_ATTEMPTS.false) (sym c.barred.ensures ∙ c.if-barred.false)
    _ c.drop_one-in_default.ensures (none-is _ (sym c.in_default.is ∙ c.free_place.ensures))

pub returns-clause-is : goal.returns-clause-is
returns-clause-is c =
    let at = vacant-is _ _ (sym c.in-Some.is ∙ c.free_place.ensures) in
    settled _ _ _ _ c.choose-slot.ensures _ c.try_one-tried.ensures (ne_eqb _ _ c.if-tally-eq-MAX_BIRTH_ATTEMPTS.false) (sym c.barred.ensures ∙ c.if-barred.false)
    _ _ _ _ at.1 at.0 c.voice-voice.ensures c.newborn-particle.ensures c.bear_one-tally.ensures

pub returns-clause-placed : goal.returns-clause-placed
returns-clause-placed c =
    let at = vacant-is _ _ (sym c.in-Some.is ∙ c.free_place.ensures) in
    subst (λ (k : ℕ). k < 64) (sym at.1) (ltb-true _ _ at.0)
