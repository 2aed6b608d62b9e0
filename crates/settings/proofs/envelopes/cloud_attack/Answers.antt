-- `cloud_attack` meets its contract: a case for each direction, and the index's parity.
use Rattle.sequences.specs.Pick.{picked, passed}
use borrow.Author.Tests.{eq-eqb, ne_eqb}
use Rattle.settings.specs.Envelope.{cloud_attack_of}
use Rattle.settings.proofs.envelopes.cloud_attack.Goals as goal

pub returns-in-Forward : goal.returns-in-Forward
unfolding cloud_attack_of
returns-in-Forward c = rw c.in-Forward.is

pub returns-in-Reverse : goal.returns-in-Reverse
unfolding cloud_attack_of
returns-in-Reverse c = rw c.in-Reverse.is

pub returns-then-index-eq0 : goal.returns-then-index-eq0
unfolding cloud_attack_of
returns-then-index-eq0 c = rw c.in-Alternate.is (picked _ _ _ (eq-eqb _ _ c.if-index-eq0.true))

pub returns-else-index-eq0 : goal.returns-else-index-eq0
unfolding cloud_attack_of
returns-else-index-eq0 c = rw c.in-Alternate.is (passed _ _ _ (ne_eqb _ _ c.if-index-eq0.false))
