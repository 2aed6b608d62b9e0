-- `without` meets its contract: two tests.
use Rattle.sequences.specs.Pick.{took, skipped}
use Rattle.pitch.specs.Partials.{without_of}
use Rattle.std.proofs.Common.{sym, refl, arith, rules, eq-eqb, ne_eqb}
use lib.Seq.{set_out}
use Rattle.pitch.proofs.harmonics.without.Goals as goal

pub returns-then-harmonic-le24 : goal.returns-then-harmonic-le24
unfolding without_of
returns-then-harmonic-le24 c = skipped _ _ _ _ (ne_eqb c.args.harmonic 0 (λ e. omega arith)) (search rules)

pub returns-else-harmonic-le24 : goal.returns-else-harmonic-le24
unfolding without_of
returns-else-harmonic-le24 c = skipped _ _ _ _ (ne_eqb c.args.harmonic 0 (λ e. omega arith)) (sym (set_out _ _ _ (search rules)))

pub returns-else-harmonic-gt0 : goal.returns-else-harmonic-gt0
unfolding without_of
returns-else-harmonic-gt0 c = took _ _ _ _ (eq-eqb c.args.harmonic 0 (omega arith)) refl
