-- `row` meets its contract: what is one less than the harmonic, and wraps below 0.
use Rattle.std.proofs.Common.{◌≡◌, ℕ, ◌+◌, ◌%◌, ◌^◌, ◌<◌, ◌≤◌, eqb, ◌⊎◌, inl, inr, arith, rules, eqb-true}
use borrow.Author.Tests.{eqb-false}
use Rattle.sequences.specs.Pick.{by-case}
use Rattle.frame.proofs.partials.row.Goals as goal

module _ (partial r : ℕ) (e : (r + 1) % 2 ^ 64 ≡ partial) where
  in_table : r < 24 → partial ≡ r + 1
  in_table h = omega (arith, e)

  past-its-end : r < 2 ^ 64 → 24 ≤ r → (partial ≡ 0) ⊎ (24 < partial)
  past-its-end l h = by-case (eqb partial 0) (λ q. inl (eqb-true partial 0 q)) (λ q. inr (omega (arith, e, eqb-false partial 0 q)))

pub returns : goal.returns
returns c = let e = c.wrapping_sub_usize.ensures.value in (in_table _ _ e, past-its-end _ _ e (search rules))
