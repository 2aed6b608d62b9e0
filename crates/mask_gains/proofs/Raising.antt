-- What is raised stays a number, and `max` with a number first is one test.
use mathlib.Core.Path.{◌≡◌, refl, sym, subst}
use mathlib.Core.Bool.{not, cond, ◌&&◌}
use mathlib.Core.List.{List}
use Prim.Native.Nat.{ℕ, ◌<◌}
use native.Mathlib.Omega.{arith}
use lib.Dec.{T, ltb}
use lib.ListN.{length, get_or}
use lib.Ieee.{Float, nan, of_bits, lt, le, is_nan}
use lib.Ieee.Bits.{is_false}
use Rattle.sequences.specs.Pick.{by-case}
use Rattle.sequences.specs.Table.{table, length_table, table_at}
use Rattle.floats.specs.Choose.{max}
use Rattle.floats.proofs.Rounded.{cond_number}
use Rattle.floats_laws.proofs.Rules.{lt→le, le_right}
use Rattle.windows.specs.declared.Window.{Window}
use Rattle.floats.specs.Names.{zero32}
use Rattle.windows.specs.Opening.{openness_of}
use Rattle.mask_gains.specs.Opened.{touches, raised_of}
use Rattle.mask_gains.specs.Walk.{Numbers, Raised}

module _ (o v : Float) (u : T (not (is_nan o))) where
  pub one_test : cond (lt o v) v o ≡ max o v
  unfolding max
  one_test = rw (is_false (is_nan o) u) refl

  max-number : T (not (is_nan (max o v)))
  unfolding max
  max-number = rw (is_false (is_nan o) u) (by-case (lt o v) (λ e. rw e (le_right o v (lt→le o v e))) (λ e. rw e u))

raised_number : (i : ℕ) (log : Float) (w : Window) (o : Float) → T (not (is_nan o)) → T (not (is_nan (raised_of i log w o)))
unfolding raised_of
raised_number i log w o u = cond_number (ltb 0 i && (not (le w.amplitude zero32) && touches w log)) (max o (openness_of w log)) o (max-number o (openness_of w log) u) u

pub numbers_raised : (w : Window) (logs xs ys : List Float) → Raised w logs xs ys → Numbers xs → Numbers ys
numbers_raised w logs xs ys r u i h =
    let l : i < length xs = omega (arith, r.same) in
    subst (λ (x : Float). T (not (is_nan x))) (sym (r.at i l)) (raised_number i (get_or logs i nan) w (get_or xs i nan) (u i l))

nil_number : T (not (is_nan zero32))
unfolding of_bits is_nan
nil_number = tt

pub numbers_blank : (n : ℕ) (xs : List Float) → xs ≡ table n (λ i. zero32) → Numbers xs
numbers_blank n xs e =
    rw e (λ i h. let l : i < n = omega (arith, length_table n (λ (i : ℕ). zero32)) in subst (λ (x : Float). T (not (is_nan x))) (sym (table_at n (λ (i : ℕ). zero32) i nan l)) nil_number)
