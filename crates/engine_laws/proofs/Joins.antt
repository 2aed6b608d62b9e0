-- `advance` m then n, both accepted, is `advance` m + n.
use Rattle.std.specs.Prelude.{Ok, Err}
use Prim.Native.Nat.{ℕ, zero, suc, ◌+◌, ◌^◌, ◌≤◌, ◌<◌}
use native.Mathlib.Nat.{add-zero}
use native.Mathlib.Omega.{arith}
use mathlib.Core.Path.{◌≡◌, sym, ap, ◌∙◌, subst}
use mathlib.Core.Bool.{Bool, true, false, true≢false}
use borrow.Author.Tests.{le-leb, leb-true}
use lib.Dec.{leb}
use Rattle.floats.specs.Word.{grown}
use Rattle.sequences.specs.Pick.{picked, passed, by-case}
use Rattle.sequences.specs.Times.{iterate, iterate_add}
use Rattle.refusals.specs.Numbers.{Answer}
use Rattle.state.specs.declared.Done.{Done}
use Rattle.state.specs.declared.Engine.{Engine}
use Rattle.state.specs.State.{taken}
use Rattle.engine_samples.specs.Sample.{stepped_of}
use Rattle.engine.specs.Advance.{advanced_of}
use Rattle.engine_samples.proofs.Untouched.{stepped_sample}

pub grown_small : (n : ℕ) → n < 2 ^ 40 → grown n ≡ n + 1
grown_small n h = omega arith

-- n steps are n samples
pub steps_count : (n : ℕ) (e : Engine) → e.clock.sample + n ≤ 2 ^ 40 → (iterate stepped_of n e).clock.sample ≡ e.clock.sample + n
unfolding iterate
steps_count zero e h = sym (add-zero e.clock.sample)
steps_count (suc n) e h =
    let i = steps_count n e (omega arith) in
    stepped_sample (iterate stepped_of n e) ∙ grown_small (iterate stepped_of n e).clock.sample (omega (arith, i)) ∙ omega (arith, i)

abbrev is_taken : Answer → Bool
is_taken (Ok tt) = true
is_taken (Err r) = false

-- accepted only where the sum stays inside 2 ^ 40
pub taken-within : (e : Engine) (n : ℕ) → (advanced_of e n).answer ≡ Ok tt → e.clock.sample + n ≤ 2 ^ 40
unfolding advanced_of
taken-within e n h =
    by-case (leb (e.clock.sample + n) (2 ^ 40)) (λ q. leb-true _ _ q)
    (λ q. absurd (true≢false (sym (ap is_taken (ap (λ (d : Done). d.answer) (passed _ _ _ q) ∙ h)))))

-- and there it is n steps
pub inside : (e : Engine) (n : ℕ) → e.clock.sample + n ≤ 2 ^ 40 → advanced_of e n ≡ taken (iterate stepped_of n e)
unfolding advanced_of
inside e n h = sym (picked _ _ _ (le-leb _ _ h))

pub advance_joins : (e : Engine) (m n : ℕ) → (advanced_of e m).answer ≡ Ok tt → (advanced_of (advanced_of e m).engine n).answer ≡ Ok tt
    → advanced_of (advanced_of e m).engine n ≡ advanced_of e (m + n)
advance_joins e m n a b =
    let h = taken-within e m a in
    let first = inside e m h in
    let after : (advanced_of e m).engine ≡ iterate stepped_of m e = ap (λ (d : Done). d.engine) first in
    let k = steps_count m e h in
    let i : (iterate stepped_of m e).clock.sample + n ≤ 2 ^ 40 = taken-within (iterate stepped_of m e) n (subst (λ (x : Engine). (advanced_of x n).answer ≡ Ok tt) after b) in
    ap (λ (x : Engine). advanced_of x n) after
    ∙ inside (iterate stepped_of m e) n i
    ∙ ap taken (iterate_add stepped_of m n e)
    ∙ sym (inside e (m + n) (omega (arith, k)))
