-- The gains from the openness of the bins, by what `open_bins` answered.
use Rattle.std.specs.Prelude.{Ok, Err}
use mathlib.Core.Path.{◌≡◌, sym, ap, ◌∙◌}
use mathlib.Core.Bool.{Bool, true, false, false≢true}
use mathlib.Core.List.{List}
use borrow.Author.Tests.{eq-eqb}
use lib.ListN.{length, get_or}
use lib.Ieee.{Float, nan}
use Rattle.sequences.specs.Pick.{pick, picked}
use Rattle.sequences.specs.Table.{table, table-over}
use Rattle.windows.specs.declared.Window.{Window}
use Rattle.refusals.specs.Numbers.{Answer}
use Rattle.refusals.specs.declared.Refusal.{Refusal}
use Rattle.refusals.specs.declared.Refusal.TheVariants.{Logs}
use Rattle.mask_gains.specs.Logs.{lawful_logs}
use Rattle.mask_gains.specs.Opened.{open_at, opened_of}
use Rattle.mask_gains.specs.Gains.{gain_of, shaped_of}

is-taken : Answer → Bool
is-taken (Ok tt) = true
is-taken (Err k) = false

pub apart : (k : Refusal) → ◌≡◌ {A = Answer} (Ok tt) (Err k) → ⊥
unfolding is-taken
apart k e = false≢true (sym (ap is-taken e))

abbrev One : Type 0
One = Answer × List Float

abbrev Both : Type 0
Both = Answer × List Float × List Float

module _ (r : Answer) (xs ys t s g u : List Float) where
  on-taken : (l : Bool) → (r, xs) ≡ pick {A = One} l (Ok tt, t) (Err Logs, s) → r ≡ Ok tt → (xs ≡ t → ys ≡ g) → (Ok tt, xs, ys) ≡ pick {A = Both} l (Ok tt, t, g) (Err Logs, s, u)
  unfolding pick
  on-taken true e a f = let p : xs ≡ t = ap (λ (p : One). p.1) e in rw (f p, p)
  on-taken false e a f = absurd (apart Logs (sym a ∙ ap (λ (p : One). p.0) e))

  on-refused : (l : Bool) (k : Refusal) → (r, xs) ≡ pick {A = One} l (Ok tt, t) (Err Logs, s) → r ≡ Err k → (Err k, xs, u) ≡ pick {A = Both} l (Ok tt, t, g) (Err Logs, s, u)
  unfolding pick
  on-refused true k e a = absurd (apart k (sym (ap (λ (p : One). p.0) e) ∙ a))
  on-refused false k e a = let q : (Err k) ≡ (Err Logs) = sym a ∙ ap (λ (p : One). p.0) e in let p : xs ≡ s = ap (λ (p : One). p.1) e in rw (q, p)

module _ (ws : List Window) (level : Float) (logs scratch output : List Float) (m : length output ≡ length scratch) (n : length output ≡ length logs) (r : Answer) (xs : List Float) (e : (r, xs) ≡ opened_of ws logs scratch) where
  opened : (r, xs) ≡ pick {A = One} (lawful_logs logs) (Ok tt, table (length output) (open_at ws logs)) (Err Logs, scratch)
  unfolding opened_of
  opened = rw m (e ∙ sym (picked _ _ _ (eq-eqb _ _ (sym m ∙ n))))

  pub shaped_taken : (ys : List Float) → r ≡ Ok tt → ys ≡ table (length xs) (λ i. gain_of level (get_or xs i nan)) → (Ok tt, xs, ys) ≡ shaped_of ws level logs scratch output
  unfolding shaped_of
  shaped_taken ys a q = on-taken r xs ys _ _ _ _ (lawful_logs logs) opened a (λ p. table-over (gain_of level) (open_at ws logs) (length output) nan nan xs ys p q)

  pub shaped_refused : (k : Refusal) → r ≡ Err k → (Err k, xs, output) ≡ shaped_of ws level logs scratch output
  unfolding shaped_of
  shaped_refused k a = on-refused r xs output _ _ _ _ (lawful_logs logs) k opened a
