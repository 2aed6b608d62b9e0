-- Turns one after the other: where they end, how they go on, and what they come to for one field and for a whole script.
use Rattle.std.proofs.Common.{◌≡◌, ℕ, zero, suc, ◌+◌, ◌^◌, ◌<◌, ◌≤◌, true, false, eqb, List, length, sym, refl, ap, ◌∙◌, arith, eq-eqb, ne_eqb, eqb-true}
use mathlib.Core.Bool.{false≢true}
use borrow.Author.Tests.{eqb-false}
use Rattle.sequences.specs.Pick.{pick, picked, passed, by-case, took, skipped}
use Rattle.floats.specs.Word.{grown}
use Rattle.script_steps.specs.declared.Run.{Run}
use Rattle.script_steps.specs.Steps.{fresh}
use Rattle.listing.specs.declared.lines.Line.{Line}
use Rattle.listing.specs.declared.turns.Reached.{Reached}
use Rattle.listing.specs.declared.turns.Turn.{Turn}
use Rattle.listing.specs.declared.turns.Until.{Until}
use Rattle.listing.specs.declared.turns.Until.TheVariants as U
use Rattle.listing.specs.Turns.{turn_of, turns_from}
use Rattle.listing.specs.Last.{last_of, last_turn_of}
use Rattle.listing.specs.Reaching.{passes_by, goes_on_of, reached_at, reached_from, reached_of}
use Rattle.listing.proofs.TurnLaws.{taken-left}

-- ---- the test
pub on_takes : (u : Until) (line : Line) (k : ℕ) → goes_on_of u line k ≡ true → k ≡ 0 → ⊥
unfolding goes_on_of
on_takes u line k h z = false≢true (picked (eqb k 0) false (passes_by u line) (eq-eqb k 0 z) ∙ h)

pub none-ends : (u : Until) (line : Line) → goes_on_of u line 0 ≡ false
unfolding goes_on_of pick
none-ends u line = refl

field-ends : (line : Line) (k : ℕ) → goes_on_of U.Field line k ≡ false
unfolding goes_on_of
field-ends line k = by-case (eqb k 0) (λ h. sym (picked (eqb k 0) false false h)) (λ h. sym (passed (eqb k 0) false false h))

end_on : (line : Line) (k : ℕ) → (k ≡ 0 → ⊥) → goes_on_of U.End line k ≡ true
unfolding goes_on_of
end_on line k h = sym (passed (eqb k 0) false true (ne_eqb k 0 h))

-- ---- one turn more or less
module _ (u : Until) (run : Run) (n at : ℕ) (s : List ℕ) (t : Turn) (eq : t ≡ turn_of run n at s) where
  pub stops : (f : ℕ) → goes_on_of u t.line t.taken ≡ false → reached_at t n at ≡ reached_from u f run n at s
  unfolding reached_from
  stops zero h = ap (λ (x : Turn). reached_at x n at) eq
  stops (suc f) h = skipped _ _ _ _ (ap (λ (x : Turn). goes_on_of u x.line x.taken) (sym eq) ∙ h) (ap (λ (x : Turn). reached_at x n at) eq)

  pub passes : (f : ℕ) → goes_on_of u t.line t.taken ≡ true → reached_from u f t.run (grown n) (at + t.taken) s ≡ reached_from u (suc f) run n at s
  unfolding reached_from
  passes f h = took _ _ _ _ (ap (λ (x : Turn). goes_on_of u x.line x.taken) (sym eq) ∙ h) (ap (λ (x : Turn). reached_from u f x.run (grown n) (at + x.taken) s) eq)

-- ---- under way: the whole is what is left from here
pub record Going (u : Until) (s : List ℕ) (run₀ : Run) (n₀ at₀ : ℕ) (run : Run) (n at : ℕ) : Type 0 where
  pub within : at ≤ length s
  pub fuel : ℕ
  pub enough : length s ≤ fuel + at
  pub left : reached_from u fuel run n at s ≡ reached_of u run₀ n₀ at₀ s

pub going_start : (u : Until) (s : List ℕ) (run : Run) (n at : ℕ) → at ≤ length s → Going u s run n at run n at
going_start u s run n at h = record { within = h; fuel = length s; enough = omega arith; left = refl }

module _ (u : Until) (s : List ℕ) (run₀ : Run) (n₀ at₀ : ℕ) (run : Run) (n at : ℕ) (g : Going u s run₀ n₀ at₀ run n at) (t : Turn) (eq : t ≡ turn_of run n at s) where
  pub going_ends : goes_on_of u t.line t.taken ≡ false → reached_at t n at ≡ reached_of u run₀ n₀ at₀ s
  going_ends h = stops u run n at s t eq g.fuel h ∙ g.left

  module _ (h : goes_on_of u t.line t.taken ≡ true) where
    some : t.taken ≡ 0 → ⊥
    some = on_takes u t.line t.taken h

    onward : (f : ℕ) → length s ≤ f + at → reached_from u f run n at s ≡ reached_of u run₀ n₀ at₀ s → Going u s run₀ n₀ at₀ t.run (grown n) (at + t.taken)
    onward zero e w = let z = some in let left = taken-left run n at s t eq in absurd (omega arith)
    onward (suc f) e w =
        let z = some in
        let left = taken-left run n at s t eq in
        let fits = g.within in
        record { within = omega arith; fuel = f; enough = omega arith; left = passes u run n at s t eq f h ∙ w }

    pub going_on : Going u s run₀ n₀ at₀ t.run (grown n) (at + t.taken)
    going_on = onward g.fuel g.enough g.left

    pub further : at < at + t.taken
    further = let z = some in omega arith

-- ---- one field
pub field-turn : (run : Run) (n at : ℕ) (s : List ℕ) → (reached_of U.Field run n at s).turn ≡ turn_of run n at s
field-turn run n at s = ap (λ (r : Reached). r.turn) (sym (stops U.Field run n at s (turn_of run n at s) refl (length s) (field-ends _ _)))

-- ---- a whole script
module _ (f : ℕ) (run : Run) (n at : ℕ) (s : List ℕ) (d : Turn) where
  ended : (turn_of run n at s).taken ≡ 0 → last_of d (turns_from (suc f) run n at s) ≡ turn_of run n at s
  unfolding turns_from last_of
  ended h = rw (eq-eqb _ _ h)

  ahead : ((turn_of run n at s).taken ≡ 0 → ⊥) → last_of d (turns_from (suc f) run n at s) ≡ last_of (turn_of run n at s) (turns_from f (turn_of run n at s).run (n + 1) (at + (turn_of run n at s).taken) s)
  unfolding turns_from last_of
  ahead h = rw (ne_eqb _ _ h)

nothing_left : (run : Run) (n at : ℕ) (s : List ℕ) (t : Turn) → last_of t (turns_from 0 run n at s) ≡ t
unfolding turns_from last_of
nothing_left run n at s t = refl

no_more : (run : Run) (n at : ℕ) (s : List ℕ) → reached_at (turn_of run n at s) n at ≡ reached_from U.End 0 run n at s
unfolding reached_from
no_more run n at s = refl

last-from : (f : ℕ) (run : Run) (n at : ℕ) (s : List ℕ) → n + f < 2 ^ 64 → (d : Turn) → (reached_from U.End f run n at s).turn ≡ last_of d (turns_from (suc f) run n at s)
last-from zero run n at s h d =
    let t = turn_of run n at s in
    let here = ap (λ (r : Reached). r.turn) (sym (no_more run n at s)) in
    by-case (eqb t.taken 0)
    (λ y. here ∙ sym (ended 0 run n at s d (eqb-true _ _ y)))
    (λ y. here ∙ sym (ahead 0 run n at s d (eqb-false _ _ y) ∙ nothing_left _ _ _ _ t))
last-from (suc f) run n at s h d =
    let t = turn_of run n at s in
    by-case (eqb t.taken 0)
    (λ y.
    let z = eqb-true _ _ y in
    ap (λ (r : Reached). r.turn) (sym (stops U.End run n at s t refl (suc f) (ap (goes_on_of U.End t.line) z ∙ none-ends U.End t.line)))
    ∙ sym (ended (suc f) run n at s d z))
    (λ y.
    let some = eqb-false _ _ y in
    let next : grown n ≡ n + 1 = omega arith in
    ap (λ (r : Reached). r.turn) (sym (passes U.End run n at s t refl f (end_on t.line t.taken some)))
    ∙ last-from f t.run (grown n) (at + t.taken) s (omega arith) t
    ∙ ap (λ (m : ℕ). last_of t (turns_from (suc f) t.run m (at + t.taken) s)) next
    ∙ sym (ahead (suc f) run n at s d some))

pub script-turn : (s : List ℕ) → length s + 1 < 2 ^ 64 → (reached_of U.End fresh 1 0 s).turn ≡ last_turn_of s
unfolding last_turn_of
script-turn s h =
    let one : suc (length s) ≡ length s + 1 = omega arith in
    last-from (length s) fresh 1 0 s (omega arith) (turn_of fresh 1 0 s) ∙ ap (λ (f : ℕ). last_of (turn_of fresh 1 0 s) (turns_from f fresh 1 0 s)) one
