-- Turns that print nothing add nothing to the text: up to the next line it is what is left from there.
use Rattle.std.proofs.Common.{◌≡◌, ℕ, zero, suc, ◌+◌, ◌-◌, ◌^◌, ◌<◌, ◌≤◌, true, false, eqb, List, [], ◌++◌, length, sym, refl, ap, ◌∙◌, subst, arith, ne_eqb}
use mathlib.Core.Bool.{false≢true}
use Rattle.sequences.specs.Pick.{picked, passed, by-case}
use Rattle.floats.specs.Word.{grown}
use Rattle.text.specs.Put.{Put}
use Rattle.script_steps.specs.declared.Run.{Run}
use Rattle.listing.specs.declared.lines.Line.{Line}
use Rattle.listing.specs.declared.lines.Line.TheVariants as L
use Rattle.listing.specs.Lines.{text_of}
use Rattle.listing.specs.declared.turns.Reached.{Reached}
use Rattle.listing.specs.declared.turns.Until.TheVariants as U
use Rattle.listing.specs.Turns.{turn_of}
use Rattle.listing.specs.Reaching.{is_silent, goes_on_of, reached_at, reached_from, reached_of}
use Rattle.listing.proofs.Going.{on_takes}
use Rattle.listing.proofs.TurnLaws.{taken-left}
use Rattle.listing.specs.Printed.{text_from}
use Rattle.listing.proofs.Laws.{more, Goes}

-- ---- a line that prints nothing
no_text : (line : Line) → is_silent line ≡ true → text_of line ≡ []
no_text L.Nothing h = refl
no_text (L.Frame n v) h = absurd (false≢true h)
no_text (L.Refused n r) h = absurd (false≢true h)
no_text (L.Bad n r p) h = absurd (false≢true h)
no_text (L.End n) h = absurd (false≢true h)

on-silent : (line : Line) (k : ℕ) → goes_on_of U.Line line k ≡ true → is_silent line ≡ true
unfolding goes_on_of
on-silent line k h = passed (eqb k 0) false (is_silent line) (ne_eqb k 0 (on_takes U.Line line k h)) ∙ h

-- ---- up to the next line
-- from field n on, at place a of s, to the turn r: nothing is printed before it
pub record Silent (s : List ℕ) (run : Run) (n a : ℕ) (r : Reached) : Type 0 where
  pub before : Run
  pub is : r.turn ≡ turn_of before r.n r.at s
  pub low : n ≤ r.n
  pub few : r.n + a ≤ n + r.at
  pub after : a ≤ r.at
  pub within : r.at ≤ length s
  pub text : (m : ℕ) → text_from (m + (r.n - n)) run n a s ≡ text_from m before r.n r.at s

at_once : (s : List ℕ) (run : Run) (n a : ℕ) → a ≤ length s → Silent s run n a (reached_at (turn_of run n a s) n a)
at_once s run n a h =
    record {
      before = run;
      is = refl;
      low = omega arith;
      few = omega arith;
      after = omega arith;
      within = h;
      text = λ m. ap (λ (f : ℕ). text_from f run n a s) (omega arith);
    }

one_more : (s : List ℕ) (run : Run) (n a : ℕ) (r : Reached) → n + 1 < 2 ^ 64 → goes_on_of U.Line (turn_of run n a s).line (turn_of run n a s).taken ≡ true
    → Silent s (turn_of run n a s).run (grown n) (a + (turn_of run n a s).taken) r → Silent s run n a r
one_more s run n a r top h q =
    let t = turn_of run n a s in
    let some = on_takes U.Line t.line t.taken h in
    let next : grown n ≡ n + 1 = omega arith in
    let low = q.low in
    let few = q.few in
    let aft = q.after in
    record {
      before = q.before;
      is = q.is;
      low = omega arith;
      few = omega arith;
      after = omega arith;
      within = q.within;
      text = λ m.
          let f : ℕ = m + (r.n - (n + 1)) in
          let fuel : m + (r.n - n) ≡ suc f = omega arith in
          ap (λ (g : ℕ). text_from g run n a s) fuel
          ∙ sym (more f run n a s some)
          ∙ ap (λ (x : List ℕ). x ++ text_from f t.run (n + 1) (a + t.taken) s) (no_text t.line (on-silent t.line t.taken h))
          ∙ ap (λ (k : ℕ). text_from (m + (r.n - k)) t.run k (a + t.taken) s) (sym next)
          ∙ q.text m;
    }

silence : (f : ℕ) (run : Run) (n a : ℕ) (s : List ℕ) → n + length s < 2 ^ 64 + a → a ≤ length s → Silent s run n a (reached_from U.Line f run n a s)
unfolding reached_from
silence zero run n a s top h = at_once s run n a h
silence (suc f) run n a s top h =
    let t = turn_of run n a s in
    let fits = taken-left run n a s t refl in
    by-case (goes_on_of U.Line t.line t.taken)
    (λ y.
    let some = on_takes U.Line t.line t.taken y in
    let next : grown n ≡ n + 1 = omega arith in
    subst (Silent s run n a) (picked _ _ _ y) (one_more s run n a _ (omega arith) y (silence f t.run (grown n) (a + t.taken) s (omega arith) (omega arith))))
    (λ y. subst (Silent s run n a) (passed _ _ _ y) (at_once s run n a h))

-- ---- in a script, from field n on, which stands at `at`
module _ (script : List ℕ) (run : Run) (n at : ℕ) (r : Reached) (eq : r ≡ reached_of U.Line run n at script) (few : n ≤ at + 1) (in-s : at ≤ length script) (top : length script + 1 < 2 ^ 64) where
  reached : Silent script run n at r
  reached = subst (Silent script run n at) (sym eq) (silence (length script) run n at script (omega arith) in-s)

  pub before_line : Run
  before_line = reached.before

  pub line_turn : r.turn ≡ turn_of before_line r.n r.at script
  unfolding before_line
  line_turn = reached.is

  pub line_low : n ≤ r.n
  line_low = reached.low

  pub line_few : r.n ≤ r.at + 1
  line_few = let q = reached.few in omega arith

  pub line_after : at ≤ r.at
  line_after = reached.after

  pub line_within : r.at ≤ length script
  line_within = reached.within

  -- the text that is left is that from the line on
  pub line_goes : (o₀ : List ℕ) (w₀ : ℕ) (whole out : List ℕ) (w : ℕ) → Goes script o₀ w₀ whole out run n at w → Goes script o₀ w₀ whole out before_line r.n r.at w
  unfolding before_line
  line_goes o₀ w₀ whole out w g p q put =
      let low = line_low in
      let most = line_few in
      let fits = line_within in
      let m : ℕ = length script + 2 - r.n in
      let fuel : m + (r.n - n) ≡ length script + 2 - n = omega arith in
      let same : text_from (length script + 2 - n) run n at script ≡ text_from m before_line r.n r.at script =
      ap (λ (f : ℕ). text_from f run n at script) (sym fuel) ∙ reached.text m in
      g p q (subst (Put out p w q) (sym same) put)
