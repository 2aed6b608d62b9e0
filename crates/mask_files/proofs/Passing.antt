-- Fields without a frame add no record: up to the next frame, or to the script's last line, the file is what is left from there.
use Rattle.std.proofs.Common.{◌≡◌, ℕ, zero, suc, ◌+◌, ◌-◌, ◌^◌, ◌<◌, ◌≤◌, Bool, true, false, eqb, List, [], length, drop, sym, refl, ap, ◌∙◌, subst, arith, eq-eqb, ne_eqb, eqb-true, Some, None, Ok, Err}
use mathlib.Core.Bool.{false≢true}
use lib.Ieee.{Float}
use Rattle.sequences.specs.Pick.{picked, passed, by-case}
use Rattle.refusals.specs.Numbers.{Answer}
use Rattle.refusals.specs.declared.Refusal.{Refusal}
use Rattle.script.specs.Field.{Read, read_of}
use Rattle.script.proofs.Taken as Read-takes
use Rattle.floats.specs.Word.{grown}
use Rattle.script_steps.specs.declared.Run.{Run}
use Rattle.script_steps.specs.Replies.{Reply}
use Rattle.script_steps.specs.Steps.{step_of}
use Rattle.windows.specs.declared.Frame.{Frame}
use Rattle.listing.specs.declared.lines.Line.{Line}
use Rattle.listing.specs.declared.lines.Line.TheVariants as L
use Rattle.listing.specs.declared.turns.Reached.{Reached}
use Rattle.listing.specs.declared.turns.Until.TheVariants as U
use Rattle.listing.specs.Turns.{refusal_of, replied_of, bad_place, after_of, turn_of, turns_from}
use Rattle.listing.specs.Reaching.{is_frameless, goes_on_of, reached_at, reached_from}
use Rattle.listing.proofs.Going.{on_takes, none-ends}
use Rattle.listing.proofs.TurnLaws.{taken-left}
use Rattle.mask_files.specs.Records.{filed_by, filed_of}

-- the file of the turns from field n on, which stands at `at`
abbrev pub filed_from : Float → List Float → ℕ → Run → ℕ → ℕ → List ℕ → List ℕ × Answer
filed_from depth logs f run n at s = filed_of depth logs (turns_from f run n at s)

-- ---- which lines a walk passes by
frame-ends : (line : Line) (k : ℕ) → is_frameless line ≡ false → goes_on_of U.Frame line k ≡ false
unfolding goes_on_of
frame-ends line k h = by-case (eqb k 0) (λ y. sym (picked (eqb k 0) false (is_frameless line) y)) (λ y. sym (passed (eqb k 0) false (is_frameless line) y) ∙ h)

-- a line that stops the walk and is no frame's takes no byte
pub last_takes_none : (line : Line) (k : ℕ) → goes_on_of U.Frame line k ≡ false → is_frameless line ≡ true → k ≡ 0
unfolding goes_on_of
last_takes_none line k h y = by-case (eqb k 0) (λ z. eqb-true k 0 z) (λ z. absurd (false≢true (sym h ∙ sym (passed (eqb k 0) false (is_frameless line) z) ∙ y)))

-- a frame's field takes bytes
refusal_frame : (b : Bool) (run : Run) (n at k : ℕ) (r : Refusal) → is_frameless (refusal_of b run n at k r).line ≡ true
refusal_frame true run n at k r = refl
refusal_frame false run n at k r = refl

reply_frame : (n at k : ℕ) (run : Run) (a : Reply) → is_frameless (replied_of n at k run a).line ≡ false → (replied_of n at k run a).taken ≡ k
reply_frame n at k run (Ok None) h = absurd (false≢true (sym h))
reply_frame n at k run (Err r) h = absurd (false≢true (sym h ∙ refusal_frame (eqb n 1) run n at k r))
reply_frame n at k run (Ok (Some v)) h = refl

read_frame : (run : Run) (n at : ℕ) (s : List ℕ) (r : Read) (m : ℕ) → Read-takes.Taken r m → is_frameless (after_of run n at s r).line ≡ false → (after_of run n at s r).taken ≡ 0 → ⊥
read_frame run n at s (Ok (Some (f, k))) m (Read-takes.field lo hi) h z = let e = reply_frame n at k (step_of run f).run (step_of run f).reply h in omega arith
read_frame run n at s (Err r) m Read-takes.bad h z = false≢true (sym h)
read_frame run n at s (Ok None) m Read-takes.end h z = false≢true (sym h)

pub frame_takes : (run : Run) (n at : ℕ) (s : List ℕ) → is_frameless (turn_of run n at s).line ≡ false → (turn_of run n at s).taken ≡ 0 → ⊥
unfolding turn_of
frame_takes run n at s = read_frame run n at s (read_of (drop at s) (eqb n 1)) (length (drop at s)) (Read-takes.taken (drop at s) (eqb n 1))

module _ (depth : Float) (logs : List Float) where
  -- what is passed by adds nothing
  module _ (f : Frame) (rest : List ℕ × Answer) where
    refusal_adds : (b : Bool) (run : Run) (n at k : ℕ) (r : Refusal) → goes_on_of U.Frame (refusal_of b run n at k r).line (refusal_of b run n at k r).taken ≡ true
        → filed_by depth logs f (refusal_of b run n at k r).line rest ≡ rest
    refusal_adds true run n at k r h = absurd (false≢true (sym (none-ends U.Frame (L.Bad n r at)) ∙ h))
    refusal_adds false run n at k r h = refl

    reply_adds : (n at k : ℕ) (run : Run) (a : Reply) → goes_on_of U.Frame (replied_of n at k run a).line (replied_of n at k run a).taken ≡ true → filed_by depth logs f (replied_of n at k run a).line rest ≡ rest
    reply_adds n at k run (Ok None) h = refl
    reply_adds n at k run (Err r) h = refusal_adds (eqb n 1) run n at k r h
    reply_adds n at k run (Ok (Some v)) h = absurd (false≢true (sym (frame-ends (L.Frame n v) k refl) ∙ h))

    read_adds : (run : Run) (n at : ℕ) (s : List ℕ) (r : Read) → goes_on_of U.Frame (after_of run n at s r).line (after_of run n at s r).taken ≡ true → filed_by depth logs f (after_of run n at s r).line rest ≡ rest
    read_adds run n at s (Ok (Some (x, k))) h = reply_adds n at k (step_of run x).run (step_of run x).reply h
    read_adds run n at s (Err r) h = absurd (false≢true (sym (none-ends U.Frame (L.Bad n r (bad_place r at s))) ∙ h))
    read_adds run n at s (Ok None) h = refl

    adds_nothing : (run : Run) (n at : ℕ) (s : List ℕ) → goes_on_of U.Frame (turn_of run n at s).line (turn_of run n at s).taken ≡ true → filed_by depth logs f (turn_of run n at s).line rest ≡ rest
    unfolding turn_of
    adds_nothing run n at s h = read_adds run n at s (read_of (drop at s) (eqb n 1)) h

  -- ---- one turn, and what is left behind it
  pub last_turn : (f : ℕ) (run : Run) (n at : ℕ) (s : List ℕ) → (turn_of run n at s).taken ≡ 0 → filed_from depth logs (suc f) run n at s ≡ filed_by depth logs (turn_of run n at s).run.frame (turn_of run n at s).line ([], Ok tt)
  unfolding turns_from filed_of
  last_turn f run n at s h = rw (eq-eqb _ _ h)

  pub one-turn : (f : ℕ) (run : Run) (n at : ℕ) (s : List ℕ) → ((turn_of run n at s).taken ≡ 0 → ⊥)
      → filed_from depth logs (suc f) run n at s ≡ filed_by depth logs (turn_of run n at s).run.frame (turn_of run n at s).line (filed_from depth logs f (turn_of run n at s).run (n + 1) (at + (turn_of run n at s).taken) s)
  unfolding turns_from filed_of
  one-turn f run n at s h = rw (ne_eqb _ _ h)

-- ---- up to the next frame
-- from field n on, at place a of s, to the turn r: no record stands before it. The numbers count as far as there are any
pub record Passed (depth : Float) (logs : List Float) (s : List ℕ) (run : Run) (n a : ℕ) (r : Reached) : Type 0 where
  pub before : Run
  pub is : r.turn ≡ turn_of before r.n r.at s
  pub ends : goes_on_of U.Frame r.turn.line r.turn.taken ≡ false
  pub after : a ≤ r.at
  pub within : r.at ≤ length s
  pub low : n + length s < 2 ^ 64 + a → n ≤ r.n
  pub few : n + length s < 2 ^ 64 + a → r.n + a ≤ n + r.at
  pub files : n + length s < 2 ^ 64 + a → (m : ℕ) → filed_from depth logs (m + (r.n - n)) run n a s ≡ filed_from depth logs m before r.n r.at s

module _ (depth : Float) (logs : List Float) (s : List ℕ) where
  at_once : (run : Run) (n a : ℕ) → a ≤ length s → goes_on_of U.Frame (turn_of run n a s).line (turn_of run n a s).taken ≡ false
      → Passed depth logs s run n a (reached_at (turn_of run n a s) n a)
  at_once run n a h e =
      record {
        before = run;
        is = refl;
        ends = e;
        after = omega arith;
        within = h;
        low = λ top. omega arith;
        few = λ top. omega arith;
        files = λ top m. ap (λ (f : ℕ). filed_from depth logs f run n a s) (omega arith);
      }

  one_more : (run : Run) (n a : ℕ) (r : Reached) → goes_on_of U.Frame (turn_of run n a s).line (turn_of run n a s).taken ≡ true
      → Passed depth logs s (turn_of run n a s).run (grown n) (a + (turn_of run n a s).taken) r → Passed depth logs s run n a r
  one_more run n a r h q =
      let t = turn_of run n a s in
      let some = on_takes U.Frame t.line t.taken h in
      let fits = taken-left run n a s t refl in
      let aft = q.after in
      record {
        before = q.before;
        is = q.is;
        ends = q.ends;
        after = omega arith;
        within = q.within;
        low = λ top.
            let next : grown n ≡ n + 1 = omega arith in
            let low = q.low (omega arith) in
            omega arith;
        few = λ top.
            let next : grown n ≡ n + 1 = omega arith in
            let few = q.few (omega arith) in
            omega arith;
        files = λ top m.
            let next : grown n ≡ n + 1 = omega arith in
            let low = q.low (omega arith) in
            let f : ℕ = m + (r.n - (n + 1)) in
            let fuel : m + (r.n - n) ≡ suc f = omega arith in
            ap (λ (g : ℕ). filed_from depth logs g run n a s) fuel
            ∙ one-turn depth logs f run n a s some
            ∙ adds_nothing depth logs t.run.frame (filed_from depth logs f t.run (n + 1) (a + t.taken) s) run n a s h
            ∙ ap (λ (k : ℕ). filed_from depth logs (m + (r.n - k)) t.run k (a + t.taken) s) (sym next)
            ∙ q.files (omega arith) m;
      }

  pub passing : (f : ℕ) (run : Run) (n a : ℕ) → length s ≤ f + a → a ≤ length s → Passed depth logs s run n a (reached_from U.Frame f run n a s)
  unfolding reached_from
  passing zero run n a enough h =
      let t = turn_of run n a s in
      let fits = taken-left run n a s t refl in
      let none : t.taken ≡ 0 = omega arith in
      at_once run n a h (ap (goes_on_of U.Frame t.line) none ∙ none-ends U.Frame t.line)
  passing (suc f) run n a enough h =
      let t = turn_of run n a s in
      let fits = taken-left run n a s t refl in
      by-case (goes_on_of U.Frame t.line t.taken)
      (λ y.
      let some = on_takes U.Frame t.line t.taken y in
      subst (Passed depth logs s run n a) (picked _ _ _ y) (one_more run n a _ y (passing f t.run (grown n) (a + t.taken) (omega arith) (omega arith))))
      (λ y. subst (Passed depth logs s run n a) (passed _ _ _ y) (at_once run n a h y))
