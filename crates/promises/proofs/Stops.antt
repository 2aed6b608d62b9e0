-- How a script stops: over the list of its fields, which its turns follow, from the first, the rate, to the verdict.
use Rattle.std.specs.Prelude.{Some, None, Ok, Err}
use Prim.Native.Nat.{ℕ, suc, ◌+◌, ◌≤◌, ◌<◌}
use native.Mathlib.Nat.{zero-add}
use native.Mathlib.Omega.{arith}
use mathlib.Core.Path.{◌≡◌, refl, sym, ap, ◌∙◌}
use mathlib.Core.Bool.{Bool, true, false, not, cond, true≢false}
use mathlib.Core.List.{List, [], ◌∷◌, ◌++◌, map}
use borrow.Author.Tests.{ne_eqb, eqb-true, le-ltb, lt-ltb, leb-true, leb-false, lt-leb}
use lib.Dec.{eqb, ltb, leb}
use lib.ListN.{length, get_or, take, drop}
use lib.Ieee.{Float}
use Rattle.sequences.specs.Every.{Every}
use Rattle.sequences.specs.Pick.{pick, picked, passed, by-case}
use Rattle.refusals.specs.declared.Refusal.TheVariants.{Rate, Place, Script}
use Rattle.refusals.specs.Numbers.{answer_of}
use Rattle.settings.specs.Settings.{lawful_rate}
use Rattle.state.specs.declared.Engine.{Engine}
use Rattle.state.specs.State.{taken, refused}
use Rattle.engine.specs.New.{new_engine_of}
use Rattle.big_endian.specs.Numbers.{f32_at}
use Rattle.script.specs.Table.{kind_of, field_of}
use Rattle.script.specs.declared.fields.Field.{Field}
use Rattle.script.specs.declared.fields.Field.TheVariants as F
use Rattle.script.specs.Field.{misplaced, read_of}
use Rattle.script.specs.Reading.{Placed, Reading, Verdict, field_at, in_front, ended, bad, onward}
use Rattle.script.proofs.Steps.{Reads, field, wrong, end, onward-reads, moved}
use Rattle.script.proofs.Places.{stops_at}
use Rattle.script.proofs.Whole.{whole}
use Rattle.script_writer_laws.specs.Events.{events}
use Rattle.script_writer_laws.proofs.OneRate.{one-rate}
use Rattle.script_steps.specs.declared.Run.{Run}
use Rattle.script_steps.specs.Replies.{Reply}
use Rattle.script_steps.specs.Steps.{fresh, done_of, step_of}
use Rattle.listing.specs.declared.lines.Line.{Line}
use Rattle.listing.specs.declared.lines.Line.TheVariants as L
use Rattle.listing.specs.declared.turns.Turn.{Turn}
use Rattle.listing.specs.Turns.{told_of, replied_of, bad_place, turn_of, turns_from, turns_of}
use Rattle.listing.specs.Last.{last_of, last_turn_of}
use Rattle.promises.specs.Over.{verdict_number, bad_at, last_line, turns_over}
use Rattle.promises.proofs.Follow.{turns_follow}
use Rattle.listing.specs.Printed.{lines_of, lines}
use Rattle.listing.specs.Ended.{bad_of}
use Rattle.promises.specs.Tests.{first_of, bad_rate, tests_of, reply_number}
use Rattle.promises.specs.Scripts.{move_of, Course, reached, begun_at, moved_by, course_from}
use Rattle.promises.specs.Stops.{bad_number, bad_in, refused_number, rate_number, stop_rows, reads_on, Through, Stops}
use Rattle.promises.specs.Runs.{run}
use Rattle.promises.proofs.Answers.{step-answers}
use Rattle.promises.proofs.Scripts.{nothing-after, turn_at, turn_moved}

-- ---- one turn
-- its line says what the reply does
says : (n at k : ℕ) (r : Run) (a : Reply) → refused_number (replied_of n at k r a).line ≡ reply_number a
says n at k r (Ok None) = refl
says n at k r (Err c) = by-case (eqb n 1) (λ y. rw y) (λ y. rw y)
says n at k r (Ok (Some v)) = refl

-- behind the first field it takes the field's bytes and the script goes on
module _ (n at k : ℕ) (r : Run) (l : eqb n 1 ≡ false) where
  takes : (a : Reply) → (replied_of n at k r a).taken ≡ k
  takes (Ok None) = refl
  takes (Err c) = rw l
  takes (Ok (Some v)) = refl

  goes : (a : Reply) → reads_on (replied_of n at k r a).line ≡ true
  goes (Ok None) = refl
  goes (Err c) = rw l
  goes (Ok (Some v)) = refl

-- ---- from the second field on
record Goes (run : Run) (n : ℕ) (r : Reading) (p : ℕ) : Type 0 where
  turns : List Turn
  last : Turn
  split : turns_over run n r.fields p r.verdict ≡ turns ++ last ∷ []
  one_each : length turns ≡ length (events r)
  go_on : Every (λ (t : Turn). reads_on t.line ≡ true) turns
  at_last : last.line ≡ last_line (n + length turns) p r.verdict

from_second : {n at : ℕ} {s : List ℕ} {r : Reading} → Reads n at s r → 2 ≤ n → (p : ℕ) (run : Run) → Goes run n r p
unfolding turns_over
from_second {n} {at} (field {f = f} {k = k} {r = r} e lo hi d) h p run =
    let l = ne_eqb n 1 (λ q. omega arith) in
    let a = (step_of run f).reply in
    let t = replied_of n at k (step_of run f).run a in
    let rest = from_second d (omega arith) p t.run in
    let took : eqb t.taken 0 ≡ false = ne_eqb t.taken 0 (λ q. let w = takes n at k (step_of run f).run l a in omega arith) in
    record {
      turns = t ∷ rest.turns;
      last = rest.last;
      split = rw took (ap {B = List Turn} (λ (ts : List Turn). t ∷ ts) rest.split);
      one_each = ap suc rest.one_each;
      go_on = (goes n at k (step_of run f).run l a, rest.go_on);
      at_last = rest.at_last ∙ ap (λ (m : ℕ). last_line m p r.verdict) (omega arith);
    }
from_second {n} (wrong {c = c} e) h p run = record { turns = []; last = told_of run (L.Bad n c p) 0; split = refl; one_each = refl; go_on = tt; at_last = ap (λ (m : ℕ). L.Bad m c p) (omega arith) }
from_second {n} (end e) h p run = record { turns = []; last = told_of run (last_line n p ended) 0; split = refl; one_each = refl; go_on = tt; at_last = ap (λ (m : ℕ). last_line m p ended) (omega arith) }

-- ---- the first field, the rate
first-rate : (s : List ℕ) {f : Field} {k : ℕ} → read_of s true ≡ Ok (Some (f, k)) → f ≡ F.Rate (f32_at (drop 3 s) 0)
unfolding misplaced
first-rate s e =
    let w = whole s true e in
    by-case (eqb (get_or s 0 0) 1)
    (λ y. sym w.is ∙ ap (λ (t : ℕ). field_of (kind_of t) (drop 3 s)) (eqb-true (get_or s 0 0) 1 y))
    (λ y. absurd (true≢false (rw y at w.in_place)))

rate_reply : (x : Float) → (step_of fresh (F.Rate x)).reply ≡ pick (lawful_rate x) (Ok None) (Err Rate)
unfolding step_of new_engine_of pick
rate_reply x = go (lawful_rate x) _ _
  where
    go : (b : Bool) (y z : Engine) → (done_of fresh (pick b (taken y) (refused Rate z))).reply ≡ pick b (Ok None) (Err Rate)
    go true y z = refl
    go false y z = refl

data Opens (r : Reading) (p : ℕ) : Type 0 where
  none : r.fields ≡ [] → Opens r p
  stopped : (x : Float) (fs : List Field) (run : Run) → events r ≡ F.Rate x ∷ fs → bad_rate x ≡ true → turns_over fresh 1 r.fields p r.verdict ≡ told_of run (L.Bad 1 Rate 0) 0 ∷ [] → Opens r p
  went_on : (x : Float) (fs : List Field) → events r ≡ F.Rate x ∷ fs → bad_rate x ≡ false → Goes fresh 1 r p → Opens r p

open_rate : (x : Float) (k : ℕ) {s : List ℕ} {r : Reading} → 3 ≤ k → Reads 2 k s r → (p : ℕ) → Opens (in_front (field_at 0 k (F.Rate x)) r) p
unfolding turns_over lawful_rate pick
open_rate x k {r = r} lo d p =
    let run = (step_of fresh (F.Rate x)).run in
    by-case (lawful_rate x)
    (λ y.
    let quiet : (step_of fresh (F.Rate x)).reply ≡ (Ok None) = rate_reply x ∙ sym (picked (lawful_rate x) (Ok None) (Err Rate) y) in
    let rest = from_second d (omega arith) p run in
    went_on x (events r) refl (ap not y)
    (record {
      turns = told_of run L.Nothing k ∷ rest.turns;
      last = rest.last;
      split = rw (quiet, ne_eqb k 0 (λ q. omega arith)) (ap {B = List Turn} (λ (ts : List Turn). told_of run L.Nothing k ∷ ts) rest.split);
      one_each = ap suc rest.one_each;
      go_on = (refl, rest.go_on);
      at_last = rest.at_last ∙ ap (λ (m : ℕ). last_line m p r.verdict) (omega arith);
    }))
    (λ y.
    let refusal : (step_of fresh (F.Rate x)).reply ≡ (Err Rate) = rate_reply x ∙ sym (passed (lawful_rate x) (Ok None) (Err Rate) y) in
    stopped x (events r) run refl (ap not y) (rw refusal))

opens : {n at : ℕ} {s : List ℕ} {r : Reading} → Reads n at s r → n ≡ 1 → at ≡ 0 → (p : ℕ) → Opens r p
opens {s = s} (field {at = at} {f = f} {k = k} {r = r} e lo hi d) q z p =
    let first : read_of s true ≡ (Ok (Some (f, k))) = rw q at e in
    rw (z, first-rate s first) (open_rate (f32_at (drop 3 s) 0) k lo (moved (omega arith) (omega arith) refl d) p)
opens (wrong e) q z p = none refl
opens (end e) q z p = none refl

-- ---- the number of the last line
quiet-number : (l : Line) → reads_on l ≡ true → bad_number l ≡ 0
quiet-number L.Nothing g = refl
quiet-number (L.Frame n v) g = refl
quiet-number (L.Refused n r) g = refl
quiet-number (L.Bad n r p) g = absurd (true≢false (sym g))
quiet-number (L.End n) g = refl

verdict-number : (n at : ℕ) (v : Verdict) → bad_number (last_line n at v) ≡ verdict_number v
verdict-number n at ended = refl
verdict-number n at (bad r) = refl

host_number : (l : Line) → answer_of (bad_of l) ≡ bad_number l
host_number L.Nothing = refl
host_number (L.Frame n v) = refl
host_number (L.Refused n r) = refl
host_number (L.Bad n r p) = refl
host_number (L.End n) = refl

bad_last : (ts : List Turn) (last : Turn) → Every (λ (t : Turn). reads_on t.line ≡ true) ts → bad_in (lines_of (ts ++ last ∷ [])) ≡ bad_number last.line
unfolding pick
bad_last [] last g = by-case (eqb (bad_number last.line) 0) (λ y. rw y (sym (eqb-true (bad_number last.line) 0 y))) (λ y. rw y)
bad_last (t ∷ ts) last g = rw (quiet-number t.line g.0) (bad_last ts last g.1)

last_of_lem : (t : Turn) (ts : List Turn) (last : Turn) → last_of t (ts ++ last ∷ []) ≡ last
unfolding last_of
last_of_lem t [] last = refl
last_of_lem t (u ∷ ts) last = last_of_lem u ts last

-- ---- a whole script
empty-lines : lines [] ≡ L.Bad 1 Place 0 ∷ []
unfolding turns_from turn_of read_of bad_place pick
empty-lines = refl

module _ (s : List ℕ) where
  abbrev r : Reading
  r = onward 1 0 s

  abbrev p : ℕ
  p = bad_at s r

  record Ends : Type 0 where
    turns : List Turn
    last : Turn
    split : turns_of s ≡ turns ++ last ∷ []
    go_on : Every (λ (t : Turn). reads_on t.line ≡ true) turns
    number : bad_number last.line ≡ first_of (stop_rows s)

  alone : r.fields ≡ [] → turns_of s ≡ told_of fresh (last_line 1 p r.verdict) 0 ∷ []
  unfolding turns_over
  alone q = turns_follow s ∙ ap (λ (ps : List Placed). turns_over fresh 1 ps p r.verdict) q

  ends : Opens r p → Ends
  unfolding first_of pick
  ends (none q) =
      record { turns = []; last = told_of fresh (last_line 1 p r.verdict) 0; split = alone q; go_on = tt; number = rw q (verdict-number 1 p r.verdict) }
  ends (stopped x fs run q b t) = record { turns = []; last = told_of run (L.Bad 1 Rate 0) 0; split = turns_follow s ∙ t; go_on = tt; number = rw (q, b) }
  ends (went_on x fs q b g) =
      record {
        turns = g.turns;
        last = g.last;
        split = turns_follow s ∙ g.split;
        go_on = g.go_on;
        number = ap bad_number g.at_last ∙ verdict-number (1 + length g.turns) p r.verdict ∙ rw (q, b);
      }

  through : Opens r p → rate_number (events r) ≡ 0 → Through s
  unfolding first_of pick
  through (none q) z =
      record { turns = []; last = told_of fresh (last_line 1 p r.verdict) 0; split = alone q; one_each = sym (ap (λ (ps : List Placed). length (map (λ (p : Placed). p.field) ps)) q); go_on = tt; at_last = refl }
  through (stopped x fs run q b t) z = absurd (let w : 1 ≡ 0 = rw (q, b) at z in omega arith)
  through (went_on x fs q b g) z =
      record {
        turns = g.turns;
        last = g.last;
        split = turns_follow s ∙ g.split;
        one_each = g.one_each;
        go_on = g.go_on;
        at_last = g.at_last ∙ ap (λ (m : ℕ). last_line m p r.verdict) (omega arith);
      }

  stopped-by-rate : Opens r p → (rate_number (events r) ≡ 0 → ⊥) → lines_of (turns_of s) ≡ L.Bad 1 Rate 0 ∷ []
  unfolding first_of pick
  stopped-by-rate (none q) n = absurd (n (ap (λ (ps : List Placed). rate_number (map (λ (p : Placed). p.field) ps)) q))
  stopped-by-rate (stopped x fs run q b t) n = ap lines_of (turns_follow s ∙ t)
  stopped-by-rate (went_on x fs q b g) n = absurd (n (rw (q, b)))

  listed : Ends → bad_in (lines s) ≡ first_of ((ltb 60000 (length s), 12) ∷ stop_rows s)
  unfolding first_of pick
  listed d =
      by-case (leb (length s) 60000)
      (λ y. rw (y, le-ltb 60000 (length s) (leb-true _ _ y)) (ap (λ (ts : List Turn). bad_in (lines_of ts)) d.split ∙ bad_last d.turns d.last d.go_on ∙ d.number))
      (λ y. rw (y, lt-ltb 60000 (length s) (leb-false _ _ y)))

  too_long : 60000 < length s → lines s ≡ L.Bad 0 Script 0 ∷ []
  too_long h = rw (lt-leb (length s) 60000 h)

  number : Ends → answer_of (bad_of (last_turn_of s).line) ≡ first_of (stop_rows s)
  unfolding last_turn_of
  number d =
      ap (λ (ts : List Turn). answer_of (bad_of (last_of (turn_of fresh 1 0 s) ts).line)) d.split
      ∙ ap (λ (t : Turn). answer_of (bad_of t.line)) (last_of_lem (turn_of fresh 1 0 s) d.turns d.last)
      ∙ host_number d.last.line
      ∙ d.number

-- ---- a field's line, and the engine that meets the field
over-refused : (ps : List Placed) (at : ℕ) (v : Verdict) (before : Run) (n : ℕ) (k : Course) → before.engine ≡ reached k → (ts us : List Turn) (t : Turn) → turns_over before n ps at v ≡ ts ++ t ∷ us
    → (fs gs : List Field) (f : Field) → map (λ (p : Placed). p.field) ps ≡ fs ++ f ∷ gs → length fs ≡ length ts
    → refused_number t.line ≡ first_of (tests_of (reached (course_from k (take (length ts) (map (λ (p : Placed). p.field) ps)))) f)
unfolding turns_over course_from
over-refused [] at v before n k q ts us t h fs gs f e l = nothing-after fs gs f e
over-refused (p ∷ ps) at v before n k q [] us t h [] gs f e l =
    let same : turn_at p before n ≡ t = cc in
    let own : p.field ≡ f = cc in
    ap (λ (x : Turn). refused_number x.line) (sym same)
    ∙ says n p.place p.size (step_of before p.field).run (step_of before p.field).reply
    ∙ step-answers before p.field
    ∙ ap (λ (x : Engine). first_of (tests_of x p.field)) q
    ∙ ap (λ (g : Field). first_of (tests_of (reached k) g)) own
over-refused (p ∷ ps) at v before n k q [] us t h (g ∷ fs) gs f e l = absurd (omega arith)
over-refused (p ∷ ps) at v before n k q (u ∷ ts) us t h [] gs f e l = absurd (omega arith)
over-refused (p ∷ ps) at v before n k q (u ∷ ts) us t h (g ∷ fs) gs f e l =
    let here = turn_at p before n in
    let rest : cond (eqb here.taken 0) [] (turns_over here.run (n + 1) ps at v) ≡ ts ++ t ∷ us = cc in
    let left : map (λ (x : Placed). x.field) ps ≡ fs ++ f ∷ gs = cc in
    by-case (eqb here.taken 0)
    (λ y. nothing-after ts us t (rw y at rest))
    (λ y. over-refused ps at v here.run (n + 1) (moved_by k (move_of p.field)) (turn_moved p before n k q) ts us t (rw y at rest) fs gs f left (omega arith))

-- THE PART OF DEMAND 1
pub stops : (s : List ℕ) → Stops s
unfolding run
stops s =
    let o = opens (onward-reads 1 0 s) refl refl (bad_at s (onward 1 0 s)) in
    let d = ends s o in
    record {
      listing = listed s d;
      too_long = too_long s;
      empty = λ e. ap lines e ∙ empty-lines;
      number = number s d;
      rate_first = λ f fs e. (one-rate s f fs e).0;
      stopped = stopped-by-rate s o;
      through = through s o;
      behind = stops_at (onward-reads 1 0 s) ∙ zero-add _;
      refused = λ before after t h fs gs f e l.
          over-refused (onward 1 0 s).fields (bad_at s (onward 1 0 s)) (onward 1 0 s).verdict fresh 1 (begun_at fresh.engine) refl before after t (sym (turns_follow s) ∙ h) fs gs f e l;
    }
