-- A script is a run: field by field over the list of its fields, which the turns of a script follow.
use Rattle.std.specs.Prelude.{Some, None, Ok, Err}
use Prim.Native.Nat.{ℕ, zero, suc, ◌+◌}
use mathlib.Core.Path.{◌≡◌, refl, sym, ap, ◌∙◌, subst}
use mathlib.Core.Bool.{Bool, true, false, cond}
use mathlib.Core.List.{List, [], ◌∷◌, ◌++◌, map, append-nil, append_assoc}
use native.Mathlib.Omega.{arith}
use lib.Dec.{eqb}
use lib.ListN.{length, take}
use lib.Seq.{take-append_seam}
use lib.Ieee.{binary32, binary64}
use lib.Ieee.Bits.{of_bits-fits}
use Rattle.floats.specs.Names.{Single}
use Rattle.sequences.specs.Every.{Every}
use Rattle.sequences.specs.Pick.{by-case}
use Rattle.refusals.specs.Numbers.{Answer}
use Rattle.state.specs.declared.Done.{Done}
use Rattle.state.specs.declared.Engine.{Engine}
use Rattle.engine_triggers.specs.Triggers.{Fired, triggered_of, triggered_by}
use Rattle.engine_triggers.specs.declared.Outcome.TheVariants.{Born, NotEligible, Dropped}
use Rattle.engine_triggers.specs.declared.Triggered.{Triggered}
use Rattle.engine.specs.New.{new_engine_of, reset_of}
use Rattle.engine_changes.specs.Changes.{configured_of}
use Rattle.engine_sources.specs.Slots.{set_source_of, retire_source_of, release_source_of}
use Rattle.engine.specs.Advance.{advanced_of}
use Rattle.frame.specs.declared.Framed.{Framed}
use Rattle.frame.specs.Call.{framed_of as take_frame_of}
use Rattle.big_endian.specs.Numbers.{be32, be64, f32_at}
use Rattle.script.specs.Table.{field_of}
use Rattle.script.specs.declared.fields.Field.{Field}
use Rattle.script.specs.declared.fields.Field.TheVariants as F
use Rattle.script.specs.declared.tags.Kind.{Kind}
use Rattle.script.specs.declared.tags.Kind.TheVariants as K
use Rattle.script.specs.Reading.{Placed, Reading, Verdict, onward}
use Rattle.script.proofs.Steps.{Reads, field, wrong, end, onward-reads}
use Rattle.script.proofs.Whole.{whole, kind_at, value_of}
use Rattle.script_writer_laws.specs.Events.{events}
use Rattle.script_steps.specs.declared.Run.{Run}
use Rattle.script_steps.specs.Replies.{Reply}
use Rattle.script_steps.specs.Steps.{fresh, answered_of, done_of, outcome_step, fired_of, frame_step_of, framed_step, source_of, step_of}
use Rattle.listing.specs.declared.turns.Turn.{Turn}
use Rattle.listing.specs.Turns.{told_of, refusal_of, replied_of, turns_of}
use Rattle.promises.specs.Over.{bad_at, last_line, turns_over}
use Rattle.promises.proofs.Follow.{turns_follow}
use Rattle.engine_laws.specs.Acts.{Call, Typed, applied}
use Rattle.promises.specs.Life.{Held}
use Rattle.promises.specs.Runs.{run, history, AllTyped, Begins, new, reset}
use Rattle.promises.specs.Demand3.{AtMoment, OverCalls}
use Rattle.promises.specs.Scripts.{Move, make, restart, call, move_of, Course, reached, begun_at, moved_by, course_from, course_of, Scripts}
use Rattle.promises.proofs.Calls.{until}
use Rattle.promises.proofs.Demand3.{run_is, demand3}

-- ---- a field: the engine after it is the engine of the call's answer
done_engine : (before : Run) (d : Done) → (done_of before d).run.engine ≡ d.engine
done_engine before d = go d.answer
  where
    go : (a : Answer) → (answered_of before d.engine a).run.engine ≡ d.engine
    go (Ok tt) = refl
    go (Err r) = refl

fired_engine : (before : Run) (t : Triggered) → (fired_of before t).run.engine ≡ t.engine
fired_engine before t = go t.outcome
  where
    go : (o : Fired) → (outcome_step before t.engine o).run.engine ≡ t.engine
    go (Ok Born) = refl
    go (Ok NotEligible) = refl
    go (Ok Dropped) = refl
    go (Err r) = refl

framed_engine : (before : Run) (f : Framed) → (framed_step before f).run.engine ≡ f.engine
framed_engine before f = go f.answer
  where
    go : (a : Answer) → (frame_step_of before f.engine f.frame a).run.engine ≡ f.engine
    go (Ok tt) = refl
    go (Err r) = refl

-- what an event does to an engine
abbrev after : Engine → Move → Engine
after e (make x) = (new_engine_of x).engine
after e restart = reset_of e
after e (call c) = applied e c

step_engine : (before : Run) (f : Field) → (step_of before f).run.engine ≡ after before.engine (move_of f)
unfolding step_of applied
step_engine before (F.Rate x) = done_engine before (new_engine_of x)
step_engine before (F.Configure c) = done_engine before (configured_of before.engine c)
step_engine before (F.Source s f g b) = done_engine before (set_source_of before.engine s (source_of f g b))
step_engine before (F.Retire s) = done_engine before (retire_source_of before.engine s)
step_engine before (F.Release s) = done_engine before (release_source_of before.engine s)
step_engine before (F.Trigger s) = fired_engine before (triggered_of before.engine s)
step_engine before (F.Seek x) = refl
step_engine before (F.Advance n) = done_engine before (advanced_of before.engine n)
step_engine before (F.Frame b x) = framed_engine before (take_frame_of before.engine b x)
step_engine before (F.NoteInput b) = refl
step_engine before F.Reset = refl
step_engine before F.Reserve = refl
step_engine before (F.ReservedTrigger s i) = fired_engine before (triggered_by before.engine s i)

-- ---- a course
pub run_append : (e : Engine) (xs ys : List Call) → run e (xs ++ ys) ≡ run (run e xs) ys
unfolding run
run_append e [] ys = refl
run_append e (x ∷ xs) ys = run_append (applied e x) xs ys

moved_on : (k : Course) (e : Engine) (v : Move) → e ≡ reached k → after e v ≡ reached (moved_by k v)
unfolding run
moved_on k e (make x) q = refl
moved_on k e restart q = ap reset_of q
moved_on k e (call c) q = ap (λ (x : Engine). applied x c) q ∙ sym (run_append k.start k.calls (c ∷ []))

calls-on : (k : Course) (fs : List Field) (cs : List Call) → map move_of fs ≡ map call cs → reached (course_from k fs) ≡ run (reached k) cs
unfolding course_from run
calls-on k [] [] q = refl
calls-on k [] (c ∷ cs) q = absurd (let z : ◌≡◌ {A = ℕ} 0 1 = cc in omega arith)
calls-on k (f ∷ fs) [] q = absurd (let z : ◌≡◌ {A = ℕ} 0 1 = cc in omega arith)
calls-on k (f ∷ fs) (c ∷ cs) q =
    let one : move_of f ≡ call c = cc in
    let rest : map move_of fs ≡ map call cs = cc in
    calls-on (moved_by k (move_of f)) fs cs rest
    ∙ ap (λ (e : Engine). run e cs) (ap (λ (v : Move). reached (moved_by k v)) one ∙ sym (moved_on k (reached k) (call c) refl))

course_append : (k : Course) (xs ys : List Field) → course_from k (xs ++ ys) ≡ course_from (course_from k xs) ys
unfolding course_from
course_append k [] ys = refl
course_append k (x ∷ xs) ys = course_append (moved_by k (move_of x)) xs ys

goes_on : (s : List ℕ) (before between after : List Field) → events (onward 1 0 s) ≡ before ++ between ++ after → (cs : List Call) → map move_of between ≡ map call cs
    → reached (course_of s (length (before ++ between))) ≡ run (reached (course_of s (length before))) cs
goes_on s before between after q cs h =
    let k = begun_at fresh.engine in
    let upto = ap (take (length (before ++ between))) q ∙ take-append_seam (before ++ between) after in
    let first = ap (take (length before)) (q ∙ append_assoc before between after) ∙ take-append_seam before (between ++ after) in
    ap (λ (fs : List Field). reached (course_from k fs)) upto
    ∙ ap reached (course_append k before between)
    ∙ calls-on (course_from k before) between cs h
    ∙ ap (λ (fs : List Field). run (reached (course_from k fs)) cs) (sym first)

-- ---- the turns over a list of fields
replied-run : (n at size : ℕ) (r : Run) (a : Reply) → (replied_of n at size r a).run ≡ r
replied-run n at size r (Ok None) = refl
replied-run n at size r (Err c) = go (eqb n 1)
  where
    go : (first : Bool) → (refusal_of first r n at size c).run ≡ r
    go true = refl
    go false = refl
replied-run n at size r (Ok (Some v)) = refl

pub nothing-after : {A X : Type 0} (xs ys : List A) (x : A) → [] ≡ xs ++ x ∷ ys → X
nothing-after [] ys x q = absurd (let z : ◌≡◌ {A = ℕ} 0 1 = cc in omega arith)
nothing-after (y ∷ xs) ys x q = absurd (let z : ◌≡◌ {A = ℕ} 0 1 = cc in omega arith)

-- the turn of one field, before which the run is at the end of a course
module _ (p : Placed) (before : Run) (n : ℕ) where
  abbrev pub turn_at : Turn
  turn_at = replied_of n p.place p.size (step_of before p.field).run (step_of before p.field).reply

  pub turn_moved : (k : Course) → before.engine ≡ reached k → turn_at.run.engine ≡ reached (moved_by k (move_of p.field))
  turn_moved k q =
      ap (λ (r : Run). r.engine) (replied-run n p.place p.size (step_of before p.field).run (step_of before p.field).reply)
      ∙ step_engine before p.field
      ∙ moved_on k before.engine (move_of p.field) q

over-is-run : (ps : List Placed) (at : ℕ) (v : Verdict) (before : Run) (n : ℕ) (k : Course) → before.engine ≡ reached k → (ts us : List Turn) (t : Turn) → turns_over before n ps at v ≡ ts ++ t ∷ us
    → t.run.engine ≡ reached (course_from k (take (suc (length ts)) (map (λ (p : Placed). p.field) ps)))
unfolding turns_over course_from
over-is-run [] at v before n k q [] us t h = let same : told_of before (last_line n at v) 0 ≡ t = cc in ap (λ (x : Turn). x.run.engine) (sym same) ∙ q
over-is-run [] at v before n k q (u ∷ ts) us t h = let rest : [] ≡ ts ++ t ∷ us = cc in nothing-after ts us t rest
over-is-run (p ∷ ps) at v before n k q [] us t h =
    let same : turn_at p before n ≡ t = cc in
    ap (λ (x : Turn). x.run.engine) (sym same) ∙ turn_moved p before n k q
over-is-run (p ∷ ps) at v before n k q (u ∷ ts) us t h =
    let here = turn_at p before n in
    let rest : cond (eqb here.taken 0) [] (turns_over here.run (n + 1) ps at v) ≡ ts ++ t ∷ us = cc in
    by-case (eqb here.taken 0)
    (λ y. nothing-after ts us t (rw y at rest))
    (λ y. over-is-run ps at v here.run (n + 1) (moved_by k (move_of p.field)) (turn_moved p before n k q) ts us t (rw y at rest))

turn_is_run : (s : List ℕ) (before after : List Turn) (t : Turn) → turns_of s ≡ before ++ t ∷ after → t.run.engine ≡ reached (course_of s (suc (length before)))
unfolding run
turn_is_run s before after t h =
    let r = onward 1 0 s in
    over-is-run r.fields (bad_at s r) r.verdict fresh 1 (begun_at fresh.engine) refl before after t (sym (turns_follow s) ∙ h)

-- ---- what the reader hands over is typed
abbrev TypedMove : Move → Type 0
TypedMove (make x) = Single x
TypedMove restart = Unit {0}
TypedMove (call c) = Typed c

abbrev TypedField : Field → Type 0
TypedField f = TypedMove (move_of f)

single : (v : List ℕ) (i : ℕ) → Single (f32_at v i)
single v i = of_bits-fits binary32 (be32 v i)

kind_typed : (k : Kind) (v : List ℕ) → TypedField (field_of k v)
kind_typed K.Unknown v = tt
kind_typed K.Rate v = single v 0
kind_typed K.Configure v = record { rate = single v 3; size = single v 7; phase = single v 11; rolloff = single v 25; attack = single v 29; release = single v 33 }
kind_typed K.Source v = (single v 2, single v 6)
kind_typed K.Retire v = tt
kind_typed K.Release v = tt
kind_typed K.Trigger v = tt
kind_typed K.Seek v = of_bits-fits binary64 (be64 v 0)
kind_typed K.Advance v = tt
kind_typed K.Frame v = single v 4
kind_typed K.NoteInput v = tt
kind_typed K.Reset v = tt
kind_typed K.Reserve v = tt
kind_typed K.ReservedTrigger v = tt

reads-typed : {n at : ℕ} {s : List ℕ} {r : Reading} → Reads n at s r → Every TypedField (events r)
reads-typed {n} {at} {s} (field e lo hi d) = (subst TypedField (whole s (eqb n 1) e).is (kind_typed (kind_at s) (value_of s)), reads-typed d)
reads-typed (wrong e) = tt
reads-typed (end e) = tt

pub every_take : {A : Type 0} (P : A → Type 0) (n : ℕ) (l : List A) → Every P l → Every P (take n l)
every_take P zero l a = tt
every_take P (suc n) [] a = tt
every_take P (suc n) (x ∷ l) a = (a.0, every_take P n l a.1)

-- ---- so a course is a run that demand 3 speaks of
abbrev Spoken : Course → Type 0
Spoken k = Begins k.start × AllTyped k.calls

typed_append : (cs : List Call) (c : Call) → AllTyped cs → Typed c → AllTyped (cs ++ c ∷ [])
typed_append [] c t u = (u, tt)
typed_append (d ∷ cs) c t u = (t.0, typed_append cs c t.1 u)

moved_spoken : (k : Course) (v : Move) → Spoken k → TypedMove v → Spoken (moved_by k v)
moved_spoken k (make x) a t = (new x t, tt)
moved_spoken k restart a t = (reset k.start k.calls a.0 a.1, tt)
moved_spoken k (call c) a t = (a.0, typed_append k.calls c a.1 t)

course_spoken : (k : Course) (fs : List Field) → Spoken k → Every TypedField fs → Spoken (course_from k fs)
unfolding course_from
course_spoken k [] a t = a
course_spoken k (f ∷ fs) a t = course_spoken (moved_by k (move_of f)) fs (moved_spoken k (move_of f) a t.0) t.1

spoken : (s : List ℕ) (n : ℕ) → Spoken (course_of s n)
unfolding fresh
spoken s n =
    course_spoken (begun_at fresh.engine) (take n (events (onward 1 0 s))) (new _ (of_bits-fits binary32 0x473b8000), tt)
    (every_take TypedField n (events (onward 1 0 s)) (reads-typed (onward-reads 1 0 s)))

after_turn : (s : List ℕ) (n : ℕ) (e : Engine) → e ≡ reached (course_of s n)
    → let k = course_of s n in
    AtMoment k.start (history k.start k.calls) e × ((i : ℕ) → Held e i → OverCalls e i)
after_turn s n e q =
    let k = course_of s n in
    let a = spoken s n in
    let acts = history k.start k.calls in
    let now = demand3.moments k.start a.0 k.calls a.1 acts [] (sym (append-nil acts)) in (
      subst (AtMoment k.start acts) (run_is k.start k.calls ∙ sym q) now,
      subst (λ (x : Engine). (i : ℕ) → Held x i → OverCalls x i) (sym q) (demand3.calls k.start a.0 k.calls a.1),
    )

-- THE PROMISE
pub scripts : Scripts
scripts =
    record {
      field_is_call = λ before f c q. step_engine before f ∙ ap (after before.engine) q;
      rate_makes = λ before x. step_engine before (F.Rate x);
      reset_begins = λ before. step_engine before F.Reset;
      turn_is_run = turn_is_run;
      begins = λ s n. (spoken s n).0;
      typed = λ s n. (spoken s n).1;
      goes_on = goes_on;
      demand3 = λ s before after t h. after_turn s (suc (length before)) t.run.engine (turn_is_run s before after t h);
      holds = λ s before between after q cs h i held n.
          subst (λ (e : Engine). Held e i) (sym (goes_on s before between after q cs h)) (until (reached (course_of s (length before))) cs i held n).0;
    }
