-- Exact milliseconds: the rule by a division, whole rates, and line by line over a script, whose rate no call changes.
use Prim.Native.Nat.{ℕ, suc, ◌+◌, ◌*◌, ◌/◌, ◌^◌, ◌≤◌, ◌<◌}
use native.Mathlib.Nat.{lt_of_lt_of_le, mul-one, mul-pos, add-mul, one-mul, div-mul-le_self, lt-div-mul-add, div-eq_of_lt-le, mul-div_cancel, mul-div-mul_right, le_of_mul-le-mul_right}
use native.Mathlib.Omega.{arith}
use mathlib.Core.Path.{◌≡◌, refl, sym, ap, ◌∙◌, subst}
use mathlib.Core.Bool.{true, false, true≢false}
use mathlib.Core.List.{List, [], ◌∷◌, ◌++◌}
use lib.Dec.{T, lit<}
use lib.ListN.{length, take}
use lib.Ieee.{Float, nan, inf, fin, binary32, up, down, to_unsigned}
use lib.Ieee.Bits.{is_true}
use lib.Ieee.Exact.{HasValue}
use lib.Ieee.Fits.{down_pos}
use lib.Ieee.Positive.{num, den, den_pos, value→cross}
use Rattle.floats.specs.Names.{Single}
use Rattle.floats_laws.proofs.Fitting.{own-convert}
use Rattle.floats_laws.proofs.Fractions.{Above}
use Rattle.floats_laws.proofs.Mag.{Mag}
use Rattle.sequences.specs.Every.{Every}
use Rattle.sequences.specs.Pick.{picked}
use Rattle.settings.specs.Settings.{lawful_rate}
use Rattle.settings_laws.proofs.Rates.{rate_above, rate_mag, rate-parts}
use Rattle.state.specs.declared.Done.{Done}
use Rattle.state.specs.declared.Engine.{Engine}
use Rattle.state.specs.Make.{prepared_of, new_on}
use Rattle.engine.specs.New.{new_engine_of, reset_of}
use Rattle.engine_laws.specs.Lawful.{Lawful}
use Rattle.engine_laws.proofs.Prepared.{prepared-applied}
use Rattle.script.specs.declared.fields.Field.{Field}
use Rattle.script.specs.declared.fields.Field.TheVariants as F
use Rattle.script_writer_laws.specs.Events.{NoRate}
use Rattle.script_writer_laws.proofs.OneRate.{one-rate}
use Rattle.script_steps.specs.declared.values.Values.{Values}
use Rattle.script_steps.specs.Steps.{fresh}
use Rattle.script_steps.specs.Values.{milliseconds_of, values_of}
use Rattle.listing.specs.declared.lines.Line.TheVariants as L
use Rattle.listing.specs.declared.turns.Turn.{Turn}
use Rattle.listing.specs.Turns.{turns_of}
use Rattle.promises.specs.Runs.{run}
use Rattle.promises.specs.Scripts.{Move, make, restart, call, move_of, Course, reached, begun_at, moved_by, course_from, fields_of, course_of}
use Rattle.promises.specs.Milliseconds.{Within, by_whole_part, Milliseconds}
use Rattle.promises.proofs.EveryRun.{every_run}
use Rattle.promises.proofs.Scripts.{run_append, every_take, scripts}
use Rattle.promises.proofs.Told.{Tells, told}

-- ---- the rule
at-lawful : (samples : ℕ) (rate : Float) → T (lawful_rate rate) → milliseconds_of samples rate ≡ samples * 1000 * den rate / num rate
unfolding milliseconds_of
at-lawful samples rate l = sym (picked (lawful_rate rate) (samples * 1000 * den rate / num rate) 0 (is_true (lawful_rate rate) l))

above_pos : (x : Float) → Above x 8000 → 0 < num x
above_pos nan a = absurd a
above_pos (inf s) a = absurd a
above_pos (fin true m e) a = absurd a
above_pos (fin false m e) a = lt_of_lt_of_le (mul-pos {m = 8000} (lit< tt) (down_pos e)) a

some : (rate : Float) → T (lawful_rate rate) → 0 < num rate
some rate l = above_pos rate (rate_above rate l)

quotient : (a n : ℕ) → 0 < n → (a / n * n ≤ a) × (a < (a / n + 1) * n)
quotient a n h = (div-mul-le_self a n, omega (arith, lt-div-mul-add {a = a} {b = n} h, add-mul (a / n) 1 n, one-mul n))

exact : (samples : ℕ) (rate : Float) → T (lawful_rate rate) → Within (milliseconds_of samples rate) samples rate
exact samples rate l = subst (λ (ms : ℕ). Within ms samples rate) (sym (at-lawful samples rate l)) (quotient (samples * 1000 * den rate) (num rate) (some rate l))

only : (ms samples : ℕ) (rate : Float) → T (lawful_rate rate) → Within ms samples rate → ms ≡ milliseconds_of samples rate
only ms samples rate l w = sym (div-eq_of_lt-le (num rate) w.0 w.1) ∙ sym (at-lawful samples rate l)

-- ---- rates
whole_part : (x : Float) (n : ℕ) → HasValue x false n 1 → Mag x 384000 → to_unsigned 64 x ≡ n
unfolding to_unsigned
whole_part nan n v a = absurd v
whole_part (inf s) n v a = absurd v
whole_part (fin true m e) n v a = absurd (true≢false v.0)
whole_part (fin false m e) n v a =
    let is : m * up e ≡ n * down e = sym (mul-one (m * up e)) ∙ v.1 in
    let cut : m * up e / down e ≡ n = ap (λ (z : ℕ). z / down e) is ∙ mul-div_cancel n (down_pos e) in
    let most : n ≤ 384000 = le_of_mul-le-mul_right (subst (λ (z : ℕ). z ≤ 384000 * down e) is a) (down_pos e) in
    omega (arith, cut, most)

whole_rates : (samples n : ℕ) (rate : Float) → Single rate → T (lawful_rate rate) → HasValue rate false n 1 → milliseconds_of samples rate ≡ by_whole_part samples rate
whole_rates samples n rate f l v =
    let is : num rate ≡ n * den rate = sym (mul-one (num rate)) ∙ value→cross rate n 1 v in
    at-lawful samples rate l
    ∙ ap (λ (z : ℕ). samples * 1000 * den rate / z) is
    ∙ mul-div-mul_right {m = den rate} (samples * 1000) n (den_pos rate)
    ∙ ap (λ (z : ℕ). samples * 1000 / z) (sym (whole_part rate n v (rate_mag rate f l)))

-- ---- a script's rate: nothing but a rate makes another engine
abbrev MakesNone : Move → Type 0
MakesNone (make x) = ⊥
MakesNone restart = Unit {0}
MakesNone (call c) = Unit {0}

makes_none : (f : Field) → NoRate f → MakesNone (move_of f)
makes_none (F.Rate x) h = true≢false h
makes_none (F.Configure c) h = tt
makes_none (F.Source s f g b) h = tt
makes_none (F.Retire s) h = tt
makes_none (F.Release s) h = tt
makes_none (F.Trigger s) h = tt
makes_none (F.Seek x) h = tt
makes_none (F.Advance n) h = tt
makes_none (F.Frame b x) h = tt
makes_none (F.NoteInput b) h = tt
makes_none F.Reset h = tt
makes_none F.Reserve h = tt
makes_none (F.ReservedTrigger s i) h = tt

reset-prepared : (e : Engine) → (reset_of e).prepared ≡ e.prepared
unfolding reset_of new_on
reset-prepared e = refl

moved-prepared : (k : Course) (v : Move) → MakesNone v → (reached (moved_by k v)).prepared ≡ (reached k).prepared
unfolding run
moved-prepared k (make x) h = absurd h
moved-prepared k restart h = reset-prepared (reached k)
moved-prepared k (call c) h = ap (λ (e : Engine). e.prepared) (run_append k.start k.calls (c ∷ [])) ∙ prepared-applied (reached k) c

course_prepared : (k : Course) (fs : List Field) → Every NoRate fs → (reached (course_from k fs)).prepared ≡ (reached k).prepared
unfolding course_from
course_prepared k [] a = refl
course_prepared k (f ∷ fs) a = course_prepared (moved_by k (move_of f)) fs a.1 ∙ moved-prepared k (move_of f) (makes_none f a.0)

new-rate : (x : Float) → T (lawful_rate x) → (new_engine_of x).engine.prepared.sample_rate ≡ x
unfolding new_engine_of new_on prepared_of
new-rate x l = ap (λ (d : Done). d.engine.prepared.sample_rate) (sym (picked (lawful_rate x) _ _ (is_true (lawful_rate x) l)))

script-rate : (s : List ℕ) (rate : Float) (fs : List Field) → fields_of s ≡ F.Rate rate ∷ fs → T (lawful_rate rate) → (n : ℕ)
    → (reached (course_of s (suc n))).prepared.sample_rate ≡ rate
unfolding course_from run
script-rate s rate fs h l n =
    ap (λ (gs : List Field). (reached (course_from (begun_at fresh.engine) (take (suc n) gs))).prepared.sample_rate) h
    ∙ ap (λ p. p.sample_rate) (course_prepared (begun_at (new_engine_of rate).engine) (take n fs) (every_take NoRate n fs (one-rate s (F.Rate rate) fs h).1))
    ∙ new-rate rate l

-- ---- a line
says-rate : (e : Engine) (rate : Float) → Lawful e → e.prepared.sample_rate ≡ rate → (v : Values) (activity : Float) → v ≡ values_of e activity → v.ms ≡ milliseconds_of v.sample rate
unfolding values_of
says-rate e rate w r v activity h =
    let single = own-convert binary32 e.prepared.sample_rate w.rate.1 ∙ r in
    ap (λ (x : Values). x.ms) h
    ∙ ap (λ (x : Float). milliseconds_of e.clock.sample x) single
    ∙ ap (λ (x : Values). milliseconds_of x.sample rate) (sym h)

says-few : (e : Engine) → Lawful e → (v : Values) (activity : Float) → v ≡ values_of e activity → v.sample ≤ 2 ^ 40
unfolding values_of
says-few e w v activity h = subst (λ (x : Values). x.sample ≤ 2 ^ 40) (sym h) w.clock.elapsed

-- after a turn the engine is that of a run, at the script's rate, and the turn's line tells of it
record Line (rate : Float) (e : Engine) (v : Values) : Type 0 where
  lawful : Lawful e
  own : e.prepared.sample_rate ≡ rate
  activity : Float
  tells : v ≡ values_of e activity

line : (s : List ℕ) (rate : Float) (fs : List Field) → fields_of s ≡ F.Rate rate ∷ fs → T (lawful_rate rate)
    → (before after : List Turn) (t : Turn) → turns_of s ≡ before ++ t ∷ after → (n : ℕ) (v : Values) → t.line ≡ L.Frame n v → Line rate t.run.engine v
line s rate fs h l before after t split n v framed =
    let e = t.run.engine in
    let m = suc (length before) in
    let k = course_of s m in
    let is : e ≡ reached k = scripts.turn_is_run s before after t split in
    let tells : Tells e (L.Frame n v) = subst (Tells e) framed (told s before after t split) in
    record {
      lawful = subst Lawful (sym is) (every_run.lawful k.start (scripts.begins s m) k.calls (scripts.typed s m));
      own = ap (λ (x : Engine). x.prepared.sample_rate) is ∙ script-rate s rate fs h l (length before);
      activity = tells.0;
      tells = tells.1;
    }

line_within : (rate : Float) (e : Engine) (v : Values) → T (lawful_rate rate) → Line rate e v → Within v.ms v.sample rate
line_within rate e v l w = subst (λ (ms : ℕ). Within ms v.sample rate) (sym (says-rate e rate w.lawful w.own v w.activity w.tells)) (exact v.sample rate l)

line_few : (rate : Float) (e : Engine) (v : Values) → Line rate e v → v.sample ≤ 2 ^ 40
line_few rate e v w = says-few e w.lawful v w.activity w.tells

-- THE PROMISE
pub milliseconds : Milliseconds
milliseconds =
    record {
      exact = λ samples rate l. exact samples rate l;
      only = λ ms samples rate l w. only ms samples rate l w;
      in_2048ths = λ rate f l. let w = rate-parts rate f l in (w.parts, w.is, omega (arith, w.most));
      whole_rates = λ samples n rate f l v. whole_rates samples n rate f l v;
      listed = λ s rate fs h l before after t split n v framed.
          let w = line s rate fs h l before after t split n v framed in
          (line_within rate t.run.engine v l w, line_few rate t.run.engine v w);
    }
