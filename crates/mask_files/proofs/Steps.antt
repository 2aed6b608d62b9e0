-- What a step of a walk tells of the file that is left.
use Rattle.std.proofs.Common.{◌≡◌, ℕ, suc, ◌+◌, ◌-◌, ◌^◌, ◌<◌, ◌≤◌, true, false, leb, List, [], ◌++◌, length, sym, refl, ap, ◌∙◌, subst, arith, length-append, le-ltb, eq-eqb, le-leb, leb-false, leb-true, Ok, Err}
use mathlib.Core.Bool.{false≢true}
use lib.Ieee.{Float, nan}
use Rattle.sequences.specs.Pick.{pick, by-case, picked, passed, took, skipped}
use Rattle.text.specs.Put.{splice}
use Rattle.refusals.specs.Numbers.{Answer}
use Rattle.refusals.specs.declared.Refusal.{Refusal}
use Rattle.refusals.specs.declared.Refusal.TheVariants.{Room, Attenuation}
use Rattle.floats.specs.Word.{grown}
use Rattle.windows.specs.declared.Frame.{Frame}
use Rattle.mask_gains.specs.Logs.{lawful_logs}
use Rattle.script_steps.specs.declared.values.Values.{Values}
use Rattle.listing.specs.declared.lines.Line.{Line}
use Rattle.listing.specs.declared.lines.Line.TheVariants as L
use Rattle.listing.specs.declared.turns.Reached.{Reached}
use Rattle.listing.specs.declared.turns.Turn.{Turn}
use Rattle.listing.specs.Turns.{turn_of}
use Rattle.listing.specs.Reaching.{is_frameless, inside_of}
use Rattle.listing.proofs.TurnLaws.{taken-left}
use Rattle.listing.specs.Ended.{bad_of}
use Rattle.mask_records.specs.Placed.{Written, record_size}
use Rattle.mask_records.specs.Bytes.{record_of}
use Rattle.mask_records.specs.Written.{entries_of, scratch_of, record_written}
use Rattle.mask_records.proofs.Pairs.{record_length}
use Rattle.mask_laws.proofs.Frames.{entries-count}
use Rattle.mask_files.specs.declared.Made.{Made}
use Rattle.mask_files.specs.declared.Made.TheVariants as M
use Rattle.mask_files.specs.declared.Step.{Step}
use Rattle.mask_files.specs.declared.Walk.{Walk}
use Rattle.mask_files.specs.Records.{all_numbers, filed_by}
use Rattle.mask_files.specs.Walk.{walk_after, made_of, step_by, reach_of, walk_step}
use Rattle.mask_files.proofs.Passing.{filed_from, Passed, passing, last_takes_none, frame_takes, last_turn, one-turn}

-- ---- where the field that is reached stands
module _ (walk : Walk) (script : List ℕ) (r : Reached) (eq : r ≡ reach_of walk script) where
  pub reached : (depth : Float) (logs : List Float) → Passed depth logs script walk.run walk.n (inside_of walk.at script) r
  reached depth logs =
      let a = inside_of walk.at script in
      subst (Passed depth logs script walk.run walk.n a) (sym eq) (passing depth logs script (length script) walk.run walk.n a (omega arith) (omega arith))

  pub reach-fits : r.at + r.turn.taken ≤ length script
  reach-fits =
      let p = reached nan [] in
      let within = p.within in
      let fits = taken-left p.before r.n r.at script r.turn p.is in
      omega arith

-- ---- a record, where the bins are lawful
pub record Bins (logs scratch : List Float) : Type 0 where
  pub some : 1 ≤ length logs
  pub few : length logs ≤ 8193
  pub lawful : lawful_logs logs ≡ true
  pub places : length scratch ≡ length logs

abbrev Both : Type 0
Both = Written × List Float × List ℕ

module _ (sample : ℕ) (f : Frame) (depth : Float) (logs scratch : List Float) (out : List ℕ) (at : ℕ) (bins : Bins logs scratch) where
  written_is : (x : Both)
      → x ≡ pick (all_numbers f depth logs)
      (pick (leb (at + record_size (length logs)) (length out)) (Ok (at + record_size (length logs)), scratch_of f depth logs scratch, splice out at (record_of sample (entries_of f depth logs))) (Err Room, scratch, out))
      (Err Attenuation, scratch, out)
      → x ≡ record_written sample f depth logs scratch out at
  unfolding record_written all_numbers
  written_is x e =
      took _ _ _ _ (eq-eqb _ _ bins.places)
      (took _ _ _ _ bins.lawful (skipped _ _ _ _ (le-ltb _ _ bins.some) (skipped _ _ _ _ (le-ltb _ _ bins.few) e)))

  pub recorded : all_numbers f depth logs ≡ true → at + record_size (length logs) ≤ length out
      → (Ok (at + record_size (length logs)), scratch_of f depth logs scratch, splice out at (record_of sample (entries_of f depth logs))) ≡ record_written sample f depth logs scratch out at
  recorded a h = written_is _ (took _ _ _ _ a (took _ _ _ _ (le-leb _ _ h) refl))

  pub unplaced : all_numbers f depth logs ≡ true → leb (at + record_size (length logs)) (length out) ≡ false → (Err Room, scratch, out) ≡ record_written sample f depth logs scratch out at
  unplaced a h = written_is _ (took _ _ _ _ a (skipped _ _ _ _ h refl))

  pub no_number : all_numbers f depth logs ≡ false → (Err Attenuation, scratch, out) ≡ record_written sample f depth logs scratch out at
  no_number a = written_is _ (skipped _ _ _ _ a refl)

-- ---- a walk in a script
abbrev pub left_of : Float → List Float → List ℕ → Walk → List ℕ × Answer
left_of depth logs script w = filed_from depth logs (length script + 2 - w.n) w.run w.n w.at script

-- each field before it took a byte at least
pub record Stands (script : List ℕ) (w : Walk) : Type 0 where
  pub inside : w.at ≤ length script
  pub some : 0 < w.n
  pub few : w.n ≤ w.at + 1

-- a record was written: these bytes, and what is left behind them
pub record Recorded (depth : Float) (logs : List Float) (script : List ℕ) (walk next : Walk) (out new : List ℕ) (at after : ℕ) : Type 0 where
  pub bytes : List ℕ
  pub size : length bytes ≡ record_size (length logs)
  pub room : at + length bytes ≤ length out
  pub place : after ≡ at + length bytes
  pub buffer : new ≡ splice out at bytes
  pub files : left_of depth logs script walk ≡ (bytes ++ (left_of depth logs script next).0, (left_of depth logs script next).1)
  pub further : walk.at < next.at
  pub stands : Stands script next

-- none was: the file ends here, or there is no room for what is left of it
pub data Unrecorded (left : List ℕ × Answer) (room size at : ℕ) (r : Refusal) : Type 0 where
  ends : left ≡ ([], Err r) → Unrecorded left room size at r
  full : room < at + size → size ≤ length left.0 → Unrecorded left room size at r

abbrev pub Tells : Float → List Float → List ℕ → Walk → Walk → List ℕ → List ℕ → ℕ → Made → Type 0
Tells depth logs script walk next out new at (M.Record after) = Recorded depth logs script walk next out new at after
Tells depth logs script walk next out new at (M.Refused n r) = Unrecorded (left_of depth logs script walk) (length out) (record_size (length logs)) at r
Tells depth logs script walk next out new at (M.Last line) = (new ≡ out) × (left_of depth logs script walk ≡ ([], bad_of line))

module _ (depth : Float) (logs : List Float) (script : List ℕ) (top : length script + 1 < 2 ^ 64) (walk : Walk) (here : Stands script walk) where
  r : Reached
  r = reach_of walk script

  p : Passed depth logs script walk.run walk.n walk.at r
  unfolding r
  p =
      let here-at : inside_of walk.at script ≡ walk.at = omega (arith, here.inside) in
      subst (λ (a : ℕ). Passed depth logs script walk.run walk.n a (reach_of walk script)) here-at (reached walk script (reach_of walk script) refl depth logs)

  next : Walk
  next = walk_after r

  counts : walk.n + length script < 2 ^ 64 + walk.at
  counts = omega (arith, here.inside, here.few)

  within : r.at ≤ length script
  within = p.within

  fits : r.at + r.turn.taken ≤ length script
  unfolding r
  fits = reach-fits walk script (reach_of walk script) refl

  m : ℕ
  m = length script + 1 - r.n

  t_is : r.turn ≡ turn_of p.before r.n r.at script
  t_is = p.is

  -- what is left is what is left from the field that was reached
  from_there : left_of depth logs script walk ≡ filed_from depth logs (suc m) p.before r.n r.at script
  unfolding m
  from_there =
      let low = p.low counts in
      let few = p.few counts in
      let h = here.few in
      let w = within in
      let fuel : length script + 2 - walk.n ≡ suc (length script + 1 - r.n) + (r.n - walk.n) = omega arith in
      ap (λ (f : ℕ). filed_from depth logs f walk.run walk.n walk.at script) fuel ∙ p.files counts (suc (length script + 1 - r.n))

  at_last : r.turn.taken ≡ 0 → left_of depth logs script walk ≡ filed_by depth logs r.turn.run.frame r.turn.line ([], Ok tt)
  at_last h =
      from_there ∙ last_turn depth logs m p.before r.n r.at script (ap (λ (x : Turn). x.taken) (sym t_is) ∙ h)
      ∙ ap (λ (x : Turn). filed_by depth logs x.run.frame x.line ([], Ok tt)) (sym t_is)

  at-frame : (r.turn.taken ≡ 0 → ⊥) → left_of depth logs script walk ≡ filed_by depth logs r.turn.run.frame r.turn.line (left_of depth logs script next)
  unfolding m next
  at-frame h =
      let low = p.low counts in
      let few = p.few counts in
      let b = here.few in
      let f = fits in
      let one : grown r.n ≡ r.n + 1 = omega arith in
      let fuel : length script + 1 - r.n ≡ length script + 2 - grown r.n = omega arith in
      from_there
      ∙ one-turn depth logs m p.before r.n r.at script (λ z. h (ap (λ (x : Turn). x.taken) t_is ∙ z))
      ∙ ap (λ (x : Turn). filed_by depth logs x.run.frame x.line (filed_from depth logs m x.run (r.n + 1) (r.at + x.taken) script)) (sym t_is)
      ∙ ap (λ (f : ℕ). filed_by depth logs r.turn.run.frame r.turn.line (filed_from depth logs f r.turn.run (r.n + 1) (r.at + r.turn.taken) script)) fuel
      ∙ ap (λ (k : ℕ). filed_by depth logs r.turn.run.frame r.turn.line (filed_from depth logs (length script + 2 - grown r.n) r.turn.run k (r.at + r.turn.taken) script)) (sym one)

  next-stands : (r.turn.taken ≡ 0 → ⊥) → Stands script next
  unfolding next
  next-stands h =
      let low = p.low counts in
      let few = p.few counts in
      let b = here.few in
      let pos = here.some in
      let f = fits in
      let one : grown r.n ≡ r.n + 1 = omega arith in
      record { inside = omega arith; some = omega arith; few = omega arith }

  next_further : (r.turn.taken ≡ 0 → ⊥) → walk.at < next.at
  unfolding next
  next_further h = let after = p.after in omega arith

  module _ (scratch : List Float) (bins : Bins logs scratch) (out : List ℕ) (at : ℕ) where
    frame_tells : (n : ℕ) (v : Values) → r.turn.line ≡ L.Frame n v
        → Tells depth logs script walk next out (record_written v.sample r.turn.run.frame depth logs scratch out at).2 at (made_of n (record_written v.sample r.turn.run.frame depth logs scratch out at).0)
    frame_tells n v e =
        let f = r.turn.run.frame in
        let b = record_of v.sample (entries_of f depth logs) in
        let size : length b ≡ record_size (length logs) = record_length v.sample (entries_of f depth logs) ∙ ap record_size (entries-count f depth logs) in
        let framed = ap is_frameless (ap (λ (x : Turn). x.line) (sym t_is) ∙ e) in
        let some : r.turn.taken ≡ 0 → ⊥ = λ z. frame_takes p.before r.n r.at script framed (ap (λ (x : Turn). x.taken) (sym t_is) ∙ z) in
        let left = at-frame some ∙ ap (λ (l : Line). filed_by depth logs f l (left_of depth logs script next)) e in
        let rest = left_of depth logs script next in
        by-case (all_numbers f depth logs)
        (λ y.
        let is : left_of depth logs script walk ≡ (b ++ rest.0, rest.1) = left ∙ sym (picked (all_numbers f depth logs) (b ++ rest.0, rest.1) ([], Err Attenuation) y) in
        by-case (leb (at + record_size (length logs)) (length out))
        (λ z.
        let fit : at + record_size (length logs) ≤ length out = leb-true (at + record_size (length logs)) (length out) z in
        subst (λ (x : Both). Tells depth logs script walk next out x.2 at (made_of n x.0))
        (recorded v.sample f depth logs scratch out at bins y fit)
        (record {
          bytes = b;
          size = size;
          room = omega arith;
          place = omega arith;
          buffer = refl;
          files = is;
          further = next_further some;
          stands = next-stands some;
        }))
        (λ z.
        subst (λ (x : Both). Tells depth logs script walk next out x.2 at (made_of n x.0))
        (unplaced v.sample f depth logs scratch out at bins y z)
        (full (leb-false _ _ z) (rw is (omega (arith, length-append b rest.0))))))
        (λ y.
        subst (λ (x : Both). Tells depth logs script walk next out x.2 at (made_of n x.0))
        (no_number v.sample f depth logs scratch out at bins y)
        (ends (left ∙ sym (passed (all_numbers f depth logs) (b ++ rest.0, rest.1) ([], Err Attenuation) y))))

    filed_last : (l : Line) → is_frameless l ≡ true → (f : Frame) → filed_by depth logs f l ([], Ok tt) ≡ ([], bad_of l)
    filed_last L.Nothing h f = refl
    filed_last (L.Frame n v) h f = absurd (false≢true h)
    filed_last (L.Refused n k) h f = refl
    filed_last (L.Bad n k p) h f = refl
    filed_last (L.End n) h f = refl

    last_tells : (l : Line) → r.turn.line ≡ l → is_frameless l ≡ true → left_of depth logs script walk ≡ ([], bad_of l)
    last_tells l e h =
        let none : r.turn.taken ≡ 0 = last_takes_none r.turn.line r.turn.taken p.ends (ap is_frameless e ∙ h) in
        at_last none ∙ ap (λ (x : Line). filed_by depth logs r.turn.run.frame x ([], Ok tt)) e ∙ filed_last l h r.turn.run.frame

    line_tells : (l : Line) → r.turn.line ≡ l
        → Tells depth logs script walk (step_by next r.turn.run.frame l depth logs scratch out at).0.walk out (step_by next r.turn.run.frame l depth logs scratch out at).2 at (step_by next r.turn.run.frame l depth logs scratch out at).0.made
    line_tells (L.Frame n v) e = frame_tells n v e
    line_tells L.Nothing e = (refl, last_tells L.Nothing e refl)
    line_tells (L.Refused n k) e = (refl, last_tells (L.Refused n k) e refl)
    line_tells (L.Bad n k p) e = (refl, last_tells (L.Bad n k p) e refl)
    line_tells (L.End n) e = (refl, last_tells (L.End n) e refl)

    pub step_tells : Tells depth logs script walk (walk_step walk script depth logs scratch out at).0.walk out (walk_step walk script depth logs scratch out at).2 at (walk_step walk script depth logs scratch out at).0.made
    unfolding walk_step r next
    step_tells = line_tells r.turn.line refl

    pub told : (s : Step) (x : List Float) (y : List ℕ) → (s, x, y) ≡ walk_step walk script depth logs scratch out at → Tells depth logs script walk s.walk out y at s.made
    told s x y e = subst (λ (z : Step × List Float × List ℕ). Tells depth logs script walk z.0.walk out z.2 at z.0.made) (sym e) step_tells
