-- The two passes over a script: one counts what the other writes.
use Rattle.std.proofs.Common.{◌≡◌, ℕ, ◌+◌, ◌-◌, ◌*◌, ◌≤◌, List, [], length, sym, refl, ap, ◌∙◌, subst, arith, length-append, Ok, Err}
use lib.Ieee.{Float}
use Rattle.text.specs.Put.{Put, splice}
use Rattle.text.proofs.Laws.{nothing, seq, spliced}
use Rattle.refusals.specs.Numbers.{Answer}
use Rattle.refusals.specs.declared.Refusal.{Refusal}
use Rattle.script_steps.specs.Steps.{fresh}
use Rattle.listing.specs.Turns.{turns_of}
use Rattle.mask_records.specs.Placed.{record_size}
use Rattle.mask_files.specs.declared.Walk.{Walk}
use Rattle.mask_files.specs.Records.{filed_of}
use Rattle.mask_files.specs.Walk.{walk_start, counted_as, measured_of}
use Rattle.mask_files.proofs.Passing.{filed_from}
use Rattle.mask_files.proofs.Steps.{Stands, left_of, Recorded, Unrecorded, ends, full}
use Rattle.mask_gains.proofs.Shaped.{apart}

abbrev pub whole_of : Float → List Float → List ℕ → List ℕ × Answer
whole_of depth logs script = filed_of depth logs (turns_of script)

-- ---- at the start all is left
start-stands : (script : List ℕ) → Stands script walk_start
unfolding walk_start
start-stands script = record { inside = omega arith; some = omega arith; few = omega arith }

start_left : (depth : Float) (logs : List Float) (script : List ℕ) → left_of depth logs script walk_start ≡ whole_of depth logs script
unfolding walk_start
start_left depth logs script = let fuel : length script + 2 - 1 ≡ length script + 1 = omega arith in ap (λ (f : ℕ). filed_from depth logs f fresh 1 0 script) fuel

-- ---- the first pass
pub record Measuring (depth : Float) (logs : List Float) (script : List ℕ) (walk : Walk) (bytes : ℕ) : Type 0 where
  pub stands : Stands script walk
  pub most : bytes ≤ 16402 * walk.at
  pub counted : length (whole_of depth logs script).0 ≡ bytes + length (left_of depth logs script walk).0
  pub goes : (left_of depth logs script walk).1 ≡ (whole_of depth logs script).1

module _ (depth : Float) (logs : List Float) (script : List ℕ) where
  pub measuring_starts : (walk : Walk) → walk ≡ walk_start → Measuring depth logs script walk 0
  measuring_starts walk e =
      let long : length (whole_of depth logs script).0 ≡ length (left_of depth logs script walk_start).0 = ap (λ (x : List ℕ × Answer). length x.0) (sym (start_left depth logs script)) in
      subst (λ (w : Walk). Measuring depth logs script w 0) (sym e)
      (record {
        stands = start-stands script;
        most = omega arith;
        counted = omega arith;
        goes = ap (λ (x : List ℕ × Answer). x.1) (start_left depth logs script);
      })

  module _ (walk : Walk) (bytes : ℕ) (m : Measuring depth logs script walk bytes) where
    module _ (next : Walk) (out new : List ℕ) (after : ℕ) (few : length logs ≤ 8193) (w : Recorded depth logs script walk next out new 0 after) where
      pub after_most : after ≤ 16402
      after_most = omega (arith, w.place, w.size)

      pub measuring_on : Measuring depth logs script next (bytes + after)
      measuring_on =
          let most = m.most in
          let further = w.further in
          let size = after_most in
          let place = w.place in
          let count = m.counted in
          let long : length (left_of depth logs script walk).0 ≡ length w.bytes + length (left_of depth logs script next).0 =
          ap (λ (x : List ℕ × Answer). length x.0) w.files ∙ length-append w.bytes (left_of depth logs script next).0 in
          record {
            stands = w.stands;
            most = omega arith;
            counted = omega arith;
            goes = ap (λ (x : List ℕ × Answer). x.1) (sym w.files) ∙ m.goes;
          }

    pub measuring_ends : (a b : Answer) → a ≡ b → left_of depth logs script walk ≡ ([], b) → counted_as a bytes ≡ measured_of (whole_of depth logs script)
    measuring_ends a b s e =
        let count = m.counted in
        let none : length (left_of depth logs script walk).0 ≡ 0 = ap (λ (x : List ℕ × Answer). length x.0) e in
        let long : bytes ≡ length (whole_of depth logs script).0 = omega arith in
        let end : a ≡ (whole_of depth logs script).1 = s ∙ sym (ap (λ (x : List ℕ × Answer). x.1) e) ∙ m.goes in
        ap (λ (c : Answer). counted_as c bytes) end ∙ ap (counted_as (whole_of depth logs script).1) long

    pub measuring_stops : (room : ℕ) (r : Refusal) → record_size (length logs) ≤ room → Unrecorded (left_of depth logs script walk) room (record_size (length logs)) 0 r
        → Err r ≡ measured_of (whole_of depth logs script)
    measuring_stops room r fits (ends e) = measuring_ends (Err r) (Err r) refl e
    measuring_stops room r fits (full h g) = absurd (omega arith)

-- ---- the second pass
pub record Writing (depth : Float) (logs : List Float) (script o : List ℕ) (start : ℕ) (out : List ℕ) (walk : Walk) (at : ℕ) : Type 0 where
  pub stands : Stands script walk
  pub taken : (left_of depth logs script walk).1 ≡ Ok tt
  pub room : at + length (left_of depth logs script walk).0 ≤ length out
  -- whatever writes what is left, writes with what is written the whole
  pub goes : (p : List ℕ) (r : ℕ) → Put out p at r (left_of depth logs script walk).0 → Put o p start r (whole_of depth logs script).0

module _ (depth : Float) (logs : List Float) (script o : List ℕ) (start : ℕ) where
  pub writing_starts : (walk : Walk) → walk ≡ walk_start → (whole_of depth logs script).1 ≡ Ok tt → start + length (whole_of depth logs script).0 ≤ length o → Writing depth logs script o start o walk start
  writing_starts walk e t h =
      let left = start_left depth logs script in
      subst (λ (w : Walk). Writing depth logs script o start o w start) (sym e)
      (record {
        stands = start-stands script;
        taken = ap (λ (x : List ℕ × Answer). x.1) left ∙ t;
        room = subst (λ (x : List ℕ × Answer). start + length x.0 ≤ length o) (sym left) h;
        goes = λ p r put. subst (λ (x : List ℕ × Answer). Put o p start r x.0) left put;
      })

  module _ (out : List ℕ) (walk : Walk) (at : ℕ) (g : Writing depth logs script o start out walk at) where
    pub writing-on : (next : Walk) (new : List ℕ) (after : ℕ) → Recorded depth logs script walk next out new at after → Writing depth logs script o start new next after
    writing-on next new after w =
        let put = spliced w.room w.buffer in
        let rest = left_of depth logs script next in
        let long : length (left_of depth logs script walk).0 ≡ length w.bytes + length rest.0 = ap (λ (x : List ℕ × Answer). length x.0) w.files ∙ length-append w.bytes rest.0 in
        let same = put.same in
        let fits = g.room in
        let place = w.place in
        record {
          stands = w.stands;
          taken = ap (λ (x : List ℕ × Answer). x.1) (sym w.files) ∙ g.taken;
          room = omega arith;
          goes = λ p r put'.
              g.goes p r
              (subst (λ (x : List ℕ × Answer). Put out p at r x.0) (sym w.files) (seq put (subst (λ (k : ℕ). Put new p k r rest.0) place put')));
        }

    pub writing-ends : (a : Answer) → start + length (whole_of depth logs script).0 ≤ length o → left_of depth logs script walk ≡ ([], a)
        → (at ≡ start + length (whole_of depth logs script).0) × (out ≡ splice o start (whole_of depth logs script).0)
    writing-ends a h e = (g.goes out at (subst (λ (x : List ℕ × Answer). Put out out at at x.0) (sym e) (nothing out at))).fits h

    pub writing_stops : (r : Refusal) → Unrecorded (left_of depth logs script walk) (length out) (record_size (length logs)) at r → ⊥
    writing_stops r (ends e) = apart r (sym g.taken ∙ ap (λ (x : List ℕ × Answer). x.1) e)
    writing_stops r (full h s) = let fits = g.room in omega arith
