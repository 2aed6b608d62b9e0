-- Each record moves a walk on, so that a walk ends.
use Rattle.std.proofs.Common.{◌≡◌, ℕ, ◌<◌, ◌≤◌, Bool, true, false, List, [], length, sym, refl, ap, ◌∙◌, subst, arith}
use mathlib.Core.Bool.{false≢true}
use lib.Ieee.{Float, nan}
use Rattle.listing.specs.declared.lines.Line.{Line}
use Rattle.listing.specs.declared.lines.Line.TheVariants as L
use Rattle.listing.specs.declared.turns.Reached.{Reached}
use Rattle.listing.specs.declared.turns.Turn.{Turn}
use Rattle.listing.specs.Reaching.{is_frameless}
use Rattle.mask_files.specs.declared.Made.{Made}
use Rattle.mask_files.specs.declared.Made.TheVariants as M
use Rattle.mask_files.specs.declared.Step.{Step}
use Rattle.mask_files.specs.declared.Walk.{Walk}
use Rattle.mask_files.specs.Walk.{walk_start, walk_after, step_by, reach_of, walk_step}
use Rattle.mask_files.proofs.Passing.{frame_takes}
use Rattle.mask_files.proofs.Steps.{reached, reach-fits}

pub start-inside : (script : List ℕ) (walk : Walk) → walk ≡ walk_start → walk.at ≤ length script
unfolding walk_start
start-inside script walk e = subst (λ (w : Walk). w.at ≤ length script) (sym e) (omega arith)

is_record : Made → Bool
is_record (M.Record after) = true
is_record (M.Refused n r) = false
is_record (M.Last l) = false

last_not : (l : Line) (after : ℕ) → M.Last l ≡ M.Record after → ⊥
unfolding is_record
last_not l after e = false≢true (ap is_record e)

module _ (walk : Walk) (script : List ℕ) (inside : walk.at ≤ length script) (depth : Float) (logs scratch : List Float) (out : List ℕ) (at after : ℕ) where
  r : Reached
  r = reach_of walk script

  abbrev step-at : Line → Step
  step-at l = (step_by (walk_after r) r.turn.run.frame l depth logs scratch out at).0

  frame-moves : is_frameless r.turn.line ≡ false → (walk.at < (walk_after r).at) × ((walk_after r).at ≤ length script)
  unfolding r
  frame-moves h =
      let p = reached walk script (reach_of walk script) refl nan [] in
      let t_is = p.is in
      let fits = reach-fits walk script (reach_of walk script) refl in
      let onward = p.after in
      let some : (reach_of walk script).turn.taken ≡ 0 → ⊥ = λ z.
      frame_takes p.before (reach_of walk script).n (reach_of walk script).at script (ap (λ (x : Turn). is_frameless x.line) (sym t_is) ∙ h)
      (ap (λ (x : Turn). x.taken) (sym t_is) ∙ z) in
      (omega arith, omega arith)

  by_line : (l : Line) → r.turn.line ≡ l → (step-at l).made ≡ M.Record after → (walk.at < (step-at l).walk.at) × ((step-at l).walk.at ≤ length script)
  by_line (L.Frame n v) e h = frame-moves (ap is_frameless e)
  by_line L.Nothing e h = absurd (last_not L.Nothing after h)
  by_line (L.Refused n k) e h = absurd (last_not (L.Refused n k) after h)
  by_line (L.Bad n k p) e h = absurd (last_not (L.Bad n k p) after h)
  by_line (L.End n) e h = absurd (last_not (L.End n) after h)

  pub record_moves : (s : Step) (x : List Float) (y : List ℕ) → (s, x, y) ≡ walk_step walk script depth logs scratch out at → s.made ≡ M.Record after → (walk.at < s.walk.at) × (s.walk.at ≤ length script)
  unfolding walk_step r
  record_moves s x y e h =
      let is : s ≡ step-at r.turn.line = ap (λ (z : Step × List Float × List ℕ). z.0) e in
      subst (λ (z : Step). (walk.at < z.walk.at) × (z.walk.at ≤ length script)) (sym is) (by_line r.turn.line refl (ap (λ (z : Step). z.made) (sym is) ∙ h))
