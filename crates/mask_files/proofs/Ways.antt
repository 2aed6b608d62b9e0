-- The ways through `next_record`: what it answers is `walk_step`.
use Rattle.std.proofs.Common.{◌≡◌, ℕ, true, List, sym, refl, ap, ◌∙◌}
use mathlib.Core.Bool.{false≢true}
use lib.Ieee.{Float}
use Rattle.script_steps.specs.declared.values.Values.{Values}
use Rattle.listing.specs.declared.lines.Line.{Line}
use Rattle.listing.specs.declared.lines.Line.TheVariants as L
use Rattle.listing.specs.declared.turns.Reached.{Reached}
use Rattle.listing.specs.Reaching.{is_frameless}
use Rattle.mask_records.specs.Placed.{Written}
use Rattle.mask_records.specs.Written.{record_written}
use Rattle.mask_files.specs.declared.Made.{Made}
use Rattle.mask_files.specs.declared.Made.TheVariants as M
use Rattle.mask_files.specs.declared.Walk.{Walk}
use Rattle.mask_files.specs.Walk.{walk_after, walk_stepped, made_of, written_by, step_by, reach_of, walk_step}

module _ (walk : Walk) (script : List ℕ) (depth : Float) (logs scratch : List Float) (out : List ℕ) (at : ℕ) (r : Reached) (eq : r ≡ reach_of walk script) where
  by_line : (l : Line) → r.turn.line ≡ l → step_by (walk_after r) r.turn.run.frame l depth logs scratch out at ≡ walk_step walk script depth logs scratch out at
  unfolding walk_step
  by_line l e =
      ap (λ (x : Line). step_by (walk_after r) r.turn.run.frame x depth logs scratch out at) (sym e)
      ∙ ap (λ (x : Reached). step_by (walk_after x) x.turn.run.frame x.turn.line depth logs scratch out at) eq

  module _ (next : Walk) (is : next ≡ walk_after r) where
    pub frame_step : (n : ℕ) (v : Values) (w : Written) (x : List Float) (y : List ℕ) (made : Made) → r.turn.line ≡ L.Frame n v → (w, x, y) ≡ record_written v.sample r.turn.run.frame depth logs scratch out at → made ≡ made_of n w
        → (walk_stepped next made, x, y) ≡ walk_step walk script depth logs scratch out at
    frame_step n v w x y made e f m =
        ap (λ (k : Made). (walk_stepped next k, x, y)) m
        ∙ ap (λ (k : Walk). (walk_stepped k (made_of n w), x, y)) is
        ∙ ap (written_by (walk_after r) n) f
        ∙ by_line (L.Frame n v) e

    last-by : (l : Line) → is_frameless l ≡ true → (walk_stepped (walk_after r) (M.Last l), scratch, out) ≡ step_by (walk_after r) r.turn.run.frame l depth logs scratch out at
    last-by L.Nothing h = refl
    last-by (L.Frame n v) h = absurd (false≢true h)
    last-by (L.Refused n k) h = refl
    last-by (L.Bad n k p) h = refl
    last-by (L.End n) h = refl

    pub last_step : (l : Line) → r.turn.line ≡ l → is_frameless l ≡ true → (walk_stepped next (M.Last l), scratch, out) ≡ walk_step walk script depth logs scratch out at
    last_step l e h = ap (λ (k : Walk). (walk_stepped k (M.Last l), scratch, out)) is ∙ last-by l h ∙ by_line l e
