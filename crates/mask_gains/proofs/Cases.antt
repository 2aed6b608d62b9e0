-- The cases of `gains_of`: refusal 6 comes before the rule of depth and activity, wherever it is asked.
use mathlib.Core.Path.{◌≡◌, refl, sym, ap, ◌∙◌}
use mathlib.Core.Bool.{Bool, true, false, ◌||◌, false≢true}
use mathlib.Core.List.{List}
use borrow.Author.Tests.{eq-eqb}
use lib.ListN.{length}
use lib.Ieee.{Float, le, eq}
use Rattle.sequences.specs.Pick.{pick, took}
use Rattle.floats.specs.Names.{zero32}
use Rattle.windows.specs.declared.Frame.{Frame}
use Rattle.refusals.specs.Numbers.{Answer}
use Rattle.mask_gains.specs.Logs.{lawful_logs}
use Rattle.mask_gains.specs.Gains.{level_of, quiet_of, ones_of, shaped_of, gains_of}

-- a choice of answers and outputs, beside a scratch that stays
beside : List Float → Answer × List Float → Answer × List Float × List Float
beside scratch r = (r.0, scratch, r.1)

beside_pick : (scratch : List Float) (l : Bool) (u v : Answer × List Float) → beside scratch (pick l u v) ≡ pick l (beside scratch u) (beside scratch v)
unfolding pick
beside_pick scratch true u v = refl
beside_pick scratch false u v = refl

module _ {A : Type 0} (s x r : A) where
  quiet-pick : (l d a : Bool) → d || a ≡ true → pick l s r ≡ pick l (pick d s (pick a s x)) r
  unfolding pick
  quiet-pick false d a e = refl
  quiet-pick true true a e = refl
  quiet-pick true false true e = refl
  quiet-pick true false false e = absurd (false≢true e)

  loud-pick : (l d a : Bool) → d || a ≡ false → pick l x r ≡ pick l (pick d s (pick a s x)) r
  unfolding pick
  loud-pick false d a e = refl
  loud-pick true false false e = refl
  loud-pick true false true e = absurd (false≢true (sym e))
  loud-pick true true a e = absurd (false≢true (sym e))

module _ (f : Frame) (depth : Float) (logs scratch output : List Float) (m : length output ≡ length scratch) (n : length output ≡ length logs) where
  pub quiet-gains : (r : Answer) (ys : List Float) → quiet_of depth f.activity ≡ true → (r, ys) ≡ ones_of logs output → (r, scratch, ys) ≡ gains_of f depth logs scratch output
  unfolding gains_of quiet_of ones_of beside
  quiet-gains r ys q e =
      took _ _ _ _ (eq-eqb _ _ m)
      (took _ _ _ _ (eq-eqb _ _ n)
      (ap (beside scratch) e ∙ beside_pick scratch (lawful_logs logs) _ _ ∙ quiet-pick _ _ _ (lawful_logs logs) (le depth zero32) (eq f.activity zero32) q))

  pub loud-gains : (level : Float) (r : Answer × List Float × List Float) → quiet_of depth f.activity ≡ false → level ≡ level_of depth f.activity → r ≡ shaped_of f.windows level logs scratch output → r ≡ gains_of f depth logs scratch output
  unfolding gains_of quiet_of shaped_of
  loud-gains level r q h e =
      took _ _ _ _ (eq-eqb _ _ m)
      (took _ _ _ _ (eq-eqb _ _ n)
      (e
      ∙ ap (λ (l : Float). shaped_of f.windows l logs scratch output) h
      ∙ loud-pick _ _ _ (lawful_logs logs) (le depth zero32) (eq f.activity zero32) q))
