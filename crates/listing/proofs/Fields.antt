-- One field's turn from what its call left: the run and the reply.
use Rattle.std.proofs.Common.{◌≡◌, ℕ, eqb, List, drop, sym, ap, ◌∙◌, Some, Ok}
use Rattle.refusals.specs.Numbers.{Answer}
use Rattle.engine_triggers.specs.Triggers.{Fired}
use Rattle.engine_triggers.specs.declared.Triggered.{Triggered}
use Rattle.state.specs.declared.Done.{Done}
use Rattle.state.specs.declared.Engine.{Engine}
use Rattle.windows.specs.declared.Frame.{Frame}
use Rattle.frame.specs.declared.Framed.{Framed}
use Rattle.script.specs.declared.fields.Field.{Field}
use Rattle.script.specs.Field.{Read, read_of}
use Rattle.script_steps.specs.Replies.{Reply, reply_of}
use Rattle.script_steps.specs.declared.Run.{Run}
use Rattle.script_steps.specs.declared.Stepped.{Stepped}
use Rattle.script_steps.specs.Steps.{with_engine, done_of, fired_of, framed_step, frame_step_of, step_of}
use Rattle.script_steps.proofs.Together.{answered-is, outcome-is}
use Rattle.listing.specs.declared.turns.Said.{Said}
use Rattle.listing.specs.Saying.{said_of}
use Rattle.listing.specs.Turns.{told_of, replied_of, after_of, turn_of}
use Rattle.listing.proofs.TurnLaws.{said_as}

abbrev pub left : Run → Reply → Stepped
left run r = record { run = run; reply = r }

module _ (run : Run) (e : Engine) where
  module _ (r : Reply) where
    -- a call that is taken or refused
    pub by-done : (d : Done) (a : Answer) → a ≡ d.answer → e ≡ d.engine → r ≡ reply_of a → left (with_engine run e) r ≡ done_of run d
    by-done d a p q w =
        ap (λ (x : Engine). left (with_engine run x) r) q
        ∙ ap (left (with_engine run d.engine)) (w ∙ ap (λ (x : Answer). reply_of x) p)
        ∙ answered-is run d.engine d.answer

    pub by-trigger : (t : Triggered) (o : Fired) → o ≡ t.outcome → e ≡ t.engine → r ≡ reply_of o → left (with_engine run e) r ≡ fired_of run t
    by-trigger t o p q w =
        ap (λ (x : Engine). left (with_engine run x) r) q
        ∙ ap (left (with_engine run t.engine)) (w ∙ ap (λ (x : Fired). reply_of x) p)
        ∙ outcome-is run t.engine t.outcome

  -- a frame's call
  pub by-frame : (g : Framed) (f : Frame) (a : Answer) → f ≡ g.frame → a ≡ g.answer → e ≡ g.engine → frame_step_of run e f a ≡ framed_step run g
  by-frame g f a p q r =
      ap (λ (x : Frame). frame_step_of run e x a) p
      ∙ ap (frame_step_of run e g.frame) q
      ∙ ap (λ (x : Engine). frame_step_of run x g.frame g.answer) r

-- ---- the turn
module _ (run : Run) (n at : ℕ) (s : List ℕ) (read : Read) (is : read ≡ read_of (drop at s) (eqb n 1)) where
  pub turn_as : (r : Read) → read ≡ r → after_of run n at s r ≡ turn_of run n at s
  unfolding turn_of
  turn_as r p = ap (after_of run n at s) (sym p ∙ is)

  pub turn_of_lem : (field : Field) (k : ℕ) (next : Run) (r : Reply) (w : Said) → read ≡ Ok (Some (field, k)) → left next r ≡ step_of run field → w ≡ said_of n at k r
      → told_of next w.line w.taken ≡ turn_of run n at s
  turn_of_lem field k next r w p stepped said =
      said_as n at k next r w said ∙ ap (λ (x : Stepped). replied_of n at k x.run x.reply) stepped ∙ turn_as (Ok (Some (field, k))) p
