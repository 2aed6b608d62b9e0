-- `sweep` meets its contract: one pass that frees in place, counts what it frees and shows beside it.
use Rattle.std.proofs.Common.{◌+◌, List, set, sym, ap, ◌∙◌, subst, rules}
use Rattle.std.proofs.lemmas.List.{set-get_or}
use Rattle.pool.specs.declared.Particle.{Particle}
use Rattle.pool.specs.Pool.{free_particle}
use Rattle.sequences.specs.Pick.{picked, passed}
use Rattle.sequences.specs.Walk.{walked_none, walked_more, walked_all}
use Rattle.frame.specs.Freed.{is_freed, sweep_one}
use Rattle.frame.specs.Shown.{shown_of}
use Rattle.frame.proofs.Pass.{Pass, pass_none, pass_read, pass_changed, pass_kept, pass_held, pass_shown}
use Rattle.frame.proofs.Swept.{due-is-freed, other_stays, free-shows-nothing}
use Rattle.frame.proofs.sweep.Goals as goal
use Rattle.frame.proofs.sweep.Goals.{then-freed, else-freed}

pub loop-i-init : goal.loop-i-init
loop-i-init c = (pass_none _ _ _ 64 _ _ (search rules) (search rules), walked_none _ 64 _ 0 (search rules), search rules)

pub loop-i-preserved : goal.loop-i-preserved
loop-i-preserved c =
    let inv = c.loop-i.invariant in
    let now = c.args.sample in
    let rate = c.args.rate in
    let m = inv.0 in
    let freed = c.freed.ensures in
    elim c.if-freed.branch [
      | then-freed w ↦
          let free = w.default.ensures in
          rw (w.particles-is, w.shown-is) (
            pass_changed _ _ _ 64 _ _ _ _ m _ _ _ (search rules) (free ∙ due-is-freed _ _ _ (sym freed ∙ w.if-freed.true))
                (w.nothing_shown.ensures ∙ free-shows-nothing _ _ ∙ ap (shown_of _ _) (sym free)),
            walked_more inv.1 _ _ (search rules) (w.freed-is ∙ picked _ _ _ (sym (ap (is_freed _ _ 0) (pass_read _ _ _ 64 _ _ _ _ m _)) ∙ sym freed ∙ w.if-freed.true)),
            search rules,
          )
      | else-freed w ↦
          rw (w.particles-is, w.shown-is) (
            subst (λ (held : List Particle). Pass (sweep_one now rate) (shown_of now rate) free_particle 64 c.args.particles.now (c.loop-i.i + 1) held (set c.loop-i.shown c.loop-i.i w.show.result))
                (sym (set-get_or c.loop-i.particles c.loop-i.i _)) (pass_kept _ _ _ 64 _ _ _ _ m _ _ (search rules) (other_stays _ _ _ (sym freed ∙ w.if-freed.false)) w.show.ensures),
            walked_more inv.1 _ _ (search rules) (w.freed-is ∙ passed _ _ _ (sym (ap (is_freed _ _ 0) (pass_read _ _ _ 64 _ _ _ _ m _)) ∙ sym freed ∙ w.if-freed.false)),
            search rules,
          )
    ]

pub returns : goal.returns
returns c =
    let inv = c.loop-i.invariant in
    let m = inv.0 in
    let all = c.loop-i-test.false in
    let held = pass_held _ _ _ 64 _ _ _ _ m all in
    record { freed = walked_all inv.1 all; held = held; shown = rw held (pass_shown _ _ _ 64 _ _ _ _ m all) }
