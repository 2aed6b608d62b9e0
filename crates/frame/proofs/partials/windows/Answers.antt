-- `windows` meets its contract: the loops fill by place and window, and leave the windows that show nothing.
use Rattle.std.proofs.Common.{◌∙◌, arith, rules}
use Rattle.windows.specs.Opening.{empty_window}
use Rattle.frame.specs.Windows.{windows_of}
use Rattle.frame.proofs.Blank.{blank_none, blank_turns, blank_stored, blank_left, blank_all}
use Rattle.frame.proofs.Harmonic.{row_shows, other-shows-none, at_place}
use Rattle.frame.proofs.partials.windows.Goals as goal
use Rattle.frame.proofs.partials.windows.Goals.{then-row-lt-MAX_PARTIALS, else-row-lt-MAX_PARTIALS}

pub loop-p-init : goal.loop-p-init
loop-p-init c = blank_none _ empty_window _ c.default-none.ensures

pub loop-w-init : goal.loop-w-init
loop-w-init c = (omega arith, blank_turns _ _ _ _ _ c.loop-p.invariant (omega arith))

pub loop-w-preserved : goal.loop-w-preserved
loop-w-preserved c =
    let m = c.loop-w.invariant.1 in
    let row = c.row-row.ensures in
    let place = c.loop-p-test.true in (
      search rules,
      elim c.if-row-lt-MAX_PARTIALS.branch [
        | then-row-lt-MAX_PARTIALS u ↦
            rw u.out-is
            (blank_stored _ _ _ _ _ m place (search rules) _
            (u.placed.ensures ∙ row_shows _ _ _ _ _ _ u.if-row-lt-MAX_PARTIALS.true (row.0 u.if-row-lt-MAX_PARTIALS.true) ∙ at_place _ _ _ _ _ _ place))
        | else-row-lt-MAX_PARTIALS u ↦
            rw u.out-is (blank_left _ _ _ _ _ m place (search rules) (other-shows-none _ _ _ _ _ (row.1 u.if-row-lt-MAX_PARTIALS.false) ∙ at_place _ _ _ _ _ _ place))
      ],
    )

pub loop-p-preserved : goal.loop-p-preserved
loop-p-preserved c = blank_turns _ _ _ _ _ c.loop-w.invariant.1 (omega (arith, c.loop-w.invariant.0, c.loop-w-test.false))

pub returns : goal.returns
unfolding windows_of
returns c = blank_all _ _ _ _ c.loop-p.invariant (omega (arith, c.loop-p-test.false))
