-- `put_windows` meets its contract: window by window.
use borrow.Author.Rules.{rules}
use mathlib.Core.Path.{ap, ◌∙◌}
use Rattle.sequences.specs.Default.{get_d_any}
use Rattle.text.proofs.Laws.{piece}
use Rattle.text.proofs.Joined.{none_yet, one_more, all_there}
use Rattle.windows.specs.Opening.{empty_window}
use Rattle.entry.specs.Entry.{window_bytes, windows_bytes}
use Rattle.entry.proofs.put_windows.Goals as goal

pub loop-w-init : goal.loop-w-init
loop-w-init c = none_yet _ _ _ _

pub loop-w-preserved : goal.loop-w-preserved
loop-w-preserved c =
    let l = c.loop-w in
    let a = c.args in
    let here = get_d_any a.windows l.w-index _ empty_window (search rules) in
    one_more l.invariant (search rules) (c.window_bytes-bytes.ensures ∙ ap window_bytes here) (piece c.put-at.ensures)

pub shape_of-out : goal.shape_of-out
shape_of-out c = c.loop-w.invariant.same

pub returns : goal.returns
unfolding windows_bytes
returns c = all_there c.loop-w.invariant (search rules)
