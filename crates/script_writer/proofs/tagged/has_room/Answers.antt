-- `has_room` meets its contract: a difference that cannot fall below 0, for a sum that could pass 64 bits.
use Prim.Native.Nat.{ℕ, ◌+◌, ◌-◌, ◌≤◌}
use mathlib.Core.Path.{◌≡◌, sym, ◌∙◌}
use native.Mathlib.Omega.{arith}
use lib.Dec.{leb}
use borrow.Author.Tests.{le-leb, lt-leb, leb-true, leb-false}
use Rattle.sequences.specs.Pick.{by-case}
use Rattle.script_writer.proofs.tagged.has_room.Goals as goal

same : (has at n : ℕ) → at ≤ has → leb n (has - at) ≡ leb (at + n) has
same has at n h =
    by-case (leb n (has - at))
    (λ y. let l = leb-true n (has - at) y in y ∙ sym (le-leb (at + n) has (omega arith)))
    (λ y. let l = leb-false n (has - at) y in y ∙ sym (lt-leb (at + n) has (omega arith)))

pub returns-then-has-at : goal.returns-then-has-at
returns-then-has-at c = let a = c.args in sym (lt-leb (a.at + a.n) a.has (omega (arith, c.if-has-at.true)))

pub returns : goal.returns
returns c = let a = c.args in same a.has a.at a.n c.if-has-at.false
