-- `read_header` meets its contract: the tests in order.
use Prim.Native.Nat.{ℕ, ◌<◌}
use mathlib.Core.Path.{◌≡◌}
use mathlib.Core.Bool.{false}
use native.Mathlib.Omega.{arith}
use lib.Dec.{eqb}
use borrow.Author.Tests.{ne_eqb, lt-ltb, le-ltb}
use Rattle.script.specs.Field.{read_of}
use Rattle.script.proofs.read_header.Goals as goal

some : (n : ℕ) → 0 < n → eqb n 0 ≡ false
some n h = ne_eqb n 0 (λ e. omega (arith, h, e))

pub returns-then-cut : goal.returns-then-cut
unfolding read_of
returns-then-cut c = rw (some _ c.requires, lt-ltb _ _ c.if-cut.true)

pub returns-then-misplaced : goal.returns-then-misplaced
unfolding read_of
returns-then-misplaced c = rw (some _ c.requires, le-ltb _ _ c.if-cut.false, ← c.is_misplaced-misplaced.ensures, c.if-misplaced.true)

pub returns-then-unknown : goal.returns-then-unknown
unfolding read_of
returns-then-unknown c = rw (some _ c.requires, le-ltb _ _ c.if-cut.false, ← c.is_misplaced-misplaced.ensures, c.if-misplaced.false, ← c.is_unknown-unknown.ensures, c.if-unknown.true)

pub body_of-requires : goal.body_of-requires
body_of-requires c = c.if-cut.false

pub returns : goal.returns
unfolding read_of
returns c = rw (some _ c.requires, le-ltb _ _ c.if-cut.false, ← c.is_misplaced-misplaced.ensures, c.if-misplaced.false, ← c.is_unknown-unknown.ensures, c.if-unknown.false, c.body_of.ensures, c.kind_of.ensures)
