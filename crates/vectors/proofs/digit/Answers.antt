-- `digit` meets its contract: its ranges are the definition's tests, in order.
use native.Mathlib.Omega.{arith}
use Rattle.sequences.specs.Pick.{cases}
use Rattle.vectors.specs.Line.{digit_of}
use borrow.Author.Rules.{rules}
use Rattle.vectors.proofs.digit.Goals as goal

pub returns-in-48-to-57 : goal.returns-in-48-to-57
unfolding digit_of
returns-in-48-to-57 c = (search (rules, cases), omega arith)

pub returns-in-97-to-102 : goal.returns-in-97-to-102
unfolding digit_of
returns-in-97-to-102 c = (search (rules, cases), omega arith)

pub returns-in_default : goal.returns-in_default
unfolding digit_of
returns-in_default c = (search (rules, cases), omega arith)

pub returns-in_default-2 : goal.returns-in_default-2
unfolding digit_of
returns-in_default-2 c = (search (rules, cases), omega arith)

pub returns-in_default-3 : goal.returns-in_default-3
unfolding digit_of
returns-in_default-3 c = (search (rules, cases), omega arith)
