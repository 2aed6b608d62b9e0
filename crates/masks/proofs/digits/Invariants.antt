-- What the loop of `digits` keeps.
use Rattle.std.proofs.Common.{◌≡◌, ◌≤◌, length, drop}
use Rattle.masks.specs.Digits.{number_from}
use Rattle.masks.proofs.digits.Given as goal

abbrev pub invariant-loop-c : goal.invariant-loop-c
invariant-loop-c l = (l.n ≤ 1000000) × (l.c-index-end ≡ length l.text) × (l.c-index ≤ l.c-index-end) × (number_from l.n (drop l.c-index l.text) ≡ number_from 0 l.text)
