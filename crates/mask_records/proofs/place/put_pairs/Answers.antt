-- `put_pairs` meets its contract: the loop pastes two bytes a turn.
use lib.ListN.{get_or, length-set}
use lib.Seq.{paste-zero}
use Rattle.mask_records.specs.Bytes.{pairs_of}
use Rattle.mask_records.proofs.Places.{pair_turn, pairs_all}
use native.Mathlib.Omega.{arith}
use Prim.Native.Nat.{ℕ}
use mathlib.Core.List.{List}
use mathlib.Core.Path.{refl, ap}
use Rattle.mask_records.proofs.place.put_pairs.Goals as goal

pub loop-i-init : goal.loop-i-init
loop-i-init c = let a = c.args in
    (omega arith, refl, paste-zero a.out.now a.at (pairs_of a.entries.now))

pub bounds-out-at-in-loop-i : goal.bounds-out-at-in-loop-i
bounds-out-at-in-loop-i c = rw length-set (omega (arith, c.loop-i.invariant.1, c.requires.1, c.loop-i-test.true))

pub loop-i-preserved : goal.loop-i-preserved
loop-i-preserved c = let l = c.loop-i in
    let a = c.args in
    let b = c.bytes16-pair.ensures in (
      omega arith,
      rw (length-set, length-set) l.invariant.1,
      pair_turn a.out.now a.at a.entries.now l.i _ _ l.invariant.2 c.loop-i-test.true c.requires.1 (ap (λ (p : List ℕ). get_or p 0 0) b) (ap (λ (p : List ℕ). get_or p 1 0) b),
    )

pub returns : goal.returns
returns c = let l = c.loop-i in
    let a = c.args in
    pairs_all a.out.now a.at a.entries.now l.i l.invariant.2 (omega arith)
