-- `scaled_rem` meets its contract. The loop's invariant: r, with the places that are left, has the remainder that is asked for.
use Rattle.std.proofs.Common.{ℕ, ◌+◌, ◌*◌, ◌%◌, ◌^◌, ◌<◌, sym, ap, ◌∙◌, lt_of_lt_of_le, mod-lt, zero-mul, arith, pow_mono, shl_lt}
use native.Mathlib.Nat.{zero-mod}
use Rattle.floats.proofs.Residues.{mod_times, one-turn}
use Rattle.floats.proofs.modulo.scaled_rem.Goals as goal

pub loop-left-init : goal.loop-left-init
loop-left-init c = (mod-lt c.args.a c.requires.not_zero, mod_times c.args.a c.args.n (2 ^ c.args.d))

pub returns-then-r-eq0 : goal.returns-then-r-eq0
returns-then-r-eq0 c =
    let l = c.loop-left in
    let n = c.args.n in
    sym (sym l.invariant.1 ∙ ap (λ (r : ℕ). r * 2 ^ l.left % n) c.if-r-eq0.true ∙ ap (λ (z : ℕ). z % n) (zero-mul (2 ^ l.left)) ∙ zero-mod n)

pub loop-left-preserved : goal.loop-left-preserved
loop-left-preserved c =
    let l = c.loop-left in
    let n = c.args.n in
    (mod-lt (l.r * 2048) c.requires.not_zero, one-turn l.r n 11 l.left (omega arith) ∙ l.invariant.1)

pub moved-requires : goal.moved-requires
moved-requires c =
    let l = c.loop-left in
    let r : l.r * 2 ^ l.left < 2 ^ (53 + l.left) = shl_lt 53 l.left (omega arith) in
    (omega arith, lt_of_lt_of_le r (pow_mono {i = 53 + l.left} {j = 64} (omega arith)))

pub returns : goal.returns
returns c = ap (λ (z : ℕ). z % c.args.n) c.moved.ensures ∙ c.loop-left.invariant.1
