-- `number` meets its contract: after i digits the number is the definition's, and has at most 4 * i bits.
use native.Mathlib.Omega.{arith}
use Prim.Native.Nat.{ℕ, ◌+◌, ◌-◌, ◌*◌, ◌^◌, ◌≤◌, ◌<◌}
use mathlib.Core.List.{List}
use mathlib.Core.Path.{◌≡◌, ap, ◌∙◌}
use lib.Dec.{lit<}
use lib.ListN.{length, length-drop, take, drop, get_or}
use lib.Pow.{pow-add, pow_mono, pow_pos}
use lib.Seq.{length-take-le, get_or-take, get_or-drop}
use Rattle.sequences.specs.Times.{times, times_none, times_more}
use Rattle.vectors.specs.Line.{digit_of, number_at}
use Rattle.vectors.proofs.number.Goals as goal

grown : (w d i : ℕ) → w < 2 ^ (4 * i) → d < 16 → w * 16 + d < 2 ^ (4 * (i + 1))
grown w d i h g = let e : 2 ^ (4 * (i + 1)) ≡ 2 ^ (4 * i) * 16 = ap (λ (k : ℕ). 2 ^ k) (omega arith) ∙ pow-add 2 (4 * i) 4 in omega arith

room : (i n : ℕ) → i < n → n ≤ 16 → 2 ^ (4 * (i + 1)) ≤ 2 ^ 64
room i n h k = pow_mono {i = 4 * (i + 1)} {j = 64} (omega arith)

-- the n bytes of s from a on
module _ (s : List ℕ) (a n : ℕ) (h : a + n ≤ length s) where
  many : length (take (a + n - a) (drop a s)) ≡ n
  many = length-take-le (a + n - a) (drop a s) (omega (arith, length-drop a s)) ∙ omega arith

  byte : (i : ℕ) → i < n → get_or (take (a + n - a) (drop a s)) i 0 ≡ get_or s (a + i) 0
  byte i g = get_or-take (a + n - a) (drop a s) i 0 (omega arith) ∙ get_or-drop a s i 0

pub overflow_mul-w : goal.overflow_mul-w
overflow_mul-w c = let l = c.loop-b.invariant.1 in record { fits = omega (arith, grown c.loop-b.w 0 c.loop-b.b-index l (lit< tt), room c.loop-b.b-index _ (omega (arith, many c.args.line.now c.args.at c.args.n (omega (arith, c.told-line, c.requires.within_line)), c.loop-b-test.true)) c.requires.fits_word) }

pub overflow_add-w : goal.overflow_add-w
overflow_add-w c = let l = c.loop-b in record { fits = omega (arith, grown l.w c.digit.result l.b-index l.invariant.1 c.digit.ensures.1, room l.b-index _ (omega (arith, many c.args.line.now c.args.at c.args.n (omega (arith, c.told-line, c.requires.within_line)), c.loop-b-test.true)) c.requires.fits_word) }

pub loop-b-init : goal.loop-b-init
loop-b-init c = (times_none _ _, pow_pos 0)

pub loop-b-preserved : goal.loop-b-preserved
loop-b-preserved c =
    let l = c.loop-b in
    (times_more _ l.b-index 0 l.w _ l.invariant.0 (ap (λ (d : ℕ). l.w * 16 + d) (c.digit.ensures.0 ∙ ap digit_of (byte c.args.line.now c.args.at c.args.n (omega (arith, c.told-line, c.requires.within_line)) l.b-index (omega (arith, many c.args.line.now c.args.at c.args.n (omega (arith, c.told-line, c.requires.within_line)), c.loop-b-test.true))))), grown l.w c.digit.result l.b-index l.invariant.1 c.digit.ensures.1)

pub returns : goal.returns
unfolding number_at
returns c = c.loop-b.invariant.0 ∙ ap (λ (k : ℕ). times (λ i w. w * 16 + digit_of (get_or c.args.line.now (c.args.at + i) 0)) k 0) (omega (arith, many c.args.line.now c.args.at c.args.n (omega (arith, c.told-line, c.requires.within_line))))
