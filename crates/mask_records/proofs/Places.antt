-- A record's head and its entries, one after the other at a place of a buffer.
use Rattle.std.specs.Prelude.{Ok, Err}
use Prim.Native.Nat.{ℕ, ◌+◌, ◌*◌, ◌/◌, ◌%◌, ◌≤◌, ◌<◌}
use native.Mathlib.Omega.{arith}
use mathlib.Core.Path.{◌≡◌, refl, sym, ap, ◌∙◌}
use mathlib.Core.List.{List}
use lib.ListN.{length, get_or, set, length-append}
use lib.Seq.{paste, take-length}
use borrow.Author.Tests.{le-leb, lt-leb}
use Rattle.sequences.specs.Pick.{took, skipped}
use Rattle.text.specs.Put.{Put, splice, buffer_of, place_of}
use Rattle.text.proofs.Laws.{piece, spliced, seq, turn}
use Rattle.refusals.specs.declared.Refusal.TheVariants.{Room}
use Rattle.mask_records.specs.Bytes.{head_of, pairs_of}
use Rattle.mask_records.specs.Placed.{record_size, placed_of}
use Rattle.mask_records.proofs.Pairs.{pairs_length, pairs_high, pairs_low, head_length, record_parts}

-- ---- a turn of the loop: two bytes of an entry
pub pair_turn : (o : List ℕ) (at : ℕ) (es : List ℕ) (i h l : ℕ) {p : List ℕ} → p ≡ paste o at (pairs_of es) (2 * i) → i < length es → at + 2 * length es ≤ length o
    → h ≡ get_or es i 0 / 256 → l ≡ get_or es i 0 % 256 → set (set p (at + 2 * i) h) (at + (2 * i + 1)) l ≡ paste o at (pairs_of es) (2 * (i + 1))
pair_turn o at es i h l {p} e b r u v =
    let w = pairs_of es in
    let n = pairs_length es in
    let first : set p (at + 2 * i) h ≡ paste o at w (2 * i + 1) = ap (λ (x : ℕ). set p (at + 2 * i) x) (u ∙ sym (pairs_high es i)) ∙ turn o at w (2 * i) e (omega arith) (omega arith) in
    ap (λ (x : ℕ). set (set p (at + 2 * i) h) (at + (2 * i + 1)) x) (v ∙ sym (pairs_low es i))
    ∙ turn o at w (2 * i + 1) first (omega arith) (omega arith)
    ∙ ap (λ (k : ℕ). paste o at w k) (let k : 2 * i + 1 + 1 ≡ 2 * (i + 1) = omega arith in k)

pub pairs_all : (o : List ℕ) (at : ℕ) (es : List ℕ) (i : ℕ) {p : List ℕ} → p ≡ paste o at (pairs_of es) (2 * i) → i ≡ length es → p ≡ splice o at (pairs_of es)
pairs_all o at es i e h =
    let k : 2 * i ≡ length (pairs_of es) = omega (arith, pairs_length es) in
    e ∙ ap (λ (j : ℕ). paste o at (pairs_of es) j) k ∙ rw take-length

-- ---- the whole
module _ (sample : ℕ) (es out : List ℕ) (at : ℕ) where
  pub no_room : length out < at + record_size (length es) → (Err Room, out) ≡ placed_of sample es out at
  unfolding placed_of
  no_room h = skipped _ _ _ _ (lt-leb _ _ h) refl

  module _ (w p : List ℕ) (r : ℕ) (fits : at + record_size (length es) ≤ length out) (a : w ≡ head_of sample (length es)) (e : (r ≡ place_of out at w) × (p ≡ buffer_of out at w)) where
    headed : Put out p at r (head_of sample (length es))
    headed = piece (rw (a) at e)

    pub after-head : r ≡ at + 16
    after-head = (headed.fits (omega (arith, head_length sample (length es)))).0 ∙ ap (λ (k : ℕ). at + k) (head_length sample (length es))

    pub head-same : length p ≡ length out
    head-same = headed.same

    pub placed : (q : List ℕ) → q ≡ splice p r (pairs_of es) → (Ok (at + record_size (length es)), q) ≡ placed_of sample es out at
    unfolding placed_of
    placed q s =
        let h = head_length sample (length es) in
        let k = pairs_length es in
        let both = seq headed (spliced (omega (arith, after-head, head-same)) s) in
        let t = both.fits (omega (arith, length-append (head_of sample (length es)) (pairs_of es))) in
        took _ _ _ _ (le-leb _ _ fits) (ap (λ (x : List ℕ). (Ok (at + record_size (length es)), x)) (t.1 ∙ ap (splice out at) (sym (record_parts sample es))))
