-- The bins from the first that is not below a window's range to the first that is past it are what the window touches.
use mathlib.Core.Path.{◌≡◌, refl, sym, ap, ◌∙◌}
use mathlib.Core.Bool.{Bool, true, false, not, cond, ◌&&◌}
use mathlib.Core.List.{List}
use Prim.Native.Nat.{ℕ, zero, suc, ◌+◌, ◌≤◌, ◌<◌}
use native.Mathlib.Omega.{arith}
use borrow.Author.Count.{below_more}
use borrow.Author.Tests.{lt-ltb, ltb-true, ltb-false}
use lib.Dec.{ltb}
use lib.ListN.{length, get_or, set, length-set}
use lib.Seq.{get_or-set_same, get_or-set_other}
use lib.Ieee.{Float, nan, lt, le}
use Rattle.sequences.specs.Pick.{by-case}
use Rattle.floats.specs.Names.{add32, sub32, zero32}
use Rattle.floats.specs.Choose.{max}
use Rattle.windows.specs.declared.Window.{Window}
use Rattle.windows.specs.Opening.{openness_of}
use Rattle.mask_gains.specs.Opened.{touches, raised_of}
use Rattle.mask_gains.specs.Search.{First}
use Rattle.mask_gains.specs.Walk.{Part, Raised}

-- ---- one range
module _ (w : Window) (logs xs : List Float) (start : ℕ) where
  pub part_none : Part w logs xs start start xs
  part_none = record { same = refl; low = omega arith; under = λ k h. refl; done = λ k g h. absurd (omega arith); over = λ k h. refl }

  pub part-more : (i : ℕ) (ys : List Float) (v : Float) → Part w logs xs start i ys → i < length xs
      → v ≡ max (get_or ys i nan) (openness_of w (get_or logs i nan)) → Part w logs xs start (i + 1) (set ys i v)
  part-more i ys v m h e =
      record {
        same = length-set ys i v ∙ m.same;
        low = omega (arith, m.low);
        under = λ k l. get_or-set_other ys i k v nan (λ q. omega (arith, m.low)) ∙ m.under k l;
        done = λ k g l. step k g l;
        over = λ k l. get_or-set_other ys i k v nan (λ q. omega arith) ∙ m.over k (omega arith);
      }
    where
      step : (k : ℕ) → start ≤ k → k < i + 1 → get_or (set ys i v) k nan ≡ max (get_or xs k nan) (openness_of w (get_or logs k nan))
      step k g l =
          below_more (λ (k : ℕ). start ≤ k → get_or (set ys i v) k nan ≡ max (get_or xs k nan) (openness_of w (get_or logs k nan))) i
          (λ j w g. get_or-set_other ys i j v nan (λ q. omega arith) ∙ m.done j g w)
          (λ g. get_or-set_same ys i v nan (omega (arith, m.same)) ∙ e ∙ ap (λ (o : Float). max o (openness_of w (get_or logs i nan))) (m.over i (omega arith)))
          k l g

-- ---- the tests of one bin
off : (x y t : Bool) (m o : Float) → t ≡ false → cond (x && (y && t)) m o ≡ o
off true true t m o e = ap (λ (b : Bool). cond b m o) e
off true false t m o e = refl
off false y t m o e = refl

and_off : (x y : Bool) → y ≡ false → x && y ≡ false
and_off true y e = e
and_off false y e = refl

module _ (w : Window) (log o : Float) (i : ℕ) where
  untouched : touches w log ≡ false → raised_of i log w o ≡ o
  unfolding raised_of
  untouched e = off (ltb 0 i) (not (le w.amplitude zero32)) (touches w log) (max o (openness_of w log)) o e

  by-under : lt log (sub32 w.center_log2_hz w.radius_octaves) ≡ true → raised_of i log w o ≡ o
  unfolding touches
  by-under e = untouched (ap (λ (b : Bool). not b && le log (add32 w.center_log2_hz w.radius_octaves)) e)

  by_over : le log (add32 w.center_log2_hz w.radius_octaves) ≡ false → raised_of i log w o ≡ o
  unfolding touches
  by_over e = untouched (and_off (not (lt log (sub32 w.center_log2_hz w.radius_octaves))) (le log (add32 w.center_log2_hz w.radius_octaves)) e)

  by-amplitude : le w.amplitude zero32 ≡ true → raised_of i log w o ≡ o
  unfolding raised_of
  by-amplitude e = ap (λ (b : Bool). cond (ltb 0 i && (not b && touches w log)) (max o (openness_of w log)) o) e ∙ off (ltb 0 i) true false (max o (openness_of w log)) o refl

  by_range : 1 ≤ i → le w.amplitude zero32 ≡ false → lt log (sub32 w.center_log2_hz w.radius_octaves) ≡ false → le log (add32 w.center_log2_hz w.radius_octaves) ≡ true → max o (openness_of w log) ≡ raised_of i log w o
  unfolding raised_of touches
  by_range h p q s = simp (lt-ltb 0 i h, p, q, s)

bin_zero : (w : Window) (log o : Float) → raised_of 0 log w o ≡ o
unfolding raised_of
bin_zero w log o = refl

-- ---- all bins
module _ (w : Window) (logs xs : List Float) (n : length logs ≡ length xs) where
  pub raised_off : le w.amplitude zero32 ≡ true → Raised w logs xs xs
  raised_off e = record { same = refl; at = λ i h. sym (by-amplitude w (get_or logs i nan) (get_or xs i nan) i e) }

  pub raised_short : length logs < 2 → Raised w logs xs xs
  raised_short s = record { same = refl; at = λ i h. go i h }
    where
      go : (i : ℕ) → i < length xs → get_or xs i nan ≡ raised_of i (get_or logs i nan) w (get_or xs i nan)
      go zero h = sym (bin_zero w (get_or logs 0 nan) (get_or xs 0 nan))
      go (suc i) h = absurd (omega (arith, n))

  module _ (start end : ℕ) (F : First (λ i. lt (get_or logs i nan) (sub32 w.center_log2_hz w.radius_octaves)) (length logs) start) (E : First (λ i. le (get_or logs i nan) (add32 w.center_log2_hz w.radius_octaves)) (length logs) end) where
    lower : (i : ℕ) → i < start → raised_of i (get_or logs i nan) w (get_or xs i nan) ≡ get_or xs i nan
    lower zero h = bin_zero w (get_or logs 0 nan) (get_or xs 0 nan)
    lower (suc i) h = by-under w (get_or logs (suc i) nan) (get_or xs (suc i) nan) (suc i) (F.before (suc i) (omega arith) h)

    upper : (i : ℕ) → i < length xs → end ≤ i → raised_of i (get_or logs i nan) w (get_or xs i nan) ≡ get_or xs i nan
    upper i h k = by_over w (get_or logs i nan) (get_or xs i nan) i (E.after i k (omega (arith, n)))

    pub raised_none : end ≤ start → Raised w logs xs xs
    raised_none e =
        record {
          same = refl;
          at = λ i h. by-case (ltb i start) (λ p. sym (lower i (ltb-true i start p))) (λ p. sym (upper i h (omega (arith, ltb-false i start p))));
        }

    pub raised_range : (ys : List Float) → le w.amplitude zero32 ≡ false → Part w logs xs start end ys → Raised w logs xs ys
    raised_range ys na m = record { same = m.same; at = λ i h. go i h (ltb i start) (ltb i end) refl refl }
      where
        go : (i : ℕ) → i < length xs → (b d : Bool) → ltb i start ≡ b → ltb i end ≡ d → get_or ys i nan ≡ raised_of i (get_or logs i nan) w (get_or xs i nan)
        go i h true d p q = m.under i (ltb-true i start p) ∙ sym (lower i (ltb-true i start p))
        go i h false true p q =
            let s = ltb-false i start p in
            let l : 1 ≤ i = omega (arith, F.low) in
            m.done i s (ltb-true i end q)
            ∙ by_range w (get_or logs i nan) (get_or xs i nan) i l na (F.after i s (omega (arith, n))) (E.before i l (ltb-true i end q))
        go i h false false p q = m.over i (ltb-false i end q) ∙ sym (upper i h (ltb-false i end q))
