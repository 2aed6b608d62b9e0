-- What the drawn harmonics are: each is one whose weight is positive (or NaN) and still there, so no two are the same.
use Prim.Native.Nat.{ℕ, zero, suc, ◌+◌, ◌-◌, ◌≤◌, ◌<◌}
use native.Mathlib.Omega.{arith}
use mathlib.Core.Path.{◌≡◌, refl, sym, ap, ◌∙◌, subst}
use mathlib.Core.Bool.{Bool, true, false, true≢false}
use mathlib.Core.Logic.{◌⊎◌, inl, inr, ⊎_elim}
use mathlib.Core.List.{List, [], ◌∷◌}
use borrow.Author.Tests.{eqb-true, eqb-false, ne_eqb}
use lib.Dec.{eqb}
use lib.ListN.{length, get_or, set, length-set}
use lib.Seq.{get_or-set_same, get_or-set_other}
use lib.Ieee.{Float, nan, lt, le, eq, of_bits, of_fields, odd}
use Rattle.floats.specs.Names.{sub32, mul32, zero32}
use Rattle.sequences.specs.Pick.{pick, by-case}
use Rattle.draws.specs.Draws.{random_of}
use Rattle.pitch.specs.Partials.{sum_of, harmonic_from, harmonic_of, without_of, drawn_from}
use Rattle.pitch.proofs.Turns.{length_without}

-- the harmonic p can be drawn: its weight is not zero or below
pub record Drawable (ws : List Float) (p : ℕ) : Type 0 where
  pub from : 0 < p
  pub to : p ≤ length ws
  pub heavy : le (get_or ws (p - 1) nan) zero32 ≡ false

-- ---- one walk gives a harmonic that can be drawn, or what it began with
record Found (i : ℕ) (ws : List Float) (h : ℕ) : Type 0 where
  j : ℕ
  inside : j < length ws
  is : h ≡ i + j + 1
  heavy : le (get_or ws j nan) zero32 ≡ false

later : {i : ℕ} {w : Float} {ws : List Float} {h : ℕ} → Found (suc i) ws h → Found i (w ∷ ws) h
later f = record { j = suc f.j; inside = omega (arith, f.inside); is = omega (arith, f.is); heavy = f.heavy }

harmonic-found : (i : ℕ) (ws : List Float) (t : Float) (c : ℕ) → (harmonic_from i ws (t, c) ≡ c) ⊎ Found i ws (harmonic_from i ws (t, c))
unfolding harmonic_from pick
harmonic-found i [] t c = inl refl
harmonic-found i (w ∷ ws) t c =
    by-case (le w zero32) (λ q. rw q (⊎_elim (λ e. inl e) (λ f. inr (later f)) (harmonic-found (suc i) ws t c)))
    (λ q.
    rw q
    (by-case (lt t w) (λ s. rw s (inr (record { j = 0; inside = omega arith; is = omega arith; heavy = q })))
    (λ s.
    rw s
    (⊎_elim (λ e. inr (record { j = 0; inside = omega arith; is = e ∙ omega arith; heavy = q })) (λ f. inr (later f)) (harmonic-found (suc i) ws (sub32 t w) (i + 1))))))

pub harmonic_drawable : (ws : List Float) (t : Float) → (harmonic_of ws t ≡ 0) ⊎ Drawable ws (harmonic_of ws t)
unfolding harmonic_of
harmonic_drawable ws t = ⊎_elim (λ e. inl e) (λ f. inr (drawable f)) (harmonic-found 0 ws t 0)
  where
    drawable : {h : ℕ} → Found 0 ws h → Drawable ws h
    drawable {h} f =
        record {
          from = omega (arith, f.is);
          to = omega (arith, f.is, f.inside);
          heavy = ap (λ (k : ℕ). le (get_or ws k nan) zero32) (omega (arith, f.is)) ∙ f.heavy;
        }

-- ---- where no weight is above what is left of the target, the last that can be drawn is the answer
unfoldable pub unstopped : List Float → Float → Bool
unstopped [] t = true
unstopped (w ∷ ws) t = pick (le w zero32) (unstopped ws t) (pick (lt t w) false (unstopped ws (sub32 t w)))

unfoldable pub last_heavy : ℕ → List Float → ℕ → ℕ
last_heavy i [] c = c
last_heavy i (w ∷ ws) c = last_heavy (suc i) ws (pick (le w zero32) c (i + 1))

last-from : (i : ℕ) (ws : List Float) (t : Float) (c : ℕ) → unstopped ws t ≡ true → harmonic_from i ws (t, c) ≡ last_heavy i ws c
unfolding harmonic_from unstopped last_heavy pick
last-from i [] t c h = refl
last-from i (w ∷ ws) t c h =
    by-case (le w zero32) (λ q. rw q (last-from (suc i) ws t c (rw q at h)))
    (λ q. by-case (lt t w) (λ s. absurd (true≢false (sym (rw (q, s) at h)))) (λ s. rw (q, s) (last-from (suc i) ws (sub32 t w) (i + 1) (rw (q, s) at h))))

pub last_of_the_walk : (ws : List Float) (t : Float) → unstopped ws t ≡ true → harmonic_of ws t ≡ last_heavy 0 ws 0
unfolding harmonic_of
last_of_the_walk ws t h = last-from 0 ws t 0 h

-- ---- slot by slot: `start` are the weights at first, ws those that are left
pub record Chosen (start ws : List Float) (selected : List ℕ) : Type 0 where
  pub long : length ws ≡ length start
  pub still : (j : ℕ) → le (get_or ws j nan) zero32 ≡ false → le (get_or start j nan) zero32 ≡ false
  pub each : (k : ℕ) → 0 < get_or selected k 0 → Drawable start (get_or selected k 0)
  pub gone : (k : ℕ) → 0 < get_or selected k 0 → le (get_or ws (get_or selected k 0 - 1) nan) zero32 ≡ true
  pub apart : (k l : ℕ) → (k ≡ l → ⊥) → 0 < get_or selected k 0 → get_or selected k 0 ≡ get_or selected l 0 → ⊥

pub nil_gone : le zero32 zero32 ≡ true
unfolding le lt eq of_bits of_fields odd
nil_gone = refl

-- the weights after a draw: as they were, or gone
kept_or_gone : (ws : List Float) (h j : ℕ) → h ≤ length ws → (get_or (without_of ws h) j nan ≡ get_or ws j nan) ⊎ (le (get_or (without_of ws h) j nan) zero32 ≡ true)
unfolding without_of pick
kept_or_gone ws h j l =
    by-case (eqb h 0) (λ z. rw z (inl refl))
    (λ z.
    rw z
    (by-case (eqb j (h - 1))
    (λ q. let n = eqb-false h 0 z in inr (ap (λ (w : Float). le w zero32) (ap (λ (k : ℕ). get_or (set ws (h - 1) zero32) k nan) (eqb-true j (h - 1) q) ∙ get_or-set_same ws (h - 1) zero32 nan (below n)) ∙ nil_gone))
    (λ q. inl (get_or-set_other ws (h - 1) j zero32 nan (eqb-false j (h - 1) q)))))
  where
    below : (h ≡ 0 → ⊥) → h - 1 < length ws
    below n = by-case (eqb h 0) (λ q. absurd (n (eqb-true h 0 q))) (λ q. positive h l n)
      where
        positive : (h : ℕ) → h ≤ length ws → (h ≡ 0 → ⊥) → h - 1 < length ws
        positive zero l n = absurd (n refl)
        positive (suc h) l n = omega arith

drawn_gone : (ws : List Float) (h : ℕ) → h ≤ length ws → 0 < h → le (get_or (without_of ws h) (h - 1) nan) zero32 ≡ true
unfolding without_of pick
drawn_gone ws h l p = rw (ne_eqb h 0 (λ e. omega arith), get_or-set_same ws (h - 1) zero32 nan (omega arith)) nil_gone

module _ {start ws : List Float} {selected : List ℕ} (m : Chosen start ws selected) (slot h : ℕ) (inside : slot < length selected) (few : h ≤ length ws) (d : 0 < h → Drawable ws h) where
  abbrev next : List Float
  next = without_of ws h

  abbrev more : List ℕ
  more = set selected slot h

  at : (k : ℕ) → ((k ≡ slot) × (get_or more k 0 ≡ h)) ⊎ (get_or more k 0 ≡ get_or selected k 0)
  at k =
      by-case (eqb k slot)
      (λ q. let e = eqb-true k slot q in inl (e, ap (λ (z : ℕ). get_or more z 0) e ∙ get_or-set_same selected slot h 0 inside))
      (λ q. inr (get_or-set_other selected slot k h 0 (eqb-false k slot q)))

  still_there : (j : ℕ) → le (get_or next j nan) zero32 ≡ false → le (get_or start j nan) zero32 ≡ false
  still_there j e =
      ⊎_elim (λ s. m.still j (ap (λ (w : Float). le w zero32) (sym s) ∙ e)) (λ g. absurd (true≢false (sym g ∙ e))) (kept_or_gone ws h j few)

  stays_gone : (j : ℕ) → le (get_or ws j nan) zero32 ≡ true → le (get_or next j nan) zero32 ≡ true
  stays_gone j e = ⊎_elim (λ s. ap (λ (w : Float). le w zero32) s ∙ e) (λ g. g) (kept_or_gone ws h j few)

  now_drawn : 0 < h → Drawable start h
  now_drawn p = record { from = p; to = omega (arith, m.long); heavy = m.still (h - 1) (d p).heavy }

  -- none that was drawn before has a weight left
  fresh : (k : ℕ) → 0 < h → get_or selected k 0 ≡ h → ⊥
  fresh k p e = true≢false (sym (ap (λ (z : ℕ). le (get_or ws (z - 1) nan) zero32) (sym e) ∙ m.gone k (omega arith)) ∙ (d p).heavy)

  pub chosen-next : Chosen start next more
  chosen-next =
      record {
        long = length_without ws h ∙ m.long;
        still = still_there;
        each =
            λ k p. ⊎_elim (λ w. subst (Drawable start) (sym w.1) (now_drawn (omega arith))) (λ e. subst (Drawable start) (sym e) (m.each k (omega arith))) (at k);
        gone =
            λ k p.
            ⊎_elim (λ w. ap (λ (z : ℕ). le (get_or next (z - 1) nan) zero32) w.1 ∙ drawn_gone ws h few (omega arith))
            (λ e. ap (λ (z : ℕ). le (get_or next (z - 1) nan) zero32) e ∙ stays_gone (get_or selected k 0 - 1) (m.gone k (omega arith))) (at k);
        apart =
            λ k l n p e.
            ⊎_elim (λ w. ⊎_elim (λ v. n (w.0 ∙ sym v.0)) (λ f. fresh l (omega arith) (sym f ∙ sym e ∙ w.1)) (at l))
            (λ f. ⊎_elim (λ v. fresh k (omega arith) (sym f ∙ e ∙ v.1)) (λ g. m.apart k l n (omega arith) (sym f ∙ e ∙ g)) (at l)) (at k);
      }

-- ---- all slots
pub chosen-drawn : (index n slot : ℕ) (start ws : List Float) (selected : List ℕ) → slot + n ≤ length selected → Chosen start ws selected
    → (left : List Float) × Chosen start left (drawn_from index n slot ws selected)
unfolding drawn_from pick
chosen-drawn index zero slot start ws selected l m = (ws, m)
chosen-drawn index (suc n) slot start ws selected l m =
    by-case (le (sum_of ws) zero32) (λ q. rw q (ws, m))
    (λ q.
    rw q
    (chosen-drawn index n (suc slot) start (without_of ws harmonic) (set selected slot harmonic) (omega (arith, length-set selected slot harmonic)) (chosen-next m slot harmonic (omega arith) few drawable)))
  where
    harmonic : ℕ
    harmonic = harmonic_of ws (mul32 (random_of index (13 + slot)) (sum_of ws))

    few : harmonic ≤ length ws
    few = ⊎_elim (λ e. omega arith) (λ d. d.to) (harmonic_drawable ws (mul32 (random_of index (13 + slot)) (sum_of ws)))

    drawable : 0 < harmonic → Drawable ws harmonic
    drawable p = ⊎_elim (λ e. absurd (omega arith)) (λ d. d) (harmonic_drawable ws (mul32 (random_of index (13 + slot)) (sum_of ws)))
