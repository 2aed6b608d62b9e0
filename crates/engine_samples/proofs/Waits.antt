-- Laws of `waited_of`: how a loop comes to its answer, sample by sample, and that it counts no more than were asked for.
use Rattle.std.proofs.Common.{◌≡◌, ℕ, zero, suc, ◌+◌, ◌-◌, ◌<◌, ◌≤◌, true, false, cond, sym, refl, ap, ◌∙◌, subst, arith}
use lib.Ieee.{Float}
use Rattle.sequences.specs.Pick.{picked, passed, by-case}
use Rattle.state.specs.declared.Clock.{Clock}
use Rattle.floats.specs.Word.{grown}
use Rattle.floats.specs.Names.{add64}
use Rattle.engine_samples.specs.Sample.{glided_of}
use Rattle.engine_samples.specs.declared.waiting.Starts.{Starts}
use Rattle.engine_samples.specs.declared.waiting.Tempo.{Tempo}
use Rattle.engine_samples.specs.declared.waiting.Waited.{Waited}
use Rattle.engine_samples.specs.Waiting.{nothing_due, clock_of, clock_after, waited_at, since, waited_of, Underway}
use Rattle.state.specs.State.{reference_now}

module _ (s : Starts) (t : Tempo) where
  -- one sample, and what follows
  waited_one : (n : ℕ) (k : Clock) → nothing_due s (reference_now k) ≡ true → since 1 (waited_of s t n (clock_after t k)) ≡ waited_of s t (suc n) k
  unfolding waited_of
  waited_one n k h = picked _ _ _ h

  waited_none : (k : Clock) → waited_at k 0 ≡ waited_of s t 0 k
  unfolding waited_of
  waited_none k = refl

  -- where something is due, no more, however many are left
  waited_due : (n : ℕ) (k : Clock) → nothing_due s (reference_now k) ≡ false → waited_at k 0 ≡ waited_of s t n k
  unfolding waited_of
  waited_due zero k h = refl
  waited_due (suc n) k h = passed _ _ _ h

  since-since : (a b c : ℕ) (w : Waited) → a + b ≡ c → since c w ≡ since a (since b w)
  since-since a b c w e = ap (waited_at w.clock) (omega arith)

  count-few : (n : ℕ) (k : Clock) → (waited_of s t n k).count ≤ n
  count-few zero k = let e = ap (λ (w : Waited). w.count) (waited_none k) in omega arith
  count-few (suc n) k =
      by-case (nothing_due s (reference_now k))
      (λ h. let e = ap (λ (w : Waited). w.count) (waited_one n k h) in let few = count-few n (clock_after t k) in omega arith)
      (λ h. let e = ap (λ (w : Waited). w.count) (waited_due (suc n) k h) in omega arith)

  -- never more than were asked for
  pub waited_few : (n : ℕ) (k : Clock) (w : Waited) → w ≡ waited_of s t n k → w.count ≤ n
  waited_few n k w e = subst (λ (z : Waited). z.count ≤ n) (sym e) (count-few n k)

  module _ (n : ℕ) (k : Clock) where
    pub underway_none : Underway s t n k 0 k
    underway_none = record { few = omega arith; is = ap (waited_at _) (omega arith) ∙ ap (λ (l : ℕ). waited_of s t l k) (omega arith) }

    -- one sample more
    pub underway_more : (count : ℕ) (m m' : Clock) → Underway s t n k count m → count < n → nothing_due s (reference_now m) ≡ true → m' ≡ clock_after t m → Underway s t n k (count + 1) m'
    underway_more count m m' p h q e =
        let left : suc (n - (count + 1)) ≡ n - count = omega arith in
        record {
          few = omega arith;
          is = ap (λ (c : Clock). since (count + 1) (waited_of s t (n - (count + 1)) c)) e
              ∙ since-since count 1 (count + 1) _ refl
              ∙ ap (since count) (waited_one (n - (count + 1)) m q ∙ ap (λ (l : ℕ). waited_of s t l m) left)
              ∙ p.is;
        }

    -- some samples, and then others
    pub underway_join : (a b : ℕ) (m m' : Clock) → Underway s t n k a m → Underway s t (n - a) m b m' → Underway s t n k (a + b) m'
    underway_join a b m m' p q =
        record {
          few = omega (arith, p.few, q.few);
          is = ap (λ (l : ℕ). since (a + b) (waited_of s t l m')) (omega (arith, p.few, q.few)) ∙ since-since a b (a + b) _ refl ∙ ap (since a) q.is ∙ p.is;
        }

    -- and then all that are left
    pub underway_rest : (count : ℕ) (m : Clock) (w : Waited) → Underway s t n k count m → w ≡ waited_of s t (n - count) m → since count w ≡ waited_of s t n k
    underway_rest count m w p e = ap (since count) e ∙ p.is

    -- none is left
    pub underway_all : (count : ℕ) (m : Clock) → Underway s t n k count m → n ≤ count → waited_at m count ≡ waited_of s t n k
    underway_all count m p h =
        ap (waited_at m) (omega arith) ∙ underway_rest count m (waited_at m 0) p (waited_none m ∙ ap (λ (l : ℕ). waited_of s t l m) (omega (arith, p.few)))

    -- something is due
    pub underway_due : (count : ℕ) (m : Clock) → Underway s t n k count m → nothing_due s (reference_now m) ≡ false → waited_at m count ≡ waited_of s t n k
    underway_due count m p h = ap (waited_at m) (omega arith) ∙ underway_rest count m (waited_at m 0) p (waited_due (n - count) m h)

-- the clock after a sample, part by part
pub clock-after : (t : Tempo) (sample : ℕ) (phase offset : Float) (sample' : ℕ) (phase' offset' : Float)
    → sample' ≡ grown sample → phase' ≡ cond t.scheduled (add64 phase t.step) phase → offset' ≡ glided_of offset t.phase t.alpha
    → clock_of sample' phase' offset' ≡ clock_after t (clock_of sample phase offset)
unfolding clock_after
clock-after t sample phase offset sample' phase' offset' a b c = rw (a, b, c) refl
