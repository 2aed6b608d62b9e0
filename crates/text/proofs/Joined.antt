-- Pieces by their index: how long they are, and a loop that puts one after the other: whatever writes the pieces that are left completes the whole.
use Prim.Native.Nat.{ℕ, zero, suc, ◌+◌, ◌-◌, ◌*◌, ◌≤◌, ◌<◌}
use mathlib.Core.Path.{◌≡◌, refl, sym, ◌∙◌}
use mathlib.Core.List.{List}
use native.Mathlib.Nat.{zero-mul, suc-mul, add_comm}
use native.Mathlib.Numerals.{add-one}
use native.Mathlib.Omega.{arith}
use lib.ListN.{length, length-append}
use Rattle.text.specs.Put.{Put, joined_all}
use Rattle.text.proofs.Laws.{nothing, seq}

-- pieces of one length
pub joined_length : (g : ℕ → List ℕ) (k : ℕ) → ((i : ℕ) → length (g i) ≡ k) → (i n : ℕ) → length (joined_all g i n) ≡ n * k
unfolding joined_all
joined_length g k h i zero = sym (zero-mul k)
joined_length g k h i (suc n) = length-append (g i) (joined_all g (suc i) n) ∙ rw (h i, joined_length g k h (suc i) n) (add_comm k (n * k)) ∙ sym (suc-mul n k)

-- n pieces in all, i of them written into `out`, up to w
pub record Pieces (g : ℕ → List ℕ) (n : ℕ) (o₀ : List ℕ) (w₀ : ℕ) (out : List ℕ) (i w : ℕ) : Type 0 where
  pub below : i ≤ n
  pub same : length out ≡ length o₀
  pub goes : (p : List ℕ) (r : ℕ) → Put out p w r (joined_all g i (n - i)) → Put o₀ p w₀ r (joined_all g 0 n)

pub none_yet : (g : ℕ → List ℕ) (n : ℕ) (o : List ℕ) (w : ℕ) → Pieces g n o w o 0 w
none_yet g n o w =
    record {
      below = omega arith;
      same = refl;
      goes = λ p r h. let e : n - 0 ≡ n = omega arith in rw e at h;
    }

module _ {g : ℕ → List ℕ} {n : ℕ} {o₀ : List ℕ} {w₀ : ℕ} {out : List ℕ} {i w : ℕ} (m : Pieces g n o₀ w₀ out i w) where
  pub one_more : {p : List ℕ} {r : ℕ} {x : List ℕ} → i < n → x ≡ g i → Put out p w r x → Pieces g n o₀ w₀ p (i + 1) r
  unfolding joined_all
  one_more {p} {r} {x} h e put =
      record {
        below = omega arith;
        same = put.same ∙ m.same;
        goes = λ q u rest.
            let f : n - i ≡ suc (n - suc i) = omega arith in
            m.goes q u (rw f (rw e at (seq put (rw (add-one i) at rest))));
      }

  pub all_there : n ≤ i → Put o₀ out w₀ w (joined_all g 0 n)
  unfolding joined_all
  all_there h = let z : n - i ≡ 0 = omega arith in m.goes out w (rw z (nothing out w))
