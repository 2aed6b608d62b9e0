-- A loop that walks an array from its start to its end and carries a state: `for i in 0..n { s = g(i, xs[i], s); }`.
use Rattle.std.specs.Prelude.{◌≡◌, Bool, List, [], ◌∷◌, ℕ, suc, ◌+◌, ◌≤◌, ◌<◌, length, get_or, drop}
use Rattle.std.proofs.Math.Path.{sym}
use Rattle.std.proofs.Common.{ap, le_trans, arith}
use Rattle.sequences.specs.Pick.{pick, either}
use Rattle.sequences.specs.Rest.{Rest, rest-none, rest_more, rest_all}

-- the state after the elements of ys, the first of which is at i
unfoldable pub walk : {A S : Type 0} → (ℕ → A → S → S) → ℕ → List A → S → S
walk g i [] s = s
walk g i (y ∷ ys) s = walk g (suc i) ys (g i y s)

-- how many elements pass the test, which is told the index too
abbrev pub counting : {A : Type 0} → (ℕ → A → Bool) → ℕ → A → ℕ → ℕ
counting q i x n = pick (q i x) (n + 1) n

abbrev pub count : {A : Type 0} → (ℕ → A → Bool) → List A → ℕ
count q xs = walk (counting q) 0 xs 0

-- no more pass than there are
count-from : {A : Type 0} (q : ℕ → A → Bool) (i : ℕ) (xs : List A) (n : ℕ) → walk (counting q) i xs n ≤ n + length xs
unfolding walk
count-from q i [] n = omega arith
count-from q i (x ∷ xs) n = le_trans (count-from q (suc i) xs (counting q i x n)) (either (λ k. k + length xs ≤ n + suc (length xs)) (q i x) (n + 1) n (omega arith) (omega arith))

pub count_most : {A : Type 0} (q : ℕ → A → Bool) (xs : List A) → count q xs ≤ length xs
count_most q xs = let h = count-from q 0 xs 0 in omega arith

-- the invariant: s is the state at the head of the turn at i
pub record Walked {A S : Type 0} (g : ℕ → A → S → S) (n : ℕ) (xs : List A) (s₀ : S) (i : ℕ) (s : S) : Type 0 where
  pub below : i ≤ n
  pub long : length xs ≡ n
  pub rest : Rest (walk g) n xs s₀ i s

pub walked_none : {A S : Type 0} (g : ℕ → A → S → S) (n : ℕ) (xs : List A) (s : S) → length xs ≡ n → Walked g n xs s 0 s
walked_none g n xs s e = record { below = omega arith; long = e; rest = rest-none (walk g) n xs s e }

module _ {A S : Type 0} {g : ℕ → A → S → S} {n : ℕ} {xs : List A} {s₀ : S} {i : ℕ} {s : S} where
  pub walked_more : Walked g n xs s₀ i s → (d : A) (t : S) → i < n → t ≡ g i (get_or xs i d) s → Walked g n xs s₀ (i + 1) t
  unfolding walk
  walked_more m d t h p =
      record {
        below = omega arith;
        long = m.long;
        rest = rest_more m.rest d t h (ap (walk g (suc i) (drop (suc i) xs)) (sym p));
      }

  pub walked_all : Walked g n xs s₀ i s → n ≤ i → s ≡ walk g 0 xs s₀
  unfolding walk
  walked_all m h = sym (rest_all m.rest h)
