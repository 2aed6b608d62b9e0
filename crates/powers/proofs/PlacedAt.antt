-- What `placed` is in each case, as the code takes them: a field of its own, none, and past the last.
use Rattle.std.proofs.Common.{◌≡◌, ℕ, ◌+◌, ◌-◌, ◌*◌, ◌/◌, ◌^◌, ◌≤◌, min, div-one, arith}
use Rattle.powers.specs.Placed.{placed}

-- m over 2 * half, to the nearest
abbrev pub near : ℕ → ℕ → ℕ
near half m = (m + half) / (2 * half)

module _ (hid half infinity k : ℕ) where
  pub placed-above : (j m : ℕ) → j * hid + near half m ≤ infinity → placed hid half infinity k (k + j) m ≡ j * hid + near half m
  unfolding placed
  placed-above j m h =
      let a : k + j - k ≡ j = omega arith in
      let b : k - (k + j) ≡ 0 = omega arith in
      rw (a, b, div-one m) (at_most (j * hid + near half m) h)
    where
      at_most : (x : ℕ) → x ≤ infinity → min x infinity ≡ x
      at_most x h = omega arith

  pub placed_below : (n m : ℕ) → n ≤ k → near half (m / 2 ^ (k - n)) ≤ infinity → placed hid half infinity k n m ≡ near half (m / 2 ^ (k - n))
  unfolding placed
  placed_below n m l h =
      let a : n - k ≡ 0 = omega arith in
      rw a (at_most (near half (m / 2 ^ (k - n))) h)
    where
      at_most : (x : ℕ) → x ≤ infinity → min (0 * hid + x) infinity ≡ x
      at_most x h = omega arith

  pub placed-over : (j m : ℕ) → infinity ≤ j * hid + near half m → placed hid half infinity k (k + j) m ≡ infinity
  unfolding placed
  placed-over j m h =
      let a : k + j - k ≡ j = omega arith in
      let b : k - (k + j) ≡ 0 = omega arith in
      rw (a, b, div-one m) (past (j * hid + near half m) h)
    where
      past : (x : ℕ) → infinity ≤ x → min x infinity ≡ infinity
      past x h = omega arith
