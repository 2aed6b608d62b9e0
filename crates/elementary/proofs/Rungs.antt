-- The rung and the digits of a finite f32 above zero: their ranges, the number that they stand for, and that they rise with the pattern.
use mathlib.Core.Path.{◌≡◌, sym, ap, ◌∙◌, subst}
use mathlib.Core.Logic.{inl, inr}
use Prim.Native.Nat.{ℕ, zero, suc, ◌+◌, ◌-◌, ◌*◌, ◌/◌, ◌%◌, ◌^◌, ◌≤◌, ◌<◌}
use native.Mathlib.Nat.{le_trans, le_of_eq, lt_of_lt_of_le, lt_of_le_of_lt, not-le_of_lt, not-suc-le-zero, mul_assoc, mul-one, add_comm, mul-le-mul_left, mul-le-mul_right, mul-lt-mul_of_pos_right, le_of_mul-le-mul_right, mod-eq_of_lt, div-eq_of_lt, pow-succ'}
use native.Mathlib.Omega.{arith}
use lib.Pow.{pow_pos, pow-add, pow_mono, shl_lt}
use lib.Count.{count_leading_zeros, leading_top}
use borrow.Author.Tests.{le-leb, lt-leb}
use Rattle.floats_laws.proofs.Naturals.{le_or_lt}
use Rattle.floats_laws.proofs.Patterns.{val, val_mono}
use Rattle.elementary.specs.Rung.{rung_of, digits_of}

-- the number in units of 2^-149
abbrev pub amount : ℕ → ℕ
amount b = val 8388608 (b / 8388608) (b % 8388608)

pub record Parts (b : ℕ) : Type 0 where
  pub few : rung_of b < 277
  pub from : 8388608 ≤ digits_of b
  pub to : digits_of b < 16777216
  pub value : digits_of b * 2 ^ rung_of b ≡ amount b * 2 ^ 23

-- ---- a normal number
pub rung-normal : (b : ℕ) → 8388608 ≤ b → rung_of b ≡ b / 8388608 + 22
unfolding rung_of
rung-normal b h = rw (le-leb 8388608 b h)

pub digits-normal : (b : ℕ) → 8388608 ≤ b → digits_of b ≡ b % 8388608 + 8388608
unfolding digits_of
digits-normal b h = rw (le-leb 8388608 b h)

val_normal : (h x t : ℕ) → 0 < x → (t + h) * 2 ^ (x + 22) ≡ val h x t * 2 ^ 23
val_normal h zero t p = absurd (not-suc-le-zero p)
val_normal h (suc x) t p =
    ap (λ (z : ℕ). z * 2 ^ (suc x + 22)) (add_comm t h) ∙ ap (λ (z : ℕ). (h + t) * 2 ^ z) (more x) ∙ ap (λ (z : ℕ). (h + t) * z) (pow-add 2 x 23) ∙ sym (mul_assoc (h + t) (2 ^ x) (2 ^ 23))
  where
    more : (x : ℕ) → suc x + 22 ≡ x + 23
    more x = omega arith

normal-parts : (b : ℕ) → 8388608 ≤ b → b < 2139095040 → Parts b
normal-parts b h k = record {
  few = rw (rung-normal b h) (omega arith);
  from = rw (digits-normal b h) (omega arith);
  to = rw (digits-normal b h) (omega arith);
  value = rw (rung-normal b h, digits-normal b h) (val_normal 8388608 (b / 8388608) (b % 8388608) (omega arith));
}

-- ---- a subnormal one: j is the place of its leading digit
pub record Low (b : ℕ) : Type 0 where
  pub j : ℕ
  pub zeros : count_leading_zeros 32 b + suc j ≡ 32
  pub few : j ≤ 22
  pub lead : 2 ^ j ≤ b
  pub next : b < 2 ^ suc j

few_of : (b j : ℕ) → b < 8388608 → 2 ^ j ≤ b → j ≤ 22
few_of b j h l = elim (le_or_lt j 22) [ inl p ↦ p | inr q ↦ absurd (not-le_of_lt h (le_trans (pow_mono q) l)) ]

wide : (b : ℕ) → b < 8388608 → b < 2 ^ 32
wide b h = omega arith

pub low_facts : (b : ℕ) → 0 < b → b < 8388608 → Low b
low_facts b p h =
    let t = leading_top 32 b p (wide b h) in
    record { j = t.0; zeros = t.1; few = few_of b t.0 h t.2; lead = t.2; next = t.3 }

pub rung-low : (b : ℕ) → b < 8388608 → rung_of b ≡ 31 - count_leading_zeros 32 b
unfolding rung_of
rung-low b h = rw (lt-leb 8388608 b h)

pub digits_low : (b : ℕ) → b < 8388608 → digits_of b ≡ b * 2 ^ (count_leading_zeros 32 b - 8)
unfolding digits_of
digits_low b h = rw (lt-leb 8388608 b h)

module _ (b j z : ℕ) (e : z + suc j ≡ 32) (few : j ≤ 22) where
  lead-at : 2 ^ j ≤ b → 8388608 ≤ b * 2 ^ (z - 8)
  lead-at l = le_trans (le_of_eq (ap (λ (n : ℕ). 2 ^ n) sum ∙ pow-add 2 j (z - 8))) (mul-le-mul_right (2 ^ (z - 8)) l)
    where
      sum : 23 ≡ j + (z - 8)
      sum = omega arith

  under_at : b < 2 ^ suc j → b * 2 ^ (z - 8) < 16777216
  under_at l = subst (λ (n : ℕ). b * 2 ^ (z - 8) < 2 ^ n) sum (shl_lt (suc j) (z - 8) l)
    where
      sum : suc j + (z - 8) ≡ 24
      sum = omega arith

  whole-at : b * 2 ^ (z - 8) * 2 ^ (31 - z) ≡ b * 2 ^ 0 * 2 ^ 23
  whole-at =
      mul_assoc b (2 ^ (z - 8)) (2 ^ (31 - z)) ∙ ap (λ (n : ℕ). b * n) (sym (pow-add 2 (z - 8) (31 - z)) ∙ ap (λ (n : ℕ). 2 ^ n) sum) ∙ ap (λ (n : ℕ). n * 2 ^ 23) (sym (mul-one b))
    where
      sum : z - 8 + (31 - z) ≡ 23
      sum = omega arith

pub low_parts : (b : ℕ) → 0 < b → b < 8388608 → Parts b
low_parts b p h =
    let l = low_facts b p h in
    let z = count_leading_zeros 32 b in
    record {
      few = rw (rung-low b h) (omega arith);
      from = rw (digits_low b h) (lead-at b l.j z l.zeros l.few l.lead);
      to = rw (digits_low b h) (under_at b l.j z l.zeros l.few l.next);
      value = rw (rung-low b h, digits_low b h, div-eq_of_lt h, mod-eq_of_lt h) (whole-at b l.j z l.zeros l.few);
    }

pub parts : (b : ℕ) → 0 < b → b < 2139095040 → Parts b
parts b p h = elim (le_or_lt 8388608 b) [ inl g ↦ normal-parts b g h | inr l ↦ low_parts b p l ]

-- ---- the order
pub record Under (b c : ℕ) : Type 0 where
  pub rungs : rung_of b ≤ rung_of c
  pub digits : rung_of b ≡ rung_of c → digits_of b ≤ digits_of c

module _ (m i n j : ℕ) (M : 8388608 ≤ m) (N : n < 16777216) (h : m * 2 ^ i ≤ n * 2 ^ j) where
  pub rungs_le : i ≤ j
  rungs_le = elim (le_or_lt i j) [
    | inl l ↦ l
    | inr g ↦ absurd (not-le_of_lt (lt_of_le_of_lt h (lt_of_lt_of_le (mul-lt-mul_of_pos_right N (pow_pos j)) twice)) (le_trans (mul-le-mul_left 8388608 (pow_mono g)) (mul-le-mul_right (2 ^ i) M)))
  ]
    where
      twice : 16777216 * 2 ^ j ≤ 8388608 * 2 ^ suc j
      twice = le_of_eq (mul_assoc 8388608 2 (2 ^ j) ∙ ap (λ (z : ℕ). 8388608 * z) (sym (pow-succ' 2 j)))

  digits_le : i ≡ j → m ≤ n
  digits_le e = le_of_mul-le-mul_right (subst (λ (z : ℕ). m * 2 ^ z ≤ n * 2 ^ j) e h) (pow_pos j)

pub under : (b c : ℕ) → 0 < b → b ≤ c → c < 2139095040 → Under b c
under b c p h k =
    let x = parts b p (lt_of_le_of_lt h k) in
    let y = parts c (lt_of_lt_of_le p h) k in
    let a : digits_of b * 2 ^ rung_of b ≤ digits_of c * 2 ^ rung_of c = rw (x.value, y.value) (mul-le-mul_right (2 ^ 23) (val_mono 8388608 b c (pow_pos 23) h)) in
    record {
      rungs = rungs_le (digits_of b) (rung_of b) (digits_of c) (rung_of c) x.from y.to a;
      digits = digits_le (digits_of b) (rung_of b) (digits_of c) (rung_of c) x.from y.to a;
    }
