-- Every entry keeps order 5's rule, and none is above the one before it: one computed test each.
use mathlib.Core.Path.{◌≡◌, refl, sym, subst, ◌∙◌}
use mathlib.Core.Bool.{Bool, true, ◌&&◌}
use mathlib.Core.List.{List, [], ◌∷◌}
use Prim.Native.Nat.{ℕ, zero, suc, ◌+◌, ◌-◌, ◌*◌, ◌^◌, ◌≤◌, ◌<◌}
use native.Mathlib.Nat.{add-zero, zero-add, add-suc, suc-add, le_refl, le_trans, le_of_lt, le_antisymm, lt_irrefl, lt_of_lt_of_le, mul-le-mul_right, pow-le-pow_left, le_of_suc-le-suc, not-suc-le-zero}
use borrow.Author.Tests.{ltb-true, ltb-false}
use native.Mathlib.Omega.{arith}
use lib.Dec.{T, ltb, leb, ltb→lt, leb→le}
use lib.ListN.{length, get_or}
use lib.Ieee.Fits.{and_l, and_r}
use Rattle.sequences.specs.Pick.{by-case}
use Rattle.mask_records.specs.Rule.{Entry}
use Rattle.mask_records.specs.Decibels.{entries, entry_of}

-- the test f passes at each entry of the list and its place, counted from i
abbrev every : (ℕ → ℕ → Bool) → ℕ → List ℕ → Bool
every f i [] = true
every f i (x ∷ xs) = f i x && every f (suc i) xs

every_from : (f : ℕ → ℕ → Bool) (xs : List ℕ) (i : ℕ) → T (every f i xs) → (k : ℕ) → k < length xs → T (f (i + k) (get_or xs k 0))
every_from f [] i t k h = absurd (not-suc-le-zero h)
every_from f (x ∷ xs) i t zero h = subst (λ (m : ℕ). T (f m x)) (sym (add-zero i)) (and_l (f i x) (every f (suc i) xs) t)
every_from f (x ∷ xs) i t (suc k) h =
    subst (λ (m : ℕ). T (f m (get_or xs k 0))) (suc-add i k ∙ sym (add-suc i k))
    (every_from f xs (suc i) (and_r (f i x) (every f (suc i) xs) t) k (le_of_suc-le-suc h))

every_at : (f : ℕ → ℕ → Bool) (xs : List ℕ) → T (every f 0 xs) → (k : ℕ) → k < length xs → T (f k (get_or xs k 0))
every_at f xs t k h = subst (λ (m : ℕ). T (f m (get_or xs k 0))) (zero-add k) (every_from f xs 0 t k h)

-- ---- order 5's rule
right : ℕ → ℕ → Bool
right n e = ltb ((2 * e - 1) ^ 200 * 10 ^ n) (65536 ^ 200) && ltb (65536 ^ 200) ((2 * e + 1) ^ 200 * 10 ^ n)

pub entries-long : length entries ≡ 601
unfolding entries
entries-long = refl

passes : T (every right 0 entries)
unfolding entries right
passes = tt

pub entry_rule : (n : ℕ) → n ≤ 600 → Entry n (entry_of n)
unfolding right
entry_rule n h =
    let e = entry_of n in
    let a : Bool = ltb ((2 * e - 1) ^ 200 * 10 ^ n) (65536 ^ 200) in
    let b : Bool = ltb (65536 ^ 200) ((2 * e + 1) ^ 200 * 10 ^ n) in
    let t : T (a && b) = every_at right entries passes n (omega (arith, entries-long)) in
    (ltb→lt _ _ (and_l a b t), ltb→lt _ _ (and_r a b t))

-- nothing else keeps it
apart : (k n e g : ℕ) → e < g → k < (2 * e + 1) ^ 200 * 10 ^ n → (2 * g - 1) ^ 200 * 10 ^ n < k → ⊥
apart k n e g h u v =
    let w : (2 * e + 1) ^ 200 * 10 ^ n ≤ (2 * g - 1) ^ 200 * 10 ^ n = mul-le-mul_right (10 ^ n) (pow-le-pow_left {n = 2 * e + 1} {m = 2 * g - 1} (omega arith) 200) in
    lt_irrefl k (lt_of_lt_of_le u (le_trans w (le_of_lt v)))

pub entry-only : (n e g : ℕ) → Entry n e → Entry n g → e ≡ g
entry-only n e g a b =
    by-case (ltb e g) (λ h. absurd (apart (65536 ^ 200) n e g (ltb-true e g h) a.1 b.0))
    (λ h. by-case (ltb g e) (λ l. absurd (apart (65536 ^ 200) n g e (ltb-true g e l) b.1 a.0)) (λ l. le_antisymm (ltb-false g e l) (ltb-false e g h)))

-- ---- it starts at 32,768, ends at 33 and never rises
abbrev falling : ℕ → List ℕ → Bool
falling x [] = true
falling x (y ∷ ys) = leb y x && falling y ys

under_first : (x : ℕ) (xs : List ℕ) → T (falling x xs) → (k : ℕ) → k < length xs → get_or xs k 0 ≤ x
under_first x [] t k h = absurd (not-suc-le-zero h)
under_first x (y ∷ ys) t zero h = leb→le y x (and_l (leb y x) (falling y ys) t)
under_first x (y ∷ ys) t (suc k) h =
    le_trans (under_first y ys (and_r (leb y x) (falling y ys) t) k (le_of_suc-le-suc h)) (leb→le y x (and_l (leb y x) (falling y ys) t))

falls : (x : ℕ) (xs : List ℕ) → T (falling x xs) → (i j : ℕ) → i ≤ j → j < suc (length xs) → get_or (x ∷ xs) j 0 ≤ get_or (x ∷ xs) i 0
falls x xs t zero zero h l = le_refl x
falls x xs t zero (suc j) h l = under_first x xs t j (le_of_suc-le-suc l)
falls x xs t (suc i) zero h l = absurd (not-suc-le-zero h)
falls x [] t (suc i) (suc j) h l = absurd (not-suc-le-zero (le_of_suc-le-suc l))
falls x (y ∷ ys) t (suc i) (suc j) h l = falls y ys (and_r (leb y x) (falling y ys) t) i j (le_of_suc-le-suc h) (le_of_suc-le-suc l)

abbrev ordered : List ℕ → Bool
ordered [] = true
ordered (x ∷ xs) = falling x xs

ordered_at : (xs : List ℕ) → T (ordered xs) → (i j : ℕ) → i ≤ j → j < length xs → get_or xs j 0 ≤ get_or xs i 0
ordered_at [] t i j h l = absurd (not-suc-le-zero l)
ordered_at (x ∷ xs) t i j h l = falls x xs t i j h l

in_order : T (ordered entries)
unfolding entries
in_order = tt

pub never_rises : (i j : ℕ) → i ≤ j → j ≤ 600 → entry_of j ≤ entry_of i
never_rises i j h l = ordered_at entries in_order i j h (omega (arith, entries-long))

pub first_entry : entry_of 0 ≡ 32768
unfolding entries
first_entry = refl

pub last_entry : entry_of 600 ≡ 33
unfolding entries
last_entry = refl
