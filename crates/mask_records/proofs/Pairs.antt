-- The bytes of a record: how many, and where each entry's two stand.
use Prim.Native.Nat.{ℕ, zero, suc, ◌+◌, ◌*◌, ◌/◌, ◌%◌}
use native.Mathlib.Omega.{arith}
use mathlib.Core.Path.{◌≡◌, refl, ap, ◌∙◌}
use mathlib.Core.List.{List, [], ◌∷◌, ◌++◌}
use lib.ListN.{length, get_or, length-append}
use Rattle.mask_records.specs.Bytes.{head_of, pairs_of, record_of}

pub pairs_length : (es : List ℕ) → length (pairs_of es) ≡ 2 * length es
unfolding pairs_of
pairs_length [] = refl
pairs_length (e ∷ es) = let h = pairs_length es in omega arith

high-at : (es : List ℕ) (i k : ℕ) → k ≡ 2 * i → get_or (pairs_of es) k 0 ≡ get_or es i 0 / 256
unfolding pairs_of
high-at [] i k h = refl
high-at (e ∷ es) zero zero h = refl
high-at (e ∷ es) zero (suc k) h = absurd (omega arith)
high-at (e ∷ es) (suc i) zero h = absurd (omega arith)
high-at (e ∷ es) (suc i) (suc zero) h = absurd (omega arith)
high-at (e ∷ es) (suc i) (suc (suc k)) h = high-at es i k (omega arith)

low-at : (es : List ℕ) (i k : ℕ) → k ≡ 2 * i + 1 → get_or (pairs_of es) k 0 ≡ get_or es i 0 % 256
unfolding pairs_of
low-at [] i k h = refl
low-at (e ∷ es) zero zero h = absurd (omega arith)
low-at (e ∷ es) zero (suc zero) h = refl
low-at (e ∷ es) zero (suc (suc k)) h = absurd (omega arith)
low-at (e ∷ es) (suc i) zero h = absurd (omega arith)
low-at (e ∷ es) (suc i) (suc zero) h = absurd (omega arith)
low-at (e ∷ es) (suc i) (suc (suc k)) h = low-at es i k (omega arith)

pub pairs_high : (es : List ℕ) (i : ℕ) → get_or (pairs_of es) (2 * i) 0 ≡ get_or es i 0 / 256
pairs_high es i = high-at es i (2 * i) refl

pub pairs_low : (es : List ℕ) (i : ℕ) → get_or (pairs_of es) (2 * i + 1) 0 ≡ get_or es i 0 % 256
pairs_low es i = low-at es i (2 * i + 1) refl

pub head_length : (sample n : ℕ) → length (head_of sample n) ≡ 16
unfolding head_of
head_length sample n = refl

-- the length that tag 33 has before the entries is that of their bytes
pub record_parts : (sample : ℕ) (es : List ℕ) → record_of sample es ≡ head_of sample (length es) ++ pairs_of es
unfolding record_of head_of
record_parts sample es = rw (pairs_length es)

pub record_length : (sample : ℕ) (es : List ℕ) → length (record_of sample es) ≡ 16 + 2 * length es
record_length sample es = ap length (record_parts sample es) ∙ omega (arith, length-append (head_of sample (length es)) (pairs_of es), head_length sample (length es), pairs_length es)
