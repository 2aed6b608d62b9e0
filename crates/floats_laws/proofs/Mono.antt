-- Rounding keeps the order of signed fractions, over the format, so each operation goes one way in each operand. A signed fraction is (P - N) / c.
use Prim.Native.Nat.{ℕ, zero, suc, ◌+◌, ◌-◌, ◌*◌, ◌/◌, ◌^◌, ◌≤◌, ◌<◌}
use native.Mathlib.Nat.{mul_comm, mul_assoc, mul_left_comm, mul-pos, add_comm, add-mul, mul-le-mul_right, mul-lt-mul_of_pos_right, zero-mul, zero-lt-suc}
use native.Mathlib.Omega.{arith}
use mathlib.Core.Path.{◌≡◌, refl, sym, ap, ◌∙◌, subst}
use mathlib.Core.Bool.{Bool, true, false, cond, ◌&&◌, ◌||◌}
use lib.IntN.{ℤ, pos}
use lib.Dec.{T, ltb, eqb, ltb→lt, leb→le, eqb→eq, eqb-suc-zero}
use borrow.Author.Tests.{ltb-true, ltb-false, lt-ltb, le-ltb}
use lib.Ieee.{Float, nan, inf, fin, Format, prec, emax, low, up, down, odd, units, round, sum, add, mul, div, unlike, lt, le, eq, below, level, fits}
use lib.Ieee.Fits.{up_pos, down_pos, round-fits, round_is, and_l, and_r}
use lib.Ieee.Order as Order
use lib.Ieee.Order.{round_mono}
use lib.Ieee.Scale.{round_same}
use Rattle.floats.proofs.Values.{own-round}
use Rattle.floats.proofs.Rounded.{round_number}
use Rattle.floats_laws.proofs.Keys.{over, mag, side, key, le_key}

-- ---- the sign of a rounded value is the one given
odd_side : (f : Format) (d : ℕ) (s : Bool) (q k l : ℕ) → key f (odd d s q k l) ≡ side (over f) s (mag f (odd d false q k l))
unfolding odd
odd_side f d s zero k l = refl
odd_side f d s (suc q) k l = refl

cond_side : (f : Format) (t s : Bool) (x y : Float) → key f x ≡ side (over f) s (mag f y) → key f (cond t x (inf s)) ≡ side (over f) s (mag f (cond t y (inf false)))
cond_side f true s x y h = h
cond_side f false s x y h = refl

units_side : (f : Format) (s : Bool) (q k : ℕ) → key f (units f s q k) ≡ side (over f) s (mag f (units f false q k))
unfolding units
units_side f s q k = cond_side f (ltb (q * 2 ^ k) (2 ^ (low f + suc (emax f)))) s (odd (suc (prec f)) s q k (low f)) (odd (suc (prec f)) false q k (low f)) (odd_side f (suc (prec f)) s q k (low f))

-- the magnitude of a rounded fraction
abbrev pub rounded_size : Format → ℕ → ℕ → ℕ
rounded_size f a b = mag f (round f false a b)

pub round_side : (f : Format) (s : Bool) (a b : ℕ) → key f (round f s a b) ≡ side (over f) s (rounded_size f a b)
round_side f s a b =
    let q = Order.kept (prec f) (a * 2 ^ low f) b in
    let k = Order.drop (prec f) (a * 2 ^ low f) b in
    ap (key f) (round_is f s a b) ∙ units_side f s q k ∙ ap (λ (z : Float). side (over f) s (mag f z)) (sym (round_is f false a b))

pub rounded-size-rises : (f : Format) (a b c d : ℕ) → 0 < b → 0 < d → a * d ≤ c * b → rounded_size f a b ≤ rounded_size f c d
rounded-size-rises f a b c d B D h =
    let x = round f false a b in
    let y = round f false c d in
    let t = leb→le (key f x) (key f y) (subst T (le_key f x y (round-fits f false a b) (round-fits f false c d) (round_number f false a b) (round_number f false c d)) (round_mono f a b c d B D h)) in
    omega (arith, round_side f false a b, round_side f false c d)

zero_fits : (f : Format) → T (fits f (fin false 0 (pos 0)))
unfolding fits
zero_fits f = tt

pub rounded-size_zero : (f : Format) (c : ℕ) → 0 < c → rounded_size f 0 c ≡ 0
rounded-size_zero f c C = ap (mag f) (round_same f false 0 c (0 * 2 ^ 0) 1 C (zero-lt-suc 0) (zero-mul 1 ∙ sym (zero-mul c)) ∙ own-round f false 0 (pos 0) (zero_fits f)) ∙ ap (λ (z : ℕ). z / 1) (zero-mul (2 ^ low f))

-- ---- a signed fraction, rounded, by its key
abbrev pub signed_key : Format → ℕ → ℕ → ℕ → ℕ
signed_key f P N c = cond (ltb P N) (over f - rounded_size f (N - P) c) (over f + rounded_size f (P - N) c)

pub times : (n p c : ℕ) → p ≤ n → (n - p) * c + p * c ≡ n * c
times n p c h = sym (add-mul (n - p) p c) ∙ ap (λ (z : ℕ). z * c) (omega arith)

pub signed_key-rises : (f : Format) (P N c P' N' c' : ℕ) → 0 < c → 0 < c' → P * c' + N' * c ≤ P' * c + N * c' → signed_key f P N c ≤ signed_key f P' N' c'
signed_key-rises f P N c P' N' c' C C' h = go (ltb P N) (ltb P' N') (ltb-true P N) (ltb-false P N) (ltb-true P' N') (ltb-false P' N')
  where
    go : (s t : Bool) → (s ≡ true → P < N) → (s ≡ false → N ≤ P) → (t ≡ true → P' < N') → (t ≡ false → N' ≤ P')
        → cond s (over f - rounded_size f (N - P) c) (over f + rounded_size f (P - N) c) ≤ cond t (over f - rounded_size f (N' - P') c') (over f + rounded_size f (P' - N') c')
    go true true a b a' b' =
        let A = a refl in
        let A' = a' refl in
        let l : P ≤ N = omega arith in
        let l' : P' ≤ N' = omega arith in
        let m = rounded-size-rises f (N' - P') c' (N - P) c C' C (omega (arith, times N P c' l, times N' P' c l')) in
        omega arith
    go true false a b a' b' = omega arith
    go false true a b a' b' = absurd (let B = mul-le-mul_right c' (b refl) in let A = mul-lt-mul_of_pos_right (a' refl) C in omega arith)
    go false false a b a' b' =
        let m = rounded-size-rises f (P - N) c (P' - N') c' C C' (omega (arith, times P N c' (b refl), times P' N' c (b' refl))) in
        omega arith

signed_key-is : (f : Format) (P N c v : ℕ) → (P < N → v ≡ over f - rounded_size f (N - P) c) → (N ≤ P → v ≡ over f + rounded_size f (P - N) c) → v ≡ signed_key f P N c
signed_key-is f P N c v h k = go (ltb P N) (ltb-true P N) (ltb-false P N)
  where
    go : (s : Bool) → (s ≡ true → P < N) → (s ≡ false → N ≤ P) → v ≡ cond s (over f - rounded_size f (N - P) c) (over f + rounded_size f (P - N) c)
    go true a b = h (a refl)
    go false a b = k (b refl)

-- ---- a sum
abbrev pub plus : Bool → ℕ → ℕ
plus s a = cond s 0 a

abbrev pub minus : Bool → ℕ → ℕ
minus s a = cond s a 0

at_size : (f : Format) (c : ℕ) {x y : ℕ} → x ≡ y → rounded_size f x c ≡ rounded_size f y c
at_size f c e = ap (λ (z : ℕ). rounded_size f z c) e

pub sum-key : (f : Format) (s : Bool) (a : ℕ) (t : Bool) (b c : ℕ) → 0 < c → key f (sum f s a t b c) ≡ signed_key f (plus s a + plus t b) (minus s a + minus t b) c
unfolding sum
sum-key f false a false b c C =
    signed_key-is f (a + b) (0 + 0) c (key f (round f false (a + b) c)) (λ h. absurd (omega arith)) (λ h. let e : a + b ≡ a + b - (0 + 0) = omega arith in round_side f false (a + b) c ∙ ap (λ (z : ℕ). over f + z) (at_size f c e))
sum-key f true a true b c C =
    signed_key-is f (0 + 0) (a + b) c (key f (round f true (a + b) c))
    (λ h. let e : a + b ≡ a + b - (0 + 0) = omega arith in round_side f true (a + b) c ∙ ap (λ (z : ℕ). over f - z) (at_size f c e))
    (λ h.
    let e : a + b ≡ 0 = omega arith in
    let e' : 0 + 0 - (a + b) ≡ 0 = omega arith in
    omega (arith, round_side f true (a + b) c, at_size f c e, at_size f c e', rounded-size_zero f c C))
sum-key f false a true b c C = go (ltb a b) (ltb-true a b) (ltb-false a b)
  where
    go : (z : Bool) → (z ≡ true → a < b) → (z ≡ false → b ≤ a) → key f (cond z (round f true (b - a) c) (round f (false && ltb b a) (a - b) c)) ≡ signed_key f (a + 0) (0 + b) c
    go true h k =
        let l = h refl in
        signed_key-is f (a + 0) (0 + b) c (key f (round f true (b - a) c)) (λ _. let e : b - a ≡ 0 + b - (a + 0) = omega arith in round_side f true (b - a) c ∙ ap (λ (z : ℕ). over f - z) (at_size f c e)) (λ g. absurd (omega arith))
    go false h k =
        let l = k refl in
        signed_key-is f (a + 0) (0 + b) c (key f (round f false (a - b) c)) (λ g. absurd (omega arith)) (λ _. let e : a - b ≡ a + 0 - (0 + b) = omega arith in round_side f false (a - b) c ∙ ap (λ (z : ℕ). over f + z) (at_size f c e))
sum-key f true a false b c C = go (ltb a b) (ltb-true a b) (ltb-false a b)
  where
    go : (z : Bool) → (z ≡ true → a < b) → (z ≡ false → b ≤ a) → key f (cond z (round f false (b - a) c) (round f (true && ltb b a) (a - b) c)) ≡ signed_key f (0 + b) (a + 0) c
    go true h k =
        let l = h refl in
        signed_key-is f (0 + b) (a + 0) c (key f (round f false (b - a) c)) (λ g. absurd (omega arith)) (λ _. let e : b - a ≡ 0 + b - (a + 0) = omega arith in round_side f false (b - a) c ∙ ap (λ (z : ℕ). over f + z) (at_size f c e))
    go false h k =
        let l = k refl in
        signed_key-is f (0 + b) (a + 0) c (key f (round f (true && ltb b a) (a - b) c))
        (λ g. let i : b < a = omega arith in let e : a - b ≡ a + 0 - (0 + b) = omega arith in ap (λ (y : Bool). key f (round f y (a - b) c)) (lt-ltb b a i) ∙ round_side f true (a - b) c ∙ ap (λ (z : ℕ). over f - z) (at_size f c e))
        (λ g. let i : a ≤ b = omega arith in let e : a - b ≡ 0 + b - (a + 0) = omega arith in ap (λ (y : Bool). key f (round f y (a - b) c)) (le-ltb b a i) ∙ round_side f false (a - b) c ∙ ap (λ (z : ℕ). over f + z) (at_size f c e))

-- ---- the operands as signed fractions
pub add_key : (f : Format) (s : Bool) (m : ℕ) (e : ℤ) (t : Bool) (n : ℕ) (d : ℤ)
    → key f (add f (fin s m e) (fin t n d)) ≡ signed_key f (plus s (m * up e * down d) + plus t (n * up d * down e)) (minus s (m * up e * down d) + minus t (n * up d * down e)) (down e * down d)
unfolding add
add_key f s m e t n d = sum-key f s (m * up e * down d) t (n * up d * down e) (down e * down d) (mul-pos (down_pos e) (down_pos d))

-- ---- the order as one of signed fractions
signed_le : (s : Bool) (A : ℕ) (t : Bool) (B : ℕ) → T (below s A t B || level s A t B) → plus s A + minus t B ≤ plus t B + minus s A
signed_le false A false B h = let g = le_of A B (ltb A B) (ltb→lt A B) h in omega arith
  where
    le_of : (A B : ℕ) (b : Bool) → (T b → A < B) → T (b || (eqb A B && true)) → A ≤ B
    le_of A B true k t = let g = k tt in omega arith
    le_of A B false k t = let g = eqb→eq A B (and_l (eqb A B) true t) in omega arith
signed_le false A true B h = let x = eqb→eq A B (and_l (eqb A B) (eqb A 0) h) in let y = eqb→eq A 0 (and_r (eqb A B) (eqb A 0) h) in omega arith
signed_le true A false B h = omega arith
signed_le true A true B h = let g = le_of (ltb B A) (ltb→lt B A) h in omega arith
  where
    le_of : (b : Bool) → (T b → B < A) → T (b || (eqb A B && true)) → B ≤ A
    le_of true k t = let g = k tt in omega arith
    le_of false k t = let g = eqb→eq A B (and_l (eqb A B) true t) in omega arith

pub plus_mul : (s : Bool) (a d : ℕ) → plus s (a * d) ≡ plus s a * d
plus_mul true a d = sym (zero-mul d)
plus_mul false a d = refl

pub minus_mul : (s : Bool) (a d : ℕ) → minus s (a * d) ≡ minus s a * d
minus_mul true a d = refl
minus_mul false a d = sym (zero-mul d)

pub le→signed : (s : Bool) (m : ℕ) (e : ℤ) (t : Bool) (n : ℕ) (d : ℤ) → T (le (fin s m e) (fin t n d)) → plus s (m * up e) * down d + minus t (n * up d) * down e ≤ plus t (n * up d) * down e + minus s (m * up e) * down d
unfolding le lt eq
le→signed s m e t n d h = rw (← plus_mul s (m * up e) (down d), ← minus_mul t (n * up d) (down e), ← plus_mul t (n * up d) (down e), ← minus_mul s (m * up e) (down d)) (signed_le s (m * up e * down d) t (n * up d * down e) h)

spread : (p n dx p' n' dx' q r dy : ℕ) → p * dx' + n' * dx ≤ p' * dx + n * dx'
    → (p * dy + q * dx) * (dx' * dy) + (n' * dy + r * dx') * (dx * dy) ≤ (p' * dy + q * dx') * (dx * dy) + (n * dy + r * dx) * (dx' * dy)
spread p n dx p' n' dx' q r dy h =
    let g = mul-le-mul_right (dy * dy) h in
    simp (add-mul, mul_assoc, mul_comm, mul_left_comm) (omega (arith, simp (add-mul, mul_assoc, mul_comm, mul_left_comm) at g))

-- ---- a sum goes up with its first operand, and it does not matter which is first
pub add_up : (f : Format) (s : Bool) (m : ℕ) (e : ℤ) (t : Bool) (n : ℕ) (d : ℤ) (u : Bool) (k : ℕ) (g : ℤ) → T (le (fin s m e) (fin t n d))
    → key f (add f (fin s m e) (fin u k g)) ≤ key f (add f (fin t n d) (fin u k g))
add_up f s m e t n d u k g h =
    rw (add_key f s m e u k g, add_key f t n d u k g)
    (signed_key-rises f (plus s (m * up e * down g) + plus u (k * up g * down e)) (minus s (m * up e * down g) + minus u (k * up g * down e)) (down e * down g)
    (plus t (n * up d * down g) + plus u (k * up g * down d)) (minus t (n * up d * down g) + minus u (k * up g * down d)) (down d * down g)
    (mul-pos (down_pos e) (down_pos g)) (mul-pos (down_pos d) (down_pos g))
    (rw (plus_mul s (m * up e) (down g), plus_mul u (k * up g) (down e), minus_mul s (m * up e) (down g), minus_mul u (k * up g) (down e), plus_mul t (n * up d) (down g), plus_mul u (k * up g) (down d), minus_mul t (n * up d) (down g), minus_mul u (k * up g) (down d))
    (spread (plus s (m * up e)) (minus s (m * up e)) (down e) (plus t (n * up d)) (minus t (n * up d)) (down d) (plus u (k * up g)) (minus u (k * up g)) (down g) (le→signed s m e t n d h))))

pub add_swap : (f : Format) (s : Bool) (m : ℕ) (e : ℤ) (t : Bool) (n : ℕ) (d : ℤ) → key f (add f (fin s m e) (fin t n d)) ≡ key f (add f (fin t n d) (fin s m e))
add_swap f s m e t n d =
    rw (add_key f s m e t n d, add_key f t n d s m e, mul_comm (down d) (down e), add_comm (plus t (n * up d * down e)) (plus s (m * up e * down d)), add_comm (minus t (n * up d * down e)) (minus s (m * up e * down d)))

-- ---- one rounded fraction with its sign
pub round_signed_key : (f : Format) (s : Bool) (a c : ℕ) → 0 < c → key f (round f s a c) ≡ signed_key f (plus s a) (minus s a) c
round_signed_key f false a c C = signed_key-is f a 0 c (key f (round f false a c)) (λ h. absurd (omega arith)) (λ h. let e : a ≡ a - 0 = omega arith in round_side f false a c ∙ ap (λ (z : ℕ). over f + z) (at_size f c e))
round_signed_key f true a c C =
    signed_key-is f 0 a c (key f (round f true a c)) (λ h. let e : a ≡ a - 0 = omega arith in round_side f true a c ∙ ap (λ (z : ℕ). over f - z) (at_size f c e))
    (λ h. let e : a ≡ 0 = omega arith in let e' : 0 - a ≡ 0 = omega arith in omega (arith, round_side f true a c, at_size f c e, at_size f c e', rounded-size_zero f c C))

unlike_false : (s : Bool) → unlike s false ≡ s
unlike_false true = refl
unlike_false false = refl

-- a product with a number that is not negative
pub mul_key : (f : Format) (s : Bool) (m : ℕ) (e : ℤ) (n : ℕ) (d : ℤ) → key f (mul f (fin s m e) (fin false n d)) ≡ signed_key f (plus s (m * up e) * (n * up d)) (minus s (m * up e) * (n * up d)) (down e * down d)
unfolding mul
mul_key f s m e n d =
    ap (λ (z : Bool). key f (round f z (m * up e * (n * up d)) (down e * down d))) (unlike_false s)
    ∙ round_signed_key f s (m * up e * (n * up d)) (down e * down d) (mul-pos (down_pos e) (down_pos d))
    ∙ ap (λ (z : ℕ). signed_key f z (minus s (m * up e * (n * up d))) (down e * down d)) (plus_mul s (m * up e) (n * up d))
    ∙ ap (λ (z : ℕ). signed_key f (plus s (m * up e) * (n * up d)) z (down e * down d)) (minus_mul s (m * up e) (n * up d))

scale : (p n dx p' n' dx' q dy : ℕ) → p * dx' + n' * dx ≤ p' * dx + n * dx' → p * q * (dx' * dy) + n' * q * (dx * dy) ≤ p' * q * (dx * dy) + n * q * (dx' * dy)
scale p n dx p' n' dx' q dy h =
    let g = mul-le-mul_right (q * dy) h in
    simp (add-mul, mul_assoc, mul_comm, mul_left_comm) (omega (arith, simp (add-mul, mul_assoc, mul_comm, mul_left_comm) at g))

pub mul_up : (f : Format) (s : Bool) (m : ℕ) (e : ℤ) (t : Bool) (n : ℕ) (d : ℤ) (k : ℕ) (g : ℤ) → T (le (fin s m e) (fin t n d))
    → key f (mul f (fin s m e) (fin false k g)) ≤ key f (mul f (fin t n d) (fin false k g))
mul_up f s m e t n d k g h =
    rw (mul_key f s m e k g, mul_key f t n d k g)
    (signed_key-rises f (plus s (m * up e) * (k * up g)) (minus s (m * up e) * (k * up g)) (down e * down g) (plus t (n * up d) * (k * up g)) (minus t (n * up d) * (k * up g)) (down d * down g)
    (mul-pos (down_pos e) (down_pos g)) (mul-pos (down_pos d) (down_pos g))
    (scale (plus s (m * up e)) (minus s (m * up e)) (down e) (plus t (n * up d)) (minus t (n * up d)) (down d) (k * up g) (down g) (le→signed s m e t n d h)))

-- a quotient by a positive number
pub div_key : (f : Format) (s : Bool) (m : ℕ) (e : ℤ) (n : ℕ) (d : ℤ) → key f (div f (fin s m e) (fin false (suc n) d)) ≡ signed_key f (plus s (m * up e) * down d) (minus s (m * up e) * down d) (suc n * up d * down e)
unfolding div
div_key f s m e n d =
    ap (λ (z : Bool). key f (cond z (cond (eqb m 0) nan (inf (unlike s false))) (round f (unlike s false) (m * up e * down d) (suc n * up d * down e)))) (eqb-suc-zero n)
    ∙ ap (λ (z : Bool). key f (round f z (m * up e * down d) (suc n * up d * down e))) (unlike_false s)
    ∙ round_signed_key f s (m * up e * down d) (suc n * up d * down e) (mul-pos (mul-pos (zero-lt-suc n) (up_pos d)) (down_pos e))
    ∙ ap (λ (z : ℕ). signed_key f z (minus s (m * up e * down d)) (suc n * up d * down e)) (plus_mul s (m * up e) (down d))
    ∙ ap (λ (z : ℕ). signed_key f (plus s (m * up e) * down d) z (suc n * up d * down e)) (minus_mul s (m * up e) (down d))

pub div_up : (f : Format) (s : Bool) (m : ℕ) (e : ℤ) (t : Bool) (n : ℕ) (d : ℤ) (k : ℕ) (g : ℤ) → T (le (fin s m e) (fin t n d))
    → key f (div f (fin s m e) (fin false (suc k) g)) ≤ key f (div f (fin t n d) (fin false (suc k) g))
div_up f s m e t n d k g h =
    rw (div_key f s m e k g, div_key f t n d k g)
    (signed_key-rises f (plus s (m * up e) * down g) (minus s (m * up e) * down g) (suc k * up g * down e) (plus t (n * up d) * down g) (minus t (n * up d) * down g) (suc k * up g * down d)
    (mul-pos (mul-pos (zero-lt-suc k) (up_pos g)) (down_pos e)) (mul-pos (mul-pos (zero-lt-suc k) (up_pos g)) (down_pos d))
    (quot (plus s (m * up e)) (minus s (m * up e)) (down e) (plus t (n * up d)) (minus t (n * up d)) (down d) (down g) (suc k * up g) (le→signed s m e t n d h)))
  where
    quot : (p n dx p' n' dx' q y : ℕ) → p * dx' + n' * dx ≤ p' * dx + n * dx' → p * q * (y * dx') + n' * q * (y * dx) ≤ p' * q * (y * dx) + n * q * (y * dx')
    quot p n dx p' n' dx' q y h =
        let g = mul-le-mul_right (q * y) h in
        simp (add-mul, mul_assoc, mul_comm, mul_left_comm) (omega (arith, simp (add-mul, mul_assoc, mul_comm, mul_left_comm) at g))
