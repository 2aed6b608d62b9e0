-- Above a half, the taper's polynomial is at most 1, over the format. There 3 - 2y is exact, and so is 2y - 1, from which the square of y lies (1 - y)^2 away: the rounded
-- square lies no further from it, so it is at most y^2 + (1 - y)^2, and that times 3 - 2y is 1 - 2 (1 - y)^2 (2y - 1).
use Prim.Native.Nat.{ℕ, suc, ◌+◌, ◌-◌, ◌*◌, ◌^◌, ◌≤◌, ◌<◌}
use native.Mathlib.Nat.{le_trans, le_of_eq, le_of_lt, lt_of_le_of_lt, lt_of_lt_of_le, mul_assoc, mul_comm, mul_left_comm, mul_right_comm, add-mul, mul-one, one-mul, mul-pos, mul-le-mul, mul-le-mul_left, mul-le-mul_right, mul-lt-mul_of_pos_right, le_of_mul-le-mul_right, eq_of_mul-eq-mul_right, zero-lt-suc, pow-suc}
use native.Mathlib.Omega.{arith}
use mathlib.Core.Path.{◌≡◌, sym, ap, ◌∙◌, subst}
use mathlib.Core.Bool.{Bool, true, false, cond, ◌&&◌, true≢false}
use borrow.Author.Tests.{le-ltb}
use lib.Pow.{pow_pos, pow_mono}
use lib.IntN.{pos, negsuc}
use lib.Dec.{T, ltb, leb→le, ltb→lt}
use lib.Ieee.{Float, nan, inf, fin, Format, binary32, binary64, prec, emax, low, up, down, round, add, sub, mul, neg, le, fits}
use lib.Ieee as Ieee
use lib.Ieee.Exact.{HasValue}
use lib.Ieee.Fits.{down_pos, round-fits}
use lib.Ieee.Scale.{finite, round_same}
use Rattle.floats.specs.Convert.{apart, units_in, Nearest}
use Rattle.floats_laws.proofs.Keys.{mag_back}
use Rattle.floats_laws.proofs.Mag.{Upto, upto_mag, within-upto, mag_le}
use Rattle.floats_laws.proofs.Nearest.{round-nearest}
use Rattle.floats.proofs.Pack.{pow_lt_back}
use Rattle.floats_laws.proofs.Units.{one as i}
use Rattle.floats_laws.proofs.Fractions.{held}

-- ---- numbers
-- c and g are what y lies above a half and below 1; H is the half, in their units
module _ (c g : ℕ) where
  abbrev H : ℕ
  H = c + g

  least : (H * H + c * c) * (c + (g + g)) ≤ H * (H * H) + H * (H * H)
  least = simp (add-mul, mul_assoc, mul_comm, mul_left_comm) (omega arith)

  away : (L : ℕ) → (H + c) * (H + c) * L ≡ c * L * (H + H + (H + H)) + g * g * L
  away L = simp (add-mul, mul_assoc, mul_comm, mul_left_comm) (omega arith)

  product : (U L : ℕ) → 0 < H → U * (H * H) + U * (H * H) ≤ (H * H + c * c) * L → U * (c + (g + g)) ≤ L * H
  product U L P h =
      let R = c + (g + g) in
      let a : (U * (H * H) + U * (H * H)) * R ≤ (H * H + c * c) * L * R = mul-le-mul_right R h in
      let b : (H * H + c * c) * R * L ≤ (H * (H * H) + H * (H * H)) * L = mul-le-mul_right L least in
      le_of_mul-le-mul_right
      (le_trans (le_of_eq (left U R)) (le_trans a (le_trans (le_of_eq (mul_right_comm (H * H + c * c) L R)) (le_trans b (le_of_eq (right L))))))
      (both (mul-pos P P))
    where
      left : (U R : ℕ) → U * R * (H * H + H * H) ≡ (U * (H * H) + U * (H * H)) * R
      left U R = shuffle U R (H * H)
        where
          shuffle : (U R Q : ℕ) → U * R * (Q + Q) ≡ (U * Q + U * Q) * R
          shuffle U R Q = simp (add-mul, mul_assoc, mul_comm, mul_left_comm) (omega arith)

      right : (L : ℕ) → (H * (H * H) + H * (H * H)) * L ≡ L * H * (H * H + H * H)
      right L = shuffle L H (H * H)
        where
          shuffle : (L K Q : ℕ) → (K * Q + K * Q) * L ≡ L * K * (Q + Q)
          shuffle L K Q = simp (add-mul, mul_assoc, mul_comm, mul_left_comm) (omega arith)

      both : {q : ℕ} → 0 < q → 0 < q + q
      both h = omega arith

-- the rounded square, in halves of its bound
halve : (c g U L : ℕ) → U * ((c + g) * 2 * ((c + g) * 2)) ≤ (c + g + c) * (c + g + c) * L + g * g * L → U * ((c + g) * (c + g)) + U * ((c + g) * (c + g)) ≤ ((c + g) * (c + g) + c * c) * L
halve c g U L h = simp (add-mul, mul_assoc, mul_comm, mul_left_comm) (omega (arith, simp (add-mul, mul_assoc, mul_comm, mul_left_comm) at h))

no_further : (n u z d : ℕ) → apart n u ≤ apart n z → n ≡ z + d → u ≤ n + d
no_further n u z d h e = omega arith

-- two fractions, of which the product of the numbers is at most that of the units
fractions : (x v y w U L R H : ℕ) → 0 < L → 0 < H → x * L ≡ U * v → y * H ≡ R * w → U * R ≤ L * H → x * y ≤ v * w
fractions x v y w U L R H P Q p q h =
    le_of_mul-le-mul_right
    (le_trans (le_of_eq (crossed x y L H ∙ ap (λ (k : ℕ). k * (y * H)) p ∙ ap (λ (k : ℕ). U * v * k) q ∙ sym (crossed U R v w)))
    (le_trans (mul-le-mul_right (v * w) h) (le_of_eq (mul_comm (L * H) (v * w)))))
    (mul-pos P Q)
  where
    crossed : (x y L H : ℕ) → x * y * (L * H) ≡ x * L * (y * H)
    crossed x y L H = simp (mul_assoc, mul_comm, mul_left_comm)

-- ---- floats
abbrev pub two : Float
two = fin false 1 (pos 1)

abbrev pub three : Float
three = fin false 3 (pos 0)

deep : (f : Format) → prec f ≤ low f
deep binary32 = leb→le _ _ tt
deep binary64 = leb→le _ _ tt

far_from_infinity : (f : Format) → 2 ^ prec f < (2 ^ suc (prec f) - 1) * 2 ^ emax f
far_from_infinity binary32 = ltb→lt _ _ tt
far_from_infinity binary64 = ltb→lt _ _ tt

module _ (f : Format) where
  -- a fraction of few digits is exact
  exact : (n k : ℕ) → n < 2 ^ prec f → k ≤ low f → HasValue (round f false n (2 ^ k)) false n (2 ^ k)
  exact n k s h = held f false (low f - k) k n (omega arith) s

  -- a value, counted in the format's smallest
  counted : (x : Float) (a c : ℕ) → T (fits f x) → HasValue x false a c → units_in f x * c ≡ a * 2 ^ low f
  counted nan a c t v = absurd v
  counted (inf s) a c t v = absurd v
  counted (fin s m e) a c t v =
      eq_of_mul-eq-mul_right (down e) (down_pos e) (units_in f (fin s m e) * c) (a * 2 ^ low f)
      (mul_right_comm (units_in f (fin s m e)) c (down e) ∙ ap (λ (x : ℕ). x * c) (sym (mag_back f s m e t)) ∙ mul_right_comm (m * up e) (2 ^ low f) c
      ∙ ap (λ (x : ℕ). x * 2 ^ low f) v.1 ∙ mul_right_comm a (down e) (2 ^ low f))

  value-finite : (x : Float) (a c : ℕ) → HasValue x false a c → T (finite x)
  value-finite nan a c v = absurd v
  value-finite (inf s) a c v = absurd v
  value-finite (fin s m e) a c v = tt

  -- 2y
  twice-is : (m k : ℕ) → mul f two (fin false m (negsuc k)) ≡ round f false m (2 ^ k)
  unfolding mul
  twice-is m k =
      round_same f false (1 * 2 ^ 1 * (m * 1)) (1 * 2 ^ suc k) m (2 ^ k) (mul-pos (zero-lt-suc 0) (pow_pos (suc k))) (pow_pos k)
      (rw (pow-suc 2 k) (doubled m (2 ^ k)))
    where
      doubled : (m K : ℕ) → 1 * 2 ^ 1 * (m * 1) * K ≡ m * (1 * (K * 2))
      doubled m K = rw (mul-one m, one-mul (K * 2), ← mul_assoc m K 2, mul_assoc (1 * 2 ^ 1) m K) (omega arith)

  -- 3 - t, of t = m / K
  rest-is : (t : Float) (m K r : ℕ) → 0 < K → HasValue t false m K → 3 * K ≡ r + m → sub f three t ≡ round f false r K
  unfolding sub add neg Ieee.sum
  rest-is nan m K r P v h = absurd v
  rest-is (inf s) m K r P v h = absurd v
  rest-is (fin true n d) m K r P v h = absurd (true≢false v.0)
  rest-is (fin false n d) m K r P v h =
      ap (λ (b : Bool). cond b (round f true (n * up d * 1 - 3 * 1 * down d) (1 * down d)) (round f (false && ltb (n * up d * 1) (3 * 1 * down d)) (3 * 1 * down d - n * up d * 1) (1 * down d))) (le-ltb (3 * 1 * down d) (n * up d * 1) small)
      ∙ round_same f false (3 * 1 * down d - n * up d * 1) (1 * down d) r K (mul-pos (zero-lt-suc 0) (down_pos d)) P same
    where
      bound : n * up d ≤ 3 * down d
      bound =
          le_of_mul-le-mul_right
          (le_trans (le_of_eq v.1) (le_trans (mul-le-mul_right (down d) (let g : m ≤ 3 * K = omega arith in g)) (le_of_eq (mul_right_comm 3 K (down d)))))
          P

      small : n * up d * 1 ≤ 3 * 1 * down d
      small = omega (arith, bound, mul-one (n * up d))

      same : (3 * 1 * down d - n * up d * 1) * K ≡ r * (1 * down d)
      same =
          let s = 3 * 1 * down d - n * up d * 1 in
          let e : s + n * up d ≡ 3 * down d = omega (arith, bound, mul-one (n * up d)) in
          let p : s * K + n * up d * K ≡ 3 * down d * K = sym (add-mul s (n * up d) K) ∙ ap (λ (x : ℕ). x * K) e in
          let q : 3 * K * down d ≡ r * down d + m * down d = ap (λ (x : ℕ). x * down d) h ∙ add-mul r m (down d) in
          let w : s * K ≡ r * down d = omega (arith, p, q, v.1, mul_right_comm 3 (down d) K) in
          w ∙ ap (λ (x : ℕ). r * x) (sym (one-mul (down d)))

  under_one : (p r : Float) (U L R K : ℕ) → 0 < L → 0 < K → HasValue p false U L → HasValue r false R K → U * R ≤ L * K → Upto (mul f p r) 1
  unfolding mul
  under_one nan r U L R K P Q v w h = absurd v
  under_one (inf s) r U L R K P Q v w h = absurd v
  under_one (fin s a d) nan U L R K P Q v w h = absurd w
  under_one (fin s a d) (inf t) U L R K P Q v w h = absurd w
  under_one (fin true a d) (fin t b e) U L R K P Q v w h = absurd (true≢false v.0)
  under_one (fin false a d) (fin true b e) U L R K P Q v w h = absurd (true≢false w.0)
  under_one (fin false a d) (fin false b e) U L R K P Q v w h =
      within-upto f (a * up d * (b * up e)) (down d * down e) 1 (mul-pos (down_pos d) (down_pos e)) (pow_pos (prec f))
      (le_trans (fractions (a * up d) (down d) (b * up e) (down e) U L R K P Q v.1 w.1 h) (le_of_eq (sym (one-mul (down d * down e)))))

  -- y = m / 2K, K = 2 ^ k = c + g, m = K + c: above a half, and at most 1
  module _ (m k c g : ℕ) (few : m < 2 ^ prec f) (half : 2 ^ k ≡ c + g) (some : 0 < c) (is : m ≡ 2 ^ k + c) where
    abbrev K : ℕ
    K = 2 ^ k

    abbrev y : Float
    y = fin false m (negsuc k)

    k_few : k ≤ prec f
    k_few = le_of_lt (pow_lt_back k (prec f) (lt_of_le_of_lt (let h : K ≤ m = omega arith in h) few))

    k_low : k ≤ low f
    k_low = omega (arith, k_few, deep f)

    abbrev rest : Float
    rest = sub f three (mul f two y)

    rest-value : HasValue rest false (c + (g + g)) K
    rest-value =
        subst (λ (x : Float). HasValue x false (c + (g + g)) K)
        (sym (rest-is (mul f two y) m K (c + (g + g)) (pow_pos k) (subst (λ (x : Float). HasValue x false m K) (sym (twice-is m k)) (exact m k few k_low)) (omega (arith, half, is))))
        (exact (c + (g + g)) k (rest-few) k_low)
      where
        rest-few : c + (g + g) < 2 ^ prec f
        rest-few =
            let j : suc k ≤ prec f = pow_lt_back k (prec f) (lt_of_le_of_lt (let h : K ≤ m = omega arith in h) few) in
            lt_of_lt_of_le (let h : c + (g + g) < K * 2 = omega (arith, half, some) in h) (le_trans (le_of_eq (sym (pow-suc 2 k))) (pow_mono j))

    abbrev C : ℕ
    C = 2 ^ suc k * 2 ^ suc k

    abbrev square : Float
    square = round f false (m * m) C

    abbrev z : Float
    z = round f false c K

    z_value : HasValue z false c K
    z_value = exact c k (lt_of_le_of_lt (let h : c ≤ m = omega arith in h) few) k_low

    nearest : Nearest f false (m * m) C square
    nearest = (round-nearest f false (m * m) C (mul-pos (pow_pos (suc k)) (pow_pos (suc k)))).under below
      where
        at_most : m * m ≤ C
        at_most = let h : m ≤ 2 ^ suc k = le_trans (let h : m ≤ K * 2 = omega (arith, half, is) in h) (le_of_eq (sym (pow-suc 2 k))) in mul-le-mul h h

        below : 2 ^ prec f * (m * m) < (2 ^ suc (prec f) - 1) * 2 ^ emax f * C
        below = lt_of_le_of_lt (mul-le-mul_left (2 ^ prec f) at_most) (mul-lt-mul_of_pos_right (far_from_infinity f) (mul-pos (pow_pos (suc k)) (pow_pos (suc k))))

    abbrev U : ℕ
    U = units_in f square

    abbrev L : ℕ
    L = 2 ^ low f

    close : U * C ≤ m * m * L + g * g * L
    close =
        no_further (m * m * L) (U * C) (units_in f z * C) (g * g * L) (nearest.near z (round-fits f false c K) (value-finite z c K z_value))
        (rw is (ap (λ (x : ℕ). (x + c) * (x + c) * L) half ∙ away c g L ∙ ap (λ (x : ℕ). x + g * g * L) (sym counted_z)))
      where
        counted_z : units_in f z * C ≡ c * L * (c + g + (c + g) + (c + g + (c + g)))
        counted_z =
            let q : units_in f z * K ≡ c * L = counted z c K (round-fits f false c K) z_value in
            rw (pow-suc 2 k) (spread (units_in f z) K) ∙ ap (λ (x : ℕ). x * (K + K + (K + K))) q ∙ ap (λ (x : ℕ). c * L * (x + x + (x + x))) half
          where
            spread : (Z K : ℕ) → Z * (K * 2 * (K * 2)) ≡ Z * K * (K + K + (K + K))
            spread Z K = simp (add-mul, mul_assoc, mul_comm, mul_left_comm) (omega arith)

    product_small : U * (c + (g + g)) ≤ L * K
    product_small =
        le_trans
        (product c g U L (subst (λ (x : ℕ). 0 < x) half (pow_pos k))
        (halve c g U L (le_trans (le_of_eq (ap (λ (x : ℕ). U * x) (sym sides))) (le_trans close (le_of_eq (ap (λ (x : ℕ). x * x * L + g * g * L) (is ∙ ap (λ (x : ℕ). x + c) half)))))))
        (le_of_eq (ap (λ (x : ℕ). L * x) (sym half)))
      where
        sides : C ≡ (c + g) * 2 * ((c + g) * 2)
        sides = ap (λ (x : ℕ). x * x) (pow-suc 2 k ∙ ap (λ (x : ℕ). x * 2) half)

    square-is : mul f y y ≡ square
    unfolding mul
    square-is = ap (λ (x : ℕ). round f false (x * x) C) (mul-one m)

    pub above_half : T (le (mul f (mul f y y) rest) i)
    above_half =
        subst (λ (x : Float). T (le (mul f x rest) i)) (sym square-is)
        (mag_le (mul f square rest) 1 (pos 0) 1 (zero-lt-suc 0) (omega arith) (upto_mag (mul f square rest) 1 (under_one square rest U L (c + (g + g)) K (pow_pos (low f)) (pow_pos k) nearest.value rest-value product_small)))
