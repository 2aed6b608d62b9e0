-- Bounds of a number that is held to a range or taken against a lower limit.
use Prim.Native.Nat.{ℕ, ◌+◌, ◌*◌, ◌≤◌, ◌<◌, zero-le}
use native.Mathlib.Nat.{le_trans, le_of_eq, mul_right_comm, zero-mul, mul-pos, mul-le-mul_right, le_of_mul-le-mul_right}
use native.Mathlib.Omega.{arith}
use mathlib.Core.Path.{◌≡◌, sym}
use mathlib.Core.Bool.{true, false, true≢false}
use lib.Dec.{ltb}
use lib.Ieee.{Float, nan, inf, fin, up, down, lt, is_nan}
use lib.Ieee.Fits.{down_pos}
use borrow.Author.Tests.{ltb-false}
use Rattle.floats.specs.Choose.{max, clamp}
use Rattle.sequences.specs.Pick.{by-case}
use Rattle.floats_laws.proofs.Mag.{Mag, Upto, Least, least_pos, no_less}

-- ---- numbers that a test left
nothing : (x q y v k : ℕ) → 0 < q → x * q + y ≤ 0 → x ≤ k * v
nothing x q y v k Q h =
    let w : x * q ≤ 0 * q = le_trans (omega arith) (le_of_eq (sym (zero-mul q))) in
    le_trans (le_of_mul-le-mul_right w Q) zero-le

no_more : (x q y v k : ℕ) → 0 < q → y ≤ k * q → x * q ≤ y * v → x ≤ k * v
no_more x q y v k Q h g = le_of_mul-le-mul_right (le_trans g (le_trans (mul-le-mul_right v h) (le_of_eq (mul_right_comm k q v)))) Q

above : (a b : ℕ) → 0 < b → ltb 0 (a + b) ≡ false → ⊥
above a b h e = let g : a + b ≤ 0 = ltb-false 0 (a + b) e in omega arith

-- ---- held between two numbers that have no sign
pub clamp_mag : (x lo hi : Float) (k : ℕ) → is_nan x ≡ false → Upto lo k → Upto hi k → Mag (clamp x lo hi) k
unfolding clamp lt is_nan
clamp_mag x nan hi k q L H = absurd L
clamp_mag x (inf s) hi k q L H = absurd L
clamp_mag x (fin true n d) hi k q L H = absurd L
clamp_mag x (fin false n d) nan k q L H = absurd H
clamp_mag x (fin false n d) (inf s) k q L H = absurd H
clamp_mag x (fin false n d) (fin true p b) k q L H = absurd H
clamp_mag nan (fin false n d) (fin false p b) k q L H = absurd (true≢false q)
clamp_mag (inf true) (fin false n d) (fin false p b) k q L H = by-case (ltb (p * up b * down d) (n * up d * down b)) (λ y. rw y H) (λ y. rw y L)
clamp_mag (inf false) (fin false n d) (fin false p b) k q L H = H
clamp_mag (fin true m e) (fin false n d) (fin false p b) k q L H =
    by-case (ltb 0 (m * up e * down d + n * up d * down e)) (λ z. rw z (by-case (ltb (p * up b * down d) (n * up d * down b)) (λ y. rw y H) (λ y. rw y L)))
    (λ z. rw z (nothing (m * up e) (down d) (n * up d * down e) (down e) k (down_pos d) (ltb-false 0 (m * up e * down d + n * up d * down e) z)))
clamp_mag (fin false m e) (fin false n d) (fin false p b) k q L H =
    by-case (ltb (m * up e * down d) (n * up d * down e)) (λ z. rw z (by-case (ltb (p * up b * down d) (n * up d * down b)) (λ y. rw y H) (λ y. rw y L)))
    (λ z.
    by-case (ltb (p * up b * down e) (m * up e * down b)) (λ y. rw (z, y) H)
    (λ y. rw (z, y) (no_more (m * up e) (down b) (p * up b) (down e) k (down_pos b) H (ltb-false _ _ y))))

pub clamp-least : (x lo hi : Float) (j : ℕ) → is_nan x ≡ false → Least lo j → Least hi j → Least (clamp x lo hi) j
unfolding clamp lt is_nan
clamp-least x nan hi j q L H = absurd L
clamp-least x (inf s) hi j q L H = absurd L
clamp-least x (fin true n d) hi j q L H = absurd L
clamp-least x (fin false n d) nan j q L H = absurd H
clamp-least x (fin false n d) (inf s) j q L H = absurd H
clamp-least x (fin false n d) (fin true p b) j q L H = absurd H
clamp-least nan (fin false n d) (fin false p b) j q L H = absurd (true≢false q)
clamp-least (inf true) (fin false n d) (fin false p b) j q L H = by-case (ltb (p * up b * down d) (n * up d * down b)) (λ y. rw y H) (λ y. rw y L)
clamp-least (inf false) (fin false n d) (fin false p b) j q L H = H
clamp-least (fin true m e) (fin false n d) (fin false p b) j q L H =
    by-case (ltb 0 (m * up e * down d + n * up d * down e)) (λ z. rw z (by-case (ltb (p * up b * down d) (n * up d * down b)) (λ y. rw y H) (λ y. rw y L)))
    (λ z. absurd (above (m * up e * down d) (n * up d * down e) (mul-pos (least_pos j (n * up d) (down d) (down_pos d) L) (down_pos e)) z))
clamp-least (fin false m e) (fin false n d) (fin false p b) j q L H =
    by-case (ltb (m * up e * down d) (n * up d * down e)) (λ z. rw z (by-case (ltb (p * up b * down d) (n * up d * down b)) (λ y. rw y H) (λ y. rw y L)))
    (λ z.
    by-case (ltb (p * up b * down e) (m * up e * down b)) (λ y. rw (z, y) H)
    (λ y. rw (z, y) (no_less (m * up e) (down e) (n * up d) (down d) j (down_pos d) L (ltb-false _ _ z))))

-- ---- the larger of x and a number that is at least 1 / j
pub max_least : (x y : Float) (j k : ℕ) → Mag x k → Least y j → Least (max x y) j
unfolding max lt is_nan
max_least nan y j k M L = absurd M
max_least (inf s) y j k M L = absurd M
max_least (fin s m e) nan j k M L = absurd L
max_least (fin s m e) (inf t) j k M L = absurd L
max_least (fin s m e) (fin true n d) j k M L = absurd L
max_least (fin true m e) (fin false n d) j k M L =
    by-case (ltb 0 (m * up e * down d + n * up d * down e)) (λ z. rw z L) (λ z. absurd (above (m * up e * down d) (n * up d * down e) (mul-pos (least_pos j (n * up d) (down d) (down_pos d) L) (down_pos e)) z))
max_least (fin false m e) (fin false n d) j k M L =
    by-case (ltb (m * up e * down d) (n * up d * down e)) (λ z. rw z L) (λ z. rw z (no_less (m * up e) (down e) (n * up d) (down d) j (down_pos d) L (ltb-false _ _ z)))
