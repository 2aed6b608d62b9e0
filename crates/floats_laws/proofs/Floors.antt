-- The whole numbers next to a float of at most 1000 in size, for the ceiling 999, and where it lies beside them (Eighths.antt).
use Prim.Native.Nat.{ℕ, ◌+◌, ◌-◌, ◌*◌, ◌≤◌, ◌<◌}
use native.Mathlib.Nat.{le_of_mul-le-mul_right, add-mul}
use native.Mathlib.Omega.{arith}
use mathlib.Core.Path.{◌≡◌, refl, subst}
use mathlib.Core.Bool.{true, false}
use lib.Dec.{T}
use lib.Ieee.{Float, nan, inf, fin, binary32, up, down, fits}
use lib.Ieee.Exact.{HasValue}
use lib.Ieee.Fits.{down_pos}
use Rattle.floats.specs.Whole.{floor, ceil}
use Rattle.floats.proofs.Floored.{up_one}
use Rattle.floats_laws.proofs.Integral.{lift_most, floor-is, ceil-is-up}
use Rattle.floats_laws.proofs.Mag.{Mag}
use Rattle.floats_laws.proofs.Mono.{times}
use Rattle.floats_laws.proofs.Wholes.{At}
use Rattle.floats_laws.proofs.Eighths.{From, To}

-- ---- sizes
cut_small : (a d n b : ℕ) → 0 < d → a ≤ b * d → n * d ≤ a → n ≤ b
cut_small a d n b D h g = le_of_mul-le-mul_right (omega arith) D

positive-at : (y : Float) (n : ℕ) → HasValue y false n 1 → At y (1000 + n)
positive-at y n v = record { sign = false; n = n; is = v; place = refl }

negative_at : (y : Float) (n : ℕ) → n ≤ 1000 → HasValue y true n 1 → At y (1000 - n)
negative_at y n l v = record { sign = true; n = n; is = v; place = omega arith }

same : {y : Float} {i k : ℕ} → i ≡ k → At y i → At y k
same {y} e p = subst (At y) e p

-- ---- y, the floor of x, is k - 1000
pub record Down (b : ℕ) (x y : Float) : Type 0 where
  pub k : ℕ
  pub at : At y k
  pub from : From x k 0
  pub short : From x k 8 → ⊥
  pub least : 1000 ≤ k + b
  pub most : k ≤ 1000 + b

pub floor_down : (x : Float) (b : ℕ) → T (fits binary32 x) → b ≤ 1000 → Mag x b → Down b x (floor binary32 x)
floor_down nan b f u h = absurd h
floor_down (inf s) b f u h = absurd h
floor_down (fin false m e) b f u h =
    let w = floor-is binary32 (fin false m e) f in
    let l = cut_small (m * up e) (down e) w.n b (down_pos e) h w.next.0 in
    record {
      k = 1000 + w.n;
      at = positive-at _ w.n w.exact;
      from = omega (arith, add-mul 1000 w.n (down e), w.next.0);
      short = λ g. omega (arith, add-mul 1000 w.n (down e), up_one w.n (down e), w.next.1);
      least = omega arith;
      most = omega arith;
    }
floor_down (fin true m e) b f u h =
    let w = floor-is binary32 (fin true m e) f in
    let l = lift_most (m * up e) (down e) w.n b w.next.1 h in
    record {
      k = 1000 - w.n;
      at = negative_at _ w.n (omega arith) w.exact;
      from = omega (arith, times 1000 w.n (down e) (omega arith), w.next.0);
      short = λ g. omega (arith, times 1000 w.n (down e) (omega arith), w.next.1);
      least = omega arith;
      most = omega arith;
    }

-- ---- y, the ceiling of x, is j - 999
pub record Up (b : ℕ) (x y : Float) : Type 0 where
  pub j : ℕ
  pub at : At y (j + 1)
  pub to : To x j 8
  pub past : To x j 0 → ⊥
  pub least : 1000 ≤ j + 1 + b
  pub most : j + 1 ≤ 1000 + b

pub ceil-up : (x : Float) (b : ℕ) → T (fits binary32 x) → b ≤ 999 → Mag x b → Up b x (ceil binary32 x)
ceil-up nan b f u h = absurd h
ceil-up (inf s) b f u h = absurd h
ceil-up (fin false m e) b f u h =
    let w = ceil-is-up binary32 (fin false m e) f in
    let l = lift_most (m * up e) (down e) w.n b w.next.1 h in
    record {
      j = 999 + w.n;
      at = same (omega arith) (positive-at _ w.n w.exact);
      to = omega (arith, add-mul 999 w.n (down e), w.next.0);
      past = λ g. omega (arith, add-mul 999 w.n (down e), w.next.1);
      least = omega arith;
      most = omega arith;
    }
ceil-up (fin true m e) b f u h =
    let w = ceil-is-up binary32 (fin true m e) f in
    let l = cut_small (m * up e) (down e) w.n b (down_pos e) h w.next.0 in
    record {
      j = 999 - w.n;
      at = same (omega arith) (negative_at _ w.n (omega arith) w.exact);
      to = omega (arith, times 999 w.n (down e) (omega arith), w.next.0);
      past = λ g. omega (arith, times 999 w.n (down e) (omega arith), up_one w.n (down e), w.next.1);
      least = omega arith;
      most = omega arith;
    }
