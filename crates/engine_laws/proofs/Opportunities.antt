-- The Cloud's opportunity stays at most 2^35: a sample moves it on only where it has come, and a seek sets it beside the phase.
use Prim.Native.Nat.{ℕ, ◌^◌, ◌≤◌}
use native.Mathlib.Nat.{le_trans, mod-le}
use native.Mathlib.Omega.{arith}
use mathlib.Core.Path.{◌≡◌, sym, subst}
use mathlib.Core.Bool.{true}
use lib.Dec.{T, ltb, lit≤}
use lib.Ieee.{Float, binary64, of_bits, to_unsigned, le}
use Rattle.sequences.specs.Pick.{either}
use Rattle.floats.specs.Names.{f64}
use Rattle.floats.specs.Whole.{floor}
use Rattle.floats.specs.Choose.{max}
use Rattle.floats_laws.proofs.Mag.{Mag}
use Rattle.floats_laws.proofs.Bounds.{max_mag}
use Rattle.floats_laws.proofs.Powers.{floor_mag}
use Rattle.timing.specs.Streams.{larger, reference_of}
use Rattle.timing_laws.proofs.Due.{unsigned_most, due-opportunity}
use Rattle.floats.specs.Word.{grown}
use Rattle.engine_samples.specs.Sample.{opportunity_after}
use Rattle.engine_changes.specs.Changes.{sought_opportunity}
use Rattle.engine_laws.proofs.Clocks.{Reach}

abbrev pub opportunity_most : ℕ
opportunity_most = 2 ^ 35

pub opportunity-after : (index : ℕ) (reference : Float) → index ≤ opportunity_most → Reach reference → le (reference_of index) reference ≡ true → opportunity_after index reference ≤ opportunity_most
unfolding opportunity_after larger of_bits
opportunity-after index reference i r d =
    let h = due-opportunity index (omega (arith, i)) reference r.0 r.1 (subst T (sym d) tt) in
    let whole = max (floor binary64 reference) (f64 0) in
    let n = unsigned_most 64 whole (2 ^ 34) (max_mag (floor binary64 reference) (f64 0) (2 ^ 34) (floor_mag binary64 reference (2 ^ 34) (lit≤ tt) r.1) (lit≤ tt)) in
    either (λ (k : ℕ). k ≤ opportunity_most) (ltb (grown index) (to_unsigned 64 whole)) (to_unsigned 64 whole) (grown index) (omega (arith, n)) (le_trans (mod-le _ (2 ^ 64)) (omega (arith, h)))

pub opportunity_sought : (phase reference : Float) → Mag phase 1000000000 → sought_opportunity phase reference ≤ opportunity_most
unfolding sought_opportunity
opportunity_sought phase reference m =
    let n = unsigned_most 64 (floor binary64 phase) 1000000000 (floor_mag binary64 phase 1000000000 (lit≤ tt) m) in
    either (λ (k : ℕ). k ≤ opportunity_most) _ _ _ (le_trans (mod-le _ (2 ^ 64)) (omega (arith, n))) (omega (arith, n))
