-- The weights of the harmonics do not tell two rolloffs apart that `!=` does not: such two are the same float, or the two zeros, whose weights are all 1.
use Prim.Native.Nat.{ℕ, ◌*◌, ◌<◌}
use native.Mathlib.Nat.{zero-mul, zero-lt-suc, mul-pos}
use mathlib.Core.Path.{◌≡◌, sym, ap, ◌∙◌, subst}
use mathlib.Core.Logic.{inl, inr}
use mathlib.Core.Bool.{Bool, true, false, not}
use mathlib.Core.List.{List}
use lib.IntN.{pos}
use lib.Dec.{T}
use lib.ListN.{get_or}
use lib.Seq.{ext_get_or}
use lib.Ieee.{Float, nan, inf, fin, binary32, up, down, unlike, eq, fits, mul, div, neg, round, of_bits, odd, units, size, span, climb}
use lib.Ieee.Fits.{down_pos}
use lib.Ieee.Scale.{finite, round_same}
use Rattle.floats.proofs.Values.{own-round}
use Rattle.floats_laws.proofs.Level.{Zero, level}
use Rattle.sequences.specs.Table.{table, table_at, length_table}
use Rattle.floats.specs.Names.{one, mul32}
use Rattle.floats_laws.proofs.Mag.{mag_finite}
use Rattle.powers.specs.Power.{db_to_gain}
use Rattle.elementary_laws.proofs.PowerRises.{pow10_like}
use Rattle.state.specs.Make.{weights_of}
use Rattle.frame_laws.proofs.Shapes.{Logs}

-- ---- no rolloff
zero_times : (s : Bool) (x : Float) → T (finite x) → Zero (mul32 (fin s 0 (pos 0)) x)
unfolding mul fits
zero_times s nan h = absurd h
zero_times s (inf t) h = absurd h
zero_times s (fin t n d) h = (
  unlike s t,
  round_same binary32 (unlike s t) (0 * 1 * (n * up d)) (1 * down d) (0 * 1) 1 (mul-pos (zero-lt-suc 0) (down_pos d)) (zero-lt-suc 0) (ap (λ (k : ℕ). k * 1) (zero-mul (n * up d)) ∙ sym (zero-mul (1 * down d)))
      ∙ own-round binary32 (unlike s t) 0 (pos 0) tt,
)

-- -0.0 / 20.0 and 0.0 / 20.0 are zeros too
no_gain : (s : Bool) → db_to_gain (fin s 0 (pos 0)) ≡ one
unfolding db_to_gain div round units odd size span climb of_bits
no_gain true = pow10_like.at_minus_zero
no_gain false = pow10_like.at_zero

unity : (s : Bool) (x : Float) → T (finite x) → db_to_gain (mul32 (neg (fin s 0 (pos 0))) x) ≡ one
unfolding neg
unity s x h = let z = zero_times (not s) x h in ap db_to_gain z.1 ∙ no_gain z.0

module _ (logs : List Float) (l : Logs logs) where
  unweighed : (s t : Bool) → weights_of logs (fin s 0 (pos 0)) ≡ weights_of logs (fin t 0 (pos 0))
  unfolding weights_of
  unweighed s t =
      let g : Float → ℕ → Float = λ x i. db_to_gain (mul32 (neg x) (get_or logs i nan)) in
      let a = g (fin s 0 (pos 0)) in
      let b = g (fin t 0 (pos 0)) in
      ext_get_or nan (table 24 a) (table 24 b) (length_table 24 a ∙ sym (length_table 24 b))
      (λ i h.
      let k : i < 24 = subst (λ (n : ℕ). i < n) (length_table 24 a) h in
      let u = mag_finite (get_or logs i nan) 149 (l i k) in
      table_at 24 a i nan k ∙ unity s (get_or logs i nan) u ∙ sym (unity t (get_or logs i nan) u) ∙ sym (table_at 24 b i nan k))

  -- THE CLAIM
  pub weights-level : (x y : Float) → T (fits binary32 x) → T (fits binary32 y) → eq x y ≡ true → weights_of logs x ≡ weights_of logs y
  weights-level x y p q h = elim (level binary32 x y p q h) [
    | inl e ↦ ap (weights_of logs) e
    | inr z ↦ ap (weights_of logs) z.0.1 ∙ unweighed z.0.0 z.1.0 ∙ ap (weights_of logs) (sym z.1.1)
  ]
