-- A stream of a run: prepared at an index of at most 2^35 + 2. Preparing, moving on a start that has come, and aligning to a reference of at most 2^34 in size each give such a stream.
use Prim.Native.Nat.{ℕ, ◌+◌, ◌/◌, ◌*◌, ◌^◌, ◌≤◌, ◌<◌}
use native.Mathlib.Nat.{le_trans, mod-le}
use native.Mathlib.Omega.{arith}
use mathlib.Core.Path.{◌≡◌, refl, sym, subst}
use mathlib.Core.Bool.{Bool, false}
use lib.Dec.{T, ltb}
use lib.Ieee.{Float, binary64, lt, le, fits}
use lib.Ieee.Fits.{add-fits}
use lib.Ieee.Scale.{finite}
use Rattle.floats.specs.Word.{grown}
use Rattle.sequences.specs.Pick.{either}
use Rattle.sequences.specs.Every.{Every}
use Rattle.floats_laws.proofs.Rules.{finite_number, not_lt→le}
use Rattle.floats_laws.proofs.Mag.{Mag, mag_finite}
use Rattle.draws.specs.Draws.{key_of}
use Rattle.timing.specs.declared.SprinkleStream.{SprinkleStream}
use Rattle.timing.specs.Starts.{next_of}
use Rattle.timing.specs.Streams.{prepared_stream, new_of, group_of, aligned_of, aligned_all, skipped_of, larger, moved_of}
use Rattle.timing_laws.proofs.Starts.{next_mag}
use Rattle.timing_laws.proofs.Moves.{aligned-index}
use Rattle.timing_laws.proofs.Due.{group_most, due-index}

abbrev pub index_most : ℕ
index_most = 2 ^ 35 + 2

pub record Streamed (s : SprinkleStream) : Type 0 where
  pub most : s.index ≤ index_most
  pub key : ℕ
  pub sync : Bool
  pub is : s.next ≡ next_of s.index key sync

next_fits : (index key : ℕ) (sync : Bool) → T (fits binary64 (next_of index key sync))
unfolding next_of
next_fits index key sync = add-fits binary64 _ _

module _ (s : SprinkleStream) (w : Streamed s) where
  under : s.index < 2 ^ 64
  under = let h = w.most in omega (arith, h)

  pub streamed_fits : T (fits binary64 s.next)
  streamed_fits = subst (λ (x : Float). T (fits binary64 x)) (sym w.is) (next_fits s.index w.key w.sync)

  pub streamed_finite : T (finite s.next)
  streamed_finite = subst (λ (x : Float). T (finite x)) (sym w.is) (mag_finite (next_of s.index w.key w.sync) (2 ^ 69) (next_mag s.index w.key w.sync under))

  -- a start that has come
  pub streamed_due : (reference : Float) → T (fits binary64 reference) → Mag reference (2 ^ 34) → lt reference s.next ≡ false → s.index ≤ 2 ^ 35 + 1
  streamed_due reference r m d =
      due-index s.index w.key w.sync under reference r m
      (subst (λ (x : Float). T (le x reference)) w.is
      (not_lt→le binary64 reference s.next r streamed_fits (finite_number binary64 reference (mag_finite reference (2 ^ 34) m)) (finite_number binary64 s.next streamed_finite) d))

pub prepared_streamed : (i lane : ℕ) (sync : Bool) → i ≤ index_most → Streamed (prepared_stream i lane sync)
unfolding prepared_stream
prepared_streamed i lane sync h = record { most = h; key = key_of lane (i / 2 * 2); sync = sync; is = refl }

pub new_streamed : (lane : ℕ) (sync : Bool) → Streamed (new_of lane sync)
unfolding new_of
new_streamed lane sync = prepared_streamed 0 lane sync (omega arith)

pub moved_streamed : (s : SprinkleStream) → Streamed s → (lane : ℕ) (reference : Float) (sync : Bool) → T (fits binary64 reference) → Mag reference (2 ^ 34) → lt reference s.next ≡ false
    → Streamed (moved_of s.index lane reference sync)
unfolding moved_of larger
moved_streamed s w lane reference sync r m d =
    let h = streamed_due s w reference r m d in
    let g = group_most reference m in
    prepared_streamed _ lane sync (either (λ (n : ℕ). n ≤ index_most) (ltb (grown s.index) (group_of reference)) (group_of reference) (grown s.index) (omega (arith, g)) (le_trans (mod-le _ (2 ^ 64)) (omega (arith, h))))

-- ---- aligned
skipped-is : (s : SprinkleStream) (lane : ℕ) (reference : Float) (sync : Bool) → ((key : ℕ) × (b : Bool) × (s.next ≡ next_of s.index key b))
    → ((key : ℕ) × (b : Bool) × ((skipped_of s lane reference sync).next ≡ next_of (skipped_of s lane reference sync).index key b))
unfolding skipped_of prepared_stream
skipped-is s lane reference sync h = either (λ (t : SprinkleStream). (key : ℕ) × (b : Bool) × (t.next ≡ next_of t.index key b)) _ _ _ (key_of lane (grown s.index / 2 * 2), sync, refl) h

prepared-is : (i lane : ℕ) (sync : Bool) → ((key : ℕ) × (b : Bool) × ((prepared_stream i lane sync).next ≡ next_of (prepared_stream i lane sync).index key b))
unfolding prepared_stream
prepared-is i lane sync = (key_of lane (i / 2 * 2), sync, refl)

pub aligned_streamed : (lane : ℕ) (reference : Float) (sync : Bool) → Mag reference (2 ^ 34) → Streamed (aligned_of lane reference sync)
unfolding aligned_of
aligned_streamed lane reference sync m =
    let g = group_most reference m in
    let i = aligned-index lane reference sync (omega (arith, g)) in
    let most : group_of reference + 2 ≤ index_most = omega (arith, g) in
    let h = skipped-is _ lane reference sync (skipped-is _ lane reference sync (prepared-is (group_of reference) lane sync)) in
    record { most = le_trans i.1 most; key = h.0; sync = h.1; is = h.2 }

pub all-aligned : (reference : Float) (sync : Bool) → Mag reference (2 ^ 34) → Every Streamed (aligned_all reference sync)
unfolding aligned_all
all-aligned reference sync m = (aligned_streamed 0 reference sync m, (aligned_streamed 1 reference sync m, (aligned_streamed 2 reference sync m, tt)))
