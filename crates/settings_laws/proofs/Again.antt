-- Mending what is mended. Every number but the phase stays as it is; the phase does too, unless it is 1.0.
-- A tiny negative phase is mended to 1.0 (01), and 1.0 mended again is 0.0: there mending twice is not mending once.
use Prim.Native.Nat.{ℕ}
use mathlib.Core.Path.{◌≡◌, refl, sym, ap, ◌∙◌}
use mathlib.Core.Bool.{Bool, true, false, cond, ◌||◌, true≢false}
use lib.IntN.{negsuc}
use lib.Dec.{T, ltb}
use lib.Ieee.{Float, fin, binary32, of_bits, rem, add, sum, round, lt, le, eq, fits}
use lib.Ieee.Fits.{cond-fits}
use lib.Ieee.Scale.{finite}
use lib.Ieee.Bits.{is_true, of_bits-fits}
use Rattle.sequences.specs.Pick.{pick, by-case}
use Rattle.floats.specs.Names.{f32, zero32, one}
use Rattle.floats.specs.Choose.{clamp, abs}
use Rattle.floats.specs.Remainder.{rem_euclid}
use Rattle.floats_laws.proofs.Rules.{between-finite}
use Rattle.floats_laws.proofs.Rising.{nought}
use Rattle.floats_laws.proofs.Euclid.{euclid_within}
use Rattle.floats_laws.proofs.Choosing.{clamp-fits}
use Rattle.floats_laws.proofs.Again.{clamp_again, clamp-finite, euclid_fits, euclid_again}
use Rattle.settings.specs.declared.Config.{Config}
use Rattle.settings_laws.specs.Phase.{with_phase}
use Rattle.settings.specs.Mending.{finite_or, held_to, attack_of, release_ms_of, partials_held, rolloff_of, rate_held, size_held, phase_of, mended_of}

-- ---- `finite`
pub finite_again : (x d : Float) → finite_or (finite_or x d) d ≡ finite_or x d
unfolding finite_or
finite_again x d = by-case (finite x) (λ p. rw (p, p) refl) (λ p. rw p (same (finite d)))
  where
    same : (b : Bool) → cond b d d ≡ d
    same true = refl
    same false = refl

pub finite_or_lem : (x d : Float) → T (finite d) → T (finite (finite_or x d))
unfolding finite_or
finite_or_lem x d h = by-case (finite x) (λ p. rw (p, p) tt) (λ p. rw p h)

finite_stays : (x d : Float) → T (finite x) → finite_or x d ≡ x
unfolding finite_or
finite_stays x d h = rw (is_true (finite x) h) refl

pub or_fits : (x d : Float) → T (fits binary32 x) → T (fits binary32 d) → T (fits binary32 (finite_or x d))
unfolding finite_or
or_fits x d p q = cond-fits binary32 (finite x) x d p q

-- ---- a number held to its range
pub held_fits : (x d a b : Float) → T (fits binary32 x) → T (fits binary32 d) → T (fits binary32 a) → T (fits binary32 b) → T (fits binary32 (held_to x d a b))
unfolding held_to
held_fits x d a b p q r s = clamp-fits binary32 (finite_or x d) a b (or_fits x d p q) r s

module _ (x d a b : Float) (D : T (finite d)) (A : T (finite a)) (B : T (finite b)) where
  pub held_again : lt a a ≡ false → lt b a ≡ false → lt b b ≡ false → held_to (held_to x d a b) d a b ≡ held_to x d a b
  unfolding held_to
  held_again u v w =
      let y = clamp (finite_or x d) a b in
      ap (λ (z : Float). clamp z a b) (finite_stays y d (clamp-finite (finite_or x d) a b (finite_or_lem x d D) A B))
      ∙ clamp_again (finite_or x d) a b u v w

attack_again : (x : Float) → attack_of (attack_of x) ≡ attack_of x
unfolding of_bits lt
attack_again x = held_again x zero32 zero32 (f32 0x459c4000) tt tt tt refl refl refl

release_again : (x : Float) → release_ms_of (release_ms_of x) ≡ release_ms_of x
unfolding of_bits lt
release_again x = held_again x (f32 0x428c0000) zero32 (f32 0x459c4000) tt tt tt refl refl refl

rolloff_again : (x : Float) → rolloff_of (rolloff_of x) ≡ rolloff_of x
unfolding of_bits lt
rolloff_again x = held_again x (f32 0x40c00000) zero32 (f32 0x41c00000) tt tt tt refl refl refl

rate_again : (x : Float) → rate_held (rate_held x) ≡ rate_held x
unfolding of_bits lt
rate_again x = held_again x one (f32 0x3c23d70a) (f32 0x42000000) tt tt tt refl refl refl

size_again : (x : Float) → size_held (size_held x) ≡ size_held x
unfolding of_bits lt
size_again x = held_again x one (f32 0x3e000000) (f32 0x41000000) tt tt tt refl refl refl

partials_again : (n : ℕ) → partials_held (partials_held n) ≡ partials_held n
unfolding partials_held pick
partials_again n = by-case (ltb n 1) (λ p. rw p refl) (λ p. by-case (ltb 24 n) (λ q. rw (p, q) refl) (λ q. rw (p, q, p, q) refl))

-- ---- the phase
one-fits : T (fits binary32 one)
one-fits = of_bits-fits binary32 0x3f800000

-- from 0.0 to 1.0, both ends included
pub phase-within : (x : Float) → T (le nought (phase_of x)) × T (le (phase_of x) one)
unfolding phase_of of_bits lt
phase-within x = euclid_within binary32 (finite_or x zero32) one one-fits (finite_or_lem x zero32 tt) tt tt

pub phase-finite : (x : Float) → T (finite (phase_of x))
unfolding of_bits
phase-finite x = between-finite binary32 nought (phase_of x) one tt tt (phase-within x).0 (phase-within x).1

pub phase_fits : (x : Float) → T (fits binary32 x) → T (fits binary32 (phase_of x))
unfolding phase_of
phase_fits x p = euclid_fits binary32 (finite_or x zero32) one (or_fits x zero32 p (of_bits-fits binary32 0))

wrapped : (y : Float) → T (fits binary32 y) → T (finite y) → T (le nought y) → T (lt y one) → phase_of y ≡ y
unfolding phase_of
wrapped y q f h g = ap (λ (z : Float). rem_euclid binary32 z one) (finite_stays y zero32 f) ∙ euclid_again binary32 y one q h g

below_one : (y : Float) → T (le y one) → eq y one ≡ false → T (lt y one)
unfolding le
below_one y h n = first (lt y one) (eq y one) n h
  where
    first : (a b : Bool) → b ≡ false → T (a || b) → T a
    first true b e t = tt
    first false b e t = absurd (true≢false (sym (is_true b t) ∙ e))

pub phase_again : (x : Float) → T (fits binary32 x) → eq (phase_of x) one ≡ false → phase_of (phase_of x) ≡ phase_of x
phase_again x p n = wrapped (phase_of x) (phase_fits x p) (phase-finite x) (phase-within x).0 (below_one (phase_of x) (phase-within x).1 n)

-- the exception: -2^-30 gives 1.0, and 1.0 gives 0.0
pub tiny_negative_phase : phase_of (fin true 1 (negsuc 29)) ≡ one
unfolding phase_of finite_or rem_euclid rem add sum round of_bits lt abs
tiny_negative_phase = refl

pub whole-phase : phase_of one ≡ zero32
unfolding phase_of finite_or rem_euclid rem add sum round of_bits lt abs
whole-phase = refl

-- ---- the whole
-- mending again changes the phase at most
pub mended_but_phase : (c : Config) → mended_of (mended_of c) ≡ with_phase (phase_of (mended_of c).phase) (mended_of c)
unfolding mended_of
mended_but_phase c =
    rw
    (attack_again c.attack_ms, release_again c.release_ms, partials_again c.partials, rolloff_again c.partial_rolloff_db, rate_again c.rate_hz, size_again c.size_octaves)
    refl

-- and changes nothing where the phase is not 1.0
pub mended_again : (c : Config) → T (fits binary32 c.phase) → eq (mended_of c).phase one ≡ false → mended_of (mended_of c) ≡ mended_of c
unfolding mended_of
mended_again c p n = mended_but_phase c ∙ ap (λ (x : Float). with_phase x (mended_of c)) (phase_again c.phase p n)
