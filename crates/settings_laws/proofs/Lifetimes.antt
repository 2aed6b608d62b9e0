-- The envelope of every mended config, for a lawful hop and a lawful rate: the lifetime is finite, above 0 and at most 10 seconds, and the attack lies strictly between 0 and 1.
use Prim.Native.Nat.{ℕ, ◌%◌, ◌≤◌}
use lib.IntN.{pos}
use lib.Dec.{T, eqb, lit≤, lit<}
use lib.Ieee.{Float, binary32, of_bits, lt, le, eq, fits, is_nan}
use lib.Ieee.Scale.{finite}
use lib.Ieee.Bits.{is_false, of_bits-fits}
use Rattle.sequences.specs.Pick.{either}
use Rattle.floats.specs.Names.{f32, add32, sub32, mul32, div32, zero32, one, two}
use Rattle.floats.specs.Choose.{max, clamp}
use Rattle.floats_laws.proofs.Rules.{finite_number, le_trans, between-finite}
use Rattle.floats_laws.proofs.Rising.{nought}
use Rattle.floats_laws.proofs.Choosing as choosing
use Rattle.floats_laws.proofs.Mag.{Mag, Upto, Least, upto_mag, mag_finite, mag_more, mag_le, least-up, le_upto}
use Rattle.floats_laws.proofs.Bounds.{max-upto, add_upto, add_mag, sub_mag, mul_mag, div_mag}
use Rattle.floats_laws.proofs.Held.{clamp_mag, clamp-least}
use Rattle.floats_laws.proofs.Spans.{least_above, max-least-left}
use Rattle.draws.specs.Draws.{random_of}
use Rattle.draws.proofs.Drawn.{random_mag}
use Rattle.elementary.specs.Sqrt.{sqrt_of}
use Rattle.elementary_laws.proofs.RootRises.{lowest, lowest_root, highest, highest_root, sqrt-window, sqrt-finite}
use Rattle.settings.specs.declared.Config.{Config}
use Rattle.settings.specs.declared.envelopes.Contour.{Contour}
use Rattle.settings.specs.declared.Shape.{Shape}
use Rattle.settings.specs.declared.Shape.TheVariants.{Sprinkle, Cloud}
use Rattle.settings.specs.declared.Direction.{Direction}
use Rattle.settings.specs.declared.Direction.TheVariants.{Forward, Reverse, Alternate}
use Rattle.settings.specs.Settings.{max_hop, lawful_rate}
use Rattle.settings.specs.Mending.{finite_or, held_to, attack_of, release_ms_of, rate_held, size_held, mended_of}
use Rattle.settings.specs.Envelope.{hop_floor_of, onset_of, release_of, sprinkle_contour, variation_of, raw_of, cloud_lifetime_of, cloud_attack, reverse_attack, cloud_attack_of, cloud_contour, contour_by, contour_of}
use Rattle.settings_laws.proofs.Again.{finite_or_lem, or_fits}
use Rattle.settings_laws.proofs.Seconds.{floor-upto, onset-least, onset-upto, release-least, release-upto}
use Rattle.settings_laws.proofs.Attack.{Part, stage_part}

abbrev pub ten : Float
ten = f32 0x41200000

-- what is promised of an envelope
pub record Sound (v : Contour) : Type 0 where
  pub finite_life : T (finite v.lifetime)
  pub above : T (lt nought v.lifetime)
  pub most : T (le v.lifetime ten)
  pub part : T (lt nought v.attack) × T (lt v.attack one)

-- from the bounds
sound : (life attack : Float) (j : ℕ) → Mag life 10 → Least life j → Part attack → Sound (record { lifetime = life; attack = attack })
unfolding of_bits
sound life attack j M L P = record { finite_life = mag_finite life 10 M; above = least_above life j L; most = mag_le life 5 (pos 1) 10 (lit< tt) (lit≤ tt) M; part = P }

-- ---- Sprinkle
held_mag : (x d hi : Float) → T (finite d) → Upto hi 5000 → Mag (held_to x d zero32 hi) 5000
unfolding held_to of_bits
held_mag x d hi D H = clamp_mag (finite_or x d) zero32 hi 5000 (is_false _ (finite_number binary32 (finite_or x d) (finite_or_lem x d D))) (lit≤ tt) H

attack_mag : (x : Float) → Mag (attack_of x) 5000
unfolding of_bits
attack_mag x = held_mag x zero32 (f32 0x459c4000) tt (lit≤ tt)

release_mag : (x : Float) → Mag (release_ms_of x) 5000
unfolding of_bits
release_mag x = held_mag x (f32 0x428c0000) (f32 0x459c4000) tt (lit≤ tt)

sprinkle_sound : (attack release floor : Float) → Mag attack 5000 → Mag release 5000 → Upto floor 5 → Sound (sprinkle_contour attack release floor)
unfolding sprinkle_contour
sprinkle_sound attack release floor A R F =
    let onset = onset_of attack in
    let rest = release_of release floor onset in
    let O = onset-upto attack A in
    let L = onset-least attack A in
    let U = release-upto release floor onset R F O in
    let K = release-least release floor onset R F O in
    let S = stage_part onset rest O L U K in
    sound (add32 onset rest) (div32 onset (add32 onset rest)) 512 (upto_mag (add32 onset rest) 10 (add_upto binary32 onset rest 5 5 (lit≤ tt) O U)) S.0 S.1

-- ---- Cloud
-- the root of a number that is held from a to b, where these lie from 1 / 256 to 36: from 1 / 16 to 6
module _ (x a b : Float) (p : T (fits binary32 x)) (q : T (fits binary32 a)) (r : T (fits binary32 b)) (h : T (le a b)) (l : T (le lowest a)) (u : T (le b highest)) where
  abbrev y : Float
  y = held_to x one a b

  number : T (finite (finite_or x one))
  unfolding of_bits
  number = finite_or_lem x one tt

  from-fits : T (fits binary32 (finite_or x one))
  from-fits = or_fits x one p (of_bits-fits binary32 0x3f800000)

  y_fits : T (fits binary32 y)
  unfolding held_to
  y_fits = choosing.clamp-fits binary32 (finite_or x one) a b from-fits q r

  low : T (le lowest y)
  unfolding held_to fits
  low = le_trans binary32 lowest a y tt q y_fits l (choosing.clamp-least binary32 (finite_or x one) a b from-fits q r (finite_number binary32 (finite_or x one) number) h)

  high : T (le y highest)
  unfolding held_to fits
  high = le_trans binary32 y b highest y_fits r tt (choosing.clamp_most binary32 (finite_or x one) a b from-fits q r (finite_number binary32 (finite_or x one) number) h) u

  root_sign : T (le nought (sqrt_of y))
  unfolding fits le lt eq
  root_sign = (sqrt-finite y y_fits (le_trans binary32 nought lowest y tt tt y_fits tt low) (between-finite binary32 lowest y highest tt tt low high)).1

  root_mag : Mag (sqrt_of y) 6
  root_mag = le_upto (sqrt_of y) highest_root 6 root_sign (sqrt-window y y_fits low high).1 (lit≤ tt)

  root_least : Least (sqrt_of y) 16
  root_least = least-up lowest_root (sqrt_of y) 16 6 (sqrt-window y y_fits low high).0 (lit≤ tt) root_mag

variation_mag : (index : ℕ) → Mag (variation_of index) 4
unfolding variation_of of_bits
variation_mag index =
    let draw = random_of index 3 in
    let d1 = mul32 two draw in
    let d2 = sub32 d1 one in
    let d3 = mul32 (f32 0x3e19999a) d2 in
    let m1 = mul_mag binary32 two draw 2 1 (lit≤ tt) (lit≤ tt) (random_mag index 3) in
    let m2 = sub_mag binary32 d1 one 2 1 (lit≤ tt) m1 (lit≤ tt) in
    let m3 = mul_mag binary32 (f32 0x3e19999a) d2 1 3 (lit≤ tt) (lit≤ tt) m2 in
    add_mag binary32 one d3 1 3 (lit≤ tt) (lit≤ tt) m3

-- the value before it is held to its range
raw_mag : (size rate : Float) (index : ℕ) → Mag (sqrt_of size) 6 → Least (sqrt_of rate) 16 → Mag (raw_of size rate index) 896
unfolding raw_of of_bits
raw_mag size rate index S R =
    let x1 = mul32 (f32 0x3e99999a) (sqrt_of size) in
    let x2 = add32 (f32 0x3e4ccccd) x1 in
    let x3 = mul32 two x2 in
    let x4 = div32 x3 (sqrt_of rate) in
    let m1 = mul_mag binary32 (f32 0x3e99999a) (sqrt_of size) 1 6 (lit≤ tt) (lit≤ tt) S in
    let m2 = add_mag binary32 (f32 0x3e4ccccd) x1 1 6 (lit≤ tt) (lit≤ tt) m1 in
    let m3 = mul_mag binary32 two x2 2 7 (lit≤ tt) (lit≤ tt) m2 in
    let m4 = div_mag binary32 x3 (sqrt_of rate) 14 16 (lit≤ tt) m3 R in
    mul_mag binary32 x4 (variation_of index) 224 4 (lit≤ tt) m4 (variation_mag index)

mended-raw : (size rate : Float) (index : ℕ) → T (fits binary32 size) → T (fits binary32 rate) → Mag (raw_of (size_held size) (rate_held rate) index) 896
unfolding of_bits fits le lt eq
mended-raw size rate index p q =
    raw_mag (size_held size) (rate_held rate) index (root_mag size (f32 0x3e000000) (f32 0x41000000) p tt tt tt tt tt) (root_least rate (f32 0x3c23d70a) (f32 0x42000000) q tt tt tt tt tt)

direction-part : (direction : Direction) (index : ℕ) → Part (cloud_attack_of direction index)
unfolding cloud_attack_of of_bits lt
direction-part Forward index = (tt, tt)
direction-part Reverse index = (tt, tt)
direction-part Alternate index = either Part (eqb (index % 2) 0) cloud_attack reverse_attack (tt, tt) (tt, tt)

cloud_life : (size rate : Float) (index : ℕ) (floor : Float) → Mag (raw_of size rate index) 896 → Upto floor 5 → Mag (cloud_lifetime_of size rate index floor) 10 × Least (cloud_lifetime_of size rate index floor) 500
unfolding cloud_lifetime_of of_bits
cloud_life size rate index floor R F =
    let raw = raw_of size rate index in
    let low = max (f32 0x3d75c28f) floor in
    let top = max (f32 0x40800000) low in
    let lowU = max-upto (f32 0x3d75c28f) floor 5 (lit≤ tt) F in
    let topU = max-upto (f32 0x40800000) low 5 (lit≤ tt) lowU in
    let lowL = max-least-left (f32 0x3d75c28f) floor 500 5 (lit≤ tt) (upto_mag floor 5 F) in
    let topL = max-least-left (f32 0x40800000) low 500 5 (lit≤ tt) (upto_mag low 5 lowU) in
    let n = is_false (is_nan raw) (finite_number binary32 raw (mag_finite raw 896 R)) in
    (mag_more (clamp raw low top) 5 10 (lit≤ tt) (clamp_mag raw low top 5 n lowU topU), clamp-least raw low top 500 n lowL topL)

-- ---- both
-- what a Config of the code always has of these two fields: they are f32s
pub record FormedConfig (c : Config) : Type 0 where
  pub rate : T (fits binary32 c.rate_hz)
  pub size : T (fits binary32 c.size_octaves)

by_shape : (shape : Shape) (c : Config) (index : ℕ) (floor : Float) → FormedConfig c → Upto floor 5 → Sound (contour_by shape (mended_of c) index floor)
unfolding contour_by mended_of cloud_contour
by_shape Sprinkle c index floor w F = sprinkle_sound (attack_of c.attack_ms) (release_ms_of c.release_ms) floor (attack_mag c.attack_ms) (release_mag c.release_ms) F
by_shape Cloud c index floor w F =
    let size = size_held c.size_octaves in
    let rate = rate_held c.rate_hz in
    let h = cloud_life size rate index floor (mended-raw c.size_octaves c.rate_hz index w.size w.rate) F in
    sound (cloud_lifetime_of size rate index floor) (cloud_attack_of c.direction index) 500 h.0 h.1 (direction-part c.direction index)

pub envelope_sound : (c : Config) (index : ℕ) (rate : Float) → FormedConfig c → c.hop_samples ≤ max_hop → T (lawful_rate rate) → Sound (contour_of (mended_of c) index rate)
unfolding contour_of mended_of
envelope_sound c index rate w h r = by_shape c.shape c index (hop_floor_of c.hop_samples rate) w (floor-upto c.hop_samples rate h r)

-- the Cloud's value is finite before its clamp, whatever the hop and the sample rate
pub raw-finite : (c : Config) (index : ℕ) → FormedConfig c → T (finite (raw_of (mended_of c).size_octaves (mended_of c).rate_hz index))
unfolding mended_of
raw-finite c index w = mag_finite (raw_of (size_held c.size_octaves) (rate_held c.rate_hz) index) 896 (mended-raw c.size_octaves c.rate_hz index w.size w.rate)
