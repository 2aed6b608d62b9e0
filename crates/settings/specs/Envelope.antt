-- The envelope of one new particle, line by line as the Rust's `Config::envelope`. Definitions only.
use Rattle.std.specs.Prelude.{ℕ, ◌%◌, pos, eqb, Float}
use Rattle.sequences.specs.Pick.{pick}
use Rattle.std.specs.Float.{binary32}
use Rattle.std.specs.Float.Ieee.{of_int}
use Rattle.floats.specs.Names.{f32, add32, sub32, mul32, div32, one, two}
use Rattle.floats.specs.Choose.{max, clamp}
use Rattle.draws.specs.Draws.{random_of}
use Rattle.elementary.specs.Sqrt.{sqrt_of}
use Rattle.settings.specs.declared.Config.{Config}
use Rattle.settings.specs.declared.envelopes.Contour.{Contour}
use Rattle.settings.specs.declared.Shape.{Shape}
use Rattle.settings.specs.declared.Shape.TheVariants.{Sprinkle, Cloud}
use Rattle.settings.specs.declared.Direction.{Direction}
use Rattle.settings.specs.declared.Direction.TheVariants.{Forward, Reverse, Alternate}

-- the milliseconds' 0.001 and SPRINKLE_MIN_STAGE_SECONDS
abbrev pub milli : Float
milli = f32 0x3a83126f

abbrev pub min_stage : Float
min_stage = f32 0x3b03126f

-- 2.0 * self.hop_samples as f32 / sample_rate
unfoldable pub hop_floor_of : ℕ → Float → Float
hop_floor_of hop rate = div32 (mul32 two (of_int binary32 (pos hop))) rate

-- ---- Sprinkle
-- (self.attack_ms * 0.001).max(SPRINKLE_MIN_STAGE_SECONDS)
unfoldable pub onset_of : Float → Float
onset_of attack = max (mul32 attack milli) min_stage

-- (self.release_ms * 0.001).max(SPRINKLE_MIN_STAGE_SECONDS).max(hop_floor - onset)
unfoldable pub release_of : Float → Float → Float → Float
release_of release floor onset = max (max (mul32 release milli) min_stage) (sub32 floor onset)

-- let lifetime = onset + release; (lifetime, onset / lifetime)
unfoldable pub sprinkle_contour : Float → Float → Float → Contour
sprinkle_contour attack release floor =
    let onset = onset_of attack in
    let life = add32 onset (release_of release floor onset) in
    record { lifetime = life; attack = div32 onset life }

-- ---- Cloud
-- 1.0 + LIFETIME_VARIATION * (2.0 * random(index, 3) - 1.0)
unfoldable pub variation_of : ℕ → Float
variation_of index = add32 one (mul32 (f32 0x3e19999a) (sub32 (mul32 two (random_of index 3)) one))

-- CLOUD_LIFETIME_SCALE * (LIFETIME_BASE + LIFETIME_SIZE * size.sqrt()) / rate.sqrt() * variation
unfoldable pub raw_of : Float → Float → ℕ → Float
raw_of size rate index = mul32 (div32 (mul32 two (add32 (f32 0x3e4ccccd) (mul32 (f32 0x3e99999a) (sqrt_of size)))) (sqrt_of rate)) (variation_of index)

-- let minimum = 0.06_f32.max(hop_floor); ( .. ).clamp(minimum, 4.0_f32.max(minimum))
unfoldable pub cloud_lifetime_of : Float → Float → ℕ → Float → Float
cloud_lifetime_of size rate index floor =
    let minimum = max (f32 0x3d75c28f) floor in
    clamp (raw_of size rate index) minimum (max (f32 0x40800000) minimum)

-- CLOUD_ATTACK and REVERSE_ATTACK
abbrev pub cloud_attack : Float
cloud_attack = f32 0x3f000000

abbrev pub reverse_attack : Float
reverse_attack = f32 0x3f59999a

unfoldable pub cloud_attack_of : Direction → ℕ → Float
cloud_attack_of Forward index = cloud_attack
cloud_attack_of Reverse index = reverse_attack
cloud_attack_of Alternate index = pick (eqb (index % 2) 0) cloud_attack reverse_attack

unfoldable pub cloud_contour : Config → ℕ → Float → Contour
cloud_contour c index floor =
    record {
      lifetime = cloud_lifetime_of c.size_octaves c.rate_hz index floor;
      attack = cloud_attack_of c.direction index;
    }

-- ---- both
unfoldable pub contour_by : Shape → Config → ℕ → Float → Contour
contour_by Sprinkle c index floor = sprinkle_contour c.attack_ms c.release_ms floor
contour_by Cloud c index floor = cloud_contour c index floor

unfoldable pub contour_of : Config → ℕ → Float → Contour
contour_of c index rate = contour_by c.shape c index (hop_floor_of c.hop_samples rate)
