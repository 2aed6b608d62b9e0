-- More of what a birth gives a particle: a whole octave of at most 256 either way, a lifetime that is an f32, and a decay power of 1 or 3.
use Prim.Native.Nat.{ℕ, zero-le}
use mathlib.Core.Path.{◌≡◌, refl}
use mathlib.Core.Logic.{◌⊎◌, inl, inr}
use mathlib.Core.Bool.{false}
use lib.Dec.{T}
use lib.Ieee.{Float, binary32, fits, of_bits, lt}
use lib.Ieee.Bits.{of_bits-fits}
use lib.Ieee.Fits.{add-fits, mul-fits, div-fits}
use lib.Ieee.Scale.{finite}
use Rattle.floats.specs.Names.{f32}
use Rattle.floats_laws.proofs.Rising.{nought}
use Rattle.floats_laws.proofs.Choosing.{max-fits, clamp-fits}
use Rattle.pitch.specs.Octave.{register_of, octave_of}
use Rattle.pitch_laws.proofs.Octaves.{WholeUpto, octave-whole}
use Rattle.pitch_laws.proofs.Tops.{Top}
use Rattle.settings.specs.declared.Config.{Config}
use Rattle.settings.specs.declared.Direction.{Direction}
use Rattle.settings.specs.declared.Shape.{Shape}
use Rattle.settings.specs.declared.Shape.TheVariants.{Sprinkle, Cloud}
use Rattle.settings.specs.Envelope.{hop_floor_of, sprinkle_contour, cloud_contour, cloud_lifetime_of, raw_of, contour_by, contour_of}
use Rattle.births.specs.Births.{register_by, power_by}

abbrev pub Power : ℕ → Type 0
Power n = (n ≡ 1) ⊎ (n ≡ 3)

pub shape-power : (shape : Shape) → Power (power_by shape)
unfolding power_by
shape-power Sprinkle = inr refl
shape-power Cloud = inl refl

pub shape-octave : (shape : Shape) (index : ℕ) (hz maxHz : Float) (direction : Direction) → T (fits binary32 hz) → T (lt nought hz) → T (finite hz) → Top maxHz
    → WholeUpto 256 (register_by shape index hz maxHz direction).octave
unfolding register_by of_bits
shape-octave Sprinkle index hz maxHz direction f h k t = octave-whole hz maxHz f h k t.held t.from index direction
shape-octave Cloud index hz maxHz direction f h k t = record { sign = false; n = 0; is = (refl, refl); most = zero-le }

pub octave_fits : (shape : Shape) (index : ℕ) (hz maxHz : Float) (direction : Direction) → T (fits binary32 (register_by shape index hz maxHz direction).octave)
unfolding register_by register_of octave_of
octave_fits Sprinkle index hz maxHz direction = add-fits binary32 _ _
octave_fits Cloud index hz maxHz direction = of_bits-fits binary32 0

shape-lifetime : (shape : Shape) (c : Config) (index : ℕ) (floor : Float) → T (fits binary32 floor) → T (fits binary32 (contour_by shape c index floor).lifetime)
unfolding contour_by sprinkle_contour cloud_contour cloud_lifetime_of raw_of
shape-lifetime Sprinkle c index floor f = add-fits binary32 _ _
shape-lifetime Cloud c index floor f =
    let m = max-fits binary32 (f32 0x3d75c28f) floor (of_bits-fits binary32 0x3d75c28f) f in
    clamp-fits binary32 _ _ _ (mul-fits binary32 _ _) m (max-fits binary32 (f32 0x40800000) _ (of_bits-fits binary32 0x40800000) m)

pub lifetime_fits : (c : Config) (index : ℕ) (rate : Float) → T (fits binary32 (contour_of c index rate).lifetime)
unfolding contour_of hop_floor_of
lifetime_fits c index rate = shape-lifetime c.shape c index _ (div-fits binary32 _ rate)
