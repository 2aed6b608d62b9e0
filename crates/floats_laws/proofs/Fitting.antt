-- A float of the format is its own rounding to it.
use mathlib.Core.Path.{◌≡◌, refl}
use lib.Dec.{T}
use lib.Ieee.{Float, fin, inf, nan, Format, fits}
use Rattle.floats.specs.Convert.{convert}
use Rattle.floats.proofs.Values.{own-round}

pub own-convert : (f : Format) (x : Float) → T (fits f x) → convert f x ≡ x
unfolding convert
own-convert f nan h = refl
own-convert f (inf s) h = refl
own-convert f (fin s m e) h = own-round f s m e h
