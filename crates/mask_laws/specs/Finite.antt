-- A window whose floats are finite, with a radius and an amplitude that f32 holds. Definitions only.
use Rattle.std.specs.Prelude.{T}
use Rattle.std.specs.Float.{binary32}
use Rattle.std.specs.Float.Ieee.{fits}
use Rattle.std.specs.Float.Ieee.Scale.{finite}
use Rattle.windows.specs.declared.Window.{Window}

pub record Finite (w : Window) : Type 0 where
  pub centre : T (finite w.center_log2_hz)
  pub radius : T (finite w.radius_octaves)
  pub amplitude : T (finite w.amplitude)
  pub radius_fits : T (fits binary32 w.radius_octaves)
  pub amplitude_fits : T (fits binary32 w.amplitude)
