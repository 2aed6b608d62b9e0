-- The scope's twelve marked examples: what the definitions give, beside what the scope says.
use Rattle.std.specs.Prelude.{ℕ, ◌+◌, ◌^◌, ◌≡◌, List, [], ◌∷◌, replicate, Float}
use Rattle.floats.specs.Names.{f32, f64}
use Rattle.draws.specs.Draws.{mix_of, key_of}
use Rattle.elementary.specs.Sqrt.{sqrt_of}
use Rattle.pitch.specs.Partials.{partials_of}
use Rattle.settings.specs.Mending.{phase_of}
use Rattle.state.specs.declared.Engine.{Engine}
use Rattle.engine_changes.specs.Changes.{sought_of}
use Rattle.windows.specs.declared.Window.{Window}
use Rattle.windows.specs.Opening.{taper_of, openness_of}

pub data Value : Type 0 where
  whole : ℕ → Value
  float : Float → Value
  picks : List ℕ → Value

-- centre 10, radius 2, amplitude 1
abbrev pub window : Window
window = record { center_log2_hz = f32 0x41200000; radius_octaves = f32 0x40000000; amplitude = f32 0x3f800000 }

-- 7 of any engine, 8 and 9 at any index, 8 with any number of harmonics and any weights
abbrev pub marked : Engine → ℕ → ℕ → List Float → List (Value × Value)
marked e index limit weights =
    (whole (mix_of 0), whole 0)  -- 1: mix(0) = 0
    ∷ (whole (key_of 2 5), whole (2 ^ 62 + 2 ^ 60 + 5))  -- 2: the key of lane 2, index 5
    ∷ (float (taper_of (f32 0x3e800000)), float (f32 0x3e200000))  -- 3: taper(0.25) = 0.15625
    ∷ (float (taper_of (f32 0x3f000000)), float (f32 0x3f000000))  -- 4: taper(0.5) = 0.5
    ∷ (float (phase_of (f32 0xbe800000)), float (f32 0x3f400000))  -- 5: phase -0.25 gives 0.75
    ∷ (float (phase_of (f32 0xb0800000)), float (f32 0x3f800000))  -- 6: phase -2^-30 gives 1.0
    ∷ (float (sought_of e (f64 0xbc30000000000000)).clock.phase, float (f64 0x41cdcd6500000000))  -- 7: seek to -2^-60 gives 1,000,000,000
    ∷ (picks (partials_of index weights limit (f32 0x3f800000)), picks (0 ∷ 0 ∷ 0 ∷ []))  -- 8: ratio 1 gives none
    ∷ (picks (partials_of index (replicate 24 (f32 0x3f800000)) 24 (f32 0x3fc00000)), picks (1 ∷ 0 ∷ 0 ∷ []))  -- 9: ratio 1.5, all weights 1
    ∷ (float (openness_of window (f32 0x41100000)), float (f32 0x3f000000))  -- 10: the window at 9 opens 0.5
    ∷ (float (openness_of window (f32 0x41400000)), float (f32 0x00000000))  -- 11: at 12 it opens 0
    ∷ (float (sqrt_of (f32 0x40100000)), float (f32 0x3fc00000))  -- 12: sqrt(2.25) = 1.5
    ∷ []

-- every row has twice the same
abbrev pub Same : List (Value × Value) → Type 0
Same [] = Unit {0}
Same (row ∷ rows) = (row.0 ≡ row.1) × Same rows
