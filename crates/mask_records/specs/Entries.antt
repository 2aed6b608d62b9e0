-- What a bin's entry is (order 5). Definitions only.
use Rattle.std.specs.Prelude.{ℕ, Bool, not, List, Float}
use Rattle.std.specs.Float.Ieee.{neg, is_nan}
use Rattle.sequences.specs.Pick.{pick}
use Rattle.floats.specs.Names.{sub32, mul32, zero32, one}
use Rattle.mask_records.specs.Decibels.{entry_of}
use Rattle.mask_records.specs.Tenths.{tenths_of}
use Rattle.windows.specs.declared.Frame.{Frame}
use Rattle.mask_gains.specs.Opened.{open_at}
use Rattle.mask_gains.specs.Gains.{level_of, quiet_of}

-- minus what the mask call hands to `db_to_gain`: -(level * (1.0 - openness))
unfoldable pub entry_attenuation : Float → Float → Float
entry_attenuation level o = neg (mul32 level (sub32 one o))

-- 0 where 01's rule of depth and activity gives the ones
unfoldable pub attenuation_at : Frame → Float → List Float → ℕ → Float
attenuation_at f depth logs bin =
    pick (quiet_of depth f.activity) zero32 (entry_attenuation (level_of depth f.activity) (open_at f.windows logs bin))

-- refusal 18 looks at each bin's
abbrev pub is_number : Float → Bool
is_number a = not (is_nan a)

-- to the nearest tenth, and from the table
abbrev pub entry_for : Float → ℕ
entry_for a = entry_of (tenths_of a)
