-- EXACT MILLISECONDS, as they are promised. The milliseconds of a listing go by the exact value of the rate's float: they neither run ahead of the samples nor fall behind, at any lawful rate and any count.
use Rattle.std.specs.Prelude.{ℕ, ◌+◌, ◌*◌, ◌/◌, ◌^◌, ◌≤◌, ◌<◌, ◌≡◌, false, List, ◌∷◌, ◌++◌, T, Float}
use Rattle.std.specs.Float.Ieee.{to_unsigned}
use Rattle.std.specs.Float.Ieee.Exact.{HasValue}
use Rattle.std.specs.Float.Ieee.Positive.{num, den}
use Rattle.floats.specs.Names.{Single}
use Rattle.settings.specs.Settings.{lawful_rate}
use Rattle.script.specs.declared.fields.Field.{Field}
use Rattle.script.specs.declared.fields.Field.TheVariants as F
use Rattle.script_steps.specs.declared.values.Values.{Values}
use Rattle.script_steps.specs.Values.{milliseconds_of}
use Rattle.listing.specs.declared.lines.Line.TheVariants as L
use Rattle.listing.specs.declared.turns.Turn.{Turn}
use Rattle.listing.specs.Turns.{turns_of}
use Rattle.promises.specs.Scripts.{fields_of}

-- ms * rate <= samples * 1000 < (ms + 1) * rate, where the rate is exactly num / den: both sides times den
abbrev pub Within : ℕ → ℕ → Float → Type 0
Within ms samples rate = (ms * num rate ≤ samples * 1000 * den rate) × (samples * 1000 * den rate < (ms + 1) * num rate)

-- as 01 had them, by the whole part of the rate
abbrev pub by_whole_part : ℕ → Float → ℕ
by_whole_part samples rate = samples * 1000 / to_unsigned 64 rate

pub record Milliseconds : Type 0 where
  -- the rule, at every lawful rate and every count of samples; and no other number has it
  pub exact : (samples : ℕ) (rate : Float) → T (lawful_rate rate) → Within (milliseconds_of samples rate) samples rate
  pub only : (ms samples : ℕ) (rate : Float) → T (lawful_rate rate) → Within ms samples rate → ms ≡ milliseconds_of samples rate
  -- every lawful rate is a whole number of 2,048ths, and fewer than 2^30 of them
  pub in_2048ths : (rate : Float) → Single rate → T (lawful_rate rate) → (k : ℕ) × (HasValue rate false k 2048) × (k < 2 ^ 30)
  -- at a rate that is a whole number nothing changes
  pub whole_rates : (samples n : ℕ) (rate : Float) → Single rate → T (lawful_rate rate) → HasValue rate false n 1 → milliseconds_of samples rate ≡ by_whole_part samples rate
  -- a script has one rate; every line of it that tells of an accepted frame has the milliseconds of its samples at that rate, and these are at most 2^40
  pub listed : (s : List ℕ) (rate : Float) (fs : List Field) → fields_of s ≡ F.Rate rate ∷ fs → T (lawful_rate rate)
      → (before after : List Turn) (t : Turn) → turns_of s ≡ before ++ t ∷ after → (n : ℕ) (v : Values) → t.line ≡ L.Frame n v
      → Within v.ms v.sample rate × (v.sample ≤ 2 ^ 40)
