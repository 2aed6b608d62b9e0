-- An attenuation to the nearest tenth of a decibel, halves upward, over exact numbers. Definitions only.
use Rattle.std.specs.Prelude.{ℕ, zero, suc, ◌+◌, ◌*◌, ltb, Float}
use Rattle.std.specs.Float.{nan, inf, fin}
use Rattle.std.specs.Float.Ieee.{up, down}
use Rattle.sequences.specs.Pick.{pick}
use Rattle.floats.specs.Names.{f32, zero32}
use Rattle.floats.specs.Choose.{clamp}

-- held to 0 to 60 decibels
abbrev pub held : Float → Float
held a = clamp a zero32 (f32 0x42700000)

-- the least n with 20a < 2n + 1, so that 2n - 1 <= 20a too: from n on, after at most f others; a is num / den
unfoldable pub least_from : ℕ → ℕ → ℕ → ℕ → ℕ
least_from zero n num den = n
least_from (suc f) n num den = pick (ltb (20 * num) ((2 * n + 1) * den)) n (least_from f (n + 1) num den)

-- a number of at most 60 is the fraction m * up e / down e, and has its n among 0 to 600
abbrev pub nearest : Float → ℕ
nearest nan = 0
nearest (inf s) = 0
nearest (fin s m e) = least_from 600 0 (m * up e) (down e)

unfoldable pub tenths_of : Float → ℕ
tenths_of a = nearest (held a)
