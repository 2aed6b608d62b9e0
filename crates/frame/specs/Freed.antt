-- Which places a frame frees, line by line as the Rust's `frame`. Definitions only.
use Rattle.std.specs.Prelude.{ℕ, Bool, ◌&&◌, ◌||◌, pos, Float, Option, Some, None}
use Rattle.std.specs.Float.{binary64}
use Rattle.std.specs.Float.Ieee.{le, of_int}
use Rattle.sequences.specs.Pick.{pick}
use Rattle.floats.specs.Names.{f64, div64}
use Rattle.floats.specs.Word.{difference}
use Rattle.pool.specs.declared.Particle.{Particle}
use Rattle.pool.specs.Pool.{free_particle}

-- self.sample - since, a difference of words of 64 bits
abbrev pub elapsed_of : ℕ → ℕ → ℕ
elapsed_of since sample = difference sample since

-- (self.sample - since) as f64 / self.prepared.sample_rate
unfoldable pub seconds_of : ℕ → ℕ → Float → Float
seconds_of since sample rate = div64 (of_int binary64 (pos (elapsed_of since sample))) rate

-- p.retirement.map_or(0.0, |sample| .. / RETIRE_SECONDS)
unfoldable pub retirement_of : Option ℕ → ℕ → Float → Float
retirement_of None sample rate = f64 0
retirement_of (Some since) sample rate = div64 (seconds_of since sample rate) (f64 0x3f947ae147ae147b)

-- age >= p.lifetime || retirement >= 1.0
unfoldable pub due_of : ℕ → Float → Particle → Bool
due_of sample rate p = le p.lifetime (seconds_of p.birth sample rate) || le (f64 0x3ff0000000000000) (retirement_of p.retirement sample rate)

-- whether it frees a place; which place it is, i, makes no difference
abbrev pub is_freed : ℕ → Float → ℕ → Particle → Bool
is_freed sample rate i p = p.active && due_of sample rate p

-- if !p.active { continue; } .. if .. { *p = Particle::default(); }
unfoldable pub sweep_one : ℕ → Float → Particle → Particle
sweep_one sample rate p = pick p.active (pick (due_of sample rate p) free_particle p) p
