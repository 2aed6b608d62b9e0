-- When the starts of Sprinkle's groups fall, and which of them sound, line by line as the Rust's `SprinkleStream::prepare`. Definitions only.
use Rattle.std.specs.Prelude.{ℕ, ◌/◌, ◌%◌, Bool, cond, pos, nat_lt, Float}
use Rattle.std.specs.Float.{binary32, binary64}
use Rattle.std.specs.Float.Ieee.{of_int, lt}
use Rattle.floats.specs.Word.{grown}
use Rattle.sequences.specs.Pick.{pick}
use Rattle.floats.specs.Names.{f32, f64, mul32, add64, sub64, mul64, zero64}
use Rattle.floats.specs.Whole.{floor}
use Rattle.draws.specs.Draws.{random_of}

-- 0.25 and 0.5 as f64
abbrev pub quarter_cycle : Float
quarter_cycle = f64 0x3fd0000000000000

abbrev pub half_cycle : Float
half_cycle = f64 0x3fe0000000000000

-- if count_draw < 0.25 { 0 } else if count_draw < 0.75 { 1 } else { 2 }
unfoldable pub starts_drawn : Float → ℕ
starts_drawn draw = pick (lt draw (f32 0x3e800000)) 0 (pick (lt draw (f32 0x3f400000)) 1 2)

-- self.index % 2 < count, with count_draw = random(key, 5)
unfoldable pub emit_of : ℕ → ℕ → Bool
emit_of index key = nat_lt (index % 2) (starts_drawn (random_of key 5))

-- 0.25 + (random(key, 0) * 9.0).floor() as f64 * 0.25
unfoldable pub start_of : ℕ → Float
start_of key = add64 quarter_cycle (mul64 (floor binary32 (mul32 (random_of key 0) (f32 0x41100000))) quarter_cycle)

-- (random(key + 1, 0) * 3.0).floor() as f64 * 0.25
unfoldable pub gap_of : ℕ → Float
gap_of key = mul64 (floor binary32 (mul32 (random_of (grown key) 0) (f32 0x40400000))) quarter_cycle

-- if sync { 0.0 } else { 0.18 * (random(key, 8) as f64 - 0.5) }
unfoldable pub human_of : Bool → ℕ → Float
human_of sync key = cond sync zero64 (mul64 (f64 0x3fc70a3d70a3d70a) (sub64 (random_of key 8) half_cycle))

-- group as f64 * SPRINKLE_GROUP_CYCLES + start + (self.index % 2) as f64 * gap + human, with group = self.index / 2
unfoldable pub next_of : ℕ → ℕ → Bool → Float
next_of index key sync =
    let group = of_int binary64 (pos (index / 2)) in
    let second = of_int binary64 (pos (index % 2)) in
    add64 (add64 (add64 (mul64 group (f64 0x4008000000000000)) (start_of key)) (mul64 second (gap_of key))) (human_of sync key)
