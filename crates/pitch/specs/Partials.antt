-- The harmonics of one particle, line by line as the Rust's `select_partials`. Definitions only. A harmonic counts from 1; 0 is none.
use Rattle.std.specs.Prelude.{ℕ, zero, suc, ◌+◌, ◌-◌, cond, List, [], ◌∷◌, ◌==◌, nat_le, slice_index_or, slice_set, Float}
use Rattle.std.specs.Float.{nan}
use Rattle.std.specs.Float.Ieee.{lt, le}
use Rattle.sequences.specs.Pick.{pick}
use Rattle.sequences.specs.Table.{table}
use Rattle.sequences.specs.Walk.{walk}
use Rattle.floats.specs.Names.{f32, add32, sub32, mul32, zero32, as_float, minus_zero32}
use Rattle.draws.specs.Draws.{random_of}

-- if draw < PARTIAL_COUNT_CUMULATIVE[0] { 1 } else if draw < PARTIAL_COUNT_CUMULATIVE[1] { 2 } else { 3 }
unfoldable pub partial_count : Float → ℕ
partial_count draw = pick (lt draw (f32 0x3f4ccccd)) 1 (pick (lt draw (f32 0x3f7851ec)) 2 3)

-- if i >= limit || (i + 1) as f32 >= max_ratio { *weight = 0.0; }
unfoldable pub kept_of : ℕ → Float → ℕ → Float → Float
kept_of limit ratio i weight = pick (nat_le limit i) zero32 (cond (le ratio (as_float (i + 1))) zero32 weight)

unfoldable pub allowed_of : ℕ → Float → List Float → List Float
allowed_of limit ratio weights = table 24 (λ i. kept_of limit ratio i (slice_index_or weights i nan))

-- weights.iter().sum(), which has begun at -0.0 since Rust 1.83 (before, at 0.0): no answer here shows it
unfoldable pub sum_of : List Float → Float
sum_of weights = walk (λ i w s. add32 s w) 0 weights minus_zero32

-- for (i, weight) in ..: if weight <= 0.0 { continue; } chosen = Some(i); if target < weight { break; } target -= weight;
-- over the weights from i on, where `chosen` stands for the harmonic so far
unfoldable pub harmonic_from : ℕ → List Float → Float × ℕ → ℕ
harmonic_from i [] (target, chosen) = chosen
harmonic_from i (w ∷ ws) (target, chosen) =
    pick (le w zero32) (harmonic_from (suc i) ws (target, chosen)) (pick (lt target w) (i + 1) (harmonic_from (suc i) ws (sub32 target w, i + 1)))

unfoldable pub harmonic_of : List Float → Float → ℕ
harmonic_of weights target = harmonic_from 0 weights (target, 0)

-- if let Some(i) = chosen { .. weights[i] = 0.0; }
unfoldable pub without_of : List Float → ℕ → List Float
without_of weights harmonic = pick (harmonic == 0) weights (slice_set weights (harmonic - 1) zero32)

-- one turn for each slot: the sum, the draw of stream 13 + slot, the harmonic, which leaves the weights
unfoldable pub drawn_from : ℕ → ℕ → ℕ → List Float → List ℕ → List ℕ
drawn_from index zero slot weights selected = selected
drawn_from index (suc n) slot weights selected =
    let total = sum_of weights in
    let harmonic = harmonic_of weights (mul32 (random_of index (13 + slot)) total) in
    pick (le total zero32) selected (drawn_from index n (suc slot) (without_of weights harmonic) (slice_set selected slot harmonic))

unfoldable pub partials_drawn : ℕ → List Float → ℕ → List ℕ
partials_drawn index weights count = drawn_from index count 0 weights (0 ∷ 0 ∷ 0 ∷ [])

-- the whole of `select_partials`
unfoldable pub partials_of : ℕ → List Float → ℕ → Float → List ℕ
partials_of index weights limit ratio = partials_drawn index (allowed_of limit ratio weights) (partial_count (random_of index 12))
