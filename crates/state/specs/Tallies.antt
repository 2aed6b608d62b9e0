-- The counters of births and of places held, and the hash of decisions, line by line as the Rust's `birth`. Definitions only.
use Rattle.std.specs.Prelude.{ℕ, ◌+◌, ◌*◌, bit_xor, slice_index, to_bits}
use Rattle.std.specs.Float.{binary32}
use Rattle.floats.specs.Word.{rotated, grown}
use Rattle.draws.specs.Draws.{mix_of}
use Rattle.pool.specs.declared.Particle.{Particle}
use Rattle.state.specs.declared.Tally.{Tally}

-- self.dropped += 1
abbrev pub dropped_one : Tally → Tally
dropped_one t = record { attempts = t.attempts; births = t.births; dropped = grown t.dropped; decision_hash = t.decision_hash; held = t.held }

-- u64::from_le_bytes([p[0], p[1], p[2], 0, ..])
unfoldable pub particle_word : ℕ → ℕ → ℕ → ℕ
particle_word a b c = a + b * 256 + c * 65536

-- mix(self.decision_hash ^ index ^ self.sample.rotate_left(19) ^ frequency_hz.to_bits() ^ partials)
unfoldable pub hash_of : ℕ → ℕ → ℕ → Particle → ℕ
hash_of before index sample p =
    let word = particle_word (slice_index p.partials 0) (slice_index p.partials 1) (slice_index p.partials 2) in
    mix_of (bit_xor (bit_xor (bit_xor (bit_xor before index) (rotated sample 19)) (to_bits binary32 p.frequency_hz)) word)

-- self.births += 1; self.decision_hash = ..; one more place is held
unfoldable pub born_one : Tally → ℕ → ℕ → Particle → Tally
born_one t index sample p =
    record {
      attempts = t.attempts;
      births = grown t.births;
      dropped = t.dropped;
      decision_hash = hash_of t.decision_hash index sample p;
      held = grown t.held;
    }
