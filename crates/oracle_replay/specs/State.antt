-- The state as bytes: 8 for each number, the highest first. Definitions only.
use Rattle.std.specs.Prelude.{ℕ, false, List, ◌++◌, Float, length, get_or}
use Rattle.std.specs.Float.{nan}
use Rattle.text.specs.Put.{joined_all}
use Rattle.big_endian.specs.Bytes.{bytes64}
use Rattle.pool.specs.declared.Particle.{Particle}
use Rattle.pool.specs.Pool.{free_particle}
use Rattle.sources.specs.declared.Source.{Source}
use Rattle.sources.specs.Sources.{no_source, max_sources}
use Rattle.state.specs.declared.Engine.{Engine}
use Rattle.timing.specs.declared.SprinkleStream.{SprinkleStream}
use Rattle.timing.specs.Streams.{new_of}
use Rattle.oracle_replay.specs.Numbers.{counts_of, config_words, prepared_words, harmonic_words, stream_words, source_words, particle_of}

unfoldable pub words_bytes : List ℕ → List ℕ
words_bytes ws = joined_all (λ i. bytes64 (get_or ws i 0)) 0 (length ws)

unfoldable pub harmonics_bytes : List Float → List Float → List Float → List ℕ
harmonics_bytes logs defaults weights = joined_all (λ i. words_bytes (harmonic_words (get_or logs i nan) (get_or defaults i nan) (get_or weights i nan))) 0 24

unfoldable pub streams_bytes : List SprinkleStream → List ℕ
streams_bytes ss = joined_all (λ i. words_bytes (stream_words (get_or ss i (new_of 0 false)))) 0 3

unfoldable pub sources_bytes : List Source → List ℕ
sources_bytes ss = joined_all (λ i. words_bytes (source_words (get_or ss i no_source))) 0 max_sources

unfoldable pub particles_bytes : List Particle → List ℕ
particles_bytes ps = joined_all (λ i. words_bytes (particle_of (get_or ps i free_particle))) 0 64

unfoldable pub state_bytes : Engine → List ℕ
state_bytes e =
    words_bytes (counts_of e)
    ++ words_bytes (config_words e.config)
    ++ words_bytes (prepared_words e.prepared)
    ++ harmonics_bytes e.prepared.partial_logs e.prepared.default_partial_weights e.partial_weights
    ++ streams_bytes e.streams
    ++ sources_bytes e.sources
    ++ particles_bytes e.particles
