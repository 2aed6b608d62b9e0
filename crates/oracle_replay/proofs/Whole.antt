-- The state has 14,184 bytes; numbers by an equation.
use Prim.Native.Nat.{ℕ, ◌*◌}
use mathlib.Core.Path.{◌≡◌, refl}
use mathlib.Core.List.{List}
use lib.ListN.{length, length-append}
use lib.Ieee.{Float}
use Rattle.text.specs.Put.{Put}
use Rattle.text.proofs.Joined.{joined_length}
use Rattle.state.specs.declared.Engine.{Engine}
use Rattle.oracle_replay.specs.State.{words_bytes, harmonics_bytes, streams_bytes, sources_bytes, particles_bytes, state_bytes}

words_length : (ws : List ℕ) → length (words_bytes ws) ≡ length ws * 8
unfolding words_bytes
words_length ws = joined_length _ 8 (λ i. refl) 0 (length ws)

harmonics_length : (a b c : List Float) → length (harmonics_bytes a b c) ≡ 576
unfolding harmonics_bytes
harmonics_length a b c = joined_length _ 24 (λ i. words_length _) 0 24

module _ (e : Engine) where
  streams_length : length (streams_bytes e.streams) ≡ 72
  unfolding streams_bytes
  streams_length = joined_length _ 24 (λ i. words_length _) 0 3

  sources_length : length (sources_bytes e.sources) ≡ 6144
  unfolding sources_bytes
  sources_length = joined_length _ 24 (λ i. words_length _) 0 256

  particles_length : length (particles_bytes e.particles) ≡ 7168
  unfolding particles_bytes
  particles_length = joined_length _ 112 (λ i. words_length _) 0 64

  pub state_length : length (state_bytes e) ≡ 14184
  unfolding state_bytes
  state_length =
      rw (length-append, length-append, length-append, length-append, length-append, length-append, words_length, words_length, words_length, harmonics_length, streams_length, sources_length, particles_length)

-- numbers that are known by an equation
pub words_are : {o p : List ℕ} {at r : ℕ} {x y : List ℕ} → x ≡ y → Put o p at r (words_bytes x) → Put o p at r (words_bytes y)
words_are e put = rw e at put
