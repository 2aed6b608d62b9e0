-- The sum of the answers goes on by one event: with an answer where one is asked for, and else as it was.
use Rattle.std.proofs.Common.{◌≡◌, ℕ, ◌+◌, ◌%◌, ◌^◌, Bool, true, false, ap, ◌∙◌, add-one}
use Rattle.sequences.specs.Pick.{took, passed}
use Rattle.sequences.specs.Times.{iterate}
use Rattle.state.specs.declared.Engine.{Engine}
use Rattle.oracle_probe.specs.Counts.{sounding, fired, asked_of}

module _ (asked : Bool) (n sum : ℕ) (before : sum ≡ asked_of asked n) where
  pub with_answer : (e : Engine) (k t : ℕ) → asked ≡ true → e ≡ iterate fired (n + 1) sounding → k ≡ e.tally.held → t ≡ (sum + k) % 2 ^ 64 → t ≡ asked_of asked (n + 1)
  unfolding asked_of
  with_answer e k t a is held told =
      rw add-one (took asked _ _ _ a (told ∙ ap (λ (s : ℕ). (s + k) % 2 ^ 64) before ∙ ap (λ (m : ℕ). (asked_of asked n + m) % 2 ^ 64) (held ∙ ap (λ (x : Engine). x.tally.held) (rw add-one at is))))

  pub without : asked ≡ false → sum ≡ asked_of asked (n + 1)
  unfolding asked_of
  without a = rw add-one (before ∙ passed asked _ _ a)
