-- A hop or partials above 2^32 - 1 are written as 2^32 - 1, and the engine answers both alike: the hop is refused, the partials are mended to 24.
use Prim.Native.Nat.{ℕ, ◌≤◌, ◌<◌}
use mathlib.Core.Path.{◌≡◌, ap}
use native.Mathlib.Omega.{arith}
use lib.Dec.{leb, ltb}
use borrow.Author.Tests.{leb-true, leb-false, le-leb, ltb-true, ltb-false, lt-ltb, le-ltb}
use Rattle.sequences.specs.Pick.{pick, by-case}
use Rattle.settings.specs.declared.Config.{Config}
use Rattle.settings.specs.Settings.{checked_of}
use Rattle.settings.specs.Mending.{mended_of, partials_held}
use Rattle.state.specs.declared.Engine.{Engine}
use Rattle.engine_changes.specs.Changes.{configured_of}
use Rattle.script.specs.declared.fields.Field.TheVariants as F
use Rattle.script_writer.specs.Encoded.{held32, config_bytes, encoded}
use Rattle.script_writer_laws.specs.Wide.{held_config}

pub held_fits : (n : ℕ) → held32 n ≤ 4294967295
unfolding held32
held_fits n = by-case (leb n 4294967295) (λ y. rw y (leb-true _ _ y)) (λ y. rw y (omega arith))

pub held_same : (n : ℕ) → n ≤ 4294967295 → held32 n ≡ n
unfolding held32
held_same n h = rw (le-leb n 4294967295 h)

-- above a limit that the form holds, both are
held-above : (n m : ℕ) → m < 4294967295 → m < n → m < held32 n
unfolding held32
held-above n m l h = by-case (leb n 4294967295) (λ y. rw y h) (λ y. rw y l)

partials-alike : (n : ℕ) → partials_held (held32 n) ≡ partials_held n
unfolding partials_held pick held32
partials-alike n =
    by-case (leb n 4294967295)
    (λ y. ap partials_held (held_same n (leb-true _ _ y)))
    (λ y. let h = leb-false n 4294967295 y in rw (y, le-ltb n 1 (omega arith), lt-ltb 24 n (omega arith)))

pub engine_alike : (e : Engine) (c : Config) → configured_of e (held_config c) ≡ configured_of e c
unfolding configured_of checked_of pick mended_of
engine_alike e c =
    by-case (ltb 16384 c.hop_samples)
    (λ y. let h = ltb-true 16384 c.hop_samples y in rw (y, lt-ltb 16384 (held32 c.hop_samples) (held-above c.hop_samples 16384 (omega arith) h)))
    (λ y.
    let h = ltb-false 16384 c.hop_samples y in
    let same : held32 c.hop_samples ≡ c.hop_samples = held_same c.hop_samples (omega arith) in
    rw (same, y, partials-alike c.partials))

pub written_alike : (c : Config) → encoded (F.Configure (held_config c)) ≡ encoded (F.Configure c)
unfolding encoded config_bytes
written_alike c = rw (held_same (held32 c.hop_samples) (held_fits c.hop_samples), held_same (held32 c.partials) (held_fits c.partials))
