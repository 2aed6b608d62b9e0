-- One try of a lane: not due, moved on in silence, or moved on with a birth.
use Rattle.std.proofs.Common.{◌≡◌, ℕ, ◌/◌, Bool, true, false, get_or, set, None, sym, refl, ap, ◌∙◌}
use lib.Ieee.{Float, lt}
use Rattle.sequences.specs.Pick.{pick, took, skipped}
use Rattle.draws.specs.Draws.{key_of}
use Rattle.timing.specs.declared.SprinkleStream.{SprinkleStream}
use Rattle.timing.specs.Streams.{moved_of}
use Rattle.state.specs.declared.Engine.{Engine}
use Rattle.state.specs.State.{with_streams, past_stream}
use Rattle.births.specs.Birth.{born_of}
use Rattle.engine_samples.specs.Sample.{moved, tried_of}

-- a try of every lane in its turn, two for each
abbrev pub try : Float → ℕ → Engine → Engine
try reference k e = tried_of e (k / 2) reference

-- both tests in one
heard : {A : Type 0} (t u : Bool) (a b : A) → pick t u false ≡ true → a ≡ pick t (pick u a b) b
unfolding pick
heard true u a b h = took _ _ _ _ h refl
heard false true a b h = ap (λ (x : Bool). pick x a b) (sym h)
heard false false a b h = ap (λ (x : Bool). pick x a b) (sym h)

silent : {A : Type 0} (t u : Bool) (a b : A) → pick t u false ≡ false → b ≡ pick t (pick u a b) b
unfolding pick
silent true u a b h = skipped _ _ _ _ h refl
silent false u a b h = refl

module _ (e : Engine) (lane : ℕ) (reference : Float) where
  abbrev stream : SprinkleStream
  stream = get_or e.streams lane past_stream

  pub not_due : lt reference stream.next ≡ true → e ≡ tried_of e lane reference
  unfolding tried_of
  not_due h = took _ _ _ _ h refl

  module _ (m : SprinkleStream) (on : m ≡ moved_of stream.index lane reference e.config.sync) (due : lt reference stream.next ≡ false) where
    abbrev pub after : Engine
    after = with_streams e (set e.streams lane m)

    is-moved : after ≡ moved e lane reference stream
    is-moved = ap (λ (s : SprinkleStream). with_streams e (set e.streams lane s)) on

    pub moved-silent : pick stream.emit e.config.enabled false ≡ false → after ≡ tried_of e lane reference
    unfolding tried_of
    moved-silent q = skipped _ _ _ _ due (is-moved ∙ silent stream.emit e.config.enabled _ _ q)

    pub moved-born : (key : ℕ) (born : Engine) → pick stream.emit e.config.enabled false ≡ true → key ≡ key_of lane stream.index → born ≡ born_of after key None
        → born ≡ tried_of e lane reference
    unfolding tried_of
    moved-born key born q k p =
        skipped _ _ _ _ due
        (p
        ∙ ap (λ (x : ℕ). born_of after x None) k
        ∙ ap (λ (x : Engine). born_of x (key_of lane stream.index) None) is-moved
        ∙ heard stream.emit e.config.enabled _ _ q)
