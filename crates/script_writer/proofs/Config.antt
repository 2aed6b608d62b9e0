-- The value of settings, byte by byte: four for each of its wide numbers.
use Prim.Native.Nat.{ℕ}
use mathlib.Core.Path.{◌≡◌}
use mathlib.Core.List.{List, [], ◌∷◌}
use lib.ListN.{get_or}
use Rattle.settings.specs.declared.Config.{Config}
use Rattle.big_endian.specs.Bytes.{bytes32, single, flag_of}
use Rattle.settings.specs.ByNumber.{shape_number, direction_number}
use Rattle.script_writer.specs.Encoded.{held32, config_bytes}

-- the four bytes of w, in front of others
abbrev four : List ℕ → List ℕ → List ℕ
four w l = get_or w 0 0 ∷ get_or w 1 0 ∷ get_or w 2 0 ∷ get_or w 3 0 ∷ l

pub config-spelled : (c : Config) {enabled shape direction scheduled sync : ℕ} {rate size phase hop partials rolloff attack release : List ℕ}
    → enabled ≡ flag_of c.enabled → shape ≡ shape_number c.shape → direction ≡ direction_number c.direction
    → rate ≡ single c.rate_hz → size ≡ single c.size_octaves → phase ≡ single c.phase
    → scheduled ≡ flag_of c.scheduled → sync ≡ flag_of c.sync
    → hop ≡ bytes32 (held32 c.hop_samples) → partials ≡ bytes32 (held32 c.partials)
    → rolloff ≡ single c.partial_rolloff_db → attack ≡ single c.attack_ms → release ≡ single c.release_ms
    → enabled ∷ shape ∷ direction ∷ four rate (four size (four phase (scheduled ∷ sync ∷ four hop (four partials (four rolloff (four attack (four release [])))))))
    ≡ config_bytes c
unfolding config_bytes
config-spelled c e s d r z p t y h n o a l =
    λ i. e i ∷ s i ∷ d i ∷ four (r i) (four (z i) (four (p i) (t i ∷ y i ∷ four (h i) (four (n i) (four (o i) (four (a i) (four (l i) [])))))))
