-- The one encoding of each event: a line for each tag, beside the reader's table (`script`, Table.antt). Definitions only.
use Rattle.std.specs.Prelude.{ℕ, cond, List, [], ◌∷◌, ◌++◌, leb}
use Rattle.settings.specs.declared.Config.{Config}
use Rattle.script.specs.declared.fields.Field.{Field}
use Rattle.script.specs.declared.fields.Field.TheVariants as F
use Rattle.big_endian.specs.Bytes.{tagged, bytes16, bytes32, bytes64, single, double, flag}
use Rattle.script_writer.specs.Kinds.{shape_byte, direction_byte}

-- what the form cannot hold is written as the greatest number that it can
unfoldable pub held32 : ℕ → ℕ
held32 n = cond (leb n 4294967295) n 4294967295

unfoldable pub config_bytes : Config → List ℕ
config_bytes c =
    flag c.enabled
    ++ shape_byte c.shape
    ++ direction_byte c.direction
    ++ single c.rate_hz
    ++ single c.size_octaves
    ++ single c.phase
    ++ flag c.scheduled
    ++ flag c.sync
    ++ bytes32 (held32 c.hop_samples)
    ++ bytes32 (held32 c.partials)
    ++ single c.partial_rolloff_db
    ++ single c.attack_ms
    ++ single c.release_ms

unfoldable pub encoded : Field → List ℕ
encoded (F.Rate x) = tagged 1 (single x)
encoded (F.Configure c) = tagged 2 (config_bytes c)
encoded (F.Source slot frequency strength eligible) = tagged 3 (bytes16 slot ++ single frequency ++ single strength ++ flag eligible)
encoded (F.Retire slot) = tagged 4 (bytes16 slot)
encoded (F.Release slot) = tagged 5 (bytes16 slot)
encoded (F.Trigger slot) = tagged 6 (bytes16 slot)
encoded (F.Seek cycles) = tagged 7 (double cycles)
encoded (F.Advance samples) = tagged 8 (bytes32 samples)
encoded (F.Frame bin seconds) = tagged 9 (single bin ++ single seconds)
encoded (F.NoteInput present) = tagged 10 (flag present)
encoded F.Reset = tagged 11 []
encoded F.Reserve = tagged 12 []
encoded (F.ReservedTrigger slot index) = tagged 13 (bytes16 slot ++ bytes64 index)

-- events in, bytes out
abbrev pub encoded_all : List Field → List ℕ
encoded_all [] = []
encoded_all (f ∷ fs) = encoded f ++ encoded_all fs
