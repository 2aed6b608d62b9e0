-- ORDER 2, as it is promised: what was written is read back, and what was read is written back.
use Rattle.std.specs.Prelude.{ℕ, ◌+◌, ◌≤◌, ◌≡◌, List, [], ◌∷◌, length}
use Rattle.std.specs.Float.{nan}
use Rattle.sequences.specs.Every.{Every}
use Rattle.script.specs.declared.fields.Field.{Field}
use Rattle.script.specs.Reading.{reading_of, ended}
use Rattle.settings.specs.declared.Config.{Config}
use Rattle.state.specs.declared.Engine.{Engine}
use Rattle.engine_changes.specs.Changes.{configured_of}
use Rattle.script.specs.declared.fields.Field.TheVariants as F
use Rattle.big_endian.specs.Bytes.{single, double}
use Rattle.script_writer.specs.Encoded.{encoded, encoded_all}
use Rattle.text.specs.Put.{splice}
use Rattle.script_writer_laws.specs.InARow.{count_after, bytes_after}
use Rattle.script_writer_laws.specs.Wide.{held_config}
use Rattle.script_writer_laws.specs.Events.{Writable, Ordered, PlainNans, Byte, events}

pub record RoundTrip : Type 0 where
  -- events that are written one behind the other, where there is room for all, stand in the buffer as the bytes of their list, and the rest of it stays
  pub in_a_row : (es : List Field) (o : List ℕ) (at : ℕ) → at + length (encoded_all es) ≤ length o
      → (count_after o at es ≡ at + length (encoded_all es)) × (bytes_after o at es ≡ splice o at (encoded_all es))
  -- events that the form holds, in the order of a script and of lawful size, are read back; NaNs are one in the logic
  pub read_back : (es : List Field) → Every Writable es → Ordered es → length (encoded_all es) ≤ 60000
      → ((reading_of (encoded_all es)).verdict ≡ ended) × (events (reading_of (encoded_all es)) ≡ es)
  -- a script that is read to its end and has no other NaN pattern is written back; its rate need not be lawful
  pub written_back : (s : List ℕ) → Every Byte s → (reading_of s).verdict ≡ ended → Every (PlainNans s) (reading_of s).fields
      → encoded_all (events (reading_of s)) ≡ s
  -- every NaN is written as 7FC00000; the float of a seek, the one of eight bytes, as 7FF8000000000000
  pub nan_written : single nan ≡ 0x7f ∷ 0xc0 ∷ 0 ∷ 0 ∷ []
  pub nan_of_a_seek : double nan ≡ 0x7f ∷ 0xf8 ∷ 0 ∷ 0 ∷ 0 ∷ 0 ∷ 0 ∷ 0 ∷ []
  -- settings that the form cannot hold are written as those that it can, and the engine answers both alike
  pub wide_written : (c : Config) → encoded (F.Configure (held_config c)) ≡ encoded (F.Configure c)
  pub wide_alike : (e : Engine) (c : Config) → configured_of e (held_config c) ≡ configured_of e c
