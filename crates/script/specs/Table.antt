-- 01's table of the event script: for each tag the length of its value, when the value is lawful, and the field that it is. Definitions only.
use Rattle.std.specs.Prelude.{ℕ, Bool, true, ◌&&◌, List, [], ◌∷◌, get_or}
use Rattle.settings.specs.declared.Config.{Config}
use Rattle.settings.specs.ByNumber.{shape_from, direction_from}
use Rattle.big_endian.specs.Numbers.{be16, be32, be64, f32_at, f64_at, flag_at, up_to}
use Rattle.script.specs.declared.fields.Field.{Field}
use Rattle.script.specs.declared.fields.Field.TheVariants as F
use Rattle.script.specs.declared.tags.Kind.{Kind}
use Rattle.script.specs.declared.tags.Kind.TheVariants as K

-- the kind of field that a tag stands for, by its number
abbrev pub kinds : List Kind
kinds =
    K.Unknown ∷ K.Rate ∷ K.Configure ∷ K.Source ∷ K.Retire ∷ K.Release ∷ K.Trigger ∷ K.Seek ∷ K.Advance ∷ K.Frame ∷ K.NoteInput ∷ K.Reset ∷ K.Reserve ∷ K.ReservedTrigger ∷ []

abbrev pub kind_of : ℕ → Kind
kind_of t = get_or kinds t K.Unknown

abbrev pub config_of : List ℕ → Config
config_of v =
    record {
      enabled = flag_at v 0;
      shape = shape_from (get_or v 1 0);
      direction = direction_from (get_or v 2 0);
      rate_hz = f32_at v 3;
      size_octaves = f32_at v 7;
      phase = f32_at v 11;
      scheduled = flag_at v 15;
      sync = flag_at v 16;
      hop_samples = be32 v 17;
      partials = be32 v 21;
      partial_rolloff_db = f32_at v 25;
      attack_ms = f32_at v 29;
      release_ms = f32_at v 33;
    }

-- flags are 0 or 1, a shape at most 1, a direction at most 2
abbrev pub lawful_config : List ℕ → Bool
lawful_config v = up_to v 0 1 && ((up_to v 1 1 && up_to v 2 2) && (up_to v 15 1 && up_to v 16 1))

pub record TagRow : Type 0 where
  pub size : ℕ
  pub lawful : List ℕ → Bool
  pub field : List ℕ → Field

abbrev row : ℕ → (List ℕ → Bool) → (List ℕ → Field) → TagRow
row n l f = record { size = n; lawful = l; field = f }

abbrev any : List ℕ → Bool
any v = true

-- one line a tag; an unknown one is refused before its row is asked
abbrev pub row_of : Kind → TagRow
row_of K.Unknown = row 0 any (λ v. F.Reset)
row_of K.Rate = row 4 any (λ v. F.Rate (f32_at v 0))
row_of K.Configure = row 37 lawful_config (λ v. F.Configure (config_of v))
row_of K.Source = row 11 (λ v. up_to v 10 1) (λ v. F.Source (be16 v 0) (f32_at v 2) (f32_at v 6) (flag_at v 10))
row_of K.Retire = row 2 any (λ v. F.Retire (be16 v 0))
row_of K.Release = row 2 any (λ v. F.Release (be16 v 0))
row_of K.Trigger = row 2 any (λ v. F.Trigger (be16 v 0))
row_of K.Seek = row 8 any (λ v. F.Seek (f64_at v 0))
row_of K.Advance = row 4 any (λ v. F.Advance (be32 v 0))
row_of K.Frame = row 8 any (λ v. F.Frame (f32_at v 0) (f32_at v 4))
row_of K.NoteInput = row 1 (λ v. up_to v 0 1) (λ v. F.NoteInput (flag_at v 0))
row_of K.Reset = row 0 any (λ v. F.Reset)
row_of K.Reserve = row 0 any (λ v. F.Reserve)
row_of K.ReservedTrigger = row 10 any (λ v. F.ReservedTrigger (be16 v 0) (be64 v 2))

abbrev pub length_of : Kind → ℕ
length_of k = (row_of k).size

abbrev pub lawful : Kind → List ℕ → Bool
lawful k v = (row_of k).lawful v

abbrev pub field_of : Kind → List ℕ → Field
field_of k v = (row_of k).field v
