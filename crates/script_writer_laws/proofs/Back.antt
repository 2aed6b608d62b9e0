-- One event that was written is read back, whatever stands behind it.
use Rattle.std.specs.Prelude.{Some, Ok}
use Prim.Native.Nat.{ℕ, ◌+◌, ◌*◌, ◌/◌, ◌%◌, ◌≤◌}
use mathlib.Core.Path.{◌≡◌, refl, ap, ◌∙◌}
use mathlib.Core.Bool.{Bool, true, false}
use mathlib.Core.List.{List, ◌++◌}
use native.Mathlib.Omega.{arith}
use lib.Dec.{eqb, leb}
use lib.ListN.{length}
use lib.Ieee.{Float, binary32, binary64, to_bits, of_bits}
use lib.Ieee.Bits.{of_bits-to_bits}
use borrow.Author.Tests.{le-leb}
use Rattle.floats.specs.Names.{Single, Double}
use Rattle.settings.specs.declared.Config.{Config}
use Rattle.settings.specs.declared.Shape.{Shape}
use Rattle.settings.specs.declared.Shape.TheVariants.{Sprinkle, Cloud}
use Rattle.settings.specs.declared.Direction.{Direction}
use Rattle.settings.specs.declared.Direction.TheVariants.{Forward, Reverse, Alternate}
use Rattle.big_endian.specs.Numbers.{be32, be64}
use Rattle.script.specs.Table.{config_of, lawful_config}
use Rattle.script.specs.declared.fields.Field.{Field}
use Rattle.script.specs.declared.fields.Field.TheVariants as F
use Rattle.script.specs.Field.{read_of, misplaced, unknown}
use Rattle.script.proofs.Whole.{Whole, taken-whole}
use Rattle.big_endian.specs.Bytes.{flag_of}
use Rattle.settings.specs.ByNumber.{shape_number, direction_number, shape_from, direction_from}
use Rattle.script_writer.specs.Encoded.{encoded, config_bytes, held32}
use Rattle.script_writer_laws.specs.Events.{Writable, WritableConfig, is_rate}

-- ---- numbers
halves16 : (n : ℕ) → n / 256 * 256 + n % 256 ≡ n
halves16 n = omega arith

-- four bytes as the reader puts them together
abbrev joined32 : ℕ → ℕ
joined32 n = (n / 65536 / 256 * 256 + n / 65536 % 256) * 65536 + (n % 65536 / 256 * 256 + n % 65536 % 256)

halves32 : (n : ℕ) → joined32 n ≡ n
halves32 n = omega arith

halves64 : (n : ℕ) → joined32 (n / 4294967296) * 4294967296 + joined32 (n % 4294967296) ≡ n
halves64 n = rw (halves32 (n / 4294967296), halves32 (n % 4294967296)) (omega arith)

single-back : (x : Float) → Single x → of_bits binary32 (joined32 (to_bits binary32 x)) ≡ x
single-back x h = rw (halves32 (to_bits binary32 x)) (of_bits-to_bits binary32 x h)

double-back : (x : Float) → Double x → of_bits binary64 (joined32 (to_bits binary64 x / 4294967296) * 4294967296 + joined32 (to_bits binary64 x % 4294967296)) ≡ x
double-back x h = rw (halves64 (to_bits binary64 x)) (of_bits-to_bits binary64 x h)

held_back : (n : ℕ) → n ≤ 4294967295 → joined32 (held32 n) ≡ n
unfolding held32
held_back n h = halves32 (held32 n) ∙ rw (le-leb n 4294967295 h)

flag-back : (b : Bool) → eqb (flag_of b) 1 ≡ b
flag-back true = refl
flag-back false = refl

flag-lawful : (b : Bool) → leb (flag_of b) 1 ≡ true
flag-lawful true = refl
flag-lawful false = refl

shape-back : (s : Shape) → shape_from (shape_number s) ≡ s
shape-back Sprinkle = refl
shape-back Cloud = refl

shape-lawful : (s : Shape) → leb (shape_number s) 1 ≡ true
shape-lawful Sprinkle = refl
shape-lawful Cloud = refl

direction-back : (d : Direction) → direction_from (direction_number d) ≡ d
direction-back Forward = refl
direction-back Reverse = refl
direction-back Alternate = refl

direction-lawful : (d : Direction) → leb (direction_number d) 2 ≡ true
direction-lawful Forward = refl
direction-lawful Reverse = refl
direction-lawful Alternate = refl

-- ---- settings
config-back : (c : Config) (t : List ℕ) → WritableConfig c → config_of (config_bytes c ++ t) ≡ c
unfolding config_bytes be32
config-back c t h =
    λ i. record {
      enabled = flag-back c.enabled i;
      shape = shape-back c.shape i;
      direction = direction-back c.direction i;
      rate_hz = single-back c.rate_hz h.rate i;
      size_octaves = single-back c.size_octaves h.size i;
      phase = single-back c.phase h.phase i;
      scheduled = flag-back c.scheduled i;
      sync = flag-back c.sync i;
      hop_samples = held_back c.hop_samples h.hop i;
      partials = held_back c.partials h.partials i;
      partial_rolloff_db = single-back c.partial_rolloff_db h.rolloff i;
      attack_ms = single-back c.attack_ms h.attack i;
      release_ms = single-back c.release_ms h.release i;
    }

config-lawful : (c : Config) (t : List ℕ) → lawful_config (config_bytes c ++ t) ≡ true
unfolding config_bytes
config-lawful c t =
    rw (flag-lawful c.enabled, shape-lawful c.shape, direction-lawful c.direction, flag-lawful c.scheduled, flag-lawful c.sync)

-- ---- an event
whole_back : (f : Field) (t : List ℕ) → Writable f → Whole (encoded f ++ t) (is_rate f) f (length (encoded f))
unfolding encoded config_bytes misplaced unknown be32 be64
whole_back (F.Rate x) t h =
    record { long = omega arith; in_place = refl; known = refl; said = refl; fits = omega arith; good = refl; is = ap F.Rate (single-back x h); takes = refl }
whole_back (F.Configure c) t h =
    record { long = omega arith; in_place = refl; known = refl; said = refl; fits = omega arith; good = config-lawful c t; is = ap F.Configure (config-back c t h); takes = refl }
whole_back (F.Source slot frequency strength eligible) t h =
    record {
      long = omega arith;
      in_place = refl;
      known = refl;
      said = refl;
      fits = omega arith;
      good = flag-lawful eligible;
      is = λ i. F.Source (halves16 slot i) (single-back frequency h.0 i) (single-back strength h.1 i) (flag-back eligible i);
      takes = refl;
    }
whole_back (F.Retire slot) t h =
    record { long = omega arith; in_place = refl; known = refl; said = refl; fits = omega arith; good = refl; is = ap F.Retire (halves16 slot); takes = refl }
whole_back (F.Release slot) t h =
    record { long = omega arith; in_place = refl; known = refl; said = refl; fits = omega arith; good = refl; is = ap F.Release (halves16 slot); takes = refl }
whole_back (F.Trigger slot) t h =
    record { long = omega arith; in_place = refl; known = refl; said = refl; fits = omega arith; good = refl; is = ap F.Trigger (halves16 slot); takes = refl }
whole_back (F.Seek cycles) t h =
    record { long = omega arith; in_place = refl; known = refl; said = refl; fits = omega arith; good = refl; is = ap F.Seek (double-back cycles h); takes = refl }
whole_back (F.Advance samples) t h =
    record { long = omega arith; in_place = refl; known = refl; said = refl; fits = omega arith; good = refl; is = ap F.Advance (halves32 samples); takes = refl }
whole_back (F.Frame bin seconds) t h =
    record {
      long = omega arith;
      in_place = refl;
      known = refl;
      said = refl;
      fits = omega arith;
      good = refl;
      is = λ i. F.Frame (single-back bin h.0 i) (single-back seconds h.1 i);
      takes = refl;
    }
whole_back (F.NoteInput present) t h =
    record { long = omega arith; in_place = refl; known = refl; said = refl; fits = omega arith; good = flag-lawful present; is = ap F.NoteInput (flag-back present); takes = refl }
whole_back F.Reset t h =
    record { long = omega arith; in_place = refl; known = refl; said = refl; fits = omega arith; good = refl; is = refl; takes = refl }
whole_back F.Reserve t h =
    record { long = omega arith; in_place = refl; known = refl; said = refl; fits = omega arith; good = refl; is = refl; takes = refl }
whole_back (F.ReservedTrigger slot index) t h =
    record {
      long = omega arith;
      in_place = refl;
      known = refl;
      said = refl;
      fits = omega arith;
      good = refl;
      is = λ i. F.ReservedTrigger (halves16 slot i) (halves64 index i);
      takes = refl;
    }

pub field_back : (f : Field) (t : List ℕ) (first : Bool) → Writable f → is_rate f ≡ first → read_of (encoded f ++ t) first ≡ Ok (Some (f, (length (encoded f))))
field_back f t first h e = rw (← e) (taken-whole (whole_back f t h))
