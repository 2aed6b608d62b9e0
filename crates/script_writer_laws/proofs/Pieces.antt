-- A field that was read, written again, is its bytes: the tag, the length, and the value piece by piece.
use Prim.Native.Nat.{ℕ, ◌≤◌}
use mathlib.Core.Path.{◌≡◌, refl, sym, ap}
use mathlib.Core.Bool.{Bool, true, false, ◌&&◌, true≢false}
use mathlib.Core.List.{List, ◌∷◌}
use native.Mathlib.Omega.{arith}
use lib.ListN.{length, take}
use Rattle.sequences.specs.Every.{Every}
use Rattle.big_endian.specs.Numbers.{up_to}
use Rattle.script.specs.Table.{config_of, lawful_config, length_of, lawful, field_of}
use Rattle.script.specs.declared.tags.Kind.{Kind}
use Rattle.script.specs.declared.tags.Kind.TheVariants as K
use Rattle.script_writer.specs.Encoded.{encoded, config_bytes}
use Rattle.script_writer_laws.specs.Events.{ConfigNans, Nans, Byte}
use Rattle.script_writer_laws.proofs.Spelled.{behind, bytes16_again, bytes32_again, bytes64_again, held_again, single_again, double_again, flag_again, shape_again, direction_again}

-- the number of each kind's tag
abbrev pub tag_of : Kind → ℕ
tag_of K.Unknown = 0
tag_of K.Rate = 1
tag_of K.Configure = 2
tag_of K.Source = 3
tag_of K.Retire = 4
tag_of K.Release = 5
tag_of K.Trigger = 6
tag_of K.Seek = 7
tag_of K.Advance = 8
tag_of K.Frame = 9
tag_of K.NoteInput = 10
tag_of K.Reset = 11
tag_of K.Reserve = 12
tag_of K.ReservedTrigger = 13

-- ---- settings
both : (a b : Bool) → (a && b) ≡ true → (a ≡ true) × (b ≡ true)
both true b e = (refl, e)
both false b e = absurd (true≢false (sym e))

pub record Lawful (v : List ℕ) : Type 0 where
  pub enabled : up_to v 0 1 ≡ true
  pub shape : up_to v 1 1 ≡ true
  pub direction : up_to v 2 2 ≡ true
  pub scheduled : up_to v 15 1 ≡ true
  pub sync : up_to v 16 1 ≡ true

lawful-parts : (v : List ℕ) → lawful_config v ≡ true → Lawful v
lawful-parts v e =
    let a = both (up_to v 0 1) ((up_to v 1 1 && up_to v 2 2) && (up_to v 15 1 && up_to v 16 1)) e in
    let b = both (up_to v 1 1 && up_to v 2 2) (up_to v 15 1 && up_to v 16 1) a.1 in
    let k = both (up_to v 1 1) (up_to v 2 2) b.0 in
    let f = both (up_to v 15 1) (up_to v 16 1) b.1 in
    record { enabled = a.0; shape = k.0; direction = k.1; scheduled = f.0; sync = f.1 }

module _ (v : List ℕ) (bytes : Every Byte v) where
  config_again : 37 ≤ length v → Lawful v → ConfigNans v → config_bytes (config_of v) ≡ take 37 v
  unfolding config_bytes
  config_again h l c =
      behind v bytes 1 36 0 (flag_again v bytes 0 (omega arith) l.enabled)
      (behind v bytes 1 35 1 (shape_again v bytes 1 (omega arith) l.shape)
      (behind v bytes 1 34 2 (direction_again v bytes 2 (omega arith) l.direction)
      (behind v bytes 4 30 3 (single_again v bytes 3 (omega arith) c.rate)
      (behind v bytes 4 26 7 (single_again v bytes 7 (omega arith) c.size)
      (behind v bytes 4 22 11 (single_again v bytes 11 (omega arith) c.phase)
      (behind v bytes 1 21 15 (flag_again v bytes 15 (omega arith) l.scheduled)
      (behind v bytes 1 20 16 (flag_again v bytes 16 (omega arith) l.sync)
      (behind v bytes 4 16 17 (held_again v bytes 17 (omega arith))
      (behind v bytes 4 12 21 (held_again v bytes 21 (omega arith))
      (behind v bytes 4 8 25 (single_again v bytes 25 (omega arith) c.rolloff)
      (behind v bytes 4 4 29 (single_again v bytes 29 (omega arith) c.attack) (single_again v bytes 33 (omega arith) c.release))))))))))))

  -- ---- an event
  headed : (tag n : ℕ) {w u : List ℕ} → w ≡ u → tag ∷ 0 ∷ n ∷ w ≡ tag ∷ 0 ∷ n ∷ u
  headed tag n e = ap (λ (l : List ℕ). tag ∷ 0 ∷ n ∷ l) e

  pub event_again : (k : Kind) → (k ≡ K.Unknown → ⊥) → length_of k ≤ length v → lawful k v ≡ true → Nans (field_of k v) v
      → encoded (field_of k v) ≡ tag_of k ∷ 0 ∷ length_of k ∷ take (length_of k) v
  unfolding encoded config_bytes
  event_again K.Unknown u h l c = absurd (u refl)
  event_again K.Rate u h l c = headed 1 4 (single_again v bytes 0 h c)
  event_again K.Configure u h l c = headed 2 37 (config_again h (lawful-parts v l) c)
  event_again K.Source u h l c =
      headed 3 11
      (behind v bytes 2 9 0 (bytes16_again v bytes 0 (omega arith))
      (behind v bytes 4 5 2 (single_again v bytes 2 (omega arith) c.0) (behind v bytes 4 1 6 (single_again v bytes 6 (omega arith) c.1) (flag_again v bytes 10 h l))))
  event_again K.Retire u h l c = headed 4 2 (bytes16_again v bytes 0 h)
  event_again K.Release u h l c = headed 5 2 (bytes16_again v bytes 0 h)
  event_again K.Trigger u h l c = headed 6 2 (bytes16_again v bytes 0 h)
  event_again K.Seek u h l c = headed 7 8 (double_again v bytes 0 h c)
  event_again K.Advance u h l c = headed 8 4 (bytes32_again v bytes 0 h)
  event_again K.Frame u h l c = headed 9 8 (behind v bytes 4 4 0 (single_again v bytes 0 (omega arith) c.0) (single_again v bytes 4 h c.1))
  event_again K.NoteInput u h l c = headed 10 1 (flag_again v bytes 0 h l)
  event_again K.Reset u h l c = refl
  event_again K.Reserve u h l c = refl
  event_again K.ReservedTrigger u h l c = headed 13 10 (behind v bytes 2 8 0 (bytes16_again v bytes 0 (omega arith)) (bytes64_again v bytes 2 h))
