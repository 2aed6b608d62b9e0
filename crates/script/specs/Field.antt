-- What reading one field finds: 01's checks in their order. Definitions only.
use Rattle.std.specs.Prelude.{ℕ, ◌+◌, ◌-◌, Bool, cond, not, ◌||◌, List, length, get_or, drop, eqb, ltb, leb, Option, Some, None, Result, Ok, Err}
use Rattle.refusals.specs.declared.Refusal.{Refusal}
use Rattle.refusals.specs.declared.Refusal.TheVariants.{Tag, Value, Place, HeaderCut, WrongLength, ValueCut}
use Rattle.big_endian.specs.Numbers.{be16}
use Rattle.script.specs.Table.{kind_of, length_of, lawful, field_of}
use Rattle.script.specs.declared.fields.Field.{Field}
use Rattle.script.specs.declared.tags.Kind.{Kind}

-- the field and how many bytes it takes, none at the end, or what is wrong
abbrev pub Read : Type 0
Read = Result (Option (Field × ℕ)) Refusal

-- from the header on, of a known kind: length 15, value cut 16, value 10
unfoldable pub body_of : Kind → List ℕ → Read
body_of k s =
    cond (eqb (be16 s 1) (length_of k))
    (cond (leb (length_of k) (length s - 3))
    (cond (lawful k (drop 3 s)) (Ok (Some (field_of k (drop 3 s), 3 + length_of k))) (Err Value))
    (Err ValueCut))
    (Err WrongLength)

-- the first field is the rate, and no later one is
unfoldable pub misplaced : ℕ → Bool → Bool
misplaced tag first = cond first (not (eqb tag 1)) (eqb tag 1)

-- tags are 1 to 13
unfoldable pub unknown : ℕ → Bool
unknown tag = eqb tag 0 || ltb 13 tag

-- header cut 14, place of rate 11, tag 8, then the body; an empty script has no rate, 11
unfoldable pub read_of : List ℕ → Bool → Read
read_of s first =
    let tag = get_or s 0 0 in
    cond (eqb (length s) 0) (cond first (Err Place) (Ok None))
    (cond (ltb (length s) 3) (Err HeaderCut)
    (cond (misplaced tag first) (Err Place)
    (cond (unknown tag) (Err Tag)
    (body_of (kind_of tag) s))))
