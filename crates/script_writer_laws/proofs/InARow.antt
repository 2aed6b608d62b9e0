-- Events that are written one behind the other, where there is room for all, are the bytes of the list.
use Prim.Native.Nat.{ℕ, ◌+◌, ◌≤◌}
use mathlib.Core.Path.{◌≡◌, refl}
use mathlib.Core.List.{List, [], ◌∷◌}
use native.Mathlib.Omega.{arith}
use lib.ListN.{length, length-append}
use borrow.Author.Tests.{le-leb}
use Rattle.text.specs.Put.{Put, splice, place_of, buffer_of}
use Rattle.text.proofs.Laws.{piece, seq, nothing}
use Rattle.script.specs.declared.fields.Field.{Field}
use Rattle.script_writer.specs.Encoded.{encoded, encoded_all}
use Rattle.script_writer.specs.Written.{written_of}
use Rattle.script_writer_laws.specs.InARow.{count_after, bytes_after}

-- where an event fits, the count is the place after it
count-is : (o : List ℕ) (at : ℕ) (w : List ℕ) → at + length w ≤ length o → ((written_of (length o) at w).0 ≡ place_of o at w) × ((written_of (length o) at w).0 ≡ at + length w)
unfolding written_of place_of
count-is o at w h = (rw (le-leb _ _ h), rw (le-leb _ _ h))

put_all : (es : List Field) (o : List ℕ) (at : ℕ) → at + length (encoded_all es) ≤ length o → Put o (bytes_after o at es) at (count_after o at es) (encoded_all es)
unfolding count_after bytes_after
put_all [] o at h = nothing o at
put_all (f ∷ fs) o at h =
    let n = length-append (encoded f) (encoded_all fs) in
    let k = count-is o at (encoded f) (omega arith) in
    let one : Put o (buffer_of o at (encoded f)) at (written_of (length o) at (encoded f)).0 (encoded f) = piece (k.0, refl) in
    let same = one.same in
    let next = k.1 in
    seq one (put_all fs (buffer_of o at (encoded f)) (written_of (length o) at (encoded f)).0 (omega arith))

pub in_a_row : (es : List Field) (o : List ℕ) (at : ℕ) → at + length (encoded_all es) ≤ length o
    → (count_after o at es ≡ at + length (encoded_all es)) × (bytes_after o at es ≡ splice o at (encoded_all es))
in_a_row es o at h = (put_all es o at h).fits h
