-- A file of records is read back, record after record.
use Rattle.std.specs.Prelude.{None, Ok}
use Prim.Native.Nat.{ℕ}
use mathlib.Core.Path.{◌≡◌, refl, sym, ◌∙◌, subst}
use mathlib.Core.List.{List, [], ◌∷◌}
use borrow.Author.Tests.{le-leb}
use lib.ListN.{length, drop}
use lib.Seq.{drop_at}
use Rattle.sequences.specs.Every.{Every}
use Rattle.sequences.specs.Pick.{picked, took}
use Rattle.mask_records.specs.Bytes.{record_of, file_of}
use Rattle.mask_records.specs.Placed.{record_size}
use Rattle.mask_records.specs.Found.{record_read}
use Rattle.mask_records.proofs.Pairs.{record_length}
use Rattle.mask_laws.specs.Files.{Record, WholeRecord, ReadsAs}
use Rattle.mask_laws.proofs.ReadBack.{read_back}

no_bytes : (lent : List ℕ) → record_read [] lent ≡ (Ok None, lent)
unfolding record_read
no_bytes lent = sym (took _ _ _ _ refl refl)

behind_it : (r : Record) (rs : List Record) → drop (record_size (length r.1)) (file_of (r ∷ rs)) ≡ file_of rs
unfolding file_of
behind_it r rs = drop_at (record_of r.0 r.1) (file_of rs) (record_size (length r.1)) (record_length r.0 r.1)

pub file_back : (rs : List Record) → Every WholeRecord rs → ReadsAs (file_of rs) rs
unfolding file_of
file_back [] w = no_bytes
file_back (r ∷ rs) w = (
  λ lent h. read_back r.0 r.1 (file_of rs) w.0.0 w.0.1 w.0.2 lent ∙ sym (picked _ _ _ (le-leb _ _ h)),
  subst (λ (s : List ℕ). ReadsAs s rs) (sym (behind_it r rs)) (file_back rs w.1),
)
