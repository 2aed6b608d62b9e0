-- A script that is read to its end has the record of each accepted frame, one behind the other.
use Rattle.std.proofs.Common.{◌≡◌, ℕ, List, [], ◌∷◌, ◌++◌, sym, refl, ap, ◌∙◌, Ok, Err}
use lib.Ieee.{Float}
use Rattle.sequences.specs.Pick.{by-case, picked, passed}
use Rattle.refusals.specs.Numbers.{Answer}
use Rattle.refusals.specs.declared.Refusal.TheVariants.{Attenuation}
use Rattle.windows.specs.declared.Frame.{Frame}
use Rattle.listing.specs.declared.lines.Line.{Line}
use Rattle.listing.specs.declared.lines.Line.TheVariants as L
use Rattle.listing.specs.declared.turns.Turn.{Turn}
use Rattle.mask_records.specs.Bytes.{record_of, file_of}
use Rattle.mask_records.specs.Written.{entries_of}
use Rattle.mask_laws.specs.Files.{Record}
use Rattle.mask_files.specs.Records.{all_numbers, filed_by, filed_of, record_by, records_in}
use Rattle.mask_gains.proofs.Shaped.{apart}

module _ (depth : Float) (logs : List Float) where
  by_line : (f : Frame) (l : Line) (rest : List ℕ × Answer) (rs : List Record) → (rest.1 ≡ Ok tt → rest.0 ≡ file_of rs)
      → (filed_by depth logs f l rest).1 ≡ Ok tt → (filed_by depth logs f l rest).0 ≡ file_of (record_by depth logs f l rs)
  unfolding file_of
  by_line f L.Nothing rest rs h e = h e
  by_line f (L.Frame n v) rest rs h e =
      let entry = record_of v.sample (entries_of f depth logs) in
      by-case (all_numbers f depth logs)
      (λ y.
      let is = sym (picked (all_numbers f depth logs) (entry ++ rest.0, rest.1) ([], Err Attenuation) y) in
      ap (λ (x : List ℕ × Answer). x.0) is ∙ ap (λ (x : List ℕ). entry ++ x) (h (sym (ap (λ (x : List ℕ × Answer). x.1) is) ∙ e)))
      (λ y.
      let is = sym (passed (all_numbers f depth logs) (entry ++ rest.0, rest.1) ([], Err Attenuation) y) in
      absurd (apart Attenuation (sym e ∙ ap (λ (x : List ℕ × Answer). x.1) is)))
  by_line f (L.Refused n r) rest rs h e = h e
  by_line f (L.Bad n r p) rest rs h e = absurd (apart r (sym e))
  by_line f (L.End n) rest rs h e = h e

  pub filed_records : (ts : List Turn) → (filed_of depth logs ts).1 ≡ Ok tt → (filed_of depth logs ts).0 ≡ file_of (records_in depth logs ts)
  unfolding filed_of records_in file_of
  filed_records [] e = refl
  filed_records (t ∷ ts) e = by_line t.run.frame t.line (filed_of depth logs ts) (records_in depth logs ts) (filed_records ts) e
