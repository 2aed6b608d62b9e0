-- Which end of the file is broken: from the laws of a script's beginning.
use Prim.Native.Nat.{ℕ, ◌<◌}
use native.Mathlib.Omega.{arith}
use mathlib.Core.Path.{◌≡◌, refl, sym, ap, ◌∙◌, subst}
use mathlib.Core.Bool.{false}
use mathlib.Core.Logic.{◌⊎◌, inl, inr}
use mathlib.Core.List.{List, ◌++◌}
use lib.Dec.{eqb}
use lib.ListN.{length}
use borrow.Author.Tests.{eqb-false}
use Rattle.refusals.specs.declared.Refusal.{Refusal}
use Rattle.refusals.specs.declared.Refusal.TheVariants.{Rate, Slot, Size, Elapsed, Lengths, Logs, Seconds, Tag, Value, Place, Script, Room, HeaderCut, WrongLength, ValueCut, Attenuation, Record}
use Rattle.refusals.specs.Numbers.{number_of}
use Rattle.script.specs.Reading.{Reading, Verdict, ended, bad}
use Rattle.script.proofs.Steps.{onward-reads, only}
use Rattle.script.proofs.Beginnings.{wrong_longer, beginning}
use Rattle.promises.specs.Over.{verdict_number}
use Rattle.promises.specs.Stops.{verdict_of}
use Rattle.promises.specs.WhichEnd.{Beginning, WhichEnd}

cut-number : (v : Verdict) → (v ≡ ended) ⊎ (v ≡ bad HeaderCut) ⊎ (v ≡ bad ValueCut) → (verdict_number v ≡ 0) ⊎ (verdict_number v ≡ 14) ⊎ (verdict_number v ≡ 16)
cut-number v (inl e) = inl (ap verdict_number e)
cut-number v (inr (inl e)) = inr (inl (ap verdict_number e))
cut-number v (inr (inr e)) = inr (inr (ap verdict_number e))

cut : (s rest : List ℕ) → verdict_of (s ++ rest) ≡ ended → 0 < length s → Beginning s (s ++ rest)
cut s rest v some =
    let b = beginning (onward-reads 1 0 (s ++ rest)) s rest refl v (omega arith) (λ y. some) in
    let is = only b.reads in
    record {
      later = b.kept;
      fields = sym b.fields ∙ ap (λ (r : Reading). r.fields ++ b.kept) is;
      number = cut-number (verdict_of s) (subst (λ (r : Reading). (r.verdict ≡ ended) ⊎ (r.verdict ≡ bad HeaderCut) ⊎ (r.verdict ≡ bad ValueCut)) is b.ends);
    }

not_nine : (r : Refusal) → eqb (number_of r) 9 ≡ false
not_nine Rate = refl
not_nine Slot = refl
not_nine Size = refl
not_nine Elapsed = refl
not_nine Lengths = refl
not_nine Logs = refl
not_nine Seconds = refl
not_nine Tag = refl
not_nine Value = refl
not_nine Place = refl
not_nine Script = refl
not_nine Room = refl
not_nine HeaderCut = refl
not_nine WrongLength = refl
not_nine ValueCut = refl
not_nine Attenuation = refl
not_nine Record = refl

-- THE PROMISE
pub which_end : WhichEnd
which_end =
    record {
      cut = λ s rest v some. cut s rest v some;
      wrong = λ s rest some r v not-14 not_16.
          sym (only (wrong_longer (onward-reads 1 0 s) (omega arith) (λ y. some) r v (λ e. not-14 (ap number_of e)) (λ e. not_16 (ap number_of e)) rest));
      no_nine = λ r e. eqb-false (number_of r) 9 (not_nine r) e;
    }
