-- What is seen of a record, from what the call on it and `told` answer.
use Rattle.std.proofs.Common.{◌≡◌, ℕ, List, ap, ◌∙◌}
use lib.Ieee.{Float}
use Rattle.mask_records.specs.Placed.{Written}
use Rattle.mask_records.specs.Found.{Read}
use Rattle.oracle_probe.specs.Records.{told_place, told_record, told_numbers, found_of}

pub written_told : (at : ℕ) {written : Written} {scratch : List Float} {out : List ℕ} {all : Written × List Float × List ℕ} {number after : ℕ}
    → (written, scratch, out) ≡ all → (number, after) ≡ told_place at written → (number, after, scratch, out) ≡ told_record at all
written_told at {scratch} {out} e told = (λ i. ((told i).0, (told i).1, scratch, out)) ∙ ap (told_record at) e

pub read_told : (sample count taken : ℕ) {read : Read} {entries : List ℕ} {all : Read × List ℕ} {number s n b : ℕ}
    → (read, entries) ≡ all → (number, s, n, b) ≡ told_numbers sample count taken read → (number, s, n, b, entries) ≡ found_of sample count taken all
read_told sample count taken {entries} e told =
    (λ i. ((told i).0, (told i).1, (told i).2, (told i).3, entries)) ∙ ap (found_of sample count taken) e
