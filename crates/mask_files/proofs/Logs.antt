-- The logarithms of a script's bins are lawful: its rate is.
use Rattle.std.proofs.Common.{◌≡◌, ℕ, ◌-◌, ◌≤◌, true, T, eqb, ltb, leb, List, length, get_or, drop, sym, refl, ap, ◌∙◌, subst, arith, le-ltb, eq-eqb}
use lib.Ieee.{Float, binary32, fits, of_bits, of_fields, odd, le, lt, eq}
use lib.Ieee.Bits.{of_bits-fits}
use Rattle.sequences.specs.Pick.{by-case, picked, passed}
use Rattle.sequences.specs.Table.{length_table}
use Rattle.floats.specs.Names.{div32, as_float}
use Rattle.refusals.specs.Numbers.{Answer}
use Rattle.settings.specs.Settings.{lawful_rate}
use Rattle.script.specs.declared.tags.Kind.{Kind}
use Rattle.script.specs.declared.tags.Kind.TheVariants as K
use Rattle.big_endian.specs.Numbers.{be16, be32, f32_at}
use Rattle.script.specs.Table.{kind_of, lawful, length_of, field_of}
use Rattle.script.specs.Field.{body_of, misplaced, unknown, read_of}
use Rattle.mask_gains.specs.Bins.{log_at, logs_of, bin_table_of}
use Rattle.mask_gains.specs.Logs.{lawful_logs}
use Rattle.mask_laws.proofs.Prepared.{prepared-lawful}
use Rattle.mask_files.specs.Masks.{standard, rate_in, rate_by, script_rate, bins_of, logs_for}

-- a lawful rate of 32 bits
pub record Rate (x : Float) : Type 0 where
  pub single : T (fits binary32 x)
  pub lawful : lawful_rate x ≡ true

standard-lawful : lawful_rate standard ≡ true
unfolding lawful_rate le lt eq of_bits of_fields odd
standard-lawful = refl

standard-rate : Rate standard
standard-rate = record { single = of_bits-fits binary32 0x473b8000; lawful = standard-lawful }

by_field : (k : Kind) (v : List ℕ) → Rate (rate_in (field_of k v))
by_field K.Unknown v = standard-rate
by_field K.Rate v =
    let x = f32_at v 0 in
    by-case (lawful_rate x) (λ y. subst Rate (picked (lawful_rate x) x standard y) (record { single = of_bits-fits binary32 (be32 v 0); lawful = y }))
    (λ y. subst Rate (passed (lawful_rate x) x standard y) standard-rate)
by_field K.Configure v = standard-rate
by_field K.Source v = standard-rate
by_field K.Retire v = standard-rate
by_field K.Release v = standard-rate
by_field K.Trigger v = standard-rate
by_field K.Seek v = standard-rate
by_field K.Advance v = standard-rate
by_field K.Frame v = standard-rate
by_field K.NoteInput v = standard-rate
by_field K.Reset v = standard-rate
by_field K.Reserve v = standard-rate
by_field K.ReservedTrigger v = standard-rate

by_body : (k : Kind) (s : List ℕ) → Rate (rate_by (body_of k s))
unfolding body_of
by_body k s =
    by-case (eqb (be16 s 1) (length_of k))
    (λ y. by-case (leb (length_of k) (length s - 3))
    (λ cut. by-case (lawful k (drop 3 s)) (λ z. rw (y, cut, z) (by_field k (drop 3 s))) (λ z. rw (y, cut, z) standard-rate))
    (λ cut. rw (y, cut) standard-rate))
    (λ y. rw y standard-rate)

pub script-rate : (s : List ℕ) → Rate (script_rate s)
unfolding script_rate read_of
script-rate s =
    by-case (eqb (length s) 0)
    (λ y. rw y standard-rate)
    (λ y. by-case (ltb (length s) 3)
    (λ z. rw (y, z) standard-rate)
    (λ z. by-case (misplaced (get_or s 0 0) true)
    (λ p. rw (y, z, p) standard-rate)
    (λ p. by-case (unknown (get_or s 0 0))
    (λ t. rw (y, z, p, t) standard-rate)
    (λ t. rw (y, z, p, t) (by_body (kind_of (get_or s 0 0)) s)))))

module _ (script : List ℕ) (size : ℕ) (some : 1 ≤ size) (most : size ≤ 16384) where
  pub logs_lawful : lawful_logs (logs_for script size) ≡ true
  unfolding logs_for
  logs_lawful = prepared-lawful (script_rate script) (script-rate script).single (script-rate script).lawful size some most (bins_of size) (omega arith)

  pub logs_count : length (logs_for script size) ≡ bins_of size
  unfolding logs_for logs_of
  logs_count = length_table (bins_of size) (log_at (div32 (script_rate script) (as_float size)))

  -- what `prepare` leaves in as many places
  pub prepared-is : (old new : List Float) (a : Answer) → length old ≡ bins_of size → (a, new) ≡ bin_table_of (script_rate script) size old → new ≡ logs_for script size
  unfolding bin_table_of logs_for
  prepared-is old new a n e =
      ap (λ (x : Answer × List Float). x.1)
      (e ∙ sym (picked _ _ _ (script-rate script).lawful) ∙ sym (passed _ _ _ (le-ltb _ _ some)) ∙ sym (passed _ _ _ (le-ltb _ _ most)) ∙ sym (picked _ _ _ (eq-eqb _ _ n)))
      ∙ ap (logs_of (div32 (script_rate script) (as_float size))) n
