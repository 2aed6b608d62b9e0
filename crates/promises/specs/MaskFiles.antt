-- ORDER 5, as it is promised: what the table holds, which entry a bin has, and that what was written is read back.
use Rattle.std.specs.Prelude.{ℕ, ◌+◌, ◌≤◌, ◌<◌, ◌≡◌, true, false, List, ◌++◌, length, get_or, take, drop, Float, Some, Ok}
use Rattle.std.specs.Float.Ieee.{is_nan}
use Rattle.sequences.specs.Every.{Every}
use Rattle.windows.specs.declared.Frame.{Frame}
use Rattle.mask_gains.specs.Gains.{quiet_of}
use Rattle.mask_records.specs.Decibels.{entries, entry_of, is_entry}
use Rattle.mask_records.specs.Rule.{Entry, Tenth}
use Rattle.mask_records.specs.Tenths.{held, tenths_of}
use Rattle.script_writer_laws.specs.Events.{Byte}
use Rattle.mask_records.specs.Bytes.{record_of, file_of}
use Rattle.mask_records.specs.Entries.{attenuation_at}
use Rattle.mask_records.specs.Placed.{record_size}
use Rattle.mask_records.specs.Written.{entries_of, record_written}
use Rattle.mask_records.specs.Found.{record_read, found}
use Rattle.mask_laws.specs.Files.{Record, WholeRecord, ReadsAs}
use Rattle.text.specs.Put.{splice}
use Rattle.mask_files.specs.Masks.{records_of, masks_of}

pub record MaskFiles : Type 0 where
  -- the table has 601 entries, and entry n is the one whole number e with (2e - 1)^200 * 10^n < 65,536^200 < (2e + 1)^200 * 10^n
  pub table_count : length entries ≡ 601
  pub table_rule : (n : ℕ) → n ≤ 600 → Entry n (entry_of n)
  pub table_only : (n e : ℕ) → n ≤ 600 → Entry n e → e ≡ entry_of n
  -- it starts at 32,768, ends at 33 and never rises
  pub table_starts : entry_of 0 ≡ 32768
  pub table_ends : entry_of 600 ≡ 33
  pub table_falls : (i j : ℕ) → i ≤ j → j ≤ 600 → entry_of j ≤ entry_of i
  -- an attenuation a that is a number, held to 0 to 60, is taken to the one n with 2n - 1 <= 20a < 2n + 1, and n is 0 to 600
  pub nearest_tenth : (a : Float) → is_nan a ≡ false → Tenth (held a) (tenths_of a)
  pub nearest_only : (a : Float) (n : ℕ) → is_nan a ≡ false → Tenth (held a) n → n ≡ tenths_of a
  pub tenths_most : (a : Float) → tenths_of a ≤ 600
  -- a frame has an entry a bin, that of the bin's attenuation, and so each is in the table; where the depth or the activity gives the ones each is 32,768
  pub one_a_bin : (f : Frame) (depth : Float) (logs : List Float) → length (entries_of f depth logs) ≡ length logs
  pub own_entry : (f : Frame) (depth : Float) (logs : List Float) (bin : ℕ) → bin < length logs
      → get_or (entries_of f depth logs) bin 0 ≡ entry_of (tenths_of (attenuation_at f depth logs bin))
  pub in_the_table : (f : Frame) (depth : Float) (logs : List Float) (bin : ℕ) → bin < length logs → is_entry (get_or (entries_of f depth logs) bin 0) ≡ true
  pub ones : (f : Frame) (depth : Float) (logs : List Float) → quiet_of depth f.activity ≡ true → (bin : ℕ) → bin < length logs → get_or (entries_of f depth logs) bin 0 ≡ 32768
  -- a frame's record that was written is read back, sample, count and entries, from the place where it begins; what stands behind it does not matter
  pub read_back : (sample : ℕ) (f : Frame) (depth : Float) (logs scratch : List Float) (out : List ℕ) (at p : ℕ) → (record_written sample f depth logs scratch out at).0 ≡ Ok p
      → (lent : List ℕ) → length logs ≤ length lent
      → record_read (drop at (record_written sample f depth logs scratch out at).2) lent ≡ (Ok (Some (found sample (length logs) (record_size (length logs)))), entries_of f depth logs ++ drop (length logs) lent)
  -- a file of records is read back, record after record, to its end
  pub file_back : (rs : List Record) → Every WholeRecord rs → ReadsAs (file_of rs) rs
  -- a record that was read, and is written again entry by entry, has the bytes that were read
  pub written_again : (s : List ℕ) → Every Byte s → (lent : List ℕ) (sample n k : ℕ) → (record_read s lent).0 ≡ Ok (Some (found sample n k)) → record_of sample (take n (record_read s lent).1) ≡ take k s
  -- the mask file of a script: where the call takes it, the records of its accepted frames, each by its sample and its entries, stand in the buffer one behind the other, the rest of it stays, and the reader finds them
  pub script_file : (script : List ℕ) (size : ℕ) (depth : Float) (out : List ℕ) (at p : ℕ) → (masks_of script size depth out at).0 ≡ Ok p
      → let rs = records_of script size depth in
      (p ≡ at + length (file_of rs)) × ((masks_of script size depth out at).1 ≡ splice out at (file_of rs)) × ReadsAs (file_of rs) rs
