-- Order 5's promise holds.
use Rattle.promises.specs.MaskFiles.{MaskFiles}
use Rattle.mask_records.proofs.Nearest.{tenths-is, tenth_only, tenths_most}
use Rattle.mask_records.proofs.Ruled.{entries-long, entry_rule, entry-only, first_entry, last_entry, never_rises}
use Rattle.mask_records.specs.Decibels.{entry_of}
use Rattle.mask_records.specs.Tenths.{held, tenths_of}
use Rattle.mask_laws.proofs.Files.{file_back}
use Rattle.mask_laws.proofs.Frames.{entries-count, entry-own, entries-known, ones_everywhere, written_back}
use Rattle.mask_laws.proofs.WriteBack.{written_again}
use Rattle.promises.proofs.ScriptFiles.{script_file}

pub mask_files_lem : MaskFiles
mask_files_lem =
    record {
      table_count = entries-long;
      table_rule = entry_rule;
      table_only = λ n e h r. entry-only n e (entry_of n) r (entry_rule n h);
      table_starts = first_entry;
      table_ends = last_entry;
      table_falls = never_rises;
      nearest_tenth = tenths-is;
      nearest_only = λ a n h t. tenth_only (held a) n (tenths_of a) t (tenths-is a h);
      tenths_most = tenths_most;
      one_a_bin = entries-count;
      own_entry = entry-own;
      in_the_table = entries-known;
      ones = ones_everywhere;
      read_back = written_back;
      file_back = file_back;
      written_again = written_again;
      script_file = script_file;
    }
