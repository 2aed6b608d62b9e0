-- `masks` meets its contract: the size, the script's length, and then the records.
use Rattle.std.proofs.Common.{sym, arith, length-take-le}
use Rattle.mask_files.proofs.Placing.{no_size, large_size, long-script, placed}
use Rattle.mask_files.proofs.file.masks.Goals as goal

pub returns-then-fft_size-lt1 : goal.returns-then-fft_size-lt1
returns-then-fft_size-lt1 c = let a = c.args in no_size a.script.now a.fft_size a.depth_db a.out.now a.at c.if-fft_size-lt1.true

pub returns-then-fft_size-gt-MAX_FFT_SIZE : goal.returns-then-fft_size-gt-MAX_FFT_SIZE
returns-then-fft_size-gt-MAX_FFT_SIZE c = let a = c.args in large_size a.script.now a.fft_size a.depth_db a.out.now a.at c.if-fft_size-lt1.false c.if-fft_size-gt-MAX_FFT_SIZE.true

pub returns-then-script-gt-MAX_SCRIPT_BYTES : goal.returns-then-script-gt-MAX_SCRIPT_BYTES
returns-then-script-gt-MAX_SCRIPT_BYTES c = let a = c.args in long-script a.script.now a.fft_size a.depth_db a.out.now a.at c.if-fft_size-lt1.false c.if-fft_size-gt-MAX_FFT_SIZE.false c.if-script-gt-MAX_SCRIPT_BYTES.true

pub slice_bounds-file-end : goal.slice_bounds-file-end
slice_bounds-file-end c = sym (length-take-le _ _ (omega (arith, c.bins-logs.ensures, c.if-fft_size-gt-MAX_FFT_SIZE.false)))

pub slice_bounds-file-end-2 : goal.slice_bounds-file-end-2
slice_bounds-file-end-2 c = sym (length-take-le _ _ (omega (arith, c.bins-scratch.ensures, c.if-fft_size-gt-MAX_FFT_SIZE.false)))

pub file-requires : goal.file-requires
file-requires c =
    let one = c.bins-logs.ensures in
    let two = c.bins-scratch.ensures in
    let most = c.if-fft_size-gt-MAX_FFT_SIZE.false in
    record { sizes_fit = (c.if-fft_size-lt1.false, most, c.if-script-gt-MAX_SCRIPT_BYTES.false); lengths_agree = (length-take-le _ _ (omega (arith, one, most)), length-take-le _ _ (omega (arith, two, most)), c.longest_record-lent.ensures) }

pub returns : goal.returns
returns c = let a = c.args in placed a.script.now a.fft_size a.depth_db a.out.now a.at c.if-fft_size-lt1.false c.if-fft_size-gt-MAX_FFT_SIZE.false c.if-script-gt-MAX_SCRIPT_BYTES.false _ c.file.ensures
