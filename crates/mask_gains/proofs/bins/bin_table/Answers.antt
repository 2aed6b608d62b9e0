-- `bin_table` meets its contract: a test for each refusal, in 01's order.
use mathlib.Core.Path.{refl, sym, ◌∙◌}
use borrow.Author.Tests.{lt-ltb, le-ltb, eq-eqb, ne_eqb}
use Rattle.sequences.specs.Pick.{took, skipped}
use Rattle.mask_gains.specs.Bins.{bin_table_of}
use Rattle.mask_gains.proofs.bins.bin_table.Goals as goal

pub returns-then-fft_size-lt1 : goal.returns-then-fft_size-lt1
unfolding bin_table_of
returns-then-fft_size-lt1 c = took _ _ _ _ (sym c.lawful_rate.ensures ∙ c.if-lawful_rate.true) (took _ _ _ _ (lt-ltb _ _ c.if-fft_size-lt1.true) refl)

pub returns-then-fft_size-gt-MAX_FFT_SIZE : goal.returns-then-fft_size-gt-MAX_FFT_SIZE
unfolding bin_table_of
returns-then-fft_size-gt-MAX_FFT_SIZE c = took _ _ _ _ (sym c.lawful_rate.ensures ∙ c.if-lawful_rate.true) (skipped _ _ _ _ (le-ltb _ _ c.if-fft_size-lt1.false) (took _ _ _ _ (lt-ltb _ _ c.if-fft_size-gt-MAX_FFT_SIZE.true) refl))

pub returns-then-table-fft_size : goal.returns-then-table-fft_size
unfolding bin_table_of
returns-then-table-fft_size c = took _ _ _ _ (sym c.lawful_rate.ensures ∙ c.if-lawful_rate.true) (skipped _ _ _ _ (le-ltb _ _ c.if-fft_size-lt1.false) (skipped _ _ _ _ (le-ltb _ _ c.if-fft_size-gt-MAX_FFT_SIZE.false) (took _ _ _ _ (eq-eqb _ _ c.if-table-fft_size.true) cc)))

pub returns-then-lawful_rate : goal.returns-then-lawful_rate
unfolding bin_table_of
returns-then-lawful_rate c = took _ _ _ _ (sym c.lawful_rate.ensures ∙ c.if-lawful_rate.true) (skipped _ _ _ _ (le-ltb _ _ c.if-fft_size-lt1.false) (skipped _ _ _ _ (le-ltb _ _ c.if-fft_size-gt-MAX_FFT_SIZE.false) (skipped _ _ _ _ (ne_eqb _ _ c.if-table-fft_size.false) refl)))

pub returns : goal.returns
unfolding bin_table_of
returns c = skipped _ _ _ _ (sym c.lawful_rate.ensures ∙ c.if-lawful_rate.false) refl
