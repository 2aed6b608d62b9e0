-- `file` meets its contract: the bins' logarithms, and then the records.
use Rattle.std.proofs.Common.{◌≡◌, true, List, length, sym, ap, ◌∙◌, subst, arith}
use lib.Ieee.{Float}
use Rattle.mask_gains.specs.Logs.{lawful_logs}
use Rattle.listing.specs.Turns.{turns_of}
use Rattle.mask_files.specs.Records.{filed_of}
use Rattle.mask_files.specs.Masks.{bins_of, logs_for, filed_into}
use Rattle.mask_files.proofs.Logs.{logs_lawful, logs_count, prepared-is}
use Rattle.mask_files.proofs.file.file.Goals as goal

pub place-requires : goal.place-requires
place-requires c =
    let a = c.args in
    let pre = c.requires in
    let p = c.prepare in
    let s = a.script.now in
    let some = pre.sizes_fit.0 in
    let most = pre.sizes_fit.1 in
    let logs = p.new.logs in
    let is : logs ≡ logs_for s a.fft_size = prepared-is s a.fft_size some most a.logs.now logs p.result pre.lengths_agree.0 p.ensures in
    let n : length logs ≡ bins_of a.fft_size = ap length is ∙ logs_count s a.fft_size some most in
    record { script_fits = pre.sizes_fit.2; logs_lawful = (omega (arith, n, some), omega (arith, n, most), subst (λ (x : List Float). lawful_logs x ≡ true) (sym is) (logs_lawful s a.fft_size some most), pre.lengths_agree.1 ∙ sym n); lent_fits = omega (arith, n, most, pre.lengths_agree.2) }

pub returns : goal.returns
returns c =
    let a = c.args in
    let pre = c.requires in
    let p = c.prepare in
    let s = a.script.now in
    let some = pre.sizes_fit.0 in
    let most = pre.sizes_fit.1 in
    let logs = p.new.logs in
    let is : logs ≡ logs_for s a.fft_size = prepared-is s a.fft_size some most a.logs.now logs p.result pre.lengths_agree.0 p.ensures in
    c.place.ensures ∙ ap (λ (x : List Float). filed_into (filed_of a.depth_db x (turns_of s)) a.out.now a.at) is
