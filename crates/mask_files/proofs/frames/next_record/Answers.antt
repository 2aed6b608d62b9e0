-- `next_record` meets its contract: the next frame's record, or the last line.
use Rattle.std.proofs.Common.{refl, arith}
use Rattle.listing.specs.declared.lines.Line.TheVariants as L
use Rattle.mask_files.proofs.Steps.{reach-fits}
use Rattle.mask_files.proofs.Ways.{frame_step, last_step}
use Rattle.mask_files.proofs.frames.next_record.Goals as goal

pub behind-next-requires : goal.behind-next-requires
behind-next-requires c =
    let a = c.args in
    let f = c.next_frame-reached in
    let s = a.script.now in
    let eq = f.ensures in
    omega (arith, reach-fits a.walk s f.result eq, c.well_formed.1.0)

pub returns-in-Frame : goal.returns-in-Frame
returns-in-Frame c =
    let a = c.args in
    let f = c.next_frame-reached in
    let s = a.script.now in
    let eq = f.ensures in
    let after = c.behind-next.ensures in
    let w = c.write_record-written in
    frame_step a.walk s a.depth_db a.logs.now a.scratch.now a.out.now a.at f.result eq _ after _ _ w.result w.new.scratch w.new.out _ c.in-Frame.is w.ensures c.made.ensures

pub returns-in-Nothing : goal.returns-in-Nothing
returns-in-Nothing c =
    let a = c.args in
    let f = c.next_frame-reached in
    let s = a.script.now in
    let eq = f.ensures in
    let after = c.behind-next.ensures in
    last_step a.walk s a.depth_db a.logs.now a.scratch.now a.out.now a.at f.result eq _ after L.Nothing c.in-Nothing.is refl

pub returns-in-Refused : goal.returns-in-Refused
returns-in-Refused c =
    let a = c.args in
    let f = c.next_frame-reached in
    let s = a.script.now in
    let eq = f.ensures in
    let after = c.behind-next.ensures in
    last_step a.walk s a.depth_db a.logs.now a.scratch.now a.out.now a.at f.result eq _ after (L.Refused _ _) c.in-Refused.is refl

pub returns-in-Bad : goal.returns-in-Bad
returns-in-Bad c =
    let a = c.args in
    let f = c.next_frame-reached in
    let s = a.script.now in
    let eq = f.ensures in
    let after = c.behind-next.ensures in
    last_step a.walk s a.depth_db a.logs.now a.scratch.now a.out.now a.at f.result eq _ after (L.Bad _ _ _) c.in-Bad.is refl

pub returns-in-End : goal.returns-in-End
returns-in-End c =
    let a = c.args in
    let f = c.next_frame-reached in
    let s = a.script.now in
    let eq = f.ensures in
    let after = c.behind-next.ensures in
    last_step a.walk s a.depth_db a.logs.now a.scratch.now a.out.now a.at f.result eq _ after (L.End _) c.in-End.is refl
