use Rattle.std.proofs.Common.{◌≡◌, ℕ, ◌<◌, List, drop, take, sym, ◌∙◌, ap, arith}
use Rattle.world_face.specs.Frames.{encoding}
use Rattle.ipv4_head.specs.Cuts.{cut_at}
use Rattle.spec_run.specs.Answers.{part_frame, uncut}
use Rattle.stream_netdev.proofs.Writing.{frame_of_encoded, encoded_is}
use Rattle.owed_frames.proofs.NextFrames.{next_frame}
use Rattle.owed_frames.proofs.cutting.Cutting.write_next.Goals as goal

pub returns-clause-frame : goal.returns-clause-frame
returns-clause-frame c =
    let plan = c.self.inside.plan in
    let left : 0 < plan.left = omega arith in
    let part : List ℕ = part_frame plan.course.to_mac.0 plan.course.from_mac.0 plan.course.ident plan.proto plan.course.from.0 plan.course.to.0
    (cut_at plan.course.mtu (uncut (take plan.size c.self.inside.body.items)) plan.next) in
    let is : take c.write_part-length.result c.write_part-length.new.frame ≡ part = c.write_part-length.ensures.frame
    ∙ ap (λ (octets : List ℕ). part_frame plan.course.to_mac.0 plan.course.from_mac.0 plan.course.ident plan.proto plan.course.from.0 plan.course.to.0
    (cut_at plan.course.mtu (uncut (take plan.size octets)) plan.next)) c.deref.ensures.value in
    let encoded : take c.encode.result c.encode.new.buffer ≡ encoding part = encoded_is _ c.args.frame.now c.write_part-length.new.frame part _ c.write_part-length.result c.encode.ensures.encoded
    (omega (arith, c.requires)) (omega (arith, c.write_part-length.ensures.length.1, c.write_part-length.ensures.room)) is in
    next_frame plan c.self.inside.body.items c.encode.new.buffer c.encode.result left (omega (arith, c.encode.ensures.count)) (ap (drop 4) encoded ∙ frame_of_encoded part) ∙ c.self.view_is

pub returns-clause-encoded : goal.returns-clause-encoded
returns-clause-encoded c some =
    c.encode.ensures.encoded ∙ ap encoding (sym (ap (drop 4) c.encode.ensures.encoded ∙ frame_of_encoded _))
