use Rattle.std.proofs.Common.{drop, sym, ◌∙◌, ap, arith}
use Rattle.world_face.specs.Frames.{encoding}
use Rattle.stream_netdev.proofs.Writing.{frame_of_encoded, encoded_is}
use Rattle.owed_frames.proofs.outgoing.write_arp.Goals as goal

pub returns-clause-frame : goal.returns-clause-frame
returns-clause-frame c =
    let written = c.write_arp_frame-length in
    ap (drop 4) (encoded_is _ c.args.frame.now written.new.frame _ _ written.result c.encode.ensures.encoded (omega (arith, c.requires.room))
    (omega (arith, written.ensures.length.1, written.ensures.room)) written.ensures.frame)
    ∙ frame_of_encoded _

pub returns-clause-encoded : goal.returns-clause-encoded
returns-clause-encoded c some = c.encode.ensures.encoded ∙ ap encoding (sym (ap (drop 4) c.encode.ensures.encoded ∙ frame_of_encoded _))
