use Rattle.std.proofs.Common.{false}
use Rattle.world_face.proofs.Telling.{makes_then}
use Rattle.flow_splice.proofs.Calls.{serves_both}
use Rattle.flow_splice.proofs.Events.{goes_then}
use Rattle.flow_splice.proofs.Shaping.{host_works}
use Rattle.flow_splice.proofs.Spliced.host_ready.Goals as goal

pub returns-clause-makes : goal.returns-clause-makes
returns-clause-makes g c =
    let old = c.args.self.now in
    let mid = c.serve_writing.new.self in
    let new = c.serve_reading.new.self in
    makes_then _ _ _ _ _ _ c.serve_writing.ensures.makes c.serve_reading.ensures.makes
    (λ first second one two. (
      goes_then old mid new false c.args.now first second c.serve_reading.ensures.stays.same.face c.serve_reading.ensures.stays.same.mac one.0 two.0,
      host_works c.args.read c.args.write first second one.1 one.2 two.1 two.2,
      serves_both c.args.read c.args.write old mid first second one.3 one.4 two.3,
    ))
