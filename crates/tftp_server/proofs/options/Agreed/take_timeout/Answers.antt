-- The timeout is answered.
use Rattle.std.proofs.Common.{arith}
use Rattle.tftp_server.specs.declared.options.Known.TheVariants.{Timeout}
use Rattle.tftp_server.proofs.Agreeing.{not_among, once_push, room_for, timed}
use Rattle.rules_tftp.proofs.Naming.{in_its_range}
use Rattle.tftp_server.proofs.options.Agreed.take_timeout.Goals as goal

pub push-requires : goal.push-requires
push-requires c =
    let s = c.self.inside in
    let new = not_among Timeout s.size s.timeout s.answered.items c.args.self.now c.self.view_is c.requires in
    (omega arith, room_for s.answered.items Timeout c.self.invariant.3 new)

pub invariant_of-self : goal.invariant_of-self
invariant_of-self c =
    let s = c.self.inside in
    let new = not_among Timeout s.size s.timeout s.answered.items c.args.self.now c.self.view_is c.requires in
    let range = in_its_range 1 255 c.in-Some.seconds c.args.value.now c.in-Some.ensures in
    (c.self.invariant.0, c.self.invariant.1, omega (arith, range.1), rw c.push.ensures.items (once_push s.answered.items Timeout c.in-Some.seconds c.self.invariant.3 new), omega (arith, range.0))

pub returns : goal.returns
returns c =
    let s = c.self.inside in
    timed s.size s.timeout c.in-Some.seconds s.answered.items c.push.new.self.items c.args.self.now c.args.value.now c.self.view_is c.push.ensures.items c.in-Some.ensures
