-- The size of a block is answered.
use Rattle.std.proofs.Common.{arith}
use Rattle.tftp_server.specs.declared.options.Known.TheVariants.{BlockSize}
use Rattle.tftp_server.proofs.Agreeing.{not_among, once_push, room_for, sized}
use Rattle.rules_tftp.proofs.Naming.{in_its_range}
use Rattle.tftp_server.proofs.options.Agreed.take_size.Goals as goal

pub push-requires : goal.push-requires
push-requires c =
    let s = c.self.inside in
    let new = not_among BlockSize s.size s.timeout s.answered.items c.args.self.now c.self.view_is c.requires in
    (omega arith, room_for s.answered.items BlockSize c.self.invariant.3 new)

pub invariant_of-self : goal.invariant_of-self
invariant_of-self c =
    let s = c.self.inside in
    let new = not_among BlockSize s.size s.timeout s.answered.items c.args.self.now c.self.view_is c.requires in
    let range = in_its_range 8 65464 c.in-Some.n c.args.value.now c.in-Some.ensures in (
      omega (arith, range.0, c.min-size.ensures),
      omega (arith, c.min-size.ensures),
      c.self.invariant.2,
      rw c.push.ensures.items
          (once_push s.answered.items BlockSize c.min-size.result c.self.invariant.3 new),
      c.self.invariant.4,
    )

pub returns : goal.returns
returns c =
    let s = c.self.inside in
    sized s.size s.timeout c.min-size.result c.in-Some.n s.answered.items c.push.new.self.items c.args.self.now c.args.value.now c.self.view_is c.push.ensures.items
    c.min-size.ensures c.in-Some.ensures
