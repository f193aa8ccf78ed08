-- The length of the file is answered.
use Rattle.std.proofs.Common.{◌∙◌, sym, ap, is_some, arith}
use Rattle.tftp_server.specs.declared.options.Known.TheVariants.{FileSize}
use Rattle.tftp_server.proofs.Agreeing.{not_among, once_push, room_for, told_size}
use Rattle.tftp_server.proofs.options.Agreed.take_length.Goals as goal

pub push-requires : goal.push-requires
push-requires c =
    let s = c.self.inside in
    let new = not_among FileSize s.size s.timeout s.answered.items c.args.self.now c.self.view_is c.requires in
    (omega arith, room_for s.answered.items FileSize c.self.invariant.3 new)

pub invariant_of-self : goal.invariant_of-self
invariant_of-self c =
    let s = c.self.inside in
    let new = not_among FileSize s.size s.timeout s.answered.items c.args.self.now c.self.view_is c.requires in
    (c.self.invariant.0, c.self.invariant.1, c.self.invariant.2, rw c.push.ensures.items (once_push s.answered.items FileSize c.args.length c.self.invariant.3 new), c.self.invariant.4)

pub returns : goal.returns
returns c =
    let s = c.self.inside in
    told_size s.size s.timeout c.args.length s.answered.items c.push.new.self.items c.args.self.now c.args.value.now c.self.view_is c.push.ensures.items
    (sym (ap is_some c.number_in.ensures) ∙ c.if-is_none.ensures)
