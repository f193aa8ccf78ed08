use Rattle.std.proofs.Common.{refl}
use Rattle.ipv4_head.specs.Ip.{ip_of}
use Rattle.ipv4_head.specs.Sets.{Clashes, LongPart, UnevenPart, Waits, key_of, part_of}
use Rattle.slirp_core.proofs.Assembling.{took_none, took_whole}
use Rattle.slirp_core.proofs.fragments.take_part.Goals as goal

pub returns-in-Whole-clause-took : goal.returns-in-Whole-clause-took
returns-in-Whole-clause-took c = λ held h.
    let part = c.args.part.now in
    let sets = c.in-Whole.ensures.sets held h.stand in
    took_whole c.args.now (key_of part) (part_of part) held h.carry c.free.new.self c.in-Whole.area
    (ip_of c.datagram.result) c.datagram.result.ttl c.assemble-assembled.result c.assemble-assembled.new.room
    (c.in-Whole.ensures.answer held h.stand) (c.in-Whole.ensures.area held c.in-Whole.area h.stand refl) (λ s there whole. c.datagram.ensures.joined _ s sets there whole) (c.free.ensures _ sets)
    c.assemble-assembled.ensures.datagram

pub returns-in-Kept-clause-took : goal.returns-in-Kept-clause-took
returns-in-Kept-clause-took c = λ held h.
    let part = c.args.part.now in
    took_none c.args.now (key_of part) (part_of part) held h.carry Waits c.add.new.self c.args.room.now (c.in-Kept.ensures.answer held h.stand) tt (c.in-Kept.ensures.sets held h.stand)

pub returns-in-Overlap-clause-took : goal.returns-in-Overlap-clause-took
returns-in-Overlap-clause-took c = λ held h.
    let part = c.args.part.now in
    took_none c.args.now (key_of part) (part_of part) held h.carry Clashes c.add.new.self c.args.room.now (c.in-Overlap.ensures.answer held h.stand) tt
    (c.in-Overlap.ensures.sets held h.stand)

pub returns-in-TooLong-clause-took : goal.returns-in-TooLong-clause-took
returns-in-TooLong-clause-took c = λ held h.
    let part = c.args.part.now in
    took_none c.args.now (key_of part) (part_of part) held h.carry LongPart c.add.new.self c.args.room.now (c.in-TooLong.ensures.answer held h.stand) tt
    (c.in-TooLong.ensures.sets held h.stand)

pub returns-in-Uneven-clause-took : goal.returns-in-Uneven-clause-took
returns-in-Uneven-clause-took c = λ held h.
    let part = c.args.part.now in
    took_none c.args.now (key_of part) (part_of part) held h.carry UnevenPart c.add.new.self c.args.room.now (c.in-Uneven.ensures.answer held h.stand) tt
    (c.in-Uneven.ensures.sets held h.stand)
