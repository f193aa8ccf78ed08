use Rattle.std.proofs.Common.{◌≡◌, ℕ, ◌<◌, ◌-◌, ◌+◌, cond, List, length, take, drop, get_or, false, ◌∙◌, ap, sym, subst, refl, inl, inr, arith}
use Rattle.std.proofs.lemmas.List.{take_rest}
use Rattle.poll_list.specs.declared.Want.{Want}
use Rattle.poll_list.specs.declared.Who.{Who}
use Rattle.poll_list.specs.declared.Who.TheVariants.{Link}
use Rattle.std.specs.Int.{from_bool}
use Rattle.poll_list.specs.Writes.{count_to_write}
use Rattle.poll_list.proofs.Counting.{count_bit, count_from, count_parted}
use Rattle.poll_list.specs.Picks.{as_list, part_in}
use Rattle.poll_list.proofs.Picking.{goes_on_split, begins_added}
use Rattle.net_world.specs.Telling.{IsKnown, IsWritable, TellsRead, TellsWrite}
use Rattle.net_world.proofs.Telling.{around, goes_on_at, known_reads, left_above, only_at, order_left, read_more, ready_on_known, tells_read, tells_write_on, tells_written}
use Rattle.net_world.proofs.gathering.gather_up_to.Goals as goal

abbrev link : Want
link = record { of = Link; read = false; write = false }

-- what is left to write is that want, where it is for writing, and those behind it
left_to_write : (wants : List Want) (at old new one : ℕ) → at < length wants → old ≡ count_to_write wants → new + count_to_write (take at wants) ≡ old
    → one ≡ from_bool (get_or wants at link).write → new ≡ one + count_to_write (drop (at + 1) wants)
left_to_write wants at old new one below all rest is =
    let here : one ≡ cond {A = ℕ} (get_or wants at link).write 1 0 = is ∙ count_bit (get_or wants at link).write in
    omega (arith, all, rest, here, count_parted wants at, count_from wants at link below)

pub overflow_sub-to_write : goal.overflow_sub-to_write
overflow_sub-to_write c =
    let left = left_to_write c.args.wants.now c.in-Some.at c.args.to_write.now c.gather_written.new.to_write c.from.result c.in-Some.ensures.place c.requires.counted c.gather_written.ensures.counted c.from.ensures in
    omega (arith, left)

pub returns-clause-counted : goal.returns-clause-counted
returns-clause-counted c =
    let wants = c.args.wants.now in
    let at = c.in-Some.at in
    let whole : take (length wants - (at + 1)) (drop (at + 1) wants) ≡ drop (at + 1) wants = take_rest wants (at + 1) in
    let left = left_to_write wants at c.args.to_write.now c.gather_written.new.to_write c.from.result c.in-Some.ensures.place c.requires.counted c.gather_written.ensures.counted c.from.ensures in
    rw whole (omega (arith, left))

pub returns-in_default-clause-reads : goal.returns-in_default-clause-reads
returns-in_default-clause-reads c rise want h same reads = absurd (c.in_default.ensures.none rise refl want h same)

pub returns-clause-goes_on : goal.returns-clause-goes_on
returns-clause-goes_on c all goes =
    let wants = c.args.wants.now in
    let at = c.in-Some.at in
    let whole : take (length wants - (at + 1)) (drop (at + 1) wants) ≡ drop (at + 1) wants = take_rest wants (at + 1) in
    rw whole (goes_on_at all wants _ c.add_part.new.ready.items at _ c.in-Some.ensures.place
    (c.gather_written.ensures.goes_on all (drop at wants) (goes_on_split all wants c.args.ready.now.items at goes)) c.add_part.ensures.adds)

pub returns-clause-begins : goal.returns-clause-begins
returns-clause-begins c first b = begins_added _ _ _ first c.add_part.ensures.adds (c.gather_written.ensures.begins first b)

pub returns-clause-ready : goal.returns-clause-ready
returns-clause-ready c link all =
    ready_on_known _ link c.known.result _ _ _ c.add_part.ensures.part
    (subst (λ (w : Who). IsKnown c.args.sockets.now.slots w c.known.result) (sym (c.in-Some.ensures.of _)) c.known.ensures.is) (c.gather_written.ensures.ready link all)

pub returns-clause-writes : goal.returns-clause-writes
returns-clause-writes c want h =
    let wants = c.args.wants.now in
    let at = c.in-Some.at in
    let whole : take (length wants - (at + 1)) (drop (at + 1) wants) ≡ drop (at + 1) wants = take_rest wants (at + 1) in
    elim (around wants at want link h) [
      | inl low ↦
          inr (λ wanted writable. tells_write_on _ _ want.of (as_list (part_in c.known.result.read c.known.result.write (get_or wants at link)), c.add_part.ensures.part)
          (c.gather_written.ensures.writes want low wanted writable))
      | inr (inl is) ↦
          inr (λ wanted writable. (
          let of : want.of ≡ c.args.listed.now.of = ap (λ (w : Want). w.of) (sym is) ∙ c.in-Some.ensures.of link in
          subst (λ (w : Want). TellsWrite c.add_part.new.ready.items w.of) is
          (tells_written c.args.sockets.now.slots _ _ c.known.result.read c.known.result (get_or wants at link) c.add_part.ensures.part
          (λ key slot there same. c.known.ensures.listed c.requires.listed key slot there (same ∙ c.in-Some.ensures.of link)) (ap (λ (w : Want). w.write) is ∙ wanted)
          (subst (λ (w : Want). IsWritable c.args.sockets.now.slots w.of) (sym is) writable))
          ))
      | inr (inr high) ↦ inl (rw whole high)
    ]

pub returns-clause-reads : goal.returns-clause-reads
returns-clause-reads c rise want h same reads =
    let wants = c.args.wants.now in
    let at = c.in-Some.at in
    let is : get_or wants at link ≡ want = only_at wants at want link c.args.listed.now.of c.in-Some.ensures.place (c.in-Some.ensures.of link) rise h same in
    subst (λ (w : Want). TellsRead c.add_part.new.ready.items w.of) is
    (tells_read _ _ c.known.result.read c.known.result.write (get_or wants at link) c.add_part.ensures.part (ap (λ (w : Want). w.read) is ∙ reads) (c.known.ensures.reads c.requires.listed))

pub returns-clause-rest : goal.returns-clause-rest
returns-clause-rest c rise want h less =
    let wants = c.args.wants.now in
    let at = c.in-Some.at in
    let whole : take (length wants - (at + 1)) (drop (at + 1) wants) ≡ drop (at + 1) wants = take_rest wants (at + 1) in
    rw whole (left_above wants at want link c.args.listed.now.of c.in-Some.ensures.place (c.in-Some.ensures.of link) rise h less)

pub returns-clause-order : goal.returns-clause-order
returns-clause-order c rise =
    let wants = c.args.wants.now in
    let at = c.in-Some.at in
    let whole : take (length wants - (at + 1)) (drop (at + 1) wants) ≡ drop (at + 1) wants = take_rest wants (at + 1) in
    rw whole (order_left wants (at + 1) rise)

pub returns-clause-count : goal.returns-clause-count
returns-clause-count c =
    let more = read_more c.gather_written.new.ready.items c.add_part.new.ready.items c.known.result.read c.known.result.write (get_or c.args.wants.now c.in-Some.at link) c.add_part.ensures.part in
    omega (arith, more, c.gather_written.ensures.count)

pub returns-clause-some : goal.returns-clause-some
returns-clause-some c reads =
    let known = c.known.ensures.reads c.requires.listed in
    let told = tells_read _ _ c.known.result.read c.known.result.write (get_or c.args.wants.now c.in-Some.at link) c.add_part.ensures.part reads known in (
      c.args.listed.now.of,
      known_reads c.args.sockets.now.slots c.args.listed.now.of c.known.result c.known.ensures.is known,
      subst (λ (w : Who). TellsRead c.add_part.new.ready.items w) (c.in-Some.ensures.of link) told,
    )
