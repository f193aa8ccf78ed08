use Rattle.std.proofs.Common.{rules, ◌≡◌, ℕ, ◌<◌, List, length, get_or, inl, inr, sym, ap, subst, ◌∙◌, arith, refl, ◌≤◌, drop}
use Rattle.std.specs.List.{Contains}
use Rattle.std.proofs.lemmas.Bool.{cases_eq}
use Rattle.std.proofs.lemmas.List.{get_or_default}
use Rattle.poll_list.specs.declared.Want.{Want}
use Rattle.poll_list.specs.declared.Who.TheVariants.{Link}
use Rattle.poll_list.specs.Picks.{Begins}
use Rattle.poll_list.proofs.Picking.{goes_on_from, goes_on_end}
use Rattle.net_world.specs.declared.ready_list.Listed.{Listed}
use Rattle.net_world.specs.Tables.{one, listed_at}
use Rattle.net_world.specs.Telling.{AreInOrder}
use Rattle.net_world.proofs.Telling.{begins_itself, drop_contains, link_ready, no_link_read, rank_before, tells_read_on, tells_write_on}
use Rattle.net_world.proofs.gathering.gather.Goals as goal
use Rattle.net_world.proofs.gathering.gather.Goals.{then-is_read, else-is_read, else-loop-listed-test, then-loop-listed-test+then-room-eq0}

abbrev first : Listed
first = record { of = Link; key = 0 }

pub loop-listed-init : goal.loop-listed-init
loop-listed-init c =
    let at_most = c.gather_first-left.ensures.told c.clear.ensures.items in
    let rest = λ (want : Want) (h : Contains c.args.wants.now.items want) (other : want.of ≡ Link → ⊥).
    c.gather_first-left.ensures.rest want (subst (λ (l : List Want). Contains l want) (sym c.items.ensures) h) other in record {
      picks = goes_on_from _ _ _ _ _ c.items.ensures c.clear.ensures.items c.gather_first-left.ensures.goes_on;
      counted = c.gather_first-left.ensures.counted;
      link = λ want others is. c.gather_first-left.ensures.link c.clear.ensures.items want others (c.items.ensures ∙ is);
      few = search rules;
      capacity = search rules;
      ready = link_ready c.args.sockets.now.slots c.args.link _ at_most;
      writes = λ want h other. inl (rest want h other);
      most = omega (arith, no_link_read c.args.link c.gather_first-left.new.ready.items at_most);
      some = inl refl;
      room = omega arith;
      order = λ rise. c.gather_first-left.ensures.order (subst (λ (l : List Want). AreInOrder l) (sym c.items.ensures) rise);
      ahead = λ rise want h other place o from below same. rest want h other;
      told = λ rise want h other reads place o low same. absurd (omega arith);
    }

pub gather_up_to-is_read-requires-clause-listed : goal.gather_up_to-is_read-requires-clause-listed
gather_up_to-is_read-requires-clause-listed c =
    let end = c.in_turn-listed-items.ensures.end in
    let listed = get_or c.in_turn-listed-items.result.now c.loop-listed.listed-index first in
    let here : Contains c.in_turn-listed-items.result.now listed = (c.loop-listed.listed-index, c.loop-listed-test.true, get_or_default c.in_turn-listed-items.result.now c.loop-listed.listed-index listed first c.loop-listed-test.true) in
    subst (λ (l : List Listed). Contains l listed) c.readable.ensures.items
    (drop_contains end.0 c.readable.result.now listed (subst (λ (l : List Listed). Contains l listed) end.1 here))

pub loop-listed-preserved : goal.loop-listed-preserved
loop-listed-preserved c =
    let was = c.loop-listed.invariant in
    let turn = c.in_turn-listed-items.result.now in
    let at = c.loop-listed.listed-index in
    let does = c.gather_up_to-is_read.ensures in
    let on : Begins c.loop-listed.ready.items c.gather_up_to-is_read.new.ready.items = does.begins c.loop-listed.ready.items (begins_itself c.loop-listed.ready.items) in
    record {
      picks = does.goes_on _ was.picks;
      counted = does.counted;
      link = λ want others is who. does.begins _ (was.link want others is who);
      few = omega (arith, does.few, was.few);
      capacity = does.capacity ∙ was.capacity;
      ready = does.ready c.args.link was.ready;
      writes = λ want h other. elim (was.writes want h other) [
        | inl left ↦ does.writes want left
        | inr told ↦ inr (λ wanted writable. tells_write_on _ _ want.of on (told wanted writable))
      ];
      most = elim c.if-is_read.branch [
        | then-is_read w ↦ let yes : one c.gather_up_to-is_read.result.1 ≡ 1 = ap one w.if-is_read.true in omega (arith, yes, w.room-is, does.count, was.most, c.if-room-eq0.false)
        | else-is_read w ↦ let no : one c.gather_up_to-is_read.result.1 ≡ 0 = ap one w.if-is_read.false in omega (arith, no, w.room-is, does.count, was.most)
      ];
      some = elim c.if-is_read.branch [
        | then-is_read w ↦ inr (does.some w.if-is_read.true)
        | else-is_read w ↦ elim was.some [ inl same ↦ inl (w.room-is ∙ same) | inr (of, readable, told) ↦ inr (of, readable, tells_read_on _ _ of on told) ]
      ];
      room = elim c.if-is_read.branch [ then-is_read w ↦ omega (arith, w.room-is, was.room, c.if-room-eq0.false) | else-is_read w ↦ omega (arith, w.room-is, was.room) ];
      order = λ rise. does.order (was.order rise);
      ahead = λ rise want h other place o from below same.
          let left = was.ahead rise want h other place o (omega arith) below same in
          does.rest (was.order rise) want left
          (
          rank_before c.readable.result.now turn c.in_turn-listed-items.ensures.end.0 at place first o want.of c.readable.ensures.order c.in_turn-listed-items.ensures.end.1 (omega arith) below same
          );
      told = λ rise want h other reads place o low same. elim (cases_eq place at) [
        | inl is ↦
            let here : (get_or turn at o).of ≡ want.of = subst (λ (n : ℕ). (get_or turn n o).of ≡ want.of) is same in
            let mine : want.of ≡ (get_or turn at first).of = sym here ∙ ap (λ (l : Listed). l.of) (get_or_default turn at o first c.loop-listed-test.true) in
            does.reads (was.order rise) want (was.ahead rise want h other at o (omega arith) c.loop-listed-test.true here) mine reads
        | inr less ↦ tells_read_on _ _ want.of on (was.told rise want h other reads place o (omega (arith, low, less)) same)
      ];
    }

pub returns-clause-picked : goal.returns-clause-picked
returns-clause-picked c = goes_on_end _ _ _ _ c.loop-listed.invariant.picks c.gather_written.ensures.goes_on

pub returns-clause-link : goal.returns-clause-link
returns-clause-link c want others is who = c.gather_written.ensures.begins _ (c.loop-listed.invariant.link want others is who)

pub returns-clause-ready : goal.returns-clause-ready
returns-clause-ready c = c.gather_written.ensures.ready c.args.link c.loop-listed.invariant.ready

pub returns-clause-writes : goal.returns-clause-writes
returns-clause-writes c want h other wanted writable = elim (c.loop-listed.invariant.writes want h other) [
  | inl left ↦ c.gather_written.ensures.writes want left wanted writable
  | inr told ↦ tells_write_on _ _ want.of (c.gather_written.ensures.begins _ (begins_itself c.loop-listed.ready.items)) (told wanted writable)
]

pub returns-clause-reads : goal.returns-clause-reads
returns-clause-reads c rise fits want h other reads (key, slot, at, same, may) =
    let listed = c.readable.ensures.all key slot at may in
    let many : length c.readable.result.now ≡ length c.args.sockets.now.readable = ap (λ (l : List Listed). length l) c.readable.ensures.items in
    let whole : c.in_turn-listed-items.result.now ≡ c.readable.result.now = c.in_turn-listed-items.ensures.whole (omega (arith, many, fits)) in
    let size : length c.in_turn-listed-items.result.now ≡ length c.readable.result.now = ap (λ (l : List Listed). length l) whole in
    let here : (get_or c.in_turn-listed-items.result.now listed.0 (listed_at slot.of key)).of ≡ want.of =
    ap (λ (l : List Listed). (get_or l listed.0 (listed_at slot.of key)).of) whole ∙ ap (λ (l : Listed). l.of) listed.2 ∙ same in
    let past : listed.0 < c.loop-listed.listed-index = elim c.loop-listed-test.branch [
      | else-loop-listed-test w ↦ omega (arith, listed.1, size, w.loop-listed-test.false)
      | then-loop-listed-test+then-room-eq0 w ↦ absurd (omega (arith, w.loop-listed-test.true, w.if-room-eq0.true, size, many, fits, c.loop-listed.invariant.room))
    ] in
    tells_read_on _ _ want.of (c.gather_written.ensures.begins _ (begins_itself c.loop-listed.ready.items))
    (c.loop-listed.invariant.told rise want h other reads listed.0 (listed_at slot.of key) past here)

pub returns-clause-most : goal.returns-clause-most
returns-clause-most c = omega (arith, c.gather_written.ensures.count, c.loop-listed.invariant.most)

pub returns-clause-some : goal.returns-clause-some
returns-clause-some c rise above want h other reads (key, slot, at, same, may) =
    let was = c.loop-listed.invariant in
    let turn = c.in_turn-listed-items.result.now in
    let end = c.in_turn-listed-items.ensures.end in
    let on : Begins c.loop-listed.ready.items c.gather_written.new.ready.items = c.gather_written.ensures.begins _ (begins_itself c.loop-listed.ready.items) in
    elim was.some [
      | inr (of, readable, told) ↦ (of, readable, tells_read_on _ _ of on told)
      | inl room ↦
          let over : length turn ≤ c.loop-listed.listed-index = elim c.loop-listed-test.branch [
            | else-loop-listed-test w ↦ omega (arith, w.loop-listed-test.false)
            | then-loop-listed-test+then-room-eq0 w ↦ absurd (omega (arith, w.if-room-eq0.true, room, above))
          ] in
          elim end.2 [
            | inl none ↦
                let listed = c.readable.ensures.all key slot at may in
                let whole : turn ≡ c.readable.result.now = end.1 ∙ ap (λ (n : ℕ). drop n c.readable.result.now) none in
                let size : length turn ≡ length c.readable.result.now = ap (λ (l : List Listed). length l) whole in
                let here : (get_or turn listed.0 (listed_at slot.of key)).of ≡ want.of =
                ap (λ (l : List Listed). (get_or l listed.0 (listed_at slot.of key)).of) whole ∙ ap (λ (l : Listed). l.of) listed.2 ∙ same in (
                  want.of,
                  (key, slot, at, same, may),
                  tells_read_on _ _ want.of on (was.told rise want h other reads listed.0 (listed_at slot.of key) (omega (arith, listed.1, size, over)) here),
                )
            | inr (first-is, wanted) ↦
                let w = wanted first in
                let left : Contains c.gather_first-left.result.now w.0 = w.1 in
                let mine : Contains c.args.wants.now.items w.0 = subst (λ (l : List Want). Contains l w.0) c.items.ensures (c.gather_first-left.ensures.only w.0 left) in
                let rises : AreInOrder c.items.result.now = subst (λ (l : List Want). AreInOrder l) (sym c.items.ensures) rise in
                let told = was.told rise w.0 mine (c.gather_first-left.ensures.others rises w.0 left) w.3 0 first (omega (arith, first-is, over)) (sym w.2) in
                let stands = c.readable.ensures.only (get_or turn 0 first)
                (drop_contains end.0 c.readable.result.now (get_or turn 0 first) (subst (λ (l : List Listed). Contains l (get_or turn 0 first)) end.1
                (0, first-is, get_or_default turn 0 (get_or turn 0 first) first first-is))) in
                (w.0.of, ((get_or turn 0 first).key, stands.0, stands.1, stands.2 ∙ sym w.2, stands.3), tells_read_on _ _ w.0.of on told)
          ]
    ]
