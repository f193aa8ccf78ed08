use Rattle.std.proofs.Common.{rules, ◌++◌, length, sym, ◌∙◌, ap, subst, arith}
use Rattle.slirp_settings.specs.Addresses.{Config}
use Rattle.slirp_settings.specs.Ranges.{IsSound}
use Rattle.slirp_core.specs.Holds.{as_given}
use Rattle.slirp_core.specs.Numbers.{flows_for}
use Rattle.slirp_core.specs.Pumps.{TcpOnce}
use Rattle.serve_loop.proofs.Opening.{at_ok, has_few_turns, has_room_for_a_unit, has_some_turns}
use Rattle.serve_loop.proofs.service.Service.open.Goals as goal

pub invariant_of-result : goal.invariant_of-result
invariant_of-result c =
    let config = c.in_ok-slirp.ensures.config in
    let opened = c.in-Ok-Ok-Ok-Ok in
    let few = c.as_slice.ensures.fits in
    let none = ap length c.new-forwards.ensures in
    let copied = at_ok c.try_extend_from_slice.result (c.try_extend_from_slice.ensures.variant.1 (omega (arith, few, none))) c.try_extend_from_slice.ensures.ok in (
      sym (ap (λ (k : Config). k.turns) config),
      opened.ensures.capacity,
      opened.ensures'.capacity,
      search rules,
      search rules,
      subst TcpOnce (sym opened.ensures.empty) tt,
      copied ∙ ap (λ l. l ++ c.as_slice.result.now) c.new-forwards.ensures ∙ c.as_slice.ensures.value ∙ sym (ap (λ (k : Config). k.forwards) config),
    )

pub returns-clause-new : goal.returns-clause-new
returns-clause-new c =
    let config = c.in_ok-slirp.ensures.config in
    let fresh = c.in_ok-slirp.ensures in
    let link = c.in_ok-link.ensures in
    let sound = subst IsSound (sym config) c.requires.sound in
    record {
      sound = sound;
      given = config ∙ ap as_given (sym config);
      forwards = fresh.forwards;
      flows = fresh.flows ∙ ap flows_for (sym config);
      unit = has_room_for_a_unit c.in_ok-slirp.slirp.config sound;
      turns = has_few_turns c.in_ok-slirp.slirp.config sound;
      some_turns = has_some_turns c.in_ok-slirp.slirp.config sound;
      known = fresh.known;
      sent = fresh.sent;
      pending = fresh.pending;
      moment = fresh.moment;
      number = fresh.number;
      associations = fresh.associations;
      questions = fresh.questions;
      fragments = fresh.fragments;
      leases = fresh.leases;
      transfers = fresh.transfers;
      input = link.0;
      output = link.1;
      free = link.2;
    }
