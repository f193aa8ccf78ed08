use Rattle.std.proofs.Common.{true, false, ◌+◌, ◌<◌, [], ◌∷◌, length, refl, sym, ap, subst, arith}
use Rattle.world_face.specs.Journal.{Close}
use Rattle.world_face.proofs.Telling.{makes_none, makes_one}
use Rattle.arp_table.specs.Table.{mac_of as learnt_for}
use Rattle.udp_assoc.proofs.Below.{below_up}
use Rattle.sim_flows.specs.Seats.{in_use_slots}
use Rattle.spec_flows.specs.Book.{book, is_refused, tuple_for}
use Rattle.tcp_flows.specs.Reading.{NoneUses}
use Rattle.tcp_flows.specs.Runs.{Welcomes}
use Rattle.slirp_core.specs.State.{SlirpState}
use Rattle.slirp_core.proofs.Drawn.{asked_up, drawn_up}
use Rattle.slirp_core.proofs.Visiting.{treats_refused, treats_welcome}
use Rattle.slirp_core.specs.Marks.{KeepsMarks}
use Rattle.slirp_core.proofs.Marking.{marks_begun, marks_same}
use Rattle.slirp_core.proofs.network.Slirp.welcome.Goals as goal

pub returns-in_default-clause-treats : goal.returns-in_default-clause-treats
returns-in_default-clause-treats g c =
    let i = c.self.inside in
    makes_one _ _ _ _ c.close.ensures (λ allowed config now aged past holds is.
    treats_refused (is_refused config c.args.guest c.args.peer (book config past)) c.args.guest c.args.peer c.args.self.now _ (Close i.number ∷ [])
    (c.in_default.ensures.recorded config now aged past holds is)
    (ap (λ (s : SlirpState). Close s.number ∷ []) c.self.view_is) (ap (λ (s : SlirpState). s.flows) c.self.view_is))

pub returns-clause-treats : goal.returns-clause-treats
returns-clause-treats g c =
    let i = c.self.inside in
    makes_none _ _ (λ config now aged past holds is.
    treats_welcome (is_refused config c.args.guest c.args.peer (book config past)) c.args.guest c.args.peer c.args.self.now _ []
    (c.in-Some.ensures.recorded config now aged past holds is) refl
    (subst (λ (s : SlirpState). Welcomes s.moment s.number s.flows c.accept.new.self (tuple_for c.args.self.now.config c.args.guest c.args.peer) (learnt_for c.args.guest.addr s.known)) c.self.view_is
    (subst (λ m. Welcomes i.moment i.number i.flows c.accept.new.self (tuple_for c.args.self.now.config c.args.guest c.args.peer) m) c.find-mac.ensures
    (subst (λ t. Welcomes i.moment i.number i.flows c.accept.new.self t c.find-mac.result) c.in-Some.ensures.some.0 c.accept.ensures.welcomes))))

pub accept-requires-clause-room : goal.accept-requires-clause-room
accept-requires-clause-room g c = subst (λ (s : SlirpState). in_use_slots s.flows.flows.table.slots < length s.flows.flows.table.slots) (sym c.self.view_is) c.requires.room

pub accept-requires-clause-unused : goal.accept-requires-clause-unused
accept-requires-clause-unused g c = subst (λ (s : SlirpState). NoneUses s.flows.flows.table.slots c.in-Some.ends) (sym c.self.view_is) c.in-Some.ensures.some.2

pub accept-requires-clause-above : goal.accept-requires-clause-above
accept-requires-clause-above g c = c.self.invariant.3.below

pub accept-requires-clause-count : goal.accept-requires-clause-count
accept-requires-clause-count g c = let few = c.self.invariant.3.opened in let number = ap (λ (s : SlirpState). s.number) c.self.view_is in omega (arith, few, number, c.requires.number)

pub invariant_of-self : goal.invariant_of-self
invariant_of-self g c =
    let i = c.self.inside in (
      below_up i.number i.associations.list c.self.invariant.0,
      c.self.invariant.1,
      c.self.invariant.2,
      drawn_up i.number (i.number + 1) i.flows (omega arith) c.self.invariant.3,
      c.self.invariant.4,
      c.self.invariant.5,
      asked_up i.number (i.number + 1) i.policy i.questions (omega arith) c.self.invariant.6,
      c.self.invariant.7,
    )

pub returns-in_default-clause-closes : goal.returns-in_default-clause-closes
returns-in_default-clause-closes g c = makes_one _ _ _ _ c.close.ensures (λ allowed. (true, ap (λ (s : SlirpState). Close s.number ∷ []) c.self.view_is))

pub returns-clause-closes : goal.returns-clause-closes
returns-clause-closes g c = makes_none _ _ (false, refl)

pub returns-in_default-clause-marks : goal.returns-in_default-clause-marks
returns-in_default-clause-marks g c = let i = c.self.inside in subst (λ (s : SlirpState). KeepsMarks s.number s.flows i.flows) c.self.view_is (marks_same i.number i.flows)

pub returns-clause-marks : goal.returns-clause-marks
returns-clause-marks g c =
    let i = c.self.inside in
    subst (λ (s : SlirpState). KeepsMarks s.number s.flows c.accept.new.self) c.self.view_is
    (marks_begun i.number i.flows c.accept.new.self c.accept.ensures.served c.accept.ensures.turn c.accept.ensures.numbers)
