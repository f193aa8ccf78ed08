use Rattle.std.proofs.Common.{◌+◌, false, refl, arith, sym, ◌++◌, ap, subst}
use Rattle.world_face.specs.Tells.{Brings}
use Rattle.udp_assoc.proofs.Below.{below_up}
use Rattle.tcp_flows.specs.Kept.{Kept}
use Rattle.slirp_core.specs.Holds.{Comes, Holds, flowing}
use Rattle.slirp_core.specs.Segments.{coming_of}
use Rattle.slirp_core.specs.State.{SlirpState}
use Rattle.slirp_core.specs.Marks.{KeepsMarks}
use Rattle.slirp_core.proofs.Called.{flows_put}
use Rattle.slirp_core.proofs.Drawn.{asked_up, drawn_begun, drawn_stay, drawn_up}
use Rattle.slirp_core.proofs.Marking.{marks_begun, marks_stay}
use Rattle.slirp_core.proofs.Receiving.{opened, refused, settled, turned_away}
use Rattle.slirp_core.proofs.Telling.{brings_allowed}
use Rattle.slirp_core.proofs.Viewed.{state_of}
use Rattle.slirp_core.proofs.network.Slirp.take_segment.Goals as goal

-- nothing is owed for it
pub returns-in-Settled-clause-makes : goal.returns-in-Settled-clause-makes
returns-in-Settled-clause-makes g c config at link =
    let i = c.self.inside in
    let slirp : SlirpState = state_of i in
    let coming = coming_of c.args.came.now in
    let new = c.receive.new.self in
    subst (λ (s : SlirpState). Brings (g.W.World.tells c.args.world.now) (g.W.World.tells c.receive.new.world) (Comes config at s s.flows link coming)
    (Holds config at (record slirp { flows = new }) (flowing false new) link)) c.self.view_is
    (brings_allowed c.in-Settled.ensures.makes (λ made receives allowed past comes.
    flows_put config at slirp new (flowing false new) link _ (settled config at slirp i.flows link coming past comes c.args.came.now.mac made new allowed receives)))

-- it is answered by a reset
pub returns-in-TurnedAway-clause-makes : goal.returns-in-TurnedAway-clause-makes
returns-in-TurnedAway-clause-makes g c config at link =
    let i = c.self.inside in
    let slirp : SlirpState = state_of i in
    let coming = coming_of c.args.came.now in
    let new = c.receive.new.self in
    subst (λ (s : SlirpState). Brings (g.W.World.tells c.args.world.now) (g.W.World.tells c.receive.new.world) (Comes config at s s.flows link coming)
    (Holds config at c.turn_away.new.self (flowing false c.turn_away.new.self.flows) link)) c.self.view_is
    (brings_allowed c.in-TurnedAway.ensures.makes (λ made receives allowed past comes.
    subst (λ (s : SlirpState). Holds config at s (flowing false s.flows) link (made ++ past)) (sym c.turn_away.ensures)
    (flows_put config at _ new (flowing false new) link _ (turned_away config at slirp i.flows link coming past comes c.args.came.now.mac made new allowed receives))))

-- the host connects for it
pub returns-in-Opened-clause-makes : goal.returns-in-Opened-clause-makes
returns-in-Opened-clause-makes g c config at link =
    let i = c.self.inside in
    let slirp : SlirpState = state_of i in
    let coming = coming_of c.args.came.now in
    let new = c.receive.new.self in
    let then_is : SlirpState = record slirp { number = i.number + 1; flows = new } in
    subst (λ (s : SlirpState). Brings (g.W.World.tells c.args.world.now) (g.W.World.tells c.receive.new.world) (Comes config at s s.flows link coming)
    (Holds config at then_is (flowing false new) link)) c.self.view_is
    (brings_allowed c.in-Opened.ensures.makes (λ made receives allowed past comes.
    flows_put config at (record slirp { number = i.number + 1 }) new (flowing false new) link _
    (opened config at slirp i.flows link coming past comes c.args.came.now.mac made new allowed refl receives)))

-- it doesn't
pub returns-in-Refused-clause-makes : goal.returns-in-Refused-clause-makes
returns-in-Refused-clause-makes g c config at link =
    let i = c.self.inside in
    let slirp : SlirpState = state_of i in
    let coming = coming_of c.args.came.now in
    let new = c.receive.new.self in
    subst (λ (s : SlirpState). Brings (g.W.World.tells c.args.world.now) (g.W.World.tells c.receive.new.world) (Comes config at s s.flows link coming)
    (Holds config at c.turn_away-in-Refused.new.self (flowing false c.turn_away-in-Refused.new.self.flows) link)) c.self.view_is
    (brings_allowed c.in-Refused.ensures.makes (λ made receives allowed past comes.
    subst (λ (s : SlirpState). Holds config at s (flowing false s.flows) link (made ++ past)) (sym c.turn_away-in-Refused.ensures)
    (flows_put config at _ new (flowing false new) link _ (refused config at slirp i.flows link coming past comes c.args.came.now.mac made new allowed receives))))

-- ---- what is kept keeps its invariants

pub invariant_of-self-in-Opened : goal.invariant_of-self-in-Opened
invariant_of-self-in-Opened g c =
    let i = c.self.inside in
    let grown = c.in-Opened.ensures.grown refl in (
      below_up i.number i.associations.list c.self.invariant.0,
      c.self.invariant.1,
      c.self.invariant.2,
      drawn_begun i.number i.flows c.receive.new.self grown.slots grown.opened grown.numbers c.self.invariant.3,
      c.self.invariant.4,
      c.self.invariant.5,
      asked_up i.number (i.number + 1) i.policy i.questions (omega arith) c.self.invariant.6,
      c.self.invariant.7,
    )

pub invariant_of-self-in-Refused : goal.invariant_of-self-in-Refused
invariant_of-self-in-Refused g c =
    let i = c.self.inside in (
      below_up i.number i.associations.list c.self.invariant.0,
      c.self.invariant.1,
      c.self.invariant.2,
      drawn_up i.number (i.number + 1) c.receive.new.self (omega arith) (drawn_stay i.number i.flows c.receive.new.self (c.in-Refused.ensures.stays (λ is. cc)) c.self.invariant.3),
      c.self.invariant.4,
      c.self.invariant.5,
      asked_up i.number (i.number + 1) i.policy i.questions (omega arith) c.self.invariant.6,
      c.self.invariant.7,
    )

-- ---- the marks, and the numbers in the slots

pub returns-in-TurnedAway-clause-marks : goal.returns-in-TurnedAway-clause-marks
returns-in-TurnedAway-clause-marks g c =
    let i = c.self.inside in
    subst (λ (s : SlirpState). KeepsMarks s.number s.flows c.turn_away.new.self.flows) c.self.view_is
    (subst (λ (k : Kept). KeepsMarks i.number i.flows k) (sym (ap (λ (s : SlirpState). s.flows) c.turn_away.ensures))
    (marks_stay i.number i.flows c.receive.new.self c.in-TurnedAway.ensures.served c.in-TurnedAway.ensures.turn (c.in-TurnedAway.ensures.stays (λ is. cc))))

pub returns-in-Opened-clause-marks : goal.returns-in-Opened-clause-marks
returns-in-Opened-clause-marks g c =
    let i = c.self.inside in
    subst (λ (s : SlirpState). KeepsMarks s.number s.flows c.receive.new.self) c.self.view_is
    (marks_begun i.number i.flows c.receive.new.self c.in-Opened.ensures.served c.in-Opened.ensures.turn (c.in-Opened.ensures.grown refl).numbers)

pub returns-in-Refused-clause-marks : goal.returns-in-Refused-clause-marks
returns-in-Refused-clause-marks g c =
    let i = c.self.inside in
    subst (λ (s : SlirpState). KeepsMarks s.number s.flows c.turn_away-in-Refused.new.self.flows) c.self.view_is
    (subst (λ (k : Kept). KeepsMarks i.number i.flows k) (sym (ap (λ (s : SlirpState). s.flows) c.turn_away-in-Refused.ensures))
    (marks_stay i.number i.flows c.receive.new.self c.in-Refused.ensures.served c.in-Refused.ensures.turn (c.in-Refused.ensures.stays (λ is. cc))))
