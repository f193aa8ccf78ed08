use Rattle.std.proofs.Common.{◌+◌, ◌++◌, ◌<◌, length, sym, ◌∙◌, ap, subst, true, arith}
use Rattle.world_face.specs.Tells.{Makes}
use Rattle.world_face.proofs.Telling.{makes_as}
use Rattle.dns_relay.proofs.Below.{below_closed}
use Rattle.rules_dns.specs.Questions.{numbers as question_numbers}
use Rattle.dns_relay.specs.State.{RelayState}
use Rattle.rules_udp.specs.Associations.{numbers}
use Rattle.tcp_flows.specs.Kept.{Kept}
use Rattle.slirp_core.specs.Firsts.{IsFlowFirst, IsQuestionFirst, NoFlowFirst, NoQuestionFirst, others_open}
use Rattle.slirp_core.specs.Forwards.{AreCloses}
use Rattle.rules_forward.specs.Opened.{forward_sockets}
use Rattle.slirp_core.specs.Holds.{ClosesOther, Holders, carriers, holders_of}
use Rattle.slirp_core.specs.Numbers.{open_flows}
use Rattle.slirp_core.specs.Services.{AreAsked}
use Rattle.slirp_core.specs.State.{SlirpState}
use Rattle.slirp_core.proofs.Alone.{no_association, no_question}
use Rattle.slirp_core.proofs.Associating.{below_first, none_first}
use Rattle.slirp_core.proofs.Closes.{of_association, of_flow, of_question}
use Rattle.slirp_core.proofs.Least.{association_first, fewer_flows, flow_first, no_association_left, question_first, some_flow, some_question}
use Rattle.slirp_core.proofs.network.Slirp.close_other.Goals as goal

-- ---- a flow's

pub returns-then-flow_is_first-clause-makes : goal.returns-then-flow_is_first-clause-makes
returns-then-flow_is_first-clause-makes g c =
    let i = c.self.inside in
    let new = c.close_first.new in
    let o : Holders = record { associations = i.associations.list; questions = i.questions.list; slots = i.flows.flows.slots } in
    let first = subst (λ (s : SlirpState). IsFlowFirst (carriers (holders_of s)) s.flows.flows.slots) (sym c.self.view_is) (c.flow_is_first.ensures.yes c.if-flow_is_first.true) in
    subst (λ (s : SlirpState). Makes (g.W.World.tells c.args.world.now) (g.W.World.tells new.world)
    (λ made. ClosesOther c.close_first.result (forward_sockets s.forwards) (holders_of s) (record o { slots = new.self.flows.slots }) made × AreCloses made)) c.self.view_is
    (makes_as _ _ _ _ c.close_first.ensures.closes (λ made closes. (
      λ config over past no_forward holds. flow_first config over (forward_sockets i.forwards) made past c.close_first.result o new.self.flows.slots first no_forward closes holds,
      of_flow c.close_first.result i.flows.flows.slots new.self.flows.slots made closes,
    )))

pub returns-then-flow_is_first-clause-fewer : goal.returns-then-flow_is_first-clause-fewer
returns-then-flow_is_first-clause-fewer g c is =
    let i = c.self.inside in
    let new = c.close_first.new in
    let makes = c.close_first.ensures.closes in
    let less = fewer_flows c.close_first.result i.flows.flows.slots new.self.flows.slots makes.made makes.holds is in
    subst (λ (s : SlirpState). length i.associations.list + length i.questions.list + open_flows new.self.flows.slots < others_open s) c.self.view_is (omega (arith, less))

pub returns-then-flow_is_first-clause-none : goal.returns-then-flow_is_first-clause-none
returns-then-flow_is_first-clause-none g c is =
    let i = c.self.inside in
    let makes = c.close_first.ensures.closes in
    let first = subst (λ (s : SlirpState). IsFlowFirst (carriers (holders_of s)) s.flows.flows.slots) (sym c.self.view_is) (c.flow_is_first.ensures.yes c.if-flow_is_first.true) in
    absurd (some_flow c.close_first.result (numbers i.associations.list ++ question_numbers i.questions.list) i.flows.flows.slots c.close_first.new.self.flows.slots makes.made first makes.holds is)

pub returns-then-flow_is_first-clause-unasked : goal.returns-then-flow_is_first-clause-unasked
returns-then-flow_is_first-clause-unasked g c is =
    let i = c.self.inside in
    let makes = c.close_first.ensures.closes in
    let first = subst (λ (s : SlirpState). IsFlowFirst (carriers (holders_of s)) s.flows.flows.slots) (sym c.self.view_is) (c.flow_is_first.ensures.yes c.if-flow_is_first.true) in
    absurd (some_flow c.close_first.result (numbers i.associations.list ++ question_numbers i.questions.list) i.flows.flows.slots c.close_first.new.self.flows.slots makes.made first makes.holds is)

pub returns-then-flow_is_first-clause-turn : goal.returns-then-flow_is_first-clause-turn
returns-then-flow_is_first-clause-turn g c = ap (λ (k : Kept). k.turn) c.close_first.ensures.same ∙ ap (λ (s : SlirpState). s.flows.turn) c.self.view_is

pub returns-then-flow_is_first-clause-ports : goal.returns-then-flow_is_first-clause-ports
returns-then-flow_is_first-clause-ports g c nothing = let has = (c.flow_is_first.ensures.yes c.if-flow_is_first.true).1.has in absurd (nothing.none has.0 has.1 has.2.here)

-- ---- a question's

pub returns-then-question_is_first-clause-makes : goal.returns-then-question_is_first-clause-makes
returns-then-question_is_first-clause-makes g c =
    let i = c.self.inside in
    let closing = c.close_first-then-question_is_first in
    let o : Holders = record { associations = i.associations.list; questions = i.questions.list; slots = i.flows.flows.slots } in
    let no_flow = subst (λ (s : SlirpState). NoFlowFirst (carriers (holders_of s)) s.flows.flows.slots) (sym c.self.view_is) (c.flow_is_first.ensures.no c.if-flow_is_first.false) in
    let first = subst (λ (s : SlirpState). IsQuestionFirst s.associations s.questions) (sym c.self.view_is) (c.question_is_first.ensures.yes c.if-question_is_first.true) in
    subst (λ (s : SlirpState). Makes (g.W.World.tells c.args.world.now) (g.W.World.tells closing.new.world)
    (λ made. ClosesOther closing.result (forward_sockets s.forwards) (holders_of s) (record o { questions = closing.new.self.list }) made × AreCloses made)) c.self.view_is
    (makes_as _ _ _ _ closing.ensures.closes (λ made closes. (
      λ config over past no_forward holds. question_first config over (forward_sockets i.forwards) made past closing.result o closing.new.self.list no_flow first no_forward closes holds,
      of_question closing.result i.questions.list closing.new.self.list made closes,
    )))

pub returns-then-question_is_first-clause-fewer : goal.returns-then-question_is_first-clause-fewer
returns-then-question_is_first-clause-fewer g c is =
    let i = c.self.inside in
    let closing = c.close_first-then-question_is_first in
    let less = closing.ensures.fewer is in
    subst (λ (s : SlirpState). length i.associations.list + length closing.new.self.list + open_flows i.flows.flows.slots < others_open s) c.self.view_is (omega (arith, less))

pub returns-then-question_is_first-clause-none : goal.returns-then-question_is_first-clause-none
returns-then-question_is_first-clause-none g c is =
    let i = c.self.inside in
    let closing = c.close_first-then-question_is_first in
    let makes = closing.ensures.closes in
    let first = subst (λ (s : SlirpState). IsQuestionFirst s.associations s.questions) (sym c.self.view_is) (c.question_is_first.ensures.yes c.if-question_is_first.true) in
    absurd (some_question closing.result i.associations.list i.questions.list closing.new.self.list makes.made first makes.holds is)

pub returns-then-question_is_first-clause-unasked : goal.returns-then-question_is_first-clause-unasked
returns-then-question_is_first-clause-unasked g c is =
    let i = c.self.inside in
    let closing = c.close_first-then-question_is_first in
    let makes = closing.ensures.closes in
    let first = subst (λ (s : SlirpState). IsQuestionFirst s.associations s.questions) (sym c.self.view_is) (c.question_is_first.ensures.yes c.if-question_is_first.true) in
    absurd (some_question closing.result i.associations.list i.questions.list closing.new.self.list makes.made first makes.holds is)

pub returns-then-question_is_first-clause-ports : goal.returns-then-question_is_first-clause-ports
returns-then-question_is_first-clause-ports g c nothing =
    absurd (no_question c.args.self.now.associations c.args.self.now.questions nothing.unnamed (c.question_is_first.ensures.yes c.if-question_is_first.true))

pub invariant_of-self-then-question_is_first : goal.invariant_of-self-then-question_is_first
invariant_of-self-then-question_is_first g c =
    let i = c.self.inside in
    let closing = c.close_first-then-question_is_first in
    let makes = closing.ensures.closes in
    let asked = c.self.invariant.6 in
    let now_asked : AreAsked i.number i.policy closing.new.self = record {
      below = below_closed i.number (λ q. true) closing.result i.questions.list closing.new.self.list makes.made makes.holds asked.below;
      is = closing.ensures.rest ∙ ap (λ (r : RelayState). record r { list = closing.new.self.list }) asked.is;
    } in
    (c.self.invariant.0, c.self.invariant.1, c.self.invariant.2, c.self.invariant.3, c.self.invariant.4, c.self.invariant.5, now_asked, c.self.invariant.7)

-- ---- an association's

pub returns-else-question_is_first-clause-makes : goal.returns-else-question_is_first-clause-makes
returns-else-question_is_first-clause-makes g c =
    let i = c.self.inside in
    let closing = c.close_first-else-question_is_first in
    let o : Holders = record { associations = i.associations.list; questions = i.questions.list; slots = i.flows.flows.slots } in
    let no_flow = subst (λ (s : SlirpState). NoFlowFirst (carriers (holders_of s)) s.flows.flows.slots) (sym c.self.view_is) (c.flow_is_first.ensures.no c.if-flow_is_first.false) in
    let no_question = subst (λ (s : SlirpState). NoQuestionFirst s.associations s.questions) (sym c.self.view_is) (c.question_is_first.ensures.no c.if-question_is_first.false) in
    subst (λ (s : SlirpState). Makes (g.W.World.tells c.args.world.now) (g.W.World.tells closing.new.world)
    (λ made. ClosesOther closing.result (forward_sockets s.forwards) (holders_of s) (record o { associations = closing.new.self.list }) made × AreCloses made)) c.self.view_is
    (makes_as _ _ _ _ closing.ensures.closes (λ made closes. (
      λ config over past no_forward holds. association_first config over (forward_sockets i.forwards) made past closing.result o closing.new.self.list no_flow no_question no_forward closes holds,
      of_association closing.result i.associations.list closing.new.self.list made closes,
    )))

pub returns-else-question_is_first-clause-fewer : goal.returns-else-question_is_first-clause-fewer
returns-else-question_is_first-clause-fewer g c is =
    let i = c.self.inside in
    let closing = c.close_first-else-question_is_first in
    let less = closing.ensures.fewer is in
    subst (λ (s : SlirpState). length closing.new.self.list + length i.questions.list + open_flows i.flows.flows.slots < others_open s) c.self.view_is (omega (arith, less))

pub returns-else-question_is_first-clause-none : goal.returns-else-question_is_first-clause-none
returns-else-question_is_first-clause-none g c is =
    let closing = c.close_first-else-question_is_first in
    let makes = closing.ensures.closes in
    none_first closing.result c.self.inside.associations.list closing.new.self.list makes.made makes.holds is

pub returns-else-question_is_first-clause-unasked : goal.returns-else-question_is_first-clause-unasked
returns-else-question_is_first-clause-unasked g c is =
    let i = c.self.inside in
    let closing = c.close_first-else-question_is_first in
    let makes = closing.ensures.closes in
    let no_question = subst (λ (s : SlirpState). NoQuestionFirst s.associations s.questions) (sym c.self.view_is) (c.question_is_first.ensures.no c.if-question_is_first.false) in
    no_association_left closing.result i.associations.list closing.new.self.list i.questions.list makes.made no_question makes.holds is

pub returns-else-question_is_first-clause-ports : goal.returns-else-question_is_first-clause-ports
returns-else-question_is_first-clause-ports g c nothing =
    let old = c.self.inside.associations.list in
    let closing = c.close_first-else-question_is_first in
    let new = closing.new.self.list in
    let makes = closing.ensures.closes in
    let none = ap (λ (s : SlirpState). s.associations) c.self.view_is ∙ nothing.alone in (
      (no_association closing.result old new makes.made none makes.holds).0,
      makes_as _ _ _ _ makes (λ made closes. (no_association closing.result old new made none closes).1),
    )

pub invariant_of-self-else-question_is_first : goal.invariant_of-self-else-question_is_first
invariant_of-self-else-question_is_first g c =
    let i = c.self.inside in
    let closing = c.close_first-else-question_is_first in
    let makes = closing.ensures.closes in (
      below_first i.number closing.result i.associations.list closing.new.self.list makes.made makes.holds c.self.invariant.0,
      c.self.invariant.1,
      closing.ensures.bind ∙ c.self.invariant.2,
      c.self.invariant.3,
      c.self.invariant.4,
      c.self.invariant.5,
      c.self.invariant.6,
      c.self.invariant.7,
    )
