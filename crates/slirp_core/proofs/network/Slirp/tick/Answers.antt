use Rattle.world_face.specs.Journal.{Entry}
use Rattle.std.proofs.Common.{◌≡◌, ℕ, ◌+◌, ◌++◌, ◌∙◌, List, slice_get, Some, refl, sym, ap, subst}
use Rattle.world_face.specs.Tells.{Makes}
use Rattle.world_face.proofs.Telling.{brings_none, brings_then, makes_then}
use Rattle.std.specs.Prelude.{false, true}
use Rattle.sim_flows.specs.FlowsHold.{FlowsState}
use Rattle.flow_splice.specs.Splice.{Splice}
use Rattle.tcp_flows.specs.Kept.{Kept}
use Rattle.tcp_flows.specs.Settled.{IsInTime, OwesNoAck}
use Rattle.tcp_flows.specs.Runs.{ClosesRising}
use Rattle.slirp_core.specs.Hearing.{ClosesByKind, WhereItTicks}
use Rattle.slirp_core.specs.Holds.{Holds, after, flowing}
use Rattle.slirp_core.specs.State.{SlirpState}
use Rattle.slirp_core.specs.Waiting.{AreFresh}
use Rattle.slirp_core.proofs.Called.{flows_put, turn_begins}
use Rattle.slirp_core.proofs.Starting.{forgets}
use Rattle.slirp_core.proofs.Viewed.{state_of}
use Rattle.slirp_core.proofs.network.Slirp.tick.Goals as goal

pub returns-clause-makes : goal.returns-clause-makes
returns-clause-makes g c config count link few =
    let i = c.self.inside in
    let slirp : SlirpState = state_of i in
    let begun = c.begin_turn.new.self in
    let mid = c.tell_time.new.self in
    brings_then (brings_none (λ past holds.
    subst (λ (k : Kept). Holds config (after count) (record slirp { flows = k }) (flowing false k) link past) (sym c.begin_turn.ensures.turn)
    (flows_put config (after count) slirp (record i.flows { turn = i.flows.turn + 1 }) (flowing false (record i.flows { turn = i.flows.turn + 1 })) link past
    (turn_begins config (after count) slirp false i.flows link past (subst (λ (s : SlirpState). Holds config (after count) s (flowing false s.flows) link past) (sym c.self.view_is) holds)))))
    (brings_then (brings_none (λ past holds. c.tell_addresses.ensures.holds config (after count) false link past holds))
    (brings_then (c.tell_time.ensures.makes config count link few)
    (brings_then (brings_none (λ past holds.
    subst (λ (k : Kept). Holds config (after count) c.drop_fragments.new.self (flowing true k) link past) (sym (ap (λ (s : SlirpState). s.flows) c.drop_fragments.ensures.same))
    (forgets config (after count) mid c.drop_fragments.new.self (flowing true mid.flows) link past c.drop_fragments.ensures.same c.drop_fragments.ensures.fragments holds)))
    (brings_then (c.close_unused.ensures.makes config (after count) true link) (c.close_unanswered.ensures.makes config (after count) true link)))))

pub returns-clause-rising : goal.returns-clause-rising
returns-clause-rising g c =
    let i = c.self.inside in
    let slirp : SlirpState = state_of i in
    let begun = c.begin_turn.new.self in
    subst (λ (s : SlirpState). Makes (g.W.World.tells c.args.world.now) (g.W.World.tells c.close_unanswered.new.world) (λ made. WhereItTicks s (ClosesByKind made))) c.self.view_is
    (makes_then _ _ _ (λ made. (flows associations : List Entry) × (made ≡ associations ++ flows) × WhereItTicks c.tell_addresses.new.self
    (ClosesRising flows) × ClosesRising associations) ClosesRising (λ made. WhereItTicks slirp (ClosesByKind made))
    (makes_then _ _ _ (λ made. WhereItTicks c.tell_addresses.new.self (ClosesRising made)) ClosesRising
    (λ made. (flows associations : List Entry) × (made ≡ associations ++ flows) × WhereItTicks c.tell_addresses.new.self
    (ClosesRising flows) × ClosesRising associations) c.tell_time.ensures.rising c.close_unused.ensures.rising
    (λ first second rise more. (first, second, refl, rise, more))) c.close_unanswered.ensures.rising
    (λ before third (flows, associations, is, rise, more) last config count link past few holds. record {
      flows = flows;
      associations = associations;
      questions = third;
      is = ap (λ l. third ++ l) is;
      associations_rise = more;
      questions_rise = last;
      flows_rise = rise config count link past few
          (c.tell_addresses.ensures.holds config (after count) false link past
          (subst (λ (k : Kept). Holds config (after count) (record slirp { flows = k }) (flowing false k) link past) (sym c.begin_turn.ensures.turn)
          (flows_put config (after count) slirp (record i.flows { turn = i.flows.turn + 1 }) (flowing false (record i.flows { turn = i.flows.turn + 1 })) link past
          (turn_begins config (after count) slirp false i.flows link past holds))));
    }))

pub returns-clause-ahead : goal.returns-clause-ahead
returns-clause-ahead g c config at aged link past holds n unowed =
    let i = c.self.inside in
    let slirp : SlirpState = state_of i in
    let begun : Kept = c.begin_turn.new.self in
    let same : begun.flows ≡ c.args.self.now.flows.flows = ap (λ (k : Kept). k.flows) c.begin_turn.ensures.turn ∙ ap (λ (s : SlirpState). s.flows.flows) c.self.view_is in
    let begins =
    subst (λ (k : Kept). Holds config at (record slirp { flows = k }) (flowing aged k) link past) (sym c.begin_turn.ensures.turn)
    (flows_put config at slirp (record i.flows { turn = i.flows.turn + 1 }) (flowing aged (record i.flows { turn = i.flows.turn + 1 })) link past
    (turn_begins config at slirp aged i.flows link past (subst (λ (s : SlirpState). Holds config at s (flowing aged s.flows) link past) (sym c.self.view_is) holds))) in
    let told = c.tell_addresses.ensures.holds config at aged link past begins in
    subst (λ (s : SlirpState). IsInTime s.moment s.flows.flows.slots n) (sym c.close_unanswered.ensures.same)
    (subst (λ (s : SlirpState). IsInTime s.moment s.flows.flows.slots n) (sym c.close_unused.ensures.same)
    (subst (λ (s : SlirpState). IsInTime s.moment s.flows.flows.slots n) (sym c.drop_fragments.ensures.same)
    (c.tell_time.ensures.ahead config c.tell_addresses.new.self.moment aged past told.flows.holds n
    (c.tell_addresses.ensures.calm n (subst (λ (f : FlowsState Splice). OwesNoAck f.slots n) (sym same) unowed)))))

pub returns-clause-unserved : goal.returns-clause-unserved
returns-clause-unserved g c k served =
    let same : c.close_unanswered.new.self.flows ≡ c.tell_time.new.self.flows = ap (λ (s : SlirpState). s.flows) c.close_unanswered.ensures.same ∙ ap
    (λ (s : SlirpState). s.flows) c.close_unused.ensures.same ∙ ap (λ (s : SlirpState). s.flows) c.drop_fragments.ensures.same in
    c.begin_turn.ensures.unserved k
    (sym (ap (λ (f : Kept). slice_get f.served k) same ∙ ap (λ (l : List ℕ). slice_get l k) (c.tell_time.ensures.served ∙ c.tell_addresses.ensures.served)) ∙ served ∙ ap
    (λ (f : Kept). Some f.turn) same
    ∙ ap Some (c.tell_time.ensures.turn ∙ c.tell_addresses.ensures.turn))

pub returns-clause-fresh : goal.returns-clause-fresh
returns-clause-fresh g c =
    subst (λ (s : SlirpState). AreFresh s.moment s.fragments) (sym c.close_unanswered.ensures.same) (subst (λ (s : SlirpState). AreFresh s.moment s.fragments)
    (sym c.close_unused.ensures.same) c.drop_fragments.ensures.fresh)
