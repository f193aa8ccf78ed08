use Rattle.std.proofs.Common.{◌≡◌, ◌++◌, Bool, List, None, Option, ℕ, length, sym, ◌∙◌, ap, subst, arith}
use Rattle.std.specs.List.Sorted.{IsNonDecreasing, IsPermutation}
use Rattle.rules_dns.specs.Questions.{numbers as question_numbers}
use Rattle.poll_list.specs.declared.Want.{Want}
use Rattle.world_face.specs.Journal.{Entry}
use Rattle.slirp_settings.specs.Addresses.{Config}
use Rattle.sim_flows.specs.Core.{CoreHolds}
use Rattle.tcp_flows.specs.Reading.{AreWantsOf}
use Rattle.tcp_flows.specs.Waits.{AreWaitedFor}
use Rattle.rules_udp.specs.Associations.{numbers}
use Rattle.slirp_core.specs.Holds.{carriers, holders_of}
use Rattle.slirp_core.specs.Pumps.{merged, time_left}
use Rattle.slirp_core.specs.State.{SlirpState}
use Rattle.world_face.specs.Moments.{sooner}
use Rattle.slirp_core.specs.Timeouts.{IsFlowTime, SuitsFlows}
use Rattle.slirp_core.proofs.Filling.{wants_of}
use Rattle.port_forward.proofs.Forwarding.{both_over}
use Rattle.slirp_settings.specs.declared.Proto.TheVariants.{Udp as OverUdp}
use Rattle.rules_forward.specs.Opened.{sockets_over}
use Rattle.slirp_core.proofs.Merging.{merged_rises, merged_three}
use Rattle.slirp_core.proofs.network.Slirp.pollfds_fill.Goals as goal

pub returns-clause-timeout : goal.returns-clause-timeout
returns-clause-timeout c held is =
    let now = c.args.self.now in
    record {
      fragments = c.time_of_fragments.result;
      of_fragments = c.time_of_fragments.ensures held is;
      flows = c.time_of_flows.result;
      of_flows = subst (λ (b : Bool). IsFlowTime b now.moment now.flows.flows.slots c.time_of_flows.result) c.blocked-2.ensures c.time_of_flows.ensures.time;
      suits_flows = λ config before past holds. subst (λ (b : Bool). SuitsFlows config now.moment b now.flows.flows.slots past c.time_of_flows.result) c.blocked-2.ensures
          (c.time_of_flows.ensures.suits config before past holds);
      files = c.time_of_files.result;
      of_files = c.time_of_files.ensures;
      is =
          c.sooner.ensures
          ∙ ap (λ (o : Option ℕ). sooner o c.time_of_files.result) (c.sooner-unless_files.ensures
          ∙ ap (λ (o : Option ℕ). sooner o c.time_of_flows.result) (c.sooner-datagrams-2.ensures
          ∙ ap (λ (o : Option ℕ). sooner o c.time_of_fragments.result) (c.sooner-datagrams.ensures ∙ ap
          (λ (o : Option ℕ). sooner o c.time_of_questions.result) c.time_of_sockets.ensures ∙ ap (sooner (time_left now.moment now.associations)) c.time_of_questions.ensures)));
    }

pub returns-clause-items : goal.returns-clause-items
returns-clause-items c =
    let i = c.self.inside in
    let added = c.fill.ensures.items in
    let some = c.rising.result.now in
    let others = c.rising-2.result.now in
    let forwards = c.ports_over.result.now in
    let given : forwards ≡ sockets_over OverUdp c.args.self.now.forwards = c.ports_over.ensures.items in
    wants_of c.args.self.now c.args.link.now c.fill.new.self.items added.0 c.is_settled.result c.blocked.result c.listeners.result.now
    (merged (merged forwards some) others) c.is_settled.ensures c.blocked.ensures c.listeners.ensures.items
    (subst (λ l. IsPermutation (l ++ carriers (holders_of c.args.self.now)) (merged (merged forwards some) others)) given
    (subst (λ (s : SlirpState). IsPermutation (forwards ++ carriers (holders_of s)) (merged (merged forwards some) others)) c.self.view_is
    (merged_three forwards (numbers i.associations.list) (question_numbers i.questions.list) some others c.rising.ensures.all c.rising-2.ensures.all)))
    (λ rising. merged_rises (merged forwards some) others (merged_rises forwards some (subst IsNonDecreasing (sym given) rising) c.rising.ensures.rising) c.rising-2.ensures.rising)
    (subst (λ (s : SlirpState). AreWantsOf s.flows.flows.slots added.0) c.self.view_is added.2) added.1

pub fill-requires-clause-numbers : goal.fill-requires-clause-numbers
fill-requires-clause-numbers c = c.self.invariant.3.below

-- the listeners and the ports for datagrams are forwards
pub fill-requires-clause-few : goal.fill-requires-clause-few
fill-requires-clause-few c =
    let all = both_over c.args.self.now.forwards in
    let most = c.ports_over.ensures.few in
    let few = c.listeners.ensures.few in
    let over = ap length c.ports_over.ensures.items in
    omega (arith, all, most, few, over)

pub fill-requires-clause-most : goal.fill-requires-clause-most
fill-requires-clause-most c =
    let all = both_over c.args.self.now.forwards in
    let most = c.ports_over.ensures.few in
    let over = ap length c.ports_over.ensures.items in
    (omega (arith, all, most, over), c.rising.ensures.most, c.rising-2.ensures.most)

pub returns-clause-waited_for : goal.returns-clause-waited_for
returns-clause-waited_for c =
    subst (λ (s : SlirpState). (config : Config) (before : ℕ) (aged : Bool) (past : List Entry) (added : List Want) → CoreHolds config before aged None s.flows.flows past →
    AreWantsOf s.flows.flows.slots added → AreWaitedFor config past added) c.self.view_is
    c.fill.ensures.waited_for
