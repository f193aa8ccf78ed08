use Rattle.std.proofs.Common.{◌≡◌, ◌≤◌, Some, inl, inr, slice_get, sym, ◌∙◌, subst, true, List, ℕ}
use Rattle.flow_splice.specs.Splice.{Splice}
use Rattle.slirp_settings.specs.declared.Forward.{Forward}
use Rattle.spec_trace.specs.Sockets.{is_among}
use Rattle.sim_flows.specs.Core.{number_of}
use Rattle.tcp_flows.specs.Reading.{IsFirst as FirstOfFlows, IsOpenAt}
use Rattle.rules_dns.specs.Questions.{numbers as question_numbers}
use Rattle.rules_udp.specs.Associations.{numbers}
use Rattle.rules_forward.specs.Opened.{Opened}
use Rattle.rules_forward.specs.Opened.{forward_sockets}
use Rattle.slirp_core.specs.Holds.{Holders, IsForwardFirst, IsOf, NoForwardFirst, carriers, holders_of}
use Rattle.slirp_core.specs.State.{SlirpState}
use Rattle.slirp_core.proofs.Askers.{among_first, among_second}
use Rattle.slirp_core.proofs.Closing.{first_of_list, none_first_forward}
use Rattle.slirp_core.proofs.Least.{among_rising, first_is_least, flow_is_under, forward_is_first, forward_isnt_first, no_forward}
use Rattle.slirp_core.proofs.network.Slirp.forward_is_first.Goals as goal

abbrev IsFirst : SlirpState → Type 0
IsFirst s = IsForwardFirst (forward_sockets s.forwards) (carriers (holders_of s)) s.flows.flows.slots

abbrev IsntFirst : SlirpState → Type 0
IsntFirst s = NoForwardFirst (forward_sockets s.forwards) (carriers (holders_of s)) s.flows.flows.slots

pub returns-in_default-clause-no : goal.returns-in_default-clause-no
returns-in_default-clause-no c is =
    let i = c.self.inside in
    let o : Holders = record { associations = i.associations.list; questions = i.questions.list; slots = i.flows.flows.slots } in
    subst IsntFirst c.self.view_is
    (subst (λ (l : List Opened). NoForwardFirst (forward_sockets l) (carriers o) o.slots) (sym (none_first_forward i.forwards (sym c.at.ensures.at ∙ c.in_default.is))) (no_forward o))

-- the first forward of the list
first_there : (o : Holders) (list : List Opened) (number : ℕ) (f : Forward) → slice_get list 0 ≡ Some (f, number) → ((m : ℕ) → is_among m (carriers o) ≡ true → number ≤ m)
    → ((k : ℕ) (p : Splice) → IsOpenAt o.slots k p → number ≤ number_of p) → IsForwardFirst (forward_sockets list) (carriers o) o.slots
first_there o list number f at under below =
    let found = first_of_list list f number at in
    subst (λ (l : List Opened). IsForwardFirst (forward_sockets l) (carriers o) o.slots) (sym found.1) (forward_is_first number (forward_sockets found.0) o under below)

isnt_there : (o : Holders) (list : List Opened) (number first : ℕ) (f : Forward) → slice_get list 0 ≡ Some (f, number) → IsOf (carriers o) o.slots first → first ≤ number
    → NoForwardFirst (forward_sockets list) (carriers o) o.slots
isnt_there o list number first f at of most =
    let found = first_of_list list f number at in
    subst (λ (l : List Opened). NoForwardFirst (forward_sockets l) (carriers o) o.slots) (sym found.1) (forward_isnt_first number (forward_sockets found.0) o first of most)

pub returns-then-not-is_under_flows-clause-no : goal.returns-then-not-is_under_flows-clause-no
returns-then-not-is_under_flows-clause-no c is =
    let i = c.self.inside in
    let o : Holders = record { associations = i.associations.list; questions = i.questions.list; slots = i.flows.flows.slots } in
    let found = subst (λ (s : SlirpState). (n : ℕ) × FirstOfFlows n s.flows.flows.slots × (n ≤ c.in-Some.number)) (sym c.self.view_is) (c.is_under_flows.ensures.no c.if-not-is_under_flows.true) in
    let has = found.1.has in
    subst IsntFirst c.self.view_is (isnt_there o i.forwards c.in-Some.number found.0 c.in-Some.field-0-0 (sym c.at.ensures.at ∙ c.in-Some.is) (inr has) found.2)

pub returns-then-is_under-clause-yes : goal.returns-then-is_under-clause-yes
returns-then-is_under-clause-yes c less =
    let i = c.self.inside in
    let o : Holders = record { associations = i.associations.list; questions = i.questions.list; slots = i.flows.flows.slots } in
    let named = c.rising-then-is_under in
    let below = subst (λ (s : SlirpState). (k : ℕ) (p : Splice) → IsOpenAt s.flows.flows.slots k p → c.in-Some.number ≤ number_of p) (sym c.self.view_is)
    (c.is_under_flows.ensures.yes c.if-not-is_under_flows.false) in
    subst IsFirst c.self.view_is (first_there o i.forwards c.in-Some.number c.in-Some.field-0-0 (sym c.at.ensures.at ∙ c.in-Some.is)
    (flow_is_under c.in-Some.number o (λ m among. c.is_under.ensures.yes c.if-is_under.true m (among_rising (numbers o.associations) c.rising.result.now c.rising.ensures.all m among))
    (λ m among. c.is_under-then-is_under.ensures.yes less m (among_rising (question_numbers o.questions) named.result.now named.ensures.all m among)))
    below)

pub returns-then-is_under-clause-no : goal.returns-then-is_under-clause-no
returns-then-is_under-clause-no c not_less =
    let i = c.self.inside in
    let o : Holders = record { associations = i.associations.list; questions = i.questions.list; slots = i.flows.flows.slots } in
    let named = c.rising-then-is_under in
    let found = c.is_under-then-is_under.ensures.no not_less in
    let among = (first_is_least (question_numbers o.questions) named.result.now named.ensures.all named.ensures.rising found.0 found.1).0 in
    subst IsntFirst c.self.view_is (isnt_there o i.forwards c.in-Some.number found.0 c.in-Some.field-0-0 (sym c.at.ensures.at ∙ c.in-Some.is)
    (inl (among_second found.0 (numbers o.associations) (question_numbers o.questions) among)) found.2)

pub returns-else-is_under-clause-no : goal.returns-else-is_under-clause-no
returns-else-is_under-clause-no c is =
    let i = c.self.inside in
    let o : Holders = record { associations = i.associations.list; questions = i.questions.list; slots = i.flows.flows.slots } in
    let found = c.is_under.ensures.no c.if-is_under.false in
    let among = (first_is_least (numbers o.associations) c.rising.result.now c.rising.ensures.all c.rising.ensures.rising found.0 found.1).0 in
    subst IsntFirst c.self.view_is (isnt_there o i.forwards c.in-Some.number found.0 c.in-Some.field-0-0 (sym c.at.ensures.at ∙ c.in-Some.is)
    (inl (among_first found.0 (numbers o.associations) (question_numbers o.questions) among)) found.2)
