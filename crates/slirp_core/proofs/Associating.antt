-- The calls that the associations make, step by step.
use Rattle.std.proofs.Common.{◌≡◌, ℕ, ◌+◌, ◌<◌, ◌≤◌, ◌||◌, Bool, true, false, nat_le, List, [], ◌∷◌, ◌++◌, length, take, is_some, unwrap_or, Option, Some, None, if◌then◌else◌}
use Rattle.std.proofs.Common.{refl, sym, ◌∙◌, ap, subst, append_assoc, arith}
use Rattle.poll_list.specs.declared.Want.{Want}
use Rattle.poll_list.specs.declared.Who.TheVariants.{Udp}
use Rattle.net_octets.specs.declared.Endpoint.{Endpoint}
use Rattle.slirp_settings.specs.Addresses.{Config, endpoint}
use Rattle.slirp_settings.specs.declared.Forward.{Forward as AForward}
use Rattle.slirp_settings.specs.declared.Proto.TheVariants.{Udp as ByUdp}
use Rattle.rules_udp.specs.declared.Reply.{Reply}
use Rattle.world_face.specs.Journal.{Entry, Allowed, AreAllowed, Close, UdpSend, UdpRecv, filled_got}
use Rattle.world_face.specs.declared.Sent.{Sent}
use Rattle.world_face.specs.declared.Sent.TheVariants.{Done, NotYet, Failed}
use Rattle.world_face.specs.declared.Got.{Got}
use Rattle.world_face.specs.declared.Got.TheVariants.{From, NotYet as GotNotYet, Failed as GotFailed}
use Rattle.rules_udp.specs.Associations.{most_associations, numbers, numbered, without, moved_last, sent_from, heard_at}
use Rattle.udp_assoc.specs.Relays.{Relays, ByForward, BySocket, ByNewSocket, OpensFor, Opens, OpensNone, Hears, OnForward, OnAssociation, OnNone, Ticks, calls_for_room, with_room}
use Rattle.udp_assoc.specs.Relays.{with_reply, opened, told, passed, ClosesLeast}
use Rattle.rules_udp.specs.declared.Association.{Association}
use Rattle.rules_dns.specs.Questions.{asked_from, moved_last as question_moved, numbered as question_numbered, numbers as question_numbers}
use Rattle.rules_dns.specs.declared.Question.{Question}
use Rattle.spec_trace.specs.Sockets.{is_among}
use Rattle.spec_run.specs.Agenda.{agenda, all_wanted, is_to_read, wanted_of}
use Rattle.spec_run.specs.Datagrams.{Errand, Step, NeedsRoom, NeedsSocket, NeedsSending, asks_a_name}
use Rattle.spec_run.specs.Laws.{relays}
use Rattle.spec_run.specs.Relayed.{with_forward, with_socket, without_socket}
use Rattle.spec_run.proofs.Finding.{socket_among}
use Rattle.rules_forward.specs.Opened.{socket_for as port_for}
use Rattle.stream_netdev.specs.State.{LinkState}
use Rattle.slirp_core.specs.Forwards.{IsInForce, guest_on}
use Rattle.slirp_core.specs.Holds.{asked_by, Standing, standing, IsLast, Flowing, HoldsAt, Holds}
use Rattle.slirp_core.specs.Replies.{outbound_of, told_by, owed_by}
use Rattle.slirp_core.specs.State.{SlirpState}
use Rattle.slirp_core.proofs.Given.{guest_found, in_force_with}
use Rattle.slirp_core.proofs.Names.{among_both, association_unmoved, none_moved, numbered_is}
use Rattle.slirp_core.proofs.Parts.{skipped}
use Rattle.slirp_core.proofs.Sockets.{among_numbered, last_among, no_association}
use Rattle.slirp_core.proofs.Relaying.{after_open, asks_by_port, after_failure, after_forward, after_hearing, after_idling, after_no_hearing, after_not_sent, after_not_yet, after_refusal}
use Rattle.slirp_core.proofs.Relaying.{after_sent, after_yielding, carried, forward_open, no_name, port_of_other, relays_association, relays_forward, relays_own}
use Rattle.slirp_core.specs.Hearing.{Receives as ReceivesOn, is_heard}
use Rattle.tcp_flows.specs.Runs.{ClosesBelow, ClosesRising}
use Rattle.udp_assoc.proofs.Below.{AreBelow, below_last, below_moved, below_up, below_without}
use Rattle.slirp_core.proofs.Ticking.{AreFrom, below_more, found_from, from_least, from_zero, without_least}

-- each of two lists of answers was one that a World may give
pub parted : (xs ys : List Entry) → AreAllowed (xs ++ ys) → AreAllowed xs × AreAllowed ys
parted [] ys all = (tt, all)
parted (x ∷ xs) ys all = let rest = parted xs ys all.1 in ((all.0, rest.0), rest.1)

-- other reports are left
pub with_agenda : (config : Config) (at after : Standing) (slirp : SlirpState) (f : Flowing) (link : LinkState) (past : List Entry) → after.count ≡ at.count
    → Holds config at slirp f link past → IsLast (all_wanted after.wants after.left) (agenda past) → Holds config after slirp f link past
with_agenda config at after slirp f link past same holds last = record {
  lawful = holds.lawful;
  allowed = holds.allowed;
  keeps = holds.keeps;
  answers = holds.answers;
  guests = holds.guests;
  relayed = holds.relayed;
  services = holds.services;
  forwards = holds.forwards;
  flows = holds.flows;
  sockets = holds.sockets;
  clock = record { moment = holds.clock.moment; counted = holds.clock.counted ∙ sym same };
  stands = holds.stands;
  agenda = last;
  open_yet = holds.open_yet;
}

-- an item is passed over
pub passes_over : (config : Config) (count : ℕ) (wants : List Want) (item : Want) (items : List Want) (slirp : SlirpState) (f : Flowing) (link : LinkState) (past : List Entry)
    → Holds config (standing count wants (item ∷ items)) slirp f link past → Holds config (standing count wants items) slirp f link past
passes_over config count wants item items slirp f link past holds =
    with_agenda config (standing count wants (item ∷ items)) (standing count wants items) slirp f link past refl holds (skipped (wanted_of wants item) (all_wanted wants items)
    (agenda past) holds.agenda)

-- a datagram was sent on a socket, and these are the lists then
pub sent_on : (config : Config) (at : Standing) (f : Flowing) (link : LinkState) (slirp : SlirpState) (past : List Entry) (socket : ℕ) (errand : Errand) (list : List Association)
    (named : List Question) → relays past socket ≡ true
    → moved_last (sent_from (record { 0 = errand.datagram.mac }) slirp.moment) socket slirp.associations ≡ list → question_moved
    (asked_from (record { 0 = errand.datagram.mac }) slirp.moment) socket slirp.questions ≡ named
    → HoldsAt config at (NeedsSending socket errand) slirp f link past → (answer : Sent) → Allowed (UdpSend socket errand.to errand.datagram.body answer)
    → Holds config at (record slirp { associations = list; questions = named; pending = told_by slirp errand.datagram (told answer) }) f link
    (UdpSend socket errand.to errand.datagram.body answer ∷ past)
sent_on config at f link slirp past socket errand list named on list_is named_is holds Done allowed = after_sent config at slirp f link past socket errand on list named list_is named_is holds allowed
sent_on config at f link slirp past socket errand list named on list_is named_is holds NotYet allowed = after_not_sent config at slirp f link past socket errand on list named
    list_is named_is holds allowed
sent_on config at f link slirp past socket errand list named on list_is named_is holds Failed allowed = after_failure config at slirp f link past socket errand on list named
    list_is named_is holds allowed

module _ (config : Config) (at : Standing) (f : Flowing) (link : LinkState) where
  -- on the socket of its port, which was open or was opened for it
  sent_on_port : (slirp : SlirpState) (past : List Entry) (socket : ℕ) (errand : Errand) → is_among socket (numbers slirp.associations) ≡ true → HoldsAt config at
      (NeedsSending socket errand) slirp f link past
      → (answer : Sent) → Allowed (UdpSend socket errand.to errand.datagram.body answer)
      → Holds config at (record slirp {
        associations = moved_last (sent_from (record { 0 = errand.datagram.mac }) slirp.moment) socket slirp.associations;
        pending = told_by slirp errand.datagram (told answer);
      }) f link
      (UdpSend socket errand.to errand.datagram.body answer ∷ past)
  sent_on_port slirp past socket errand among holds answer allowed =
      sent_on config at f link slirp past socket errand (moved_last (sent_from (record { 0 = errand.datagram.mac }) slirp.moment) socket slirp.associations) slirp.questions
      (relays_own past socket (carried config at slirp f link past (NeedsSending socket errand) None holds socket among)) refl
      (none_moved (asked_from (record { 0 = errand.datagram.mac }) slirp.moment) socket slirp.questions
      (no_name config at slirp f link past (NeedsSending socket errand) None holds socket among)) holds answer allowed

  -- a socket was opened for it at the address of the settings, or wasn't
  opened_for : (slirp : SlirpState) (past : List Entry) (errand : Errand) → asks_a_name config errand ≡ false → (new : List Association) (reply : Reply) (calls : List Entry)
      → OpensFor (unwrap_or config.outbound 0) (outbound_of errand) slirp.moment slirp.number slirp.associations new reply calls → AreAllowed calls → HoldsAt config at
      (NeedsSocket errand) slirp f link past
      → Holds config at (record slirp { associations = new; pending = told_by slirp errand.datagram reply; number = slirp.number + 1 }) f link (calls ++ past)
  opened_for slirp past errand other new reply calls (Opens answer made is replies) allowed holds =
      let all = subst AreAllowed made allowed in
      let one = opened (outbound_of errand) slirp.number slirp.moment in
      let with_one : SlirpState = record slirp { number = slirp.number + 1; associations = slirp.associations ++ (one ∷ []) } in
      subst (λ (l : List Association). Holds config at (record slirp { associations = l; pending = told_by slirp errand.datagram reply; number = slirp.number + 1 }) f link (calls ++ past)) (sym is)
      (subst (λ (r : Reply). Holds config at (record with_one {
        associations = moved_last
            (sent_from (record { 0 = errand.datagram.mac }) slirp.moment) slirp.number with_one.associations;
        pending = told_by slirp errand.datagram r;
      }) f link (calls ++ past)) (sym replies)
      (subst (λ (m : List Entry). Holds config at (record with_one {
        associations = moved_last
            (sent_from (record { 0 = errand.datagram.mac }) slirp.moment) slirp.number with_one.associations;
        pending = told_by slirp errand.datagram (told answer);
      }) f link (m ++ past)) (sym made)
      (sent_on_port with_one _ slirp.number errand (last_among slirp.associations one)
      (after_open config at slirp f link past errand holds other (endpoint (unwrap_or config.outbound 0) 0) (port_of_other config at slirp f link past errand holds other) all.1.0) answer all.0)))
  opened_for slirp past errand other new reply calls (OpensNone made is replies) allowed holds =
      subst (λ (l : List Association). Holds config at (record slirp { associations = l; pending = told_by slirp errand.datagram reply; number = slirp.number + 1 }) f link (calls ++ past)) (sym is)
      (subst (λ (r : Reply). Holds config at (record slirp { pending = told_by slirp errand.datagram r; number = slirp.number + 1 }) f link (calls ++ past)) (sym replies)
      (subst (λ (m : List Entry). Holds config at (record slirp { pending = told_by slirp errand.datagram (told Failed); number = slirp.number + 1 }) f link (m ++ past)) (sym made)
      (after_refusal config at slirp f link past errand holds (endpoint (unwrap_or config.outbound 0) 0) (port_of_other config at slirp f link past errand holds other)
      (subst AreAllowed made allowed).0)))

  -- there is room for one more
  roomed : (slirp : SlirpState) (past : List Entry) (errand : Errand) → asks_a_name config errand ≡ false → (list : List Association) → length
      (with_room list) < most_associations → AreAllowed (calls_for_room list)
      → HoldsAt config at (without_socket list errand) (record slirp { associations = list }) f link past
      → HoldsAt config at (NeedsSocket errand) (record slirp { associations = with_room list }) f link (calls_for_room list ++ past)
  roomed slirp past errand other [] room allowed holds = holds
  roomed slirp past errand other (oldest ∷ others) room allowed holds = by (nat_le most_associations (length (oldest ∷ others))) room allowed holds
    where
      by : (b : Bool) → length (if b then without oldest.number (oldest ∷ others) else oldest ∷ others) < most_associations → AreAllowed (if b then Close oldest.number ∷ [] else [])
          → HoldsAt config at (if b then NeedsRoom oldest.number errand else NeedsSocket errand) (record slirp { associations = oldest ∷ others }) f link past
          → HoldsAt config at (NeedsSocket errand) (record slirp { associations = if b then without oldest.number (oldest ∷ others) else oldest ∷ others }) f link
          ((if b then Close oldest.number ∷ [] else []) ++ past)
      by true room allowed holds = after_yielding config at (record slirp { associations = oldest ∷ others }) f link past oldest others errand other allowed.0 refl room holds
      by false room allowed holds = holds

  -- on the first port of the host that is given to its port, else by the list
  by_port : (slirp : SlirpState) (past : List Entry) (errand : Errand) → asks_a_name config errand ≡ false → (o : Option ℕ) → port_for errand.datagram.from slirp.forwards ≡ o →
      HoldsAt config at (asked_by config slirp (Some errand)) slirp f link past
      → HoldsAt config at (with_forward o slirp.associations errand) slirp f link past
  by_port slirp past errand other o is holds = subst (λ (s : Step). HoldsAt config at s slirp f link past)
      (asks_by_port config slirp errand other ∙ ap (λ p. with_forward p slirp.associations errand) is) holds

  pub relayed : (slirp : SlirpState) (past : List Entry) (errand : Errand) → asks_a_name config errand ≡ false → (next : ℕ) (new : List Association) (reply : Reply) (made : List Entry)
      → Relays (unwrap_or config.outbound 0) (port_for errand.datagram.from slirp.forwards) (outbound_of errand) slirp.moment slirp.number next slirp.associations new reply made → AreAllowed made
      → HoldsAt config at (asked_by config slirp (Some errand)) slirp f link past
      → Holds config at (record slirp { associations = new; pending = told_by slirp errand.datagram reply; number = next }) f link (made ++ past)
  relayed slirp past errand other next new reply made (ByForward socket for sends is same) allowed holds =
      let due = by_port slirp past errand other (Some socket) for holds in
      let open_one = forward_open config at (NeedsSending socket errand) None slirp f link past due errand.datagram.from socket for in
      subst (λ (n : ℕ). Holds config at (record slirp { associations = new; pending = told_by slirp errand.datagram reply; number = n }) f link (made ++ past)) (sym same)
      (subst (λ (l : List Association). Holds config at (record slirp { associations = l; pending = told_by slirp errand.datagram reply }) f link (made ++ past)) (sym is)
      (subst (λ (r : Reply). Holds config at (record slirp { pending = told_by slirp errand.datagram r }) f link (made ++ past)) (sym sends.2)
      (subst (λ (m : List Entry). Holds config at (record slirp { pending = told_by slirp errand.datagram (told sends.0) }) f link (m ++ past)) (sym sends.1)
      (sent_on config at f link slirp past socket errand slirp.associations slirp.questions open_one.relays
      (association_unmoved (sent_from (record { 0 = errand.datagram.mac }) slirp.moment) socket slirp.associations open_one.unlisted)
      (none_moved (asked_from (record { 0 = errand.datagram.mac }) slirp.moment) socket slirp.questions open_one.unnamed) due sends.0 (subst AreAllowed sends.1 allowed).0))))
  relayed slirp past errand other next new reply made (BySocket socket for found sends is same) allowed holds =
      let due = subst (λ (o : Option ℕ). HoldsAt config at (with_socket o slirp.associations errand) slirp f link past) found (by_port slirp past errand other None for holds) in
      subst (λ (n : ℕ). Holds config at (record slirp { associations = new; pending = told_by slirp errand.datagram reply; number = n }) f link (made ++ past)) (sym same)
      (subst (λ (l : List Association). Holds config at (record slirp { associations = l; pending = told_by slirp errand.datagram reply }) f link (made ++ past)) (sym is)
      (subst (λ (r : Reply). Holds config at (record slirp {
        associations = moved_last (sent_from (record { 0 = errand.datagram.mac }) slirp.moment) socket slirp.associations;
        pending = told_by slirp errand.datagram r;
      }) f link (made ++ past)) (sym sends.2)
      (subst (λ (m : List Entry). Holds config at (record slirp {
        associations = moved_last (sent_from (record { 0 = errand.datagram.mac }) slirp.moment) socket slirp.associations;
        pending = told_by slirp errand.datagram (told sends.0);
      }) f link (m ++ past)) (sym sends.1)
      (sent_on_port slirp past socket errand (socket_among errand.datagram.from slirp.associations socket found) due sends.0 (subst AreAllowed sends.1 allowed).0))))
  relayed slirp past errand other next new reply made (ByNewSocket calls for found room opens is same) allowed holds =
      let all = parted calls (calls_for_room slirp.associations) (subst AreAllowed is allowed) in
      let due = subst (λ (o : Option ℕ). HoldsAt config at (with_socket o slirp.associations errand) slirp f link past) found (by_port slirp past errand other None for holds) in
      let ready = roomed slirp past errand other slirp.associations room all.1 due in
      subst (λ (n : ℕ). Holds config at (record slirp { associations = new; pending = told_by slirp errand.datagram reply; number = n }) f link (made ++ past)) (sym same)
      (subst (λ (m : List Entry). Holds config at (record slirp { associations = new; pending = told_by slirp errand.datagram reply; number = slirp.number + 1 }) f link (m ++ past)) (sym is)
      (subst (λ (h : List Entry). Holds config at (record slirp { associations = new; pending = told_by slirp errand.datagram reply; number = slirp.number + 1 }) f link h)
      (sym (append_assoc calls (calls_for_room slirp.associations) past))
      (opened_for (record slirp { associations = with_room slirp.associations }) (calls_for_room slirp.associations ++ past) errand other new reply calls opens all.0 ready)))

  -- those whose idle life was over were closed
  pub ticked : (slirp : SlirpState) (past : List Entry) (new : List Association) (made : List Entry) → Ticks slirp.moment slirp.associations new made → AreAllowed made →
      Holds config at slirp f link past
      → Holds config at (record slirp { associations = new }) f link (made ++ past)
  ticked slirp past new [] is allowed holds = subst (λ (l : List Association). Holds config at (record slirp { associations = l }) f link past) (sym is) holds
  ticked slirp past new (Close n ∷ made) ticks allowed holds =
      subst (λ (l : List Association). Holds config at (record slirp { associations = l }) f link (Close n ∷ made ++ past)) (sym ticks.3)
      (after_idling config at (record slirp { associations = ticks.0 }) f link (made ++ past) n allowed.0 ticks.2.0 (ticked slirp past ticks.0 made ticks.1 allowed.1 holds))
  ticked slirp past new (_ ∷ made) ticks allowed holds = absurd ticks

module _ (config : Config) (count : ℕ) (wants : List Want) (item : Want) (items : List Want) (f : Flowing) (link : LinkState) where
  -- on the socket of a port of the host that is given to a guest, or of an association
  pub heard : (slirp : SlirpState) (past : List Entry) (socket room : ℕ) (into : List ℕ) (new : List Association) (reply : Reply) (made : List Entry)
      → is_to_read (Udp socket) (wanted_of wants item) ≡ true → room ≡ 65507 → slirp.pending ≡ [] → link.tail ≡ [] → Hears
      (guest_on slirp.forwards socket) slirp.moment socket room into slirp.associations new reply made → AreAllowed made
      → Holds config (standing count wants (item ∷ items)) slirp f link past
      → Holds config (standing count wants items) (record slirp { associations = new; pending = owed_by slirp into reply }) f link (made ++ past)
  heard slirp past socket room into new reply made reported whole none out (OnForward guest for receives is) allowed holds =
      let found = guest_found slirp.forwards socket guest for in
      let one = in_force_with config slirp.forwards past holds.forwards socket found.0 found.1 in
      subst (λ (l : List Association). Holds config (standing count wants items) (record slirp { associations = l; pending = owed_by slirp into reply }) f link (made ++ past)) (sym is)
      (subst (λ (r : Reply). Holds config (standing count wants items) (record slirp { pending = owed_by slirp into r }) f link (made ++ past)) (sym receives.2)
      (subst (λ (m : List Entry). Holds config (standing count wants items) (record slirp { pending = owed_by slirp into (passed receives.0 guest None) }) f link (m ++ past)) (sym receives.1)
      (subst (λ (g : Endpoint). Holds config (standing count wants items) (record slirp { pending = owed_by slirp into (passed receives.0 g None) }) f link
      (UdpRecv socket room receives.0 (filled_got receives.0 into) ∷ past)) found.3
      (by found.0 one found.2 receives.0 (subst AreAllowed receives.1 allowed).0))))
    where
      by : (forward : AForward) → IsInForce config past (forward, socket) → forward.proto ≡ ByUdp → (answer : Got) → Allowed (UdpRecv socket room answer (filled_got answer into))
          → Holds config (standing count wants items) (record slirp { pending = owed_by slirp into (passed answer forward.guest None) }) f link
          (UdpRecv socket room answer (filled_got answer into) ∷ past)
      by forward at udp (From peer size) allowed = after_forward config count wants item items slirp f link past socket room reported whole none out holds forward at udp peer size
          (take size into) allowed
      by forward at udp GotNotYet allowed =
          after_not_yet config count wants item items slirp f link past socket room reported whole none out holds
          (relays_forward config count wants item items slirp f link past socket room reported whole none out holds forward at udp) (filled_got GotNotYet into) allowed
      by forward at udp GotFailed allowed =
          after_no_hearing config count wants item items slirp f link past socket room reported whole none out holds
          (relays_forward config count wants item items slirp f link past socket room reported whole none out holds forward at udp) (filled_got GotFailed into) allowed
  heard slirp past socket room into new reply made reported whole none out (OnNone for found no_call is replies) allowed holds =
      subst (λ (l : List Association). Holds config (standing count wants items) (record slirp { associations = l; pending = owed_by slirp into reply }) f link (made ++ past)) (sym is)
      (subst (λ (r : Reply). Holds config (standing count wants items) (record slirp { pending = owed_by slirp into r }) f link (made ++ past)) (sym replies)
      (subst (λ (m : List Entry). Holds config (standing count wants items) slirp f link (m ++ past)) (sym no_call)
      (passes_over config count wants item items slirp f link past holds)))
  heard slirp past socket room into new reply made reported whole none out (OnAssociation a for found receives is) allowed holds =
      subst (λ (l : List Association). Holds config (standing count wants items) (record slirp { associations = l; pending = owed_by slirp into reply }) f link (made ++ past)) (sym is)
      (subst (λ (r : Reply). Holds config (standing count wants items)
      (record slirp { associations = with_reply r slirp.moment socket slirp.associations; pending = owed_by slirp into r }) f link (made ++ past)) (sym receives.2)
      (subst (λ (m : List Entry). Holds config (standing count wants items)
      (record slirp {
        associations = with_reply (passed receives.0 a.guest (Some a.mac)) slirp.moment socket slirp.associations;
        pending = owed_by slirp into
            (passed receives.0 a.guest (Some a.mac));
      }) f link (m ++ past)) (sym receives.1)
      (by receives.0 (subst AreAllowed receives.1 allowed).0)))
    where
      by : (answer : Got) → Allowed (UdpRecv socket room answer (filled_got answer into)) → Holds config (standing count wants items)
          (record slirp {
            associations = with_reply (passed answer a.guest (Some a.mac)) slirp.moment socket slirp.associations;
            pending = owed_by slirp into
                (passed answer a.guest (Some a.mac));
          }) f link
          (UdpRecv socket room answer (filled_got answer into) ∷ past)
      by (From peer size) allowed = after_hearing config count wants item items slirp f link past socket room reported whole none out holds a found peer size (take size into) allowed
      by GotNotYet allowed =
          after_not_yet config count wants item items slirp f link past socket room reported whole none out holds
          (relays_association config count wants item items slirp f link past socket room reported whole none out holds a found) (filled_got GotNotYet into) allowed
      by GotFailed allowed =
          after_no_hearing config count wants item items slirp f link past socket room reported whole none out holds
          (relays_association config count wants item items slirp f link past socket room reported whole none out holds a found) (filled_got GotFailed into) allowed

-- their numbers rise
record Ticked (now : ℕ) (list : List Association) (made : List Entry) : Type 0 where
  pub bound : ℕ
  pub below : ClosesBelow bound made
  pub rising : ClosesRising made
  pub from : AreFrom bound now list

ticks_rise : (now : ℕ) (old new : List Association) (made : List Entry) → Ticks now old new made → Ticked now new made
ticks_rise now old new [] is = record { bound = 0; below = tt; rising = tt; from = from_zero now new }
ticks_rise now old new (Close n ∷ made) ticks =
    let before = ticks_rise now old ticks.0 made ticks.1 in
    let from = found_from before.bound n now ticks.0 before.from ticks.2.0 in
    record {
      bound = n + 1;
      below = (omega arith, below_more before.bound (n + 1) made (omega (arith, from)) before.below);
      rising = (below_more before.bound n made from before.below, before.rising);
      from = subst (AreFrom (n + 1) now) (sym ticks.3) (without_least n now ticks.0 (from_least n now ticks.0 ticks.2.1));
    }
ticks_rise now old new (_ ∷ made) ticks = absurd ticks

pub closes_rising : (now : ℕ) (old new : List Association) (made : List Entry) → Ticks now old new made → ClosesRising made
closes_rising now old new made ticks = let t = ticks_rise now old new made ticks in t.rising

-- the numbers of those that are left stay below a bound
pub below_ticked : (bound now : ℕ) (old new : List Association) (made : List Entry) → Ticks now old new made → AreBelow bound old → AreBelow bound new
below_ticked bound now old new [] is below = subst (AreBelow bound) (sym is) below
below_ticked bound now old new (Close n ∷ made) ticks below = subst (AreBelow bound) (sym ticks.3) (below_without bound n ticks.0 (below_ticked bound now old ticks.0 made ticks.1 below))
below_ticked bound now old new (_ ∷ made) ticks below = absurd ticks

below_room : (bound : ℕ) (list : List Association) → AreBelow bound list → AreBelow bound (with_room list)
below_room bound [] below = below
below_room bound (oldest ∷ list) below = by (nat_le most_associations (length (oldest ∷ list)))
  where
    by : (b : Bool) → AreBelow bound (if b then without oldest.number (oldest ∷ list) else oldest ∷ list)
    by true = below_without bound oldest.number (oldest ∷ list) below
    by false = below

below_opened : (bind : ℕ) (d : Errand) (now number : ℕ) (old new : List Association) (reply : Reply) (calls : List Entry) → OpensFor bind
    (outbound_of d) now number old new reply calls → AreBelow number old → AreBelow (number + 1) new
below_opened bind d now number old new reply calls (Opens answer made is replies) below =
    subst (AreBelow (number + 1)) (sym is) (below_moved (number + 1) number (sent_from (record { 0 = d.datagram.mac }) now) (λ a. refl) _
    (below_last number old (opened (outbound_of d) number now) below refl))
below_opened bind d now number old new reply calls (OpensNone made is replies) below = subst (AreBelow (number + 1)) (sym is) (below_up number old below)

pub below_relayed : (bind : ℕ) (forward : Option ℕ) (d : Errand) (now number next : ℕ) (old new : List Association) (reply : Reply) (made : List Entry) → Relays bind forward
    (outbound_of d) now number next old new reply made → AreBelow number old → AreBelow next new
below_relayed bind forward d now number next old new reply made (ByForward socket for sends is same) below = subst (λ n. AreBelow n new) (sym same) (subst (AreBelow number) (sym is) below)
below_relayed bind forward d now number next old new reply made (BySocket socket for found sends is same) below =
    subst (λ n. AreBelow n new) (sym same) (subst (AreBelow number) (sym is) (below_moved number socket (sent_from (record { 0 = d.datagram.mac }) now) (λ a. refl) old below))
below_relayed bind forward d now number next old new reply made (ByNewSocket calls for found room opens is same) below =
    subst (λ n. AreBelow n new) (sym same) (below_opened bind d now number (with_room old) new reply calls opens (below_room number old below))

-- a number is used at most
pub counts_up : (bind : ℕ) (forward : Option ℕ) (d : Errand) (now number next : ℕ) (old new : List Association) (reply : Reply) (made : List Entry) → Relays bind forward
    (outbound_of d) now number next old new reply made → next ≤ number + 1
counts_up bind forward d now number next old new reply made (ByForward socket for sends is same) = omega (arith, same)
counts_up bind forward d now number next old new reply made (BySocket socket for found sends is same) = omega (arith, same)
counts_up bind forward d now number next old new reply made (ByNewSocket calls for found room opens is same) = omega (arith, same)

-- and none is given back
pub draws_up : (bind : ℕ) (forward : Option ℕ) (d : Errand) (now number next : ℕ) (old new : List Association) (reply : Reply) (made : List Entry) → Relays bind forward
    (outbound_of d) now number next old new reply made → number ≤ next
draws_up bind forward d now number next old new reply made (ByForward socket for sends is same) = omega (arith, same)
draws_up bind forward d now number next old new reply made (BySocket socket for found sends is same) = omega (arith, same)
draws_up bind forward d now number next old new reply made (ByNewSocket calls for found room opens is same) = omega (arith, same)

-- what is left to be sent after a receipt
below_reply : (bound now socket : ℕ) (list : List Association) (reply : Reply) → AreBelow bound list → AreBelow bound (with_reply reply now socket list)
below_reply bound now socket list Reply.Nothing below = below
below_reply bound now socket list (Reply.Datagram count from to mac) below = below_moved bound socket (heard_at now) (λ a. refl) list below
below_reply bound now socket list (Reply.Unreachable code) below = below

pub below_heard : (bound : ℕ) (forward : Option Endpoint) (now socket room : ℕ) (into : List ℕ) (old new : List Association) (reply : Reply) (made : List Entry) →
    Hears forward now socket room into old new reply made → AreBelow bound old → AreBelow bound new
below_heard bound forward now socket room into old new reply made (OnForward guest for receives is) below = subst (AreBelow bound) (sym is) below
below_heard bound forward now socket room into old new reply made (OnAssociation a for found receives is) below = subst (AreBelow bound) (sym is) (below_reply bound now socket old reply below)
below_heard bound forward now socket room into old new reply made (OnNone for found none is replies) below = subst (AreBelow bound) (sym is) below

pub receives_on : (forward : Option Endpoint) (now socket room : ℕ) (into : List ℕ) (old new : List Association) (reply : Reply) (made : List Entry) →
    (is_some forward || is_among socket (numbers old)) ≡ true
    → Hears forward now socket room into old new reply made → ReceivesOn socket made
receives_on forward now socket room into old new reply made held (OnForward guest for receives is) = (room, receives.0, filled_got receives.0 into, false, receives.1)
receives_on forward now socket room into old new reply made held (OnAssociation b for found receives is) = (room, receives.0, filled_got receives.0 into, false, receives.1)
receives_on forward now socket room into old new reply made held (OnNone for found none is replies) =
    absurd (by (numbered socket old) found (among_numbered socket old (sym (ap (λ o. is_some o || is_among socket (numbers old)) for) ∙ held)))
  where
    by : (o : Option Association) → o ≡ None → is_some o ≡ true → ⊥
    by None is some = cc
    by (Some a) is some = cc

pub none_first : (b : Bool) (old new : List Association) (made : List Entry) → ClosesLeast (λ a. true) b old new made → b ≡ false → new ≡ []
none_first true old new made closes is = cc
none_first false old new made closes is = closes.2 ∙ no_association old closes.1

pub below_first : (bound : ℕ) (b : Bool) (old new : List Association) (made : List Entry) → ClosesLeast (λ a. true) b old new made → AreBelow bound old → AreBelow bound new
below_first bound true old new made closes below = subst (AreBelow bound) (sym closes.3) (below_without bound closes.0 old below)
below_first bound false old new made closes below = subst (AreBelow bound) (sym closes.2) below

-- what isn't heard on the socket of a question is on that of a port of the host, or of an association
pub heard_by_peer : (number : ℕ) (slirp : SlirpState) → is_some (question_numbered number slirp.questions) ≡ false → is_heard number slirp ≡ true →
    (is_some (guest_on slirp.forwards number) || is_among number (numbers slirp.associations)) ≡ true
heard_by_peer number slirp unasked is =
    by (is_some (guest_on slirp.forwards number)) (is_among number (numbers slirp.associations)) (is_among number (question_numbers slirp.questions))
    (sym (numbered_is number slirp.questions) ∙ unasked)
    (ap (λ b. is_some (guest_on slirp.forwards number) || b) (sym (among_both number (numbers slirp.associations) (question_numbers slirp.questions))) ∙ is)
  where
    by : (a b c : Bool) → c ≡ false → (a || (b || c)) ≡ true → (a || b) ≡ true
    by true b c none is = refl
    by false true c none is = refl
    by false false true none is = cc
    by false false false none is = cc
