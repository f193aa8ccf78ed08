-- The calls that the relay of questions makes, step by step.
use Rattle.std.proofs.Common.{◌≡◌, ℕ, ◌+◌, ◌<◌, ◌≤◌, ◌==◌, ◌&&◌, ◌||◌, not, Bool, true, false, nat_le, All, List, [], ◌∷◌, ◌++◌, length, is_some, take, Option, Some, None, if◌then◌else◌}
use Rattle.std.proofs.Common.{refl, sym, ◌∙◌, ap, subst, append_assoc, arith}
use Rattle.std.specs.List.{list_any}
use Rattle.std.proofs.lemmas.Bool.Decides.{nat_tests}
use Rattle.std.proofs.lemmas.List.Elements.{All-head, All-tail}
use Rattle.poll_list.specs.declared.Want.{Want}
use Rattle.poll_list.specs.declared.Who.TheVariants.{Udp}
use Rattle.slirp_settings.specs.Addresses.{Config, endpoint}
use Rattle.rules_udp.specs.declared.Reply.{Reply}
use Rattle.world_face.specs.Journal.{Entry, Allowed, AreAllowed, Close, UdpRecv, UdpSend, filled_got}
use Rattle.world_face.specs.declared.Sent.{Sent}
use Rattle.world_face.specs.declared.Sent.TheVariants.{Done, NotYet, Failed}
use Rattle.world_face.specs.declared.Got.{Got}
use Rattle.world_face.specs.declared.Got.TheVariants.{From, NotYet as GotNotYet, Failed as GotFailed}
use Rattle.rules_udp.specs.Associations.{moved_last as association_moved, sent_from}
use Rattle.dns_relay.specs.Asking.{bind_for}
use Rattle.rules_dns.specs.Questions.{asked_from, heard_at, ident_in, is_answered, is_numbered, is_over, most_questions, moved_last, numbered, numbers, without}
use Rattle.dns_relay.specs.Relaying.{Asked, BySocket, ByNewSocket, Hears, OnNone, OnQuestion, Opens, OpensFor, OpensNone, Relays, Ticks, calls_after, calls_for_room, list_after, passed}
use Rattle.dns_relay.specs.Relaying.{question_of, told, with_room}
use Rattle.dns_relay.specs.State.{RelayState}
use Rattle.rules_dns.specs.declared.Question.{Question}
use Rattle.spec_trace.specs.Sockets.{is_among}
use Rattle.spec_run.specs.Agenda.{is_to_read, wanted_of}
use Rattle.spec_run.specs.Answers.{frames_of, name_answer}
use Rattle.spec_run.specs.Datagrams.{Errand, Step, NeedsRoom, NeedsSocket, NeedsSending, asks_a_name}
use Rattle.spec_run.specs.Laws.{relays}
use Rattle.spec_run.specs.Names.{with_socket, without_socket}
use Rattle.stream_netdev.specs.State.{LinkState}
use Rattle.tcp_flows.specs.Runs.{ClosesBelow, ClosesRising}
use Rattle.slirp_core.specs.Hearing.{Receives as ReceivesOn}
use Rattle.slirp_core.specs.Holds.{asked_by, Standing, standing, Flowing, HoldsAt, Holds}
use Rattle.slirp_core.specs.Replies.{answered_by, asked_of, told_by}
use Rattle.slirp_core.specs.State.{SlirpState}
use Rattle.slirp_core.proofs.Associating.{parted, passes_over, sent_on}
use Rattle.slirp_core.proofs.Names.{association_unmoved, one_numbered, socket_among}
use Rattle.spec_run.proofs.Listed.{numbers_last}
use Rattle.spec_run.proofs.Bools.{or_second, same, turned}
use Rattle.slirp_core.proofs.Relaying.{after_answer, after_asking, after_dropping, after_no_hearing, after_not_yet, after_refusal, after_stranger, after_waiting, asks_by_name, named}
use Rattle.slirp_core.proofs.Relaying.{no_port, port_of_name, relays_own, relays_question}
use Rattle.slirp_core.proofs.Ticking.{below_more}

-- one that passes a test is open
pub any_among : (n : ℕ) (test : Question → Bool) (list : List Question) → list_any (λ q. is_numbered n q && test q) list ≡ true → is_among n (numbers list) ≡ true
any_among n test [] is = cc
any_among n test (x ∷ list) is = by (x.number == n) (test x) refl (λ more. any_among n test list more) is
  where
    by : (t u : Bool) → (x.number == n) ≡ t → (list_any (λ q. is_numbered n q && test q) list ≡ true → is_among n (numbers list) ≡ true)
        → ((t && u) || list_any (λ q. is_numbered n q && test q) list) ≡ true → ((n == x.number) || is_among n (numbers list)) ≡ true
    by true u one more is = ap (λ b. b || is_among n (numbers list)) (turned x.number n true one)
    by false u other more is = or_second (n == x.number) (is_among n (numbers list)) (more is)

module _ (config : Config) (at : Standing) (f : Flowing) (link : LinkState) where
  -- one was sent on its socket, which was open or was opened for it
  asked_on : (slirp : SlirpState) (past : List Entry) (socket : ℕ) (errand : Errand) → is_among socket (numbers slirp.questions) ≡ true → HoldsAt config at
      (NeedsSending socket errand) slirp f link past
      → (answer : Sent) → Allowed (UdpSend socket errand.to errand.datagram.body answer)
      → Holds config at (record slirp {
        questions = moved_last (asked_from (record { 0 = errand.datagram.mac }) slirp.moment) socket slirp.questions;
        pending = told_by slirp errand.datagram (told answer);
      }) f link
      (UdpSend socket errand.to errand.datagram.body answer ∷ past)
  asked_on slirp past socket errand among holds answer allowed = by answer allowed
    where
      on : relays past socket ≡ true
      on = relays_own past socket (named config at slirp f link past (NeedsSending socket errand) None holds socket among)

      unmoved : association_moved (sent_from (record { 0 = errand.datagram.mac }) slirp.moment) socket slirp.associations ≡ slirp.associations
      unmoved = association_unmoved (sent_from (record { 0 = errand.datagram.mac }) slirp.moment) socket slirp.associations
          (no_port config at slirp f link past (NeedsSending socket errand) None holds socket among)

      by : (answer : Sent) → Allowed (UdpSend socket errand.to errand.datagram.body answer)
          → Holds config at (record slirp {
            questions = (moved_last (asked_from (record { 0 = errand.datagram.mac }) slirp.moment) socket slirp.questions);
            pending = told_by slirp errand.datagram (told answer);
          }) f link (UdpSend socket errand.to errand.datagram.body answer ∷ past)
      by Done allowed = sent_on config at f link slirp past socket errand slirp.associations
          (moved_last (asked_from (record { 0 = errand.datagram.mac }) slirp.moment) socket slirp.questions) on unmoved refl holds Done allowed
      by NotYet allowed = sent_on config at f link slirp past socket errand slirp.associations
          (moved_last (asked_from (record { 0 = errand.datagram.mac }) slirp.moment) socket slirp.questions) on unmoved refl holds NotYet allowed
      by Failed allowed = sent_on config at f link slirp past socket errand slirp.associations
          (moved_last (asked_from (record { 0 = errand.datagram.mac }) slirp.moment) socket slirp.questions) on unmoved refl holds Failed allowed

  last_among : (list : List Question) (q : Question) → is_among q.number (numbers (list ++ (q ∷ []))) ≡ true
  last_among list q = numbers_last q.number list q ∙ or_second (is_among q.number (numbers list)) (q.number == q.number) (same q.number)

  -- a socket was opened for one, or wasn't
  opened_for : (slirp : SlirpState) (past : List Entry) (errand : Errand) → asks_a_name config errand ≡ true → (new : List Question) (reply : Reply) (calls : List Entry)
      → OpensFor (bind_for config) (asked_of errand) slirp.moment slirp.number slirp.questions new reply calls → AreAllowed calls → HoldsAt config at (NeedsSocket errand) slirp f link past
      → Holds config at (record slirp { questions = new; pending = told_by slirp errand.datagram reply; number = slirp.number + 1 }) f link (calls ++ past)
  opened_for slirp past errand name new reply calls (Opens answer made is replies) allowed holds =
      let all = subst AreAllowed made allowed in
      let one = question_of (asked_of errand) slirp.number slirp.moment in
      let with_one : SlirpState = record slirp { number = slirp.number + 1; questions = slirp.questions ++ (one ∷ []) } in
      subst (λ (l : List Question). Holds config at (record slirp { questions = l; pending = told_by slirp errand.datagram reply; number = slirp.number + 1 }) f link (calls ++ past)) (sym is)
      (subst (λ (r : Reply). Holds config at (record with_one {
        questions = moved_last
            (asked_from (record { 0 = errand.datagram.mac }) slirp.moment) slirp.number with_one.questions;
        pending = told_by slirp errand.datagram r;
      }) f link (calls ++ past)) (sym replies)
      (subst (λ (m : List Entry). Holds config at (record with_one {
        questions = moved_last
            (asked_from (record { 0 = errand.datagram.mac }) slirp.moment) slirp.number with_one.questions;
        pending = told_by slirp errand.datagram (told answer);
      }) f link (m ++ past)) (sym made)
      (asked_on with_one _ slirp.number errand (last_among slirp.questions one)
      (after_asking config at slirp f link past errand holds name (endpoint (bind_for config) 0) (port_of_name config at slirp f link past errand holds name) all.1.0) answer all.0)))
  opened_for slirp past errand name new reply calls (OpensNone made is replies) allowed holds =
      subst (λ (l : List Question). Holds config at (record slirp { questions = l; pending = told_by slirp errand.datagram reply; number = slirp.number + 1 }) f link (calls ++ past)) (sym is)
      (subst (λ (r : Reply). Holds config at (record slirp { pending = told_by slirp errand.datagram r; number = slirp.number + 1 }) f link (calls ++ past)) (sym replies)
      (subst (λ (m : List Entry). Holds config at (record slirp { pending = told_by slirp errand.datagram (told Failed); number = slirp.number + 1 }) f link (m ++ past)) (sym made)
      (after_refusal config at slirp f link past errand holds (endpoint (bind_for config) 0) (port_of_name config at slirp f link past errand holds name) (subst AreAllowed made allowed).0)))

  -- there is room for one more
  roomed : (slirp : SlirpState) (past : List Entry) (errand : Errand) → asks_a_name config errand ≡ true → (list : List Question) → length (with_room list) < most_questions →
      AreAllowed (calls_for_room list)
      → HoldsAt config at (without_socket list errand) (record slirp { questions = list }) f link past
      → HoldsAt config at (NeedsSocket errand) (record slirp { questions = with_room list }) f link (calls_for_room list ++ past)
  roomed slirp past errand name [] room allowed holds = holds
  roomed slirp past errand name (oldest ∷ others) room allowed holds = by (nat_le most_questions (length (oldest ∷ others))) room allowed holds
    where
      by : (b : Bool) → length (if b then without oldest.number (oldest ∷ others) else oldest ∷ others) < most_questions → AreAllowed (if b then Close oldest.number ∷ [] else [])
          → HoldsAt config at (if b then NeedsRoom oldest.number errand else NeedsSocket errand) (record slirp { questions = oldest ∷ others }) f link past
          → HoldsAt config at (NeedsSocket errand) (record slirp { questions = if b then without oldest.number (oldest ∷ others) else oldest ∷ others }) f link
          ((if b then Close oldest.number ∷ [] else []) ++ past)
      by true room allowed holds = after_dropping config at (record slirp { questions = oldest ∷ others }) f link past oldest others errand name allowed.0 refl room holds
      by false room allowed holds = holds

  pub asked : (slirp : SlirpState) (past : List Entry) (errand : Errand) → asks_a_name config errand ≡ true → (next : ℕ) (new : List Question) (reply : Reply) (made : List Entry)
      → Relays (bind_for config) (asked_of errand) slirp.moment slirp.number next slirp.questions new reply made → AreAllowed made → HoldsAt config at
      (asked_by config slirp (Some errand)) slirp f link past
      → Holds config at (record slirp { questions = new; pending = told_by slirp errand.datagram reply; number = next }) f link (made ++ past)
  asked slirp past errand name next new reply made (BySocket socket answer found sends replies is same) allowed holds =
      let due = subst (λ (o : Option ℕ). HoldsAt config at (with_socket o slirp.questions errand) slirp f link past) found
      (subst (λ (s : Step). HoldsAt config at s slirp f link past) (asks_by_name config slirp errand name) holds) in
      subst (λ (n : ℕ). Holds config at (record slirp { questions = new; pending = told_by slirp errand.datagram reply; number = n }) f link (made ++ past)) (sym same)
      (subst (λ (l : List Question). Holds config at (record slirp { questions = l; pending = told_by slirp errand.datagram reply }) f link (made ++ past)) (sym is)
      (subst (λ (r : Reply). Holds config at (record slirp {
        questions = moved_last (asked_from (record { 0 = errand.datagram.mac }) slirp.moment) socket slirp.questions;
        pending = told_by slirp errand.datagram r;
      }) f link (made ++ past)) (sym replies)
      (subst (λ (m : List Entry). Holds config at (record slirp {
        questions = moved_last (asked_from (record { 0 = errand.datagram.mac }) slirp.moment) socket slirp.questions;
        pending = told_by slirp errand.datagram (told answer);
      }) f link (m ++ past)) (sym sends)
      (asked_on slirp past socket errand (socket_among errand.datagram.from (ident_in errand.datagram.body) slirp.questions socket found) due answer (subst AreAllowed sends allowed).0))))
  asked slirp past errand name next new reply made (ByNewSocket calls found room opens is same) allowed holds =
      let all = parted calls (calls_for_room slirp.questions) (subst AreAllowed is allowed) in
      let due = subst (λ (o : Option ℕ). HoldsAt config at (with_socket o slirp.questions errand) slirp f link past) found
      (subst (λ (s : Step). HoldsAt config at s slirp f link past) (asks_by_name config slirp errand name) holds) in
      let ready = roomed slirp past errand name slirp.questions room all.1 due in
      subst (λ (n : ℕ). Holds config at (record slirp { questions = new; pending = told_by slirp errand.datagram reply; number = n }) f link (made ++ past)) (sym same)
      (subst (λ (m : List Entry). Holds config at (record slirp { questions = new; pending = told_by slirp errand.datagram reply; number = slirp.number + 1 }) f link (m ++ past)) (sym is)
      (subst (λ (h : List Entry). Holds config at (record slirp { questions = new; pending = told_by slirp errand.datagram reply; number = slirp.number + 1 }) f link h)
      (sym (append_assoc calls (calls_for_room slirp.questions) past))
      (opened_for (record slirp { questions = with_room slirp.questions }) (calls_for_room slirp.questions ++ past) errand name new reply calls opens all.0 ready)))

  -- those that had waited for long enough were closed
  pub asked_for_long : (slirp : SlirpState) (past : List Entry) (new : List Question) (made : List Entry) → Ticks slirp.moment slirp.questions new made → AreAllowed made →
      Holds config at slirp f link past
      → Holds config at (record slirp { questions = new }) f link (made ++ past)
  asked_for_long slirp past new [] is allowed holds = subst (λ (l : List Question). Holds config at (record slirp { questions = l }) f link past) (sym is) holds
  asked_for_long slirp past new (Close n ∷ made) ticks allowed holds =
      subst (λ (l : List Question). Holds config at (record slirp { questions = l }) f link (Close n ∷ made ++ past)) (sym ticks.3)
      (after_waiting config at (record slirp { questions = ticks.0 }) f link (made ++ past) n allowed.0 ticks.2.0 (any_among n (is_over slirp.moment) ticks.0 ticks.2.0)
      (asked_for_long slirp past ticks.0 made ticks.1 allowed.1 holds))
  asked_for_long slirp past new (_ ∷ made) ticks allowed holds = absurd ticks

module _ (config : Config) (count : ℕ) (wants : List Want) (item : Want) (items : List Want) (f : Flowing) (link : LinkState) where
  -- what came on the socket of a question
  pub heard : (slirp : SlirpState) (relay : RelayState) → relay ≡ record {
    bind = relay.bind;
    resolver = config.resolver;
    name_server = config.vnameserver;
    list = slirp.questions;
  } → (past : List Entry) (socket room : ℕ) (into : List ℕ) (new : List Question) (reply : Reply) (made : List Entry)
      → is_to_read (Udp socket) (wanted_of wants item) ≡ true → room ≡ 65507 → slirp.pending ≡ [] → link.tail ≡ [] → Hears relay slirp.moment socket room into new reply made → AreAllowed made
      → Holds config (standing count wants (item ∷ items)) slirp f link past
      → Holds config (standing count wants items) (record slirp { questions = new; pending = answered_by slirp into reply }) f link (made ++ past)
  heard slirp relay settings past socket room into new reply made reported whole none out hears allowed holds =
      by_hears (subst (λ (r : RelayState). Hears r slirp.moment socket room into new reply made) settings hears)
    where
      by_answer : (q : Question) → numbered socket slirp.questions ≡ Some q → (answer : Got) → AreAllowed
          (calls_after (record { bind = relay.bind; resolver = config.resolver; name_server = config.vnameserver; list = slirp.questions }) q answer (filled_got answer into) ++
          (UdpRecv socket room answer (filled_got answer into) ∷ []))
          → Holds config (standing count wants items) (record slirp {
            questions = (list_after
                (record { bind = relay.bind; resolver = config.resolver; name_server = config.vnameserver; list = slirp.questions }) slirp.moment q answer (filled_got answer into));
            pending = answered_by slirp into (passed (record { bind = relay.bind; resolver = config.resolver; name_server = config.vnameserver; list = slirp.questions }) q answer
                (filled_got answer into));
          }) f link ((calls_after (record { bind = relay.bind; resolver = config.resolver; name_server = config.vnameserver; list = slirp.questions }) q
          answer (filled_got answer into) ++ (UdpRecv socket room answer (filled_got answer into) ∷ [])) ++ past)
      by_answer q found (From peer size) allowed = by (is_answered config.resolver q peer (take size into)) refl allowed
        where
          is_it : q.number ≡ socket
          is_it = (one_numbered socket slirp.questions q found).0

          by : (b : Bool) → is_answered config.resolver q peer (take size into) ≡ b → AreAllowed
              ((if b then Close q.number ∷ [] else []) ++ (UdpRecv socket room (From peer size) (take size into) ∷ []))
              → Holds config (standing count wants items) (record slirp {
                questions = (if b then without q.number
                    (moved_last (heard_at slirp.moment) q.number slirp.questions) else moved_last (heard_at slirp.moment) q.number slirp.questions);
                pending = answered_by slirp into
                    (if b then Reply.Datagram size (endpoint config.vnameserver 53) q.guest (Some q.mac) else Reply.Nothing);
              }) f link
              (((if b then Close q.number ∷ [] else []) ++ (UdpRecv socket room (From peer size) (take size into) ∷ [])) ++ past)
          by true answers allowed =
              subst (λ n. Holds config (standing count wants items) (record slirp {
                questions = (without n (moved_last (heard_at slirp.moment) n slirp.questions));
                pending = answered_by slirp into (Reply.Datagram size (endpoint config.vnameserver 53) q.guest (Some q.mac));
              }) f link
              ((Close n ∷ UdpRecv socket room (From peer size) (take size into) ∷ []) ++ past)) (sym is_it)
              (subst (λ (k : Config). Holds config (standing count wants items)
              (record slirp {
                questions = without socket (moved_last (heard_at slirp.moment) socket slirp.questions);
                pending = frames_of slirp.config slirp.sent
                    (name_answer k q (take size into) ∷ []);
              }) f link
              (Close socket ∷ UdpRecv socket room (From peer size) (take size into) ∷ past)) holds.guests.settings
              (after_answer config count wants item items slirp f link past socket room reported whole none out holds q found peer size (take size into) answers allowed.1.0
              (subst (λ n. Allowed (Close n)) is_it allowed.0)))
          by false other allowed =
              subst (λ n. Holds config (standing count wants items) (record slirp {
                questions = (moved_last (heard_at slirp.moment) n slirp.questions);
                pending = answered_by slirp into Reply.Nothing;
              }) f link ((UdpRecv socket room (From peer size) (take size into) ∷ []) ++ past)) (sym is_it)
              (after_stranger config count wants item items slirp f link past socket room reported whole none out holds q found peer size (take size into) other allowed.0)
      by_answer q found GotNotYet allowed =
          after_not_yet config count wants item items slirp f link past socket room reported whole none out holds
          (relays_question config count wants item items slirp f link past socket room reported whole none out holds q found) (filled_got GotNotYet into) allowed.0
      by_answer q found GotFailed allowed =
          after_no_hearing config count wants item items slirp f link past socket room reported whole none out holds
          (relays_question config count wants item items slirp f link past socket room reported whole none out holds q found) (filled_got GotFailed into) allowed.0

      by_hears : Hears (record { bind = relay.bind; resolver = config.resolver; name_server = config.vnameserver; list = slirp.questions }) slirp.moment socket room into new reply
          made → Holds config (standing count wants items) (record slirp { questions = new; pending = answered_by slirp into reply }) f link (made ++ past)
      by_hears (OnNone found no_call is replies) =
          subst (λ (l : List Question). Holds config (standing count wants items) (record slirp { questions = l; pending = answered_by slirp into reply }) f link (made ++ past)) (sym is)
          (subst (λ (r : Reply). Holds config (standing count wants items) (record slirp { questions = slirp.questions; pending = answered_by slirp into r }) f link (made ++ past)) (sym replies)
          (subst (λ (m : List Entry). Holds config (standing count wants items)
          (record slirp { questions = slirp.questions; pending = answered_by slirp into Reply.Nothing }) f link (m ++ past)) (sym no_call)
          (passes_over config count wants item items slirp f link past holds)))
      by_hears (OnQuestion q answer found calls is replies) =
          subst (λ (l : List Question). Holds config (standing count wants items) (record slirp { questions = l; pending = answered_by slirp into reply }) f link (made ++ past)) (sym is)
          (subst (λ (r : Reply). Holds config (standing count wants items)
          (record slirp {
            questions = (list_after (record { bind = relay.bind; resolver = config.resolver; name_server = config.vnameserver; list = slirp.questions })
                slirp.moment q answer (filled_got answer into));
            pending = answered_by slirp into r;
          }) f link (made ++ past)) (sym replies)
          (subst (λ (m : List Entry). Holds config (standing count wants items)
          (record slirp {
            questions = (list_after (record { bind = relay.bind; resolver = config.resolver; name_server = config.vnameserver; list = slirp.questions })
                slirp.moment q answer (filled_got answer into));
            pending = answered_by slirp into
                (passed (record { bind = relay.bind; resolver = config.resolver; name_server = config.vnameserver; list = slirp.questions }) q answer (filled_got answer into));
          }) f
          link (m ++ past)) (sym calls)
          (by_answer q found answer (subst AreAllowed calls allowed))))

-- ---- their numbers rise

-- those that have waited for long enough have numbers from this one on
abbrev AreFrom : ℕ → ℕ → List Question → Type 0
AreFrom bound now [] = Unit {0}
AreFrom bound now (q ∷ list) = (is_over now q ≡ true → bound ≤ q.number) × AreFrom bound now list

from_zero : (now : ℕ) (list : List Question) → AreFrom 0 now list
from_zero now [] = tt
from_zero now (q ∷ list) = (λ over. omega arith, from_zero now list)

from_least : (n now : ℕ) (list : List Question) → All (λ q. is_over now q ≡ true → n ≤ q.number) list → AreFrom n now list
from_least n now [] all = tt
from_least n now (q ∷ list) all = (
  All-head (λ (x : Question). is_over now x ≡ true → n ≤ x.number) q list all,
  from_least n now list
      (All-tail (λ (x : Question). is_over now x ≡ true → n ≤ x.number) q list all),
)

without_least : (n now : ℕ) (list : List Question) → AreFrom n now list → AreFrom (n + 1) now (without n list)
without_least n now [] from = tt
without_least n now (q ∷ list) from = by (is_numbered n q) refl (without_least n now list from.1)
  where
    by : (b : Bool) → (q.number == n) ≡ b → AreFrom (n + 1) now (without n list) → AreFrom (n + 1) now (if not b then q ∷ without n list else without n list)
    by true is rest = rest
    by false is rest = (λ over. let least = from.0 over in grind (arith, nat_tests, is, least), rest)

found_from : (bound n now : ℕ) (list : List Question) → AreFrom bound now list → list_any (λ q. is_numbered n q && is_over now q) list ≡ true → bound ≤ n
found_from bound n now [] from is = cc
found_from bound n now (q ∷ list) from is = by (is_numbered n q) (is_over now q) refl refl is (found_from bound n now list from.1)
  where
    by : (b over : Bool) → (q.number == n) ≡ b → is_over now q ≡ over → ((b && over) || list_any (λ x. is_numbered n x && is_over now x) list) ≡ true
        → (list_any (λ x. is_numbered n x && is_over now x) list ≡ true → bound ≤ n) → bound ≤ n
    by true true b o is more = let least = from.0 o in grind (arith, nat_tests, b, least)
    by true false b o is more = more is
    by false over b o is more = more is

record Ticked (now : ℕ) (list : List Question) (made : List Entry) : Type 0 where
  pub bound : ℕ
  pub below : ClosesBelow bound made
  pub rising : ClosesRising made
  pub from : AreFrom bound now list

ticks_rise : (now : ℕ) (old new : List Question) (made : List Entry) → Ticks now old new made → Ticked now new made
ticks_rise now old new [] is = record { bound = 0; below = tt; rising = tt; from = from_zero now new }
ticks_rise now old new (Close n ∷ made) ticks =
    let before = ticks_rise now old ticks.0 made ticks.1 in
    let from = found_from before.bound n now ticks.0 before.from ticks.2.0 in
    record {
      bound = n + 1;
      below = (omega arith, below_more before.bound (n + 1) made (omega (arith, from)) before.below);
      rising = (below_more before.bound n made from before.below, before.rising);
      from = subst (AreFrom (n + 1) now) (sym ticks.3) (without_least n now ticks.0 (from_least n now ticks.0 ticks.2.1));
    }
ticks_rise now old new (_ ∷ made) ticks = absurd ticks

pub closes_rising : (now : ℕ) (old new : List Question) (made : List Entry) → Ticks now old new made → ClosesRising made
closes_rising now old new made ticks = let t = ticks_rise now old new made ticks in t.rising

-- ---- numbers that are used

-- one at most
pub counts_up : (bind : ℕ) (d : Asked) (now number next : ℕ) (old new : List Question) (reply : Reply) (made : List Entry) → Relays bind d now number next old new reply made → next ≤ number + 1
counts_up bind d now number next old new reply made (BySocket socket answer found sends replies is same) = omega (arith, same)
counts_up bind d now number next old new reply made (ByNewSocket calls found room opens is same) = omega (arith, same)

-- and none is given back
pub draws_up : (bind : ℕ) (d : Asked) (now number next : ℕ) (old new : List Question) (reply : Reply) (made : List Entry) → Relays bind d now number next old new reply made → number ≤ next
draws_up bind d now number next old new reply made (BySocket socket answer found sends replies is same) = omega (arith, same)
draws_up bind d now number next old new reply made (ByNewSocket calls found room opens is same) = omega (arith, same)

-- on the socket of a question a datagram is asked for, and the socket is closed where it answers
pub receives_on : (s : RelayState) (now socket room : ℕ) (into : List ℕ) (new : List Question) (reply : Reply) (made : List Entry) → is_some (numbered socket s.list) ≡ true →
    Hears s now socket room into new reply made → ReceivesOn socket made
receives_on s now socket room into new reply made held (OnNone found no_call is replies) = absurd (by (numbered socket s.list) found held)
  where
    by : (o : Option Question) → o ≡ None → is_some o ≡ true → ⊥
    by None is some = cc
    by (Some q) is some = cc
receives_on s now socket room into new reply made held (OnQuestion q answer found calls is replies) = (
  room,
  answer,
  filled_got answer into,
  closed answer (filled_got answer into),
  calls ∙ by answer (filled_got answer into),
)
  where
    closed : Got → List ℕ → Bool
    closed (From peer count) octets = is_answered s.resolver q peer octets
    closed GotNotYet octets = false
    closed GotFailed octets = false

    by : (answer : Got) (octets : List ℕ) → calls_after s q answer octets ++ (UdpRecv socket room answer octets ∷ []) ≡ (if closed answer octets then Close socket ∷ [] else []) ++
        (UdpRecv socket room answer octets ∷ [])
    by (From peer count) octets = ap (λ n. (if is_answered s.resolver q peer octets then Close n ∷ [] else []) ++ (UdpRecv socket room (From peer count) octets ∷ []))
        (one_numbered socket s.list q found).0
    by GotNotYet octets = refl
    by GotFailed octets = refl
