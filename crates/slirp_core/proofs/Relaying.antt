-- Calls on the sockets of datagrams: those of associations, of questions, and of ports of the host that are given to guests.
use Rattle.std.proofs.Common.{◌≡◌, ℕ, ◌+◌, ◌<◌, ◌==◌, ◌&&◌, ◌||◌, not, Bool, true, false, nat_le, nat_lt, List, [], ◌∷◌, ◌++◌, length, find, Option, Some, None}
use Rattle.spec_flow.specs.Guest.{is_empty}
use Rattle.std.specs.Option.{option_or}
use Rattle.std.proofs.Common.{option_map, unwrap_or, if◌then◌else◌, inl, refl, sym, ◌∙◌, ap, arith}
use Rattle.std.proofs.lemmas.Bool.Decides.{nat_tests}
use Rattle.poll_list.specs.declared.Want.{Want}
use Rattle.poll_list.specs.declared.Who.TheVariants.{Udp as UdpAt}
use Rattle.world_face.specs.Journal.{Entry, Allowed, Close, UdpOpen, UdpSend, UdpRecv, CallClose, CallUdpOpen, CallUdpSend, CallUdpRecv}
use Rattle.world_face.specs.declared.Made.{Made}
use Rattle.world_face.specs.declared.Made.TheVariants.{Done as MadeDone, Failed as MadeFailed}
use Rattle.world_face.specs.declared.Sent.{Sent}
use Rattle.world_face.specs.declared.Sent.TheVariants.{Done as SentDone, NotYet as SentNotYet, Failed as SentFailed}
use Rattle.world_face.specs.declared.Got.{Got}
use Rattle.world_face.specs.declared.Got.TheVariants.{From, NotYet as GotNotYet, Failed as GotFailed}
use Rattle.net_octets.specs.declared.Endpoint.{Endpoint}
use Rattle.net_octets.specs.declared.Mac.{Mac}
use Rattle.slirp_settings.specs.Addresses.{Config, address, endpoint}
use Rattle.slirp_settings.specs.Classes.{same_endpoint}
use Rattle.slirp_settings.specs.declared.Forward.{Forward as AForward}
use Rattle.slirp_settings.specs.declared.Proto.TheVariants.{Udp as ByUdp}
use Rattle.arp_table.specs.Table.{mac_of as learnt_for}
use Rattle.rules_udp.specs.Associations.{most_associations, numbers, numbered, is_idle, is_of, socket_of, without, moved_last, sent_from, heard_at}
use Rattle.rules_udp.specs.declared.Association.{Association}
use Rattle.dns_relay.specs.Asking.{bind_for}
use Rattle.rules_dns.specs.Questions.{asked_from, heard_at as heard_on, ident_in, is_answered, is_idle as is_over, is_of as is_asked, most_questions, moved_last as question_moved}
use Rattle.rules_dns.specs.Questions.{numbered as question_numbered, numbers as question_numbers, socket_of as question_socket, without as question_without}
use Rattle.rules_dns.specs.declared.Question.{Question}
use Rattle.udp_assoc.proofs.Yielding.{still_none}
use Rattle.rules_forward.specs.Opened.{socket_for as port_for}
use Rattle.spec_trace.specs.Moments.{moment, waits}
use Rattle.spec_flows.specs.Book.{book}
use Rattle.spec_flows.specs.Flows.{is_it}
use Rattle.spec_flows.specs.SegmentVerdicts.{due_for_flows}
use Rattle.spec_trace.specs.Shape.{due_in, phase, is_ended, is_over as is_run_over, is_working}
use Rattle.spec_trace.specs.Sockets.{Association as OfAssociation, DnsSocket, Flow as OfFlow, Forward, Kind, Listener, datagram_kind, is_among, is_association, is_forward, kind_of, first}
use Rattle.spec_trace.specs.Sockets.{next_number, open_sockets, with_made}
use Rattle.spec_run.specs.Agenda.{agenda, all_wanted, is_to_read, wanted_of}
use Rattle.spec_run.specs.Answers.{frames_of, identification, is_out, left, name_answer, serving, told_about, no_network, unsent, reply_at, reply_for, reply_on}
use Rattle.spec_run.specs.Asking.{step as asked}
use Rattle.spec_run.specs.Errands.{errand_left}
use Rattle.spec_run.specs.Names.{answered, answered_on, has_waited, question, questions, step_to_names, with_opened as name_opened, with_sent as name_sent, with_socket as with_question}
use Rattle.spec_run.specs.Names.{without_socket as without_question}
use Rattle.spec_run.specs.Ports.{forwards_open, is_port, mac_for, mac_known, mac_of, opened_for}
use Rattle.spec_run.specs.Said.{SaysOf}
use Rattle.spec_run.specs.Datagrams.{Errand, Step, NeedsNothing, NeedsRoom, NeedsSocket, NeedsSending, asks_a_name, due_for, opened_at}
use Rattle.spec_run.specs.Relayed.{association, associations, with_forward, with_opened, with_sent, with_socket, without_socket}
use Rattle.spec_run.specs.Laws.{May, MayDue, carries, due, due_for_services, gives_way, is_all_out, is_for_datagrams, is_unused, may_part}
use Rattle.spec_run.specs.Laws.{parts, relays}
use Rattle.spec_run.proofs.Bools.{among_last, among_without, and_both, first_of, same, second_of, turned}
use Rattle.spec_run.proofs.Deeds.{any_one, closes, hears, opens, sends, this_one}
use Rattle.spec_run.proofs.Finding.{idle_is, says_of}
use Rattle.spec_run.proofs.Joining.{joined}
use Rattle.spec_run.proofs.Listed.{numbers_moved, socket_last}
use Rattle.spec_run.proofs.Longest.{among_if, find_some}
use Rattle.spec_run.proofs.Steps.{errand_in}
use Rattle.stream_netdev.specs.State.{LinkState}
use Rattle.slirp_core.specs.Holds.{asked_by, Standing, standing, InTurn, IsLast, Flowing, HoldsAt, HoldsOn, Holds, OfRelay, is_ours}
use Rattle.slirp_core.specs.Replies.{owed_at}
use Rattle.slirp_core.specs.State.{SlirpState}
use Rattle.slirp_core.specs.Forwards.{IsInForce}
use Rattle.slirp_core.proofs.Given.{leads_at}
use Rattle.slirp_core.proofs.Names.{association_unmoved, carried as carried_names, kind_carried, kind_named, named_apart, neither, none_moved, none_numbered, none_without, one_numbered, two_apart}
use Rattle.slirp_core.proofs.Parts.{asks_nothing, behind_of, errand_for, forward_in, or_first, or_second, reads_of, still_open, after_socket, asked_for, due_is, in_turn}
use Rattle.slirp_core.specs.Owed.{IsOwedAt}
use Rattle.rules_tftp.specs.Transfers.{Settled as SeeksNothing}
use Rattle.slirp_core.proofs.Owing.{left_stays, left_then, nothing_left as none_left, of_left, owed_stays}
use Rattle.slirp_core.proofs.Services.{asks_resolver, close_due, none_due_for_services, opened_for_name, opened_for_other}
use Rattle.slirp_core.proofs.Sockets.{numbered_among, idle_among}
use Rattle.slirp_core.proofs.Flows.{closes_freely, flows_ask_nothing, flows_stay_open, no_flow}
use Rattle.slirp_core.proofs.AsGiven.{answers_as, reply_as}

-- what is left of a datagram that was sent on: nothing new where it could be sent
abbrev pub unless_sent : Sent → List (List ℕ) → List (List ℕ) → List (List ℕ)
unless_sent SentFailed told left = told
unless_sent _ told left = left

left_sent : (config : Config) (past : List Entry) (socket : ℕ) (to : Endpoint) (octets : List ℕ) (answer : Sent)
    → left config (UdpSend socket to octets answer ∷ past) ≡ unless_sent answer (unsent config (identification past) (asked config past) (left config past)) (left config past)
left_sent config past socket to octets SentDone = refl
left_sent config past socket to octets SentNotYet = refl
left_sent config past socket to octets SentFailed = refl

-- the kinds of sockets, one more
kinds_open : (number : ℕ) (at : Endpoint) (answer : Made) (past : List Entry) → 0 < waits past → at.port ≡ 0 → ((n : ℕ) → is_among n (open_sockets past) ≡ true → is_ours (kind_of n past) ≡ true)
    → (n : ℕ) → is_among n (with_made answer number (open_sockets past)) ≡ true → is_ours (kind_of n (UdpOpen number at answer ∷ past)) ≡ true
kinds_open number at answer past waited any kinds n among = by (number == n) refl
  where
    waits_on : nat_lt 0 (waits past) ≡ true
    waits_on = grind (arith, nat_tests, waited)

    turned : (number == n) ≡ false → (n == number) ≡ false
    turned is = grind (arith, nat_tests, is)

    only : (a b : Bool) → b ≡ false → (a || b) ≡ true → a ≡ true
    only true b is or = refl
    only false b is or = cc

    before : (a : Made) → (n == number) ≡ false → is_among n (with_made a number (open_sockets past)) ≡ true → is_among n (open_sockets past) ≡ true
    before MadeDone other is = only (is_among n (open_sockets past)) (n == number) other (sym (among_last n number (open_sockets past)) ∙ is)
    before MadeFailed other is = is

    by : (b : Bool) → (number == n) ≡ b → is_ours (if b then Some (datagram_kind (nat_lt 0 (waits past)) at.port) else kind_of n past) ≡ true
    by true is = ap (λ (w : Bool). is_ours (Some (datagram_kind w at.port))) waits_on ∙ ap (λ port. is_ours (Some (datagram_kind true port))) any
    by false is = kinds n (before answer (turned is) among)

-- a datagram is sent on the socket that was opened for it
none_for : (o : Option ℕ) (list : List Association) (errand : Errand) → with_socket o list errand ≡ NeedsSocket errand → o ≡ None
none_for None list errand is = refl
none_for (Some socket) list errand is = cc

-- a socket that carries a guest's datagrams relays them, and its guest hears where that one spoke from
pub relays_own : (past : List Entry) (socket : ℕ) → carries past socket ≡ true → relays past socket ≡ true
relays_own past socket own =
    and_both (is_among socket (open_sockets past)) (is_for_datagrams (kind_of socket past)) (first_of (is_among socket (open_sockets past)) (is_association (kind_of socket past)) own)
    (or_first (is_association (kind_of socket past)) (is_forward (kind_of socket past)) (second_of (is_among socket (open_sockets past)) (is_association (kind_of socket past)) own))

not_forward : (kind : Option Kind) → is_association kind ≡ true → is_forward kind ≡ false
not_forward None is = refl
not_forward (Some OfAssociation) is = refl
not_forward (Some DnsSocket) is = refl
not_forward (Some Forward) is = cc
not_forward (Some Listener) is = refl
not_forward (Some OfFlow) is = refl

own_mac : (config : Config) (past : List Entry) (socket : ℕ) → carries past socket ≡ true → mac_for config socket past ≡ mac_of config socket past
own_mac config past socket own =
    ap (λ b. if b then mac_known config past (opened_for config socket past) else mac_of config socket past)
    (not_forward (kind_of socket past) (second_of (is_among socket (open_sockets past)) (is_association (kind_of socket past)) own))

same_guest : (guest : Endpoint) → same_endpoint guest guest ≡ true
same_guest guest = and_both (address guest == address guest) (guest.port == guest.port) (same (address guest)) (same guest.port)

last_for : (errand : Errand) (number now : ℕ) (list : List Association) → socket_of errand.datagram.from list ≡ None → socket_of errand.datagram.from
    (list ++ (association number errand now ∷ [])) ≡ Some number
last_for errand number now [] none = ap (λ (b : Bool). option_map (λ (x : Association). x.number) (if b then Some (association number errand now) else None)) (same_guest errand.datagram.from)
last_for errand number now (a ∷ list) none = by (is_of errand.datagram.from a) none (λ rest. last_for errand number now list rest)
  where
    by : (b : Bool) → option_map (λ (x : Association). x.number) (if b then Some a else find (is_of errand.datagram.from) list) ≡ None
        → (socket_of errand.datagram.from list ≡ None → socket_of errand.datagram.from (list ++ (association number errand now ∷ [])) ≡ Some number)
        → option_map (λ (x : Association). x.number) (if b then Some a else find (is_of errand.datagram.from) (list ++ (association number errand now ∷ []))) ≡ Some number
    by true none more = cc
    by false none more = more none

none_of_room : (o : Option ℕ) (list : List Association) (socket : ℕ) (errand : Errand) → with_socket o list errand ≡ NeedsRoom socket errand → o ≡ None
none_of_room None list socket errand is = refl
none_of_room (Some s) list socket errand is = cc

-- where one gave way there is room for one more
has_room : (list : List Association) (errand : Errand) → nat_le most_associations (length list) ≡ false → without_socket list errand ≡ NeedsSocket errand
has_room [] errand room = refl
has_room (x ∷ others) errand room = ap (λ b. if b then NeedsRoom x.number errand else NeedsSocket errand) room

none_to_forward : (o : Option ℕ) (list : List Association) (errand : Errand) → with_forward o list errand ≡ NeedsSocket errand → o ≡ None
none_to_forward None list errand is = refl
none_to_forward (Some socket) list errand is = cc

none_of_forward : (o : Option ℕ) (list : List Association) (socket : ℕ) (errand : Errand) → with_forward o list errand ≡ NeedsRoom socket errand → o ≡ None
none_of_forward None list socket errand is = refl
none_of_forward (Some s) list socket errand is = cc

-- the same of questions
question_none_for : (o : Option ℕ) (list : List Question) (errand : Errand) → with_question o list errand ≡ NeedsSocket errand → o ≡ None
question_none_for None list errand is = refl
question_none_for (Some socket) list errand is = cc

question_none_of_room : (o : Option ℕ) (list : List Question) (socket : ℕ) (errand : Errand) → with_question o list errand ≡ NeedsRoom socket errand → o ≡ None
question_none_of_room None list socket errand is = refl
question_none_of_room (Some s) list socket errand is = cc

question_still_none : (guest : Endpoint) (ident socket : ℕ) (list : List Question) → question_socket guest ident list ≡ None → question_socket guest ident (question_without socket list) ≡ None
question_still_none guest ident socket [] none = refl
question_still_none guest ident socket (q ∷ list) none = by (is_asked guest ident q) (q.number == socket) refl none (λ rest. question_still_none guest ident socket list rest)
  where
    by : (t gone : Bool) → is_asked guest ident q ≡ t → option_map (λ (x : Question). x.number) (if t then Some q else find (is_asked guest ident) list) ≡ None
        → (question_socket guest ident list ≡ None → question_socket guest ident (question_without socket list) ≡ None) → question_socket guest ident
        (if not gone then q ∷ question_without socket list else question_without socket list) ≡ None
    by true gone is none more = cc
    by false true is none more = more none
    by false false is none more = ap (λ (b : Bool). option_map (λ (x : Question). x.number) (if b then Some q else find (is_asked guest ident) (question_without socket list))) is ∙ more none

question_has_room : (list : List Question) (errand : Errand) → nat_le most_questions (length list) ≡ false → without_question list errand ≡ NeedsSocket errand
question_has_room [] errand room = refl
question_has_room (x ∷ others) errand room = ap (λ b. if b then NeedsRoom x.number errand else NeedsSocket errand) room

-- what is asked for, by whether it is a question
pub asks_by_name : (config : Config) (slirp : SlirpState) (errand : Errand) → asks_a_name config errand ≡ true → asked_by config slirp (Some errand) ≡ step_to_names slirp.questions errand
asks_by_name config slirp errand name = ap (λ (b : Bool). if b then step_to_names slirp.questions errand else with_forward
    (port_for errand.datagram.from slirp.forwards) slirp.associations errand) name

pub asks_by_port : (config : Config) (slirp : SlirpState) (errand : Errand) → asks_a_name config errand ≡ false → asked_by config slirp (Some errand) ≡ with_forward
    (port_for errand.datagram.from slirp.forwards) slirp.associations errand
asks_by_port config slirp errand other = ap (λ (b : Bool). if b then step_to_names slirp.questions errand else with_forward
    (port_for errand.datagram.from slirp.forwards) slirp.associations errand) other

-- no association's socket is closed
pub unclosed : (n : ℕ) (list : List Association) → is_among n (numbers list) ≡ false → without n list ≡ list
unclosed n [] none = refl
unclosed n (a ∷ list) none = by (a.number == n) (turned n a.number false (none_one (n == a.number) (is_among n (numbers list)) none))
    (unclosed n list (none_more (n == a.number) (is_among n (numbers list)) none))
  where
    none_one : (a b : Bool) → (a || b) ≡ false → a ≡ false
    none_one true b is = cc
    none_one false b is = refl

    none_more : (a b : Bool) → (a || b) ≡ false → b ≡ false
    none_more true b is = cc
    none_more false b is = is

    by : (b : Bool) → b ≡ false → without n list ≡ list → (if not b then a ∷ without n list else without n list) ≡ a ∷ list
    by true is rest = cc
    by false is rest = ap (λ l. a ∷ l) rest

-- the close of the socket is due
close_is_due : (config : Config) (past : List Entry) (socket : ℕ) → InTurn config past → asked config past ≡ NeedsNothing → answered config past ≡ Some socket →
    (serving config past).files.quest ≡ SeeksNothing → due config past ≡ Some (CallClose socket)
close_is_due config past socket turn settled heard unsought =
    ap (λ q. option_or (due_in q past) (option_or (due_for config (asked config past) (next_number past))
    (option_or (due_for_services config past) (due_for_flows config (book config past) (next_number past))))) turn.working
    ∙ ap (λ t. option_or (due_for config t (next_number past)) (option_or (due_for_services config past) (due_for_flows config (book config past) (next_number past)))) settled
    ∙ ap (λ o. option_or o (due_for_flows config (book config past) (next_number past))) (close_due config past socket heard unsought)

module _ (config : Config) (at : Standing) (slirp : SlirpState) (f : Flowing) (link : LinkState) (past : List Entry) where
  module _ (step : Step) (heard : Option ℕ) (holds : HoldsOn config at step heard slirp f link past) where
    asks : asked config past ≡ step
    asks = asked_for config at step heard slirp f link past holds

    errand_is : errand_left config past ≡ errand_in step
    errand_is = errand_for config step heard slirp past holds.relayed

    -- a socket of an association, and of a question, carries a guest's datagrams
    in_record : (socket : ℕ) → is_among socket (numbers slirp.associations) ≡ true → is_among socket (numbers (associations config past)) ≡ true
    in_record socket among = ap (λ l. is_among socket (numbers l)) holds.relayed.list ∙ among

    named_record : (socket : ℕ) → is_among socket (question_numbers slirp.questions) ≡ true → is_among socket (question_numbers (questions config past)) ≡ true
    named_record socket among = ap (λ l. is_among socket (question_numbers l)) holds.relayed.questions ∙ among

    pub carried : (socket : ℕ) → is_among socket (numbers slirp.associations) ≡ true → carries past socket ≡ true
    carried socket among =
        carried_names config past holds.lawful socket ∙ among_first socket (numbers (associations config past)) (question_numbers (questions config past)) (in_record socket among)
      where
        among_first : (n : ℕ) (xs ys : List ℕ) → is_among n xs ≡ true → is_among n (xs ++ ys) ≡ true
        among_first n [] ys is = cc
        among_first n (x ∷ xs) ys is = by (n == x) is (λ more. among_first n xs ys more)
          where
            by : (b : Bool) → (b || is_among n xs) ≡ true → (is_among n xs ≡ true → is_among n (xs ++ ys) ≡ true) → (b || is_among n (xs ++ ys)) ≡ true
            by true is more = refl
            by false is more = more is

    pub named : (socket : ℕ) → is_among socket (question_numbers slirp.questions) ≡ true → carries past socket ≡ true
    named socket among =
        carried_names config past holds.lawful socket ∙ among_second socket (numbers (associations config past)) (question_numbers (questions config past)) (named_record socket among)
      where
        among_second : (n : ℕ) (xs ys : List ℕ) → is_among n ys ≡ true → is_among n (xs ++ ys) ≡ true
        among_second n [] ys is = is
        among_second n (x ∷ xs) ys is = or_second (n == x) (is_among n (xs ++ ys)) (among_second n xs ys is)

    -- none is both
    pub no_name : (socket : ℕ) → is_among socket (numbers slirp.associations) ≡ true → is_among socket (question_numbers slirp.questions) ≡ false
    no_name socket among = sym (ap (λ l. is_among socket (question_numbers l)) holds.relayed.questions) ∙ two_apart config past holds.lawful socket (in_record socket among)

    pub no_port : (socket : ℕ) → is_among socket (question_numbers slirp.questions) ≡ true → is_among socket (numbers slirp.associations) ≡ false
    no_port socket among = sym (ap (λ l. is_among socket (numbers l)) holds.relayed.list) ∙ named_apart config past holds.lawful socket (named_record socket among)

    -- and each may be closed for a reason of its kind
    parted : (socket : ℕ) → is_among socket (numbers slirp.associations) ≡ true → (gives_way config false socket (asked config past) || is_unused socket past) ≡ true → parts config past socket ≡ true
    parted socket among why = ap (may_part config past socket) (kind_carried config past holds.lawful socket (in_record socket among)) ∙ why

    name_parted : (socket : ℕ) → is_among socket (question_numbers slirp.questions) ≡ true →
        (gives_way config true socket (asked config past) || is_it socket (answered config past) || has_waited config past socket) ≡ true
        → parts config past socket ≡ true
    name_parted socket among why = ap (may_part config past socket) (kind_named config past holds.lawful socket (named_record socket among)) ∙ why

  -- ---- a socket is opened, or isn't

  module _ (errand : Errand) (holds : HoldsAt config at (NeedsSocket errand) slirp f link past) where
    turn : InTurn config past
    turn = in_turn holds.stands (λ u. cc (u.unasked))

    is_left : errand_left config past ≡ Some errand
    is_left = errand_is (NeedsSocket errand) None holds

    asks_so : asked_by config slirp (Some errand) ≡ NeedsSocket errand
    asks_so = sym (ap (asked_by config slirp) is_left) ∙ holds.relayed.asks

    module _ (port : Endpoint) (is_port : opened_at config errand ≡ port) where
      any : port.port ≡ 0
      any = sym (ap (λ (e : Endpoint). e.port) is_port)

      open_due : due config past ≡ Some (CallUdpOpen slirp.number port)
      open_due =
          due_is config past (NeedsSocket errand) turn.working (none_due_for_services config past holds.relayed.heard holds.services.quest) holds.flows.holds.asked
          (asks (NeedsSocket errand) None holds)
          ∙ (λ i. Some (CallUdpOpen (holds.sockets.number i) (is_port i)))

      may_open : May config past (CallUdpOpen slirp.number port)
      may_open = opens config past slirp.number port open_due (ap (λ n. slirp.number == n) holds.sockets.number ∙ same slirp.number)
          (flows_ask_nothing config f slirp.moment past holds.flows) holds.open_yet

      -- with these lists then
      opened_with : (list : List Association) (named : List Question) → Allowed (UdpOpen slirp.number port MadeDone)
          → OfRelay config (NeedsSending slirp.number errand) None (record slirp { number = slirp.number + 1; associations = list; questions = named }) (UdpOpen slirp.number port MadeDone ∷ past)
          → HoldsAt config at (NeedsSending slirp.number errand) (record slirp { number = slirp.number + 1; associations = list; questions = named }) f link (UdpOpen slirp.number port MadeDone ∷ past)
      opened_with list named allowed relayed = after_socket config at at (NeedsSocket errand) (NeedsSending slirp.number errand) None None slirp
          (record slirp { number = slirp.number + 1; associations = list; questions = named }) f link (UdpOpen slirp.number port MadeDone) past tt refl refl refl refl refl turn holds (record {
            may = may_open;
            allowed = allowed;
            own = any;
            answers = record {
              sent = holds.answers.sent;
              owed = left_stays config f.aged slirp (record slirp { number = slirp.number + 1; associations = list; questions = named })
                  (UdpOpen slirp.number port MadeDone) past refl refl refl refl refl refl holds.answers.owed;
            };
            relayed = relayed;
            sockets = record { number = ap (λ n. n + 1) holds.sockets.number; kinds = kinds_open slirp.number port MadeDone past turn.waited any holds.sockets.kinds };
            agenda = holds.agenda;
            open_yet = holds.open_yet;
          })

      pub after_refusal : Allowed (UdpOpen slirp.number port MadeFailed) → Holds config at
          (record slirp { number = slirp.number + 1; pending = frames_of slirp.config slirp.sent (told_about slirp.config no_network errand.datagram) }) f link
          (UdpOpen slirp.number port MadeFailed ∷ past)
      after_refusal allowed = after_socket config at at (NeedsSocket errand) NeedsNothing None None slirp
          (record slirp { number = slirp.number + 1; pending = frames_of slirp.config slirp.sent (told_about slirp.config no_network errand.datagram) }) f link
          (UdpOpen slirp.number port MadeFailed) past tt refl refl refl refl refl turn holds (record {
            may = may_open;
            allowed = allowed;
            own = any;
            answers = record {
              sent = holds.answers.sent;
              owed = inl (left_then config f.aged slirp (record slirp { number = slirp.number + 1; pending = frames_of slirp.config slirp.sent (told_about slirp.config no_network errand.datagram) })
                  (UdpOpen slirp.number port MadeFailed) past refl refl refl refl
                  (ap (λ s. unsent config (identification past) s (left config past)) (asks (NeedsSocket errand) None holds)
                  ∙ ap (λ i. frames_of config i (told_about config no_network errand.datagram)) holds.answers.sent
                  ∙ sym (answers_as config holds.guests.settings slirp.sent (λ k. told_about k no_network errand.datagram) refl)) holds.answers.owed);
            };
            relayed = record { list = holds.relayed.list; questions = holds.relayed.questions; asks = refl; heard = refl };
            sockets = record { number = ap (λ n. n + 1) holds.sockets.number; kinds = kinds_open slirp.number port MadeFailed past turn.waited any holds.sockets.kinds };
            agenda = holds.agenda;
            open_yet = holds.open_yet;
          })

    -- for a datagram that isn't a question
    module _ (other : asks_a_name config errand ≡ false) where
      pub port_of_other : opened_at config errand ≡ endpoint (unwrap_or config.outbound 0) 0
      port_of_other = opened_for_other config errand other

      asks_to_send : (list : List Association) → socket_of errand.datagram.from list ≡ None → port_for errand.datagram.from slirp.forwards ≡ None
          → asked_by config (record slirp { number = slirp.number + 1; associations = list ++ (association slirp.number errand slirp.moment ∷ []) }) (Some errand) ≡ NeedsSending slirp.number errand
      asks_to_send list none no_forward =
          asks_by_port config (record slirp { number = slirp.number + 1; associations = list ++ (association slirp.number errand slirp.moment ∷ []) }) errand other
          ∙ ap (λ o. with_forward o (list ++ (association slirp.number errand slirp.moment ∷ [])) errand) no_forward
          ∙ ap (λ o. with_socket o (list ++ (association slirp.number errand slirp.moment ∷ [])) errand) (last_for errand slirp.number slirp.moment list none)

      pub after_open : (port : Endpoint) → opened_at config errand ≡ port → Allowed (UdpOpen slirp.number port MadeDone) → HoldsAt config at (NeedsSending slirp.number errand)
          (record slirp { number = slirp.number + 1; associations = slirp.associations ++ (association slirp.number errand slirp.moment ∷ []) }) f link (UdpOpen slirp.number port MadeDone ∷ past)
      after_open port is_port allowed = opened_with port is_port (slirp.associations ++ (association slirp.number errand slirp.moment ∷ [])) slirp.questions allowed (record {
        list = ap (λ o. with_opened config MadeDone slirp.number (moment past) o (associations config past)) is_left
            ∙ ap (λ (b : Bool). if b then associations config past else associations config past ++ (association slirp.number errand (moment past) ∷ [])) other
            ∙ ap (λ l. l ++ (association slirp.number errand (moment past) ∷ [])) holds.relayed.list
            ∙ ap (λ m. slirp.associations ++ (association slirp.number errand m ∷ [])) holds.clock.moment;
        questions = ap (λ o. name_opened config MadeDone slirp.number (moment past) o (questions config past)) is_left
            ∙ ap (λ (b : Bool). if b then questions config past ++ (question slirp.number errand (moment past) ∷ []) else questions config past) other
            ∙ holds.relayed.questions;
        asks = ap (asked_by config (record slirp { number = slirp.number + 1; associations = slirp.associations ++ (association slirp.number errand slirp.moment ∷ []) })) is_left
            ∙ asks_to_send slirp.associations (none_for (socket_of errand.datagram.from slirp.associations) slirp.associations errand
            (sym (ap (λ o. with_forward o slirp.associations errand) no_forward) ∙ by_port)) no_forward;
        heard = refl;
      })
        where
          by_port : with_forward (port_for errand.datagram.from slirp.forwards) slirp.associations errand ≡ NeedsSocket errand
          by_port = sym (asks_by_port config slirp errand other) ∙ asks_so

          no_forward : port_for errand.datagram.from slirp.forwards ≡ None
          no_forward = none_to_forward (port_for errand.datagram.from slirp.forwards) slirp.associations errand by_port

    -- for a question
    module _ (name : asks_a_name config errand ≡ true) where
      pub port_of_name : opened_at config errand ≡ endpoint (bind_for config) 0
      port_of_name = opened_for_name config errand name (asks_resolver config past errand is_left name)

      pub after_asking : (port : Endpoint) → opened_at config errand ≡ port → Allowed (UdpOpen slirp.number port MadeDone) → HoldsAt config at (NeedsSending slirp.number errand)
          (record slirp { number = slirp.number + 1; questions = slirp.questions ++ (question slirp.number errand slirp.moment ∷ []) }) f link (UdpOpen slirp.number port MadeDone ∷ past)
      after_asking port is_port allowed = opened_with port is_port slirp.associations (slirp.questions ++ (question slirp.number errand slirp.moment ∷ [])) allowed (record {
        list = ap (λ o. with_opened config MadeDone slirp.number (moment past) o (associations config past)) is_left
            ∙ ap (λ (b : Bool). if b then associations config past else associations config past ++ (association slirp.number errand (moment past) ∷ [])) name
            ∙ holds.relayed.list;
        questions = ap (λ o. name_opened config MadeDone slirp.number (moment past) o (questions config past)) is_left
            ∙ ap (λ (b : Bool). if b then questions config past ++ (question slirp.number errand (moment past) ∷ []) else questions config past) name
            ∙ ap (λ l. l ++ (question slirp.number errand (moment past) ∷ [])) holds.relayed.questions
            ∙ ap (λ m. slirp.questions ++ (question slirp.number errand m ∷ [])) holds.clock.moment;
        asks = ap (asked_by config (record slirp { number = slirp.number + 1; questions = slirp.questions ++ (question slirp.number errand slirp.moment ∷ []) })) is_left
            ∙ asks_by_name config (record slirp { number = slirp.number + 1; questions = slirp.questions ++ (question slirp.number errand slirp.moment ∷ []) }) errand name
            ∙ ap (λ o. with_question o (slirp.questions ++ (question slirp.number errand slirp.moment ∷ [])) errand)
            (socket_last errand.datagram.from (ident_in errand.datagram.body) slirp.questions (question slirp.number errand slirp.moment)
            (question_none_for (question_socket errand.datagram.from (ident_in errand.datagram.body) slirp.questions) slirp.questions errand (sym (asks_by_name config slirp errand name) ∙ asks_so))
            (and_both (same_endpoint errand.datagram.from errand.datagram.from) (ident_in errand.datagram.body == ident_in errand.datagram.body) (same_guest errand.datagram.from)
            (same (ident_in errand.datagram.body))));
        heard = refl;
      })

  -- ---- a datagram is sent

  module _ (socket : ℕ) (errand : Errand) (on : relays past socket ≡ true) (list : List Association) (named : List Question)
      (list_is : moved_last (sent_from (record { 0 = errand.datagram.mac }) slirp.moment) socket slirp.associations ≡ list)
      (named_is : question_moved (asked_from (record { 0 = errand.datagram.mac }) slirp.moment) socket slirp.questions ≡ named)
      (holds : HoldsAt config at (NeedsSending socket errand) slirp f link past) where
    send_turn : InTurn config past
    send_turn = in_turn holds.stands (λ u. cc (u.unasked))

    send_due : due config past ≡ Some (CallUdpSend socket errand.to errand.datagram.body)
    send_due = due_is config past (NeedsSending socket errand) send_turn.working
        (none_due_for_services config past holds.relayed.heard holds.services.quest) holds.flows.holds.asked (asks (NeedsSending socket errand) None holds)

    may_send : May config past (CallUdpSend socket errand.to errand.datagram.body)
    may_send = sends config past socket errand.to errand.datagram.body send_due on (flows_ask_nothing config f slirp.moment past holds.flows) holds.open_yet

    pub after_sending : (answer : Sent) (pending : List (List ℕ)) → Allowed (UdpSend socket errand.to errand.datagram.body answer)
        → unless_sent answer (frames_of config (identification past) (told_about config no_network errand.datagram)) (left config past) ≡ pending
        → Holds config at (record slirp { associations = list; questions = named; pending = pending }) f link (UdpSend socket errand.to errand.datagram.body answer ∷ past)
    after_sending answer pending allowed owes =
        let e = UdpSend socket errand.to errand.datagram.body answer in
        after_socket config at at (NeedsSending socket errand) NeedsNothing None None slirp
        (record slirp { associations = list; questions = named; pending = pending }) f link e past tt refl refl refl refl refl send_turn holds (record {
          may = may_send;
          allowed = allowed;
          own = tt;
          answers = record {
            sent = holds.answers.sent;
            owed = inl (left_then config f.aged slirp (record slirp { associations = list; questions = named; pending = pending }) e past refl refl refl refl
                (left_sent config past socket errand.to errand.datagram.body answer
                ∙ ap (λ s. unless_sent answer (unsent config (identification past) s (left config past)) (left config past)) (asks (NeedsSending socket errand) None holds)
                ∙ owes) holds.answers.owed);
          };
          relayed = record {
            list = ap (λ o. with_sent socket (moment past) o (associations config past)) (errand_is (NeedsSending socket errand) None holds)
                ∙ ap (moved_last (sent_from (record { 0 = errand.datagram.mac }) (moment past)) socket) holds.relayed.list
                ∙ ap (λ m. moved_last (sent_from (record { 0 = errand.datagram.mac }) m) socket slirp.associations) holds.clock.moment ∙ list_is;
            questions = ap (λ o. name_sent socket (moment past) o (questions config past)) (errand_is (NeedsSending socket errand) None holds)
                ∙ ap (question_moved (asked_from (record { 0 = errand.datagram.mac }) (moment past)) socket) holds.relayed.questions
                ∙ ap (λ m. question_moved (asked_from (record { 0 = errand.datagram.mac }) m) socket slirp.questions) holds.clock.moment ∙ named_is;
            asks = refl;
            heard = refl;
          };
          sockets = record { number = holds.sockets.number; kinds = holds.sockets.kinds };
          agenda = holds.agenda;
          open_yet = holds.open_yet;
        })

    pub after_sent : Allowed (UdpSend socket errand.to errand.datagram.body SentDone) → Holds config at (record slirp { associations = list; questions = named }) f link
        (UdpSend socket errand.to errand.datagram.body SentDone ∷ past)
    after_sent allowed = after_sending SentDone slirp.pending allowed holds.answers.owed.left

    pub after_not_sent : Allowed (UdpSend socket errand.to errand.datagram.body SentNotYet) → Holds config at (record slirp { associations = list; questions = named }) f link
        (UdpSend socket errand.to errand.datagram.body SentNotYet ∷ past)
    after_not_sent allowed = after_sending SentNotYet slirp.pending allowed holds.answers.owed.left

    pub after_failure : Allowed (UdpSend socket errand.to errand.datagram.body SentFailed)
        → Holds config at (record slirp {
          associations = list;
          questions = named;
          pending = frames_of slirp.config slirp.sent
              (told_about slirp.config no_network errand.datagram);
        }) f link (UdpSend socket errand.to errand.datagram.body SentFailed ∷ past)
    after_failure allowed =
        after_sending SentFailed (frames_of slirp.config slirp.sent (told_about slirp.config no_network errand.datagram)) allowed
        (ap (λ i. frames_of config i (told_about config no_network errand.datagram)) holds.answers.sent ∙ sym
        (answers_as config holds.guests.settings slirp.sent (λ k. told_about k no_network errand.datagram) refl))

  -- ---- a socket is closed for a reason of its kind

  module _ (socket : ℕ) (step new_step : Step) (heard : Option ℕ) (list : List Association) (named : List Question) (list_is : without socket slirp.associations ≡ list)
      (named_is : question_without socket slirp.questions ≡ named)
      (holds : HoldsOn config at step heard slirp f link past) (turn : InTurn config past) (own : carries past socket ≡ true) (allowed : Allowed (Close socket)) where
    here : is_among socket (open_sockets past) ≡ true
    here = first_of (is_among socket (open_sockets past)) (is_association (kind_of socket past)) own

    parted_from : (IsOwedAt step config f.aged slirp past → IsOwedAt new_step config f.aged (record slirp { associations = list; questions = named }) (Close socket ∷ past))
        → MayDue config past (CallClose socket) → parts config past socket ≡ true → asked_by config (record slirp { associations = list; questions = named }) (errand_left config past) ≡ new_step
        → HoldsAt config at new_step (record slirp { associations = list; questions = named }) f link (Close socket ∷ past)
    parted_from owed may_due why comes = after_socket config at at step new_step heard None slirp (record slirp { associations = list; questions = named }) f link
        (Close socket) past tt refl refl refl refl refl turn holds (record {
          may = closes config past socket may_due (or_first (is_working (phase config past)) (is_run_over (phase config past)) (ap is_working turn.working))
              (and_both (is_among socket (open_sockets past)) _ here
              (ap (λ (b : Bool). if b then is_it socket (first (open_sockets past)) else parts config past socket || (is_ended config past && is_it socket (first (open_sockets past)))) holds.open_yet
              ∙ or_first (parts config past socket) (is_ended config past && is_it socket (first (open_sockets past))) why))
              (closes_freely config past socket (no_flow config past socket holds.lawful own) (flows_ask_nothing config f slirp.moment past holds.flows));
          allowed = allowed;
          own = own;
          answers = record { sent = holds.answers.sent; owed = owed holds.answers.owed };
          relayed = record { list = ap (without socket) holds.relayed.list ∙ list_is; questions = ap (question_without socket) holds.relayed.questions ∙ named_is; asks = comes; heard = refl };
          sockets = record {
            number = holds.sockets.number;
            kinds = λ n among. holds.sockets.kinds n (second_of (not (n == socket)) (is_among n (open_sockets past))
                (sym (among_without n socket (open_sockets past)) ∙ among));
          };
          agenda = holds.agenda;
          open_yet = still_open config (Close socket) past (ap not why) holds.open_yet;
        })

  -- the longest unused association gave way
  pub after_yielding : (oldest : Association) (others : List Association) (errand : Errand) → asks_a_name config errand ≡ false → Allowed (Close oldest.number) → slirp.associations ≡ oldest ∷ others
      → length (without oldest.number slirp.associations) < most_associations → HoldsAt config at (NeedsRoom oldest.number errand) slirp f link past
      → HoldsAt config at (NeedsSocket errand) (record slirp { associations = without oldest.number slirp.associations }) f link (Close oldest.number ∷ past)
  after_yielding oldest others errand other allowed first room holds =
      let socket = oldest.number in
      let step = NeedsRoom socket errand in
      let turn : InTurn config past = in_turn holds.stands (λ u. cc (u.unasked)) in
      let among : is_among socket (numbers slirp.associations) ≡ true = ap (λ l. is_among socket (numbers l)) first ∙ ap (λ b. b || is_among socket (numbers others)) (same socket) in
      let left = errand_is step None holds in
      let by_port : with_forward (port_for errand.datagram.from slirp.forwards) slirp.associations errand ≡ NeedsRoom socket errand =
      sym (asks_by_port config slirp errand other) ∙ sym (ap (asked_by config slirp) left) ∙ holds.relayed.asks in
      let no_forward = none_of_forward (port_for errand.datagram.from slirp.forwards) slirp.associations socket errand by_port in
      let none = none_of_room (socket_of errand.datagram.from slirp.associations) slirp.associations socket errand (sym (ap (λ o. with_forward o slirp.associations errand) no_forward) ∙ by_port) in
      let then_state : SlirpState = record slirp { associations = without socket slirp.associations } in
      parted_from socket step (NeedsSocket errand) None (without socket slirp.associations) slirp.questions refl
      (none_without socket slirp.questions (no_name step None holds socket among)) holds turn (carried step None holds socket among) allowed
      (left_stays config f.aged slirp then_state (Close socket) past refl refl refl refl refl refl)
      (this_one config past (CallClose socket) (due_is config past step turn.working
      (none_due_for_services config past holds.relayed.heard holds.services.quest) holds.flows.holds.asked (asks step None holds)))
      (parted step None holds socket among (or_first (gives_way config false socket (asked config past)) (is_unused socket past) (ap (gives_way config false socket) (asks step None holds) ∙
      (λ i. same socket i && not (other i)))))
      (ap (asked_by config then_state) left ∙ asks_by_port config then_state errand other
      ∙ ap (λ o. with_forward o (without socket slirp.associations) errand) no_forward
      ∙ ap (λ o. with_socket o (without socket slirp.associations) errand) (still_none errand.datagram.from socket slirp.associations none)
      ∙ has_room (without socket slirp.associations) errand (grind (arith, nat_tests, room)))

  -- the longest unused question did
  pub after_dropping : (oldest : Question) (others : List Question) (errand : Errand) → asks_a_name config errand ≡ true → Allowed (Close oldest.number) → slirp.questions ≡ oldest ∷ others
      → length (question_without oldest.number slirp.questions) < most_questions → HoldsAt config at (NeedsRoom oldest.number errand) slirp f link past
      → HoldsAt config at (NeedsSocket errand) (record slirp { questions = question_without oldest.number slirp.questions }) f link (Close oldest.number ∷ past)
  after_dropping oldest others errand name allowed first room holds =
      let socket = oldest.number in
      let step = NeedsRoom socket errand in
      let turn : InTurn config past = in_turn holds.stands (λ u. cc (u.unasked)) in
      let among : is_among socket (question_numbers slirp.questions) ≡ true = ap (λ l. is_among socket (question_numbers l)) first ∙ ap
      (λ b. b || is_among socket (question_numbers others)) (same socket) in
      let left = errand_is step None holds in
      let by_name : step_to_names slirp.questions errand ≡ NeedsRoom socket errand = sym (asks_by_name config slirp errand name) ∙ sym (ap (asked_by config slirp) left) ∙ holds.relayed.asks in
      let none = question_none_of_room (question_socket errand.datagram.from (ident_in errand.datagram.body) slirp.questions) slirp.questions socket errand by_name in
      let then_state : SlirpState = record slirp { questions = question_without socket slirp.questions } in
      parted_from socket step (NeedsSocket errand) None slirp.associations (question_without socket slirp.questions)
      (unclosed socket slirp.associations (no_port step None holds socket among)) refl holds turn (named step None holds socket among) allowed
      (left_stays config f.aged slirp then_state (Close socket) past refl refl refl refl refl refl)
      (this_one config past (CallClose socket) (due_is config past step turn.working
      (none_due_for_services config past holds.relayed.heard holds.services.quest) holds.flows.holds.asked (asks step None holds)))
      (name_parted step None holds socket among (or_first (gives_way config true socket (asked config past) || is_it socket (answered config past)) (has_waited config past socket)
      (or_first (gives_way config true socket (asked config past)) (is_it socket (answered config past)) (ap (gives_way config true socket) (asks step None holds) ∙
      (λ i. same socket i && name i)))))
      (ap (asked_by config then_state) left ∙ asks_by_name config then_state errand name
      ∙ ap (λ o. with_question o (question_without socket slirp.questions) errand) (question_still_none errand.datagram.from (ident_in errand.datagram.body) socket slirp.questions none)
      ∙ question_has_room (question_without socket slirp.questions) errand (grind (arith, nat_tests, room)))

  -- an association's idle life was over
  pub after_idling : (socket : ℕ) → Allowed (Close socket) → is_idle socket slirp.moment slirp.associations ≡ true → Holds config at slirp f link past
      → Holds config at (record slirp { associations = without socket slirp.associations }) f link (Close socket ∷ past)
  after_idling socket allowed idle holds =
      let turn : InTurn config past = in_turn holds.stands (λ u. cc (sym (ap (is_idle socket slirp.moment) u.alone) ∙ idle)) in
      let among = idle_among socket slirp.moment slirp.associations idle in
      let over : is_idle socket (moment past) (associations config past) ≡ true = ap (is_idle socket (moment past)) holds.relayed.list ∙ ap
      (λ m. is_idle socket m slirp.associations) holds.clock.moment ∙ idle in
      let long = idle_is config past socket (moment past) (associations config past) (joined config past holds.lawful).kept over in
      parted_from socket NeedsNothing NeedsNothing None (without socket slirp.associations) slirp.questions refl
      (none_without socket slirp.questions (no_name NeedsNothing None holds socket among)) holds turn (carried NeedsNothing None holds socket among) allowed
      (owed_stays config f.aged slirp (record slirp { associations = without socket slirp.associations }) (Close socket) past refl refl refl refl refl refl refl)
      (any_one config past (CallClose socket) (due_is config past NeedsNothing turn.working
      (none_due_for_services config past holds.relayed.heard holds.services.quest) holds.flows.holds.asked (asks NeedsNothing None holds)))
      (parted NeedsNothing None holds socket among (or_second (gives_way config false socket (asked config past)) (is_unused socket past) (grind (arith, nat_tests, long))))
      (asks_nothing config (record slirp { associations = without socket slirp.associations }) (errand_left config past) (errand_is NeedsNothing None holds))

  -- a question had waited for long enough
  pub after_waiting : (socket : ℕ) → Allowed (Close socket) → is_over socket slirp.moment slirp.questions ≡ true → is_among socket (question_numbers slirp.questions) ≡ true →
      Holds config at slirp f link past
      → Holds config at (record slirp { questions = question_without socket slirp.questions }) f link (Close socket ∷ past)
  after_waiting socket allowed waited among holds =
      let turn : InTurn config past = in_turn holds.stands (λ u. cc (sym (ap (λ l. is_among socket (question_numbers l)) u.unnamed) ∙ among)) in
      let over : has_waited config past socket ≡ true = ap (is_over socket (moment past)) holds.relayed.questions ∙ ap (λ m. is_over socket m slirp.questions) holds.clock.moment ∙ waited in
      parted_from socket NeedsNothing NeedsNothing None slirp.associations (question_without socket slirp.questions)
      (unclosed socket slirp.associations (no_port NeedsNothing None holds socket among)) refl holds turn (named NeedsNothing None holds socket among) allowed
      (owed_stays config f.aged slirp (record slirp { questions = question_without socket slirp.questions }) (Close socket) past refl refl refl refl refl refl refl)
      (any_one config past (CallClose socket) (due_is config past NeedsNothing turn.working
      (none_due_for_services config past holds.relayed.heard holds.services.quest) holds.flows.holds.asked (asks NeedsNothing None holds)))
      (name_parted NeedsNothing None holds socket among (or_second (gives_way config true socket (asked config past) || is_it socket (answered config past)) (has_waited config past socket) over))
      (asks_nothing config (record slirp { questions = question_without socket slirp.questions }) (errand_left config past) (errand_is NeedsNothing None holds))

  -- its answer came just now
  pub after_answered : (socket : ℕ) → Allowed (Close socket) → is_among socket (question_numbers slirp.questions) ≡ true → InTurn config past → HoldsOn config at NeedsNothing
      (Some socket) slirp f link past
      → Holds config at (record slirp { questions = question_without socket slirp.questions }) f link (Close socket ∷ past)
  after_answered socket allowed among in_one holds =
      parted_from socket NeedsNothing NeedsNothing (Some socket) slirp.associations (question_without socket slirp.questions)
      (unclosed socket slirp.associations (no_port NeedsNothing (Some socket) holds socket among)) refl holds in_one (named NeedsNothing (Some socket) holds socket among) allowed
      (owed_stays config f.aged slirp (record slirp { questions = question_without socket slirp.questions }) (Close socket) past refl refl refl refl refl refl refl)
      (this_one config past (CallClose socket) (close_is_due config past socket in_one (asks NeedsNothing (Some socket) holds) holds.relayed.heard holds.services.quest))
      (name_parted NeedsNothing (Some socket) holds socket among (or_first (gives_way config true socket (asked config past) || is_it socket (answered config past)) (has_waited config past socket)
      (or_second (gives_way config true socket (asked config past)) (is_it socket (answered config past)) (ap (is_it socket) holds.relayed.heard ∙ same socket))))
      (asks_nothing config (record slirp { questions = question_without socket slirp.questions }) (errand_left config past) (errand_is NeedsNothing (Some socket) holds))

  -- nothing is left to be sent
  pub all_out : slirp.pending ≡ [] → link.tail ≡ [] → Holds config at slirp f link past → is_all_out config past ≡ true
  all_out none out holds = ap (λ t. is_empty t && is_out (left config past)) (holds.keeps.rest ∙ out) ∙ ap is_out (none_left config f.aged slirp past none holds.answers.owed)

-- the first port of the host that is given to a port of a guest is open for datagrams, and no one else's
pub record IsForward (past : List Entry) (slirp : SlirpState) (socket : ℕ) : Type 0 where
  pub relays : relays past socket ≡ true
  pub unlisted : is_among socket (numbers slirp.associations) ≡ false
  pub unnamed : is_among socket (question_numbers slirp.questions) ≡ false

pub not_carried : (config : Config) (at : Standing) (step : Step) (heard : Option ℕ) (slirp : SlirpState) (f : Flowing) (link : LinkState) (past : List Entry) →
    HoldsOn config at step heard slirp f link past → (socket : ℕ) → carries past socket ≡ false
    → (is_among socket (numbers slirp.associations) ≡ false) × (is_among socket (question_numbers slirp.questions) ≡ false)
not_carried config at step heard slirp f link past holds socket none =
    let both = neither config past holds.lawful socket none in
    (sym (ap (λ l. is_among socket (numbers l)) holds.relayed.list) ∙ both.0, sym (ap (λ l. is_among socket (question_numbers l)) holds.relayed.questions) ∙ both.1)

forward_no_carrier : (b : Bool) (k : Option Kind) → is_forward k ≡ true → (b && is_association k) ≡ false
forward_no_carrier true None is = cc
forward_no_carrier true (Some OfAssociation) is = cc
forward_no_carrier true (Some DnsSocket) is = cc
forward_no_carrier true (Some Forward) is = refl
forward_no_carrier true (Some Listener) is = cc
forward_no_carrier true (Some OfFlow) is = cc
forward_no_carrier false k is = refl

pub forward_open : (config : Config) (at : Standing) (step : Step) (heard : Option ℕ) (slirp : SlirpState) (f : Flowing) (link : LinkState) (past : List Entry) →
    HoldsOn config at step heard slirp f link past → (guest : Endpoint) (socket : ℕ)
    → port_for guest slirp.forwards ≡ Some socket → IsForward past slirp socket
forward_open config at step heard slirp f link past holds guest socket is =
    let found = find_some (λ s. is_port guest (opened_for config s past)) (forwards_open past) socket (forward_in config at step heard slirp f link past holds guest ∙ is) in
    let here : (is_among socket (open_sockets past) && is_forward (kind_of socket past)) ≡ true = sym (among_if (λ s. is_forward (kind_of s past)) socket (open_sockets past)) ∙ found.1 in
    let kind = second_of (is_among socket (open_sockets past)) (is_forward (kind_of socket past)) here in
    let none = not_carried config at step heard slirp f link past holds socket (forward_no_carrier (is_among socket (open_sockets past)) (kind_of socket past) kind) in
    record {
      relays = and_both (is_among socket (open_sockets past)) (is_for_datagrams (kind_of socket past)) (first_of (is_among socket (open_sockets past)) (is_forward (kind_of socket past)) here)
          (or_second (is_association (kind_of socket past)) (is_forward (kind_of socket past)) kind);
      unlisted = none.0;
      unnamed = none.1;
    }

-- ---- a datagram was received, or none, on a socket of which the last wait reported it

module _ (config : Config) (count : ℕ) (wants : List Want) (item : Want) (items : List Want) (slirp : SlirpState) (f : Flowing) (link : LinkState) (past : List Entry) (socket size : ℕ)
    (reported : is_to_read (UdpAt socket) (wanted_of wants item) ≡ true) (whole : size ≡ 65507) (none : slirp.pending ≡ []) (out : link.tail ≡ [])
    (holds : Holds config (standing count wants (item ∷ items)) slirp f link past) where
  abbrev before : Standing
  before = standing count wants (item ∷ items)

  abbrev behind_it : Standing
  behind_it = standing count wants items

  -- before the first wait nothing was reported
  hear_turn : InTurn config past
  hear_turn = in_turn holds.stands (λ u. none_reported (wanted_of wants item) (all_wanted wants items) holds.agenda.0 (sym holds.agenda.1 ∙ u.unreported))
    where
      none_reported : (x : Want) (rest front : List Want) → front ++ (x ∷ rest) ≡ [] → ⊥
      none_reported x rest [] is = cc
      none_reported x rest (y ∷ front) is = cc

  may_hear : relays past socket ≡ true → May config past (CallUdpRecv socket size)
  may_hear on = hears config past socket size (due_is config past NeedsNothing hear_turn.working
      (none_due_for_services config past holds.relayed.heard holds.services.quest) holds.flows.holds.asked (asks config before slirp f link past NeedsNothing None holds))
      (flows_stay_open config f slirp.moment past holds.flows) (ap is_working hear_turn.working)
      on whole (reads_of (UdpAt socket) (wanted_of wants item) (all_wanted wants items) (agenda past) reported holds.agenda) (all_out config before slirp f link past none out holds) holds.open_yet

  agenda_behind : (answer : Got) (octets : List ℕ) → IsLast (all_wanted wants items) (agenda (UdpRecv socket size answer octets ∷ past))
  agenda_behind answer octets = behind_of (UdpAt socket) (wanted_of wants item) (all_wanted wants items) (agenda past) reported holds.agenda

  nothing_left : errand_left config past ≡ None
  nothing_left = errand_is config before slirp f link past NeedsNothing None holds

  module _ (on : relays past socket ≡ true) where
    -- none came
    heard_nothing : (answer : Got) (octets : List ℕ) → Allowed (UdpRecv socket size answer octets) → left config (UdpRecv socket size answer octets ∷ past) ≡ slirp.pending →
        answered config (UdpRecv socket size answer octets ∷ past) ≡ None
        → associations config (UdpRecv socket size answer octets ∷ past) ≡ associations config past → questions config (UdpRecv socket size answer octets ∷ past) ≡ questions config past
        → Holds config behind_it slirp f link (UdpRecv socket size answer octets ∷ past)
    heard_nothing answer octets allowed owes unheard same_list same_names =
        after_socket config before behind_it NeedsNothing NeedsNothing None None slirp slirp f link (UdpRecv socket size answer octets) past tt refl refl refl refl refl hear_turn holds (record {
          may = may_hear on;
          allowed = allowed;
          own = tt;
          answers = record {
            sent = holds.answers.sent;
            owed = inl (left_then config f.aged slirp slirp (UdpRecv socket size answer octets) past refl refl refl refl owes
                (of_left config f.aged slirp past none holds.answers.owed));
          };
          relayed = record { list = same_list ∙ holds.relayed.list; questions = same_names ∙ holds.relayed.questions; asks = holds.relayed.asks; heard = unheard };
          sockets = record { number = holds.sockets.number; kinds = holds.sockets.kinds };
          agenda = agenda_behind answer octets;
          open_yet = holds.open_yet;
        })

    pub after_not_yet : (octets : List ℕ) → Allowed (UdpRecv socket size GotNotYet octets) → Holds config behind_it slirp f link (UdpRecv socket size GotNotYet octets ∷ past)
    after_not_yet octets allowed = heard_nothing GotNotYet octets allowed (of_left config f.aged slirp past none holds.answers.owed).left refl refl refl

    pub after_no_hearing : (octets : List ℕ) → Allowed (UdpRecv socket size GotFailed octets) → Holds config behind_it slirp f link (UdpRecv socket size GotFailed octets ∷ past)
    after_no_hearing octets allowed = heard_nothing GotFailed octets allowed (of_left config f.aged slirp past none holds.answers.owed).left refl refl refl

    -- one came: with these lists then, and this is owed for it
    module _ (peer : Endpoint) (count_of : ℕ) (octets : List ℕ) (allowed : Allowed (UdpRecv socket size (From peer count_of) octets)) where
      abbrev e : Entry
      e = UdpRecv socket size (From peer count_of) octets

      heard_with : (heard : Option ℕ) (list : List Association) (named : List Question) (pending : List (List ℕ)) → moved_last
          (heard_at slirp.moment) socket slirp.associations ≡ list → question_moved (heard_on slirp.moment) socket slirp.questions ≡ named
          → answered_on config peer octets (question_numbered socket slirp.questions) ≡ heard → frames_of config slirp.sent
          (reply_on config past socket peer octets (question_numbered socket slirp.questions)) ≡ pending
          → HoldsOn config behind_it NeedsNothing heard (record slirp { associations = list; questions = named; pending = pending }) f link (e ∷ past)
      heard_with heard list named pending list_is named_is heard_is owes =
          after_socket config before behind_it NeedsNothing NeedsNothing None heard slirp
          (record slirp { associations = list; questions = named; pending = pending }) f link e past tt refl refl refl refl refl hear_turn holds (record {
            may = may_hear on;
            allowed = allowed;
            own = tt;
            answers = record {
              sent = holds.answers.sent;
              owed = inl (left_then config f.aged slirp (record slirp { associations = list; questions = named; pending = pending }) e past refl refl refl refl
                  (ap (λ q. frames_of config (identification past) (reply_on config past socket peer octets (question_numbered socket q))) holds.relayed.questions
                  ∙ ap (λ i. frames_of config i (reply_on config past socket peer octets (question_numbered socket slirp.questions))) holds.answers.sent ∙ owes)
                  (of_left config f.aged slirp past none holds.answers.owed));
            };
            relayed = record {
              list = ap (moved_last (heard_at (moment past)) socket) holds.relayed.list ∙ ap (λ m. moved_last (heard_at m) socket slirp.associations) holds.clock.moment ∙ list_is;
              questions = ap (question_moved (heard_on (moment past)) socket) holds.relayed.questions ∙ ap (λ m. question_moved (heard_on m) socket slirp.questions) holds.clock.moment ∙ named_is;
              asks = asks_nothing config (record slirp { associations = list; questions = named; pending = pending }) (errand_left config past) nothing_left;
              heard = ap (λ l. answered_on config peer octets (question_numbered socket l)) holds.relayed.questions ∙ heard_is;
            };
            sockets = record { number = holds.sockets.number; kinds = holds.sockets.kinds };
            agenda = agenda_behind (From peer count_of) octets;
            open_yet = holds.open_yet;
          })

  -- ---- on the socket of an association

  module _ (a : Association) (is : numbered socket slirp.associations ≡ Some a) where
    among : is_among socket (numbers slirp.associations) ≡ true
    among = numbered_among socket slirp.associations a is

    own : carries past socket ≡ true
    own = carried config before slirp f link past NeedsNothing None holds socket among

    pub relays_association : relays past socket ≡ true
    relays_association = relays_own past socket own

    unnamed : is_among socket (question_numbers slirp.questions) ≡ false
    unnamed = no_name config before slirp f link past NeedsNothing None holds socket among

    -- the association has what the trace says of its socket
    says : SaysOf config past socket a
    says = says_of config past socket (associations config past) a (joined config past holds.lawful).kept (ap (numbered socket) holds.relayed.list ∙ is)

    pub after_hearing : (peer : Endpoint) (count_of : ℕ) (octets : List ℕ) → Allowed (UdpRecv socket size (From peer count_of) octets)
        → Holds config behind_it (record slirp {
          associations = moved_last (heard_at slirp.moment) socket slirp.associations;
          pending = frames_of slirp.config slirp.sent
              (reply_at slirp.config peer octets a.guest a.mac.0);
        }) f link
        (UdpRecv socket size (From peer count_of) octets ∷ past)
    after_hearing peer count_of octets allowed =
        heard_with relays_association peer count_of octets allowed None (moved_last (heard_at slirp.moment) socket slirp.associations) slirp.questions
        (frames_of slirp.config slirp.sent (reply_at slirp.config peer octets a.guest a.mac.0)) refl (none_moved (heard_on slirp.moment) socket slirp.questions unnamed)
        (ap (answered_on config peer octets) (none_numbered socket slirp.questions unnamed))
        (ap (λ q. frames_of config slirp.sent (reply_on config past socket peer octets q)) (none_numbered socket slirp.questions unnamed)
        ∙ ap (λ g. frames_of config slirp.sent (reply_for config peer octets g (mac_for config socket past))) says.guest
        ∙ ap (λ m. frames_of config slirp.sent (reply_for config peer octets (Some a.guest) m)) (own_mac config past socket own ∙ says.mac)
        ∙ sym (answers_as config holds.guests.settings slirp.sent (λ k. reply_at k peer octets a.guest a.mac.0) refl))

  -- ---- on the socket of a port of the host that is given to a guest

  module _ (forward : AForward) (one : IsInForce config past (forward, socket)) (udp : forward.proto ≡ ByUdp) where
    leads : (kind_of socket past ≡ Some Forward) × (opened_for config socket past ≡ Some forward.guest)
    leads = leads_at config slirp.forwards past holds.lawful holds.forwards socket forward one udp

    pub relays_forward : relays past socket ≡ true
    relays_forward = and_both (is_among socket (open_sockets past)) (is_for_datagrams (kind_of socket past)) one.open_yet (ap is_for_datagrams leads.0)

    uncarried : carries past socket ≡ false
    uncarried = forward_no_carrier (is_among socket (open_sockets past)) (kind_of socket past) (ap is_forward leads.0)

    no_list : is_among socket (numbers slirp.associations) ≡ false
    no_list = (not_carried config before NeedsNothing None slirp f link past holds socket uncarried).0

    no_names : is_among socket (question_numbers slirp.questions) ≡ false
    no_names = (not_carried config before NeedsNothing None slirp f link past holds socket uncarried).1

    -- its guest hears at the address that was learnt last, if one is known; else it is asked for it
    by_learnt : (peer : Endpoint) (octets : List ℕ) (o : Option Mac) → frames_of slirp.config slirp.sent (reply_for slirp.config peer octets (Some forward.guest)
        (option_map (λ (m : Mac). m.0) o)) ≡ owed_at slirp peer octets forward.guest o
    by_learnt peer octets None = refl
    by_learnt peer octets (Some mac) = refl

    mac_is : mac_for config socket past ≡ option_map (λ (m : Mac). m.0) (learnt_for forward.guest.addr slirp.known)
    mac_is =
        ap (λ b. if b then mac_known config past (opened_for config socket past) else mac_of config socket past) (ap is_forward leads.0)
        ∙ ap (mac_known config past) leads.1
        ∙ ap (λ l. option_map (λ (m : Mac). m.0) (learnt_for forward.guest.addr l)) holds.guests.known

    pub after_forward : (peer : Endpoint) (count_of : ℕ) (octets : List ℕ) → Allowed (UdpRecv socket size (From peer count_of) octets)
        → Holds config behind_it (record slirp { pending = owed_at slirp peer octets forward.guest (learnt_for forward.guest.addr slirp.known) }) f link
        (UdpRecv socket size (From peer count_of) octets ∷ past)
    after_forward peer count_of octets allowed =
        heard_with relays_forward peer count_of octets allowed None slirp.associations slirp.questions (owed_at slirp peer octets forward.guest (learnt_for forward.guest.addr slirp.known))
        (association_unmoved (heard_at slirp.moment) socket slirp.associations no_list) (none_moved (heard_on slirp.moment) socket slirp.questions no_names)
        (ap (answered_on config peer octets) (none_numbered socket slirp.questions no_names))
        (ap (λ q. frames_of config slirp.sent (reply_on config past socket peer octets q)) (none_numbered socket slirp.questions no_names)
        ∙ ap (λ g. frames_of config slirp.sent (reply_for config peer octets g (mac_for config socket past))) leads.1
        ∙ ap (λ m. frames_of config slirp.sent (reply_for config peer octets (Some forward.guest) m)) mac_is
        ∙ sym (answers_as config holds.guests.settings slirp.sent (λ k. reply_for k peer octets (Some forward.guest) (option_map (λ (m : Mac). m.0) (learnt_for forward.guest.addr slirp.known)))
        (reply_as config peer octets (Some forward.guest) (option_map (λ (m : Mac). m.0) (learnt_for forward.guest.addr slirp.known))))
        ∙ by_learnt peer octets (learnt_for forward.guest.addr slirp.known))

  -- ---- on the socket of a question

  module _ (q : Question) (is : question_numbered socket slirp.questions ≡ Some q) where
    asked_here : (q.number ≡ socket) × (is_among socket (question_numbers slirp.questions) ≡ true)
    asked_here = one_numbered socket slirp.questions q is

    pub relays_question : relays past socket ≡ true
    relays_question = relays_own past socket (named config before slirp f link past NeedsNothing None holds socket asked_here.1)

    unlisted : is_among socket (numbers slirp.associations) ≡ false
    unlisted = no_port config before slirp f link past NeedsNothing None holds socket asked_here.1

    -- it is no answer to it
    pub after_stranger : (peer : Endpoint) (count_of : ℕ) (octets : List ℕ) → is_answered config.resolver q peer octets ≡ false → Allowed (UdpRecv socket size (From peer count_of) octets)
        → Holds config behind_it (record slirp { questions = question_moved (heard_on slirp.moment) socket slirp.questions }) f link (UdpRecv socket size (From peer count_of) octets ∷ past)
    after_stranger peer count_of octets other allowed =
        heard_with relays_question peer count_of octets allowed None slirp.associations (question_moved (heard_on slirp.moment) socket slirp.questions) slirp.pending
        (association_unmoved (heard_at slirp.moment) socket slirp.associations unlisted) refl
        (ap (answered_on config peer octets) is ∙ ap (λ b. if b then Some q.number else None) other)
        (ap (λ q. frames_of config slirp.sent (reply_on config past socket peer octets q)) is
        ∙ ap (λ b. frames_of config slirp.sent (if b then name_answer config q octets ∷ [] else [])) other ∙ sym none)

    -- it is its answer, and the socket is closed
    pub after_answer : (peer : Endpoint) (count_of : ℕ) (octets : List ℕ) → is_answered config.resolver q peer octets ≡ true → Allowed
        (UdpRecv socket size (From peer count_of) octets) → Allowed (Close socket)
        → Holds config behind_it (record slirp {
          questions = question_without socket (question_moved (heard_on slirp.moment) socket slirp.questions);
          pending = frames_of slirp.config slirp.sent (name_answer slirp.config q octets ∷ []);
        }) f link
        (Close socket ∷ UdpRecv socket size (From peer count_of) octets ∷ past)
    after_answer peer count_of octets answers allowed allowed_close =
        after_answered config behind_it
        (record slirp { questions = question_moved (heard_on slirp.moment) socket slirp.questions; pending = frames_of slirp.config slirp.sent (name_answer slirp.config q octets ∷ []) }) f link
        (UdpRecv socket size (From peer count_of) octets ∷ past) socket allowed_close
        (numbers_moved (heard_on slirp.moment) (λ x. refl) socket socket slirp.questions ∙ asked_here.1) (record { working = hear_turn.working; waited = hear_turn.waited })
        (heard_with relays_question peer count_of octets allowed (Some socket) slirp.associations (question_moved (heard_on slirp.moment) socket slirp.questions)
        (frames_of slirp.config slirp.sent (name_answer slirp.config q octets ∷ []))
        (association_unmoved (heard_at slirp.moment) socket slirp.associations unlisted) refl
        (ap (answered_on config peer octets) is ∙ ap (λ b. if b then Some q.number else None) answers ∙ ap Some asked_here.0)
        (ap (λ q. frames_of config slirp.sent (reply_on config past socket peer octets q)) is
        ∙ ap (λ b. frames_of config slirp.sent (if b then name_answer config q octets ∷ [] else [])) answers
        ∙ sym (answers_as config holds.guests.settings slirp.sent (λ k. name_answer k q octets ∷ []) refl)))
