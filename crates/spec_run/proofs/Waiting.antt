-- The list of questions in the order of use is what the trace says of their sockets.
use Rattle.std.proofs.Common.{◌≡◌, ℕ, ◌<◌, ◌==◌, ◌&&◌, ◌||◌, not, nat_lt, Bool, true, false, List, [], ◌∷◌, ◌++◌, length, Option, Some, None, if◌then◌else◌, refl, sym, ◌∙◌, ap, subst, arith}
use Rattle.std.proofs.lemmas.Bool.Decides.{nat_tests}
use Rattle.world_face.specs.Journal.{Entry, Connect, Listen, Accept, Close, UdpOpen, UdpSend, UdpRecv, call_of}
use Rattle.world_face.specs.declared.Accepted.{Accepted}
use Rattle.world_face.specs.declared.Accepted.TheVariants.{From as FromPeer, NotYet as NoPeer, Failed as AcceptFailed}
use Rattle.world_face.specs.declared.Made.{Made}
use Rattle.world_face.specs.declared.Made.TheVariants.{Done, Failed}
use Rattle.world_face.specs.declared.Sent.{Sent}
use Rattle.world_face.specs.declared.Got.{Got}
use Rattle.world_face.specs.declared.Got.TheVariants.{From, NotYet as GotNotYet, Failed as GotFailed}
use Rattle.net_octets.specs.declared.Endpoint.{Endpoint}
use Rattle.slirp_settings.specs.Addresses.{Config}
use Rattle.rules_dns.specs.declared.Question.{Question}
use Rattle.rules_dns.specs.Questions.{asked_from, heard_at, moved_last, numbers, without}
use Rattle.spec_trace.specs.Moments.{moment, waits}
use Rattle.spec_trace.specs.Sockets.{Association, DnsSocket, Flow as OfFlow, Forward, Kind, Listener as OfListener, datagram_kind, is_among, next_number, open_sockets}
use Rattle.spec_run.specs.Datagrams.{Errand, NeedsSending, asks_a_name}
use Rattle.spec_run.specs.Errands.{errand_left}
use Rattle.spec_run.specs.Laws.{May, Lawful}
use Rattle.spec_run.specs.Names.{datagram_kind_for, kind_for, question, questions, with_heard, with_opened, with_sent}
use Rattle.spec_run.specs.Ports.{is_used_by, last_use, used_at}
use Rattle.spec_run.specs.Questions.{is_for_question, questions_open}
use Rattle.spec_run.specs.Said.{AllUsedAfter, AreByLastUse}
use Rattle.spec_run.proofs.Asked.{KeptQuestion, kept_questions}
use Rattle.spec_run.proofs.Bools.{among_without, equal, same, turned}
use Rattle.spec_run.proofs.Joining.{and_assoc, fresh_failed, fresh_one, fresh_other}
use Rattle.spec_run.proofs.Listed.{AllQuestions, all_last, all_left, asked_without, numbers_last, numbers_moved}
use Rattle.spec_run.proofs.Longest.{among_if}
use Rattle.spec_run.proofs.OpenSockets.{next_is_new, peer_next}
use Rattle.spec_run.proofs.Phases.{sends}
use Rattle.spec_run.proofs.Steps.{errand_is}
use Rattle.spec_run.proofs.Uses.{at_unused, use_unused}

-- when its socket was used last
pub record IsUsed (past : List Entry) (q : Question) : Type 0 where
  pub used : used_at q.number past ≡ q.used
  pub placed : last_use q.number past < length past

-- ---- an entry that uses none of their sockets

abbrev pub AreUnused : Entry → List Question → Type 0
AreUnused e list = AllQuestions (λ q. is_used_by q.number e ≡ false) list

used_on : (e : Entry) (past : List Entry) (q : Question) → is_used_by q.number e ≡ false → IsUsed past q → IsUsed (e ∷ past) q
used_on e past q unused is = record {
  used = at_unused e past q.number unused ∙ is.used;
  placed = (let before = is.placed in let now = use_unused e past q.number unused in omega (arith, before, now));
}

all_used_on : (e : Entry) (past : List Entry) (list : List Question) → AreUnused e list → AllQuestions (IsUsed past) list → AllQuestions (IsUsed (e ∷ past)) list
all_used_on e past [] unused all = tt
all_used_on e past (q ∷ list) unused all = (used_on e past q unused.0 all.0, all_used_on e past list unused.1 all.1)

after_on : (e : Entry) (past : List Entry) (n : ℕ) (list : List Question) → is_used_by n e ≡ false → AreUnused e list → AllUsedAfter past n (numbers list) → AllUsedAfter (e ∷ past) n (numbers list)
after_on e past n [] one unused is = tt
after_on e past n (q ∷ list) one unused is = (
  (let before = is.0 in let first = use_unused e past n one in let second = use_unused e past q.number unused.0 in omega (arith, before, first, second)),
  after_on e past n list one unused.1 is.1,
)

order_on : (e : Entry) (past : List Entry) (list : List Question) → AreUnused e list → AreByLastUse past (numbers list) → AreByLastUse (e ∷ past) (numbers list)
order_on e past [] unused is = tt
order_on e past (q ∷ list) unused is = (after_on e past q.number list unused.0 unused.1 is.0, order_on e past list unused.1 is.1)

-- ---- one more, and one less

after_last : (past : List Entry) (n : ℕ) (list : List Question) (q : Question) → AllUsedAfter past n (numbers list) → last_use n past < last_use q.number past → AllUsedAfter past n
    (numbers (list ++ (q ∷ [])))
after_last past n [] q is last = (last, tt)
after_last past n (x ∷ list) q is last = (is.0, after_last past n list q is.1 last)

order_last : (past : List Entry) (list : List Question) (q : Question) → AreByLastUse past (numbers list) → AllQuestions
    (λ x. last_use x.number past < last_use q.number past) list → AreByLastUse past (numbers (list ++ (q ∷ [])))
order_last past [] q is all = (tt, tt)
order_last past (x ∷ list) q is all = (after_last past x.number list q is.0 all.0, order_last past list q is.1 all.1)

after_without : (past : List Entry) (n m : ℕ) (list : List Question) → AllUsedAfter past n (numbers list) → AllUsedAfter past n (numbers (without m list))
after_without past n m [] is = tt
after_without past n m (q ∷ list) is = by (q.number == m) (after_without past n m list is.1)
  where
    by : (b : Bool) → AllUsedAfter past n (numbers (without m list)) → AllUsedAfter past n (numbers (if not b then q ∷ without m list else without m list))
    by true rest = rest
    by false rest = (is.0, rest)

order_without : (past : List Entry) (m : ℕ) (list : List Question) → AreByLastUse past (numbers list) → AreByLastUse past (numbers (without m list))
order_without past m [] is = tt
order_without past m (q ∷ list) is = by (q.number == m) (order_without past m list is.1)
  where
    by : (b : Bool) → AreByLastUse past (numbers (without m list)) → AreByLastUse past (numbers (if not b then q ∷ without m list else without m list))
    by true rest = rest
    by false rest = (after_without past q.number m list is.0, rest)

-- ---- one that is used

-- an entry uses this socket and no other one, and changes its question
record Use (e : Entry) (past : List Entry) (change : Question → Question) (socket : ℕ) : Type 0 where
  number : (q : Question) → (change q).number ≡ q.number
  last : last_use socket (e ∷ past) ≡ length past
  changed : (q : Question) → q.number ≡ socket → IsUsed (e ∷ past) (change q)
  others : (n : ℕ) → (n == socket) ≡ false → is_used_by n e ≡ false

module _ (e : Entry) (past : List Entry) (change : Question → Question) (socket : ℕ) (u : Use e past change socket) where
  -- those behind it have other numbers
  rest_unused : (q : Question) (list : List Question) → q.number ≡ socket → AllUsedAfter past q.number (numbers list) → AreUnused e list
  rest_unused q [] this is = tt
  rest_unused q (x ∷ list) this is = (u.others x.number (differs (x.number == socket) refl), rest_unused q list this is.1)
    where
      differs : (b : Bool) → (x.number == socket) ≡ b → b ≡ false
      differs true here =
          let one : last_use q.number past ≡ last_use x.number past = ap (λ n. last_use n past) (this ∙ sym (equal x.number socket here)) in
          let later = is.0 in
          absurd (omega (arith, one, later))
      differs false other = refl

  last_of : (q : Question) → q.number ≡ socket → last_use (change q).number (e ∷ past) ≡ length past
  last_of q this = ap (λ n. last_use n (e ∷ past)) (u.number q ∙ this) ∙ u.last

  used_moved : (list : List Question) → AllQuestions (IsUsed past) list → AreByLastUse past (numbers list) → AllQuestions (IsUsed (e ∷ past)) (moved_last change socket list)
  used_moved [] all is = tt
  used_moved (q ∷ list) all is = by (q.number == socket) refl (used_moved list all.1 is.1)
    where
      by : (b : Bool) → (q.number == socket) ≡ b → AllQuestions (IsUsed (e ∷ past)) (moved_last change socket list) → AllQuestions (IsUsed (e ∷ past))
          (if b then list ++ (change q ∷ []) else q ∷ moved_last change socket list)
      by true here rest =
          let this = equal q.number socket here in
          all_last (IsUsed (e ∷ past)) list (change q) (all_used_on e past list (rest_unused q list this is.0) all.1) (u.changed q this)
      by false other rest = (used_on e past q (u.others q.number other) all.0, rest)

  -- each was used before this entry
  sooner : (list : List Question) (q : Question) → q.number ≡ socket → AreUnused e list → AllQuestions (IsUsed past) list → AllQuestions
      (λ x. last_use x.number (e ∷ past) < last_use (change q).number (e ∷ past)) list
  sooner [] q this unused all = tt
  sooner (x ∷ list) q this unused all = (
    (let before = all.0.placed in let same = use_unused e past x.number unused.0 in let now = last_of q this in omega (arith, before, same, now)),
    sooner list q this unused.1 all.1,
  )

  after_moved : (n : ℕ) (list : List Question) → is_used_by n e ≡ false → last_use n past < length past → AllQuestions (IsUsed past) list → AreByLastUse past (numbers list) →
      AllUsedAfter past n (numbers list)
      → AllUsedAfter (e ∷ past) n (numbers (moved_last change socket list))
  after_moved n [] one placed all order is = tt
  after_moved n (q ∷ list) one placed all order is = by (q.number == socket) refl (after_moved n list one placed all.1 order.1 is.1)
    where
      by : (b : Bool) → (q.number == socket) ≡ b → AllUsedAfter (e ∷ past) n (numbers (moved_last change socket list)) → AllUsedAfter (e ∷ past) n
          (numbers (if b then list ++ (change q ∷ []) else q ∷ moved_last change socket list))
      by true here rest =
          let this = equal q.number socket here in
          let same = use_unused e past n one in
          let now = last_of q this in
          after_last (e ∷ past) n list (change q) (after_on e past n list one (rest_unused q list this order.0) is.1) (omega (arith, placed, same, now))
      by false other rest = (
        (let before = is.0 in let first = use_unused e past n one in let second = use_unused e past q.number (u.others q.number other) in omega (arith, before, first, second)),
        rest,
      )

  order_moved : (list : List Question) → AllQuestions (IsUsed past) list → AreByLastUse past (numbers list) → AreByLastUse (e ∷ past) (numbers (moved_last change socket list))
  order_moved [] all is = tt
  order_moved (q ∷ list) all is = by (q.number == socket) refl (order_moved list all.1 is.1)
    where
      by : (b : Bool) → (q.number == socket) ≡ b → AreByLastUse (e ∷ past) (numbers (moved_last change socket list)) → AreByLastUse (e ∷ past)
          (numbers (if b then list ++ (change q ∷ []) else q ∷ moved_last change socket list))
      by true here rest =
          let this = equal q.number socket here in
          let unused = rest_unused q list this is.0 in
          order_last (e ∷ past) list (change q) (order_on e past list unused is.1) (sooner list q this unused all.1)
      by false other rest = (after_moved q.number list (u.others q.number other) all.0.placed all.1 is.1 is.0, rest)

-- ---- the open sockets of questions are those of the list, in the order of use

pub record AreWaiting (config : Config) (past : List Entry) (list : List Question) : Type 0 where
  pub those : (n : ℕ) → (is_among n (open_sockets past) && is_for_question (kind_for config n past)) ≡ is_among n (numbers list)
  pub used : AllQuestions (IsUsed past) list
  pub order : AreByLastUse past (numbers list)

abbrev IsCarried : Config → Entry → List Entry → Type 0
IsCarried config e past = (n : ℕ) → (is_among n (open_sockets (e ∷ past)) && is_for_question (kind_for config n (e ∷ past))) ≡ (is_among n (open_sockets past) && is_for_question
    (kind_for config n past))

quiet : (config : Config) (e : Entry) (past : List Entry) (list : List Question) → AreUnused e list → IsCarried config e past → AreWaiting config past list → AreWaiting config (e ∷ past) list
quiet config e past list unused carried w = record {
  those = λ n. carried n ∙ w.those n;
  used = all_used_on e past list unused w.used;
  order = order_on e past list unused w.order;
}

none_used : (e : Entry) (list : List Question) → ((n : ℕ) → is_used_by n e ≡ false) → AreUnused e list
none_used e [] none = tt
none_used e (q ∷ list) none = (none q.number, none_used e list none)

silent : (config : Config) (e : Entry) (past : List Entry) (list : List Question) → ((n : ℕ) → is_used_by n e ≡ false) → IsCarried config e past → AreWaiting config past list →
    AreWaiting config (e ∷ past) list
silent config e past list none carried w = quiet config e past list (none_used e list none) carried w

-- a socket is opened, for a question or another datagram
module _ (config : Config) (past : List Entry) (socket : ℕ) (at : Endpoint) (number : (socket == next_number past) ≡ true) (new : is_among socket (open_sockets past) ≡ false) where
  abbrev kind : Option Kind
  kind = Some (datagram_kind_for config (nat_lt 0 (waits past)) at.port (errand_left config past))

  unused_below : (answer : Made) (list : List Question) → AllQuestions (KeptQuestion config past) list → AreUnused (UdpOpen socket at answer) list
  unused_below answer [] kept = tt
  unused_below answer (q ∷ list) kept = ((let drawn = kept.0.drawn in grind (arith, nat_tests, drawn, number)), unused_below answer list kept.1)

  use_new : last_use socket (UdpOpen socket at Done ∷ past) ≡ length past
  use_new = ap (λ (b : Bool). if b then length past else last_use socket past) (same socket)

  used_new : (errand : Errand) → IsUsed (UdpOpen socket at Done ∷ past) (question socket errand (moment past))
  used_new errand = record {
    used = ap (λ (b : Bool). if b then moment past else used_at socket past) (same socket);
    placed = (let now = use_new in omega (arith, now));
  }

  sooner_new : (list : List Question) → AreUnused (UdpOpen socket at Done) list → AllQuestions (IsUsed past) list
      → AllQuestions (λ q. last_use q.number (UdpOpen socket at Done ∷ past) < last_use socket (UdpOpen socket at Done ∷ past)) list
  sooner_new [] unused all = tt
  sooner_new (q ∷ list) unused all = (
    (let before = all.0.placed in let same = use_unused (UdpOpen socket at Done) past q.number unused.0 in let now = use_new in omega (arith, before, same, now)),
    sooner_new list unused.1 all.1,
  )

  plain : (waited : Bool) → is_for_question (Some (datagram_kind waited at.port)) ≡ false
  plain true = by (at.port == 0)
    where
      by : (z : Bool) → is_for_question (Some (if z then Association else Forward)) ≡ false
      by true = refl
      by false = refl
  plain false = refl

  kind_is : (errand : Errand) (name : Bool) → errand_left config past ≡ Some errand → asks_a_name config errand ≡ name → is_for_question kind ≡ name
  kind_is errand name left is =
      ap (λ o. is_for_question (Some (datagram_kind_for config (nat_lt 0 (waits past)) at.port o))) left
      ∙ ap (λ (b : Bool). is_for_question (Some (if b then DnsSocket else datagram_kind (nat_lt 0 (waits past)) at.port))) is ∙ by name
    where
      by : (b : Bool) → is_for_question (Some (if b then DnsSocket else datagram_kind (nat_lt 0 (waits past)) at.port)) ≡ b
      by true = refl
      by false = plain (nat_lt 0 (waits past))

  module _ (list : List Question) (kept : AllQuestions (KeptQuestion config past) list) (w : AreWaiting config past list) where
    other_waits : (answer : Made) → is_for_question kind ≡ false → AreWaiting config (UdpOpen socket at answer ∷ past) list
    other_waits answer other = quiet config (UdpOpen socket at answer) past list (unused_below answer list kept)
        (λ n. fresh_other is_for_question answer n socket (open_sockets past) kind (kind_for config n past) new other) w

    failed_waits : AreWaiting config (UdpOpen socket at Failed ∷ past) list
    failed_waits = quiet config (UdpOpen socket at Failed) past list (unused_below Failed list kept)
        (λ n. fresh_failed is_for_question n socket (open_sockets past) kind (kind_for config n past) new) w

    name_waits : (errand : Errand) → is_for_question kind ≡ true → AreWaiting config (UdpOpen socket at Done ∷ past) (list ++ (question socket errand (moment past) ∷ []))
    name_waits errand one =
        let unused = unused_below Done list kept in
        record {
          those = λ n. fresh_one is_for_question n socket (open_sockets past) kind (kind_for config n past) one ∙ ap (λ b. b || (n == socket)) (w.those n) ∙ sym
              (numbers_last n list (question socket errand (moment past)));
          used = all_last (IsUsed (UdpOpen socket at Done ∷ past)) list (question socket errand (moment past)) (all_used_on (UdpOpen socket at Done) past list unused w.used) (used_new errand);
          order = order_last (UdpOpen socket at Done ∷ past) list (question socket errand (moment past)) (order_on (UdpOpen socket at Done) past list unused w.order) (sooner_new list unused w.used);
        }

    opened_waits : (answer : Made) (o : Option Errand) → errand_left config past ≡ o → AreWaiting config (UdpOpen socket at answer ∷ past) (with_opened config answer socket (moment past) o list)
    opened_waits Failed o left = failed_waits
    opened_waits Done None left = other_waits Done (ap (λ o. is_for_question (Some (datagram_kind_for config (nat_lt 0 (waits past)) at.port o))) left ∙ plain (nat_lt 0 (waits past)))
    opened_waits Done (Some errand) left = by (asks_a_name config errand) refl
      where
        by : (b : Bool) → asks_a_name config errand ≡ b → AreWaiting config (UdpOpen socket at Done ∷ past) (if b then list ++ (question socket errand (moment past) ∷ []) else list)
        by true name = name_waits errand (kind_is errand true left name)
        by false name = other_waits Done (kind_is errand false left name)

-- a socket is used
moved_waits : (config : Config) (e : Entry) (past : List Entry) (change : Question → Question) (socket : ℕ) (list : List Question) → Use e past change socket →
    IsCarried config e past → AreWaiting config past list → AreWaiting config (e ∷ past) (moved_last change socket list)
moved_waits config e past change socket list u carried w = record {
  those = λ n. carried n ∙ w.those n ∙ sym (numbers_moved change u.number n socket list);
  used = used_moved e past change socket u list w.used w.order;
  order = order_moved e past change socket u list w.used w.order;
}

this_one : (socket n : ℕ) → n ≡ socket → (socket == n) ≡ true
this_one socket n is = ap (λ m. socket == m) is ∙ same socket

send_use : (past : List Entry) (socket : ℕ) (to : Endpoint) (octets : List ℕ) (answer : Sent) (errand : Errand) → Use (UdpSend socket to octets answer) past
    (asked_from (record { 0 = errand.datagram.mac }) (moment past)) socket
send_use past socket to octets answer errand = record {
  number = λ q. refl;
  last = ap (λ (b : Bool). if b then length past else last_use socket past) (same socket);
  changed = λ q this. record {
    used = ap (λ (b : Bool). if b then moment past else used_at q.number past) (this_one socket q.number this);
    placed = (let now : last_use q.number (UdpSend socket to octets answer ∷ past) ≡ length past = ap (λ (b : Bool). if b then length past else last_use q.number past)
        (this_one socket q.number this) in omega (arith, now));
  };
  others = λ n other. turned n socket false other;
}

hear_use : (past : List Entry) (socket asked : ℕ) (peer : Endpoint) (count : ℕ) (octets : List ℕ) → Use (UdpRecv socket asked (From peer count) octets) past (heard_at (moment past)) socket
hear_use past socket asked peer count octets = record {
  number = λ q. refl;
  last = ap (λ (b : Bool). if b then length past else last_use socket past) (same socket);
  changed = λ q this. record {
    used = ap (λ (b : Bool). if b then moment past else used_at q.number past) (this_one socket q.number this);
    placed = (let now : last_use q.number (UdpRecv socket asked (From peer count) octets ∷ past) ≡ length past = ap
        (λ (b : Bool). if b then length past else last_use q.number past) (this_one socket q.number this) in omega (arith, now));
  };
  others = λ n other. turned n socket false other;
}

heard_waits : (config : Config) (past : List Entry) (socket asked : ℕ) (answer : Got) (octets : List ℕ) (list : List Question) → AreWaiting config past list → AreWaiting config
    (UdpRecv socket asked answer octets ∷ past) (with_heard answer socket (moment past) list)
heard_waits config past socket asked (From peer count) octets list w =
    moved_waits config (UdpRecv socket asked (From peer count) octets) past (heard_at (moment past)) socket list (hear_use past socket asked peer count octets) (λ n. refl) w
heard_waits config past socket asked GotNotYet octets list w = silent config (UdpRecv socket asked GotNotYet octets) past list (λ n. refl) (λ n. refl) w
heard_waits config past socket asked GotFailed octets list w = silent config (UdpRecv socket asked GotFailed octets) past list (λ n. refl) (λ n. refl) w

-- a socket is closed
closed_waits : (config : Config) (past : List Entry) (socket : ℕ) (list : List Question) → AreWaiting config past list → AreWaiting config (Close socket ∷ past) (without socket list)
closed_waits config past socket list w = record {
  those = λ n. ap (λ b. b && is_for_question (kind_for config n past)) (among_without n socket (open_sockets past))
      ∙ and_assoc (not (n == socket)) (is_among n (open_sockets past)) (is_for_question (kind_for config n past))
      ∙ ap (λ b. not (n == socket) && b) (w.those n)
      ∙ sym (asked_without n socket list);
  used = all_left (IsUsed (Close socket ∷ past)) socket list (all_used_on (Close socket) past list (none_used (Close socket) list (λ n. refl)) w.used);
  order = order_without (Close socket ∷ past) socket list (order_on (Close socket) past list (none_used (Close socket) list (λ n. refl)) w.order);
}

-- a peer was accepted, or none came
peer_waits : (config : Config) (past : List Entry) (listener socket : ℕ) (answer : Accepted) (list : List Question) → is_among socket (open_sockets past) ≡ false →
    AreWaiting config past list → AreWaiting config (Accept listener socket answer ∷ past) list
peer_waits config past listener socket (FromPeer peer) list new w =
    silent config (Accept listener socket (FromPeer peer)) past list (λ n. refl) (λ n. fresh_other is_for_question Done n socket (open_sockets past) (Some OfFlow) (kind_for config n past) new refl) w
peer_waits config past listener socket NoPeer list new w =
    silent config (Accept listener socket NoPeer) past list (λ n. refl) (λ n. fresh_other is_for_question Failed n socket (open_sockets past) (Some OfFlow) (kind_for config n past) new refl) w
peer_waits config past listener socket AcceptFailed list new w =
    silent config (Accept listener socket AcceptFailed) past list (λ n. refl) (λ n. fresh_other is_for_question Failed n socket (open_sockets past) (Some OfFlow) (kind_for config n past) new refl) w

is_new : (config : Config) (past : List Entry) (socket : ℕ) → (socket == next_number past) ≡ true → Lawful config past → is_among socket (open_sockets past) ≡ false
is_new config past socket number lawful = ap (λ n. is_among n (open_sockets past)) (equal socket (next_number past) number) ∙ next_is_new config past lawful

waits_by : (config : Config) (e : Entry) (past : List Entry) → May config past (call_of e) → Lawful config past → AreWaiting config past (questions config past) → AreWaiting config
    (e ∷ past) (questions config (e ∷ past))
waits_by config (Connect socket to answer) past may lawful w =
    silent config (Connect socket to answer) past (questions config past) (λ n. refl) (λ n. fresh_other is_for_question answer n socket (open_sockets past) (Some OfFlow)
    (kind_for config n past) (is_new config past socket may.socket lawful) refl) w
waits_by config (Listen socket at answer) past may lawful w =
    silent config (Listen socket at answer) past (questions config past) (λ n. refl) (λ n. fresh_other is_for_question answer n socket (open_sockets past) (Some OfListener)
    (kind_for config n past) (is_new config past socket may.socket lawful) refl) w
waits_by config (Accept listener socket answer) past may lawful w =
    peer_waits config past listener socket answer (questions config past) (is_new config past socket (peer_next config past listener socket answer may) lawful) w
waits_by config (UdpOpen socket at answer) past may lawful w =
    opened_waits config past socket at may.socket (is_new config past socket may.socket lawful) (questions config past) (kept_questions config past lawful) w answer (errand_left config past) refl
waits_by config (UdpSend socket to octets answer) past may lawful w =
    let s = sends config past socket to octets may in
    let left = errand_is config past (NeedsSending socket s.errand) s.asked in
    subst (λ o. AreWaiting config (UdpSend socket to octets answer ∷ past) (with_sent socket (moment past) o (questions config past))) (sym left)
    (moved_waits config (UdpSend socket to octets answer) past (asked_from (record { 0 = s.errand.datagram.mac }) (moment past)) socket (questions config past)
    (send_use past socket to octets answer s.errand) (λ n. refl) w)
waits_by config (UdpRecv socket asked answer octets) past may lawful w = heard_waits config past socket asked answer octets (questions config past) w
waits_by config (Close socket) past may lawful w = closed_waits config past socket (questions config past) w
waits_by config e past may lawful w = silent config e past (questions config past) (λ n. refl) (λ n. refl) w

pub are_waiting : (config : Config) (past : List Entry) → Lawful config past → AreWaiting config past (questions config past)
are_waiting config [] lawful = record { those = λ n. refl; used = tt; order = tt }
are_waiting config (e ∷ past) lawful = waits_by config e past lawful.0 lawful.1 (are_waiting config past lawful.1)

-- the same said of the list of open ones
pub same_waiting : (config : Config) (past : List Entry) (list : List Question) → AreWaiting config past list → (n : ℕ) → is_among n (questions_open config past) ≡ is_among n (numbers list)
same_waiting config past list w n = among_if (λ s. is_for_question (kind_for config s past)) n (open_sockets past) ∙ w.those n
