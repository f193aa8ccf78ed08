-- The list of associations in the order of use, and what the trace says of sockets, are one.
use Rattle.std.proofs.Common.{◌≡◌, ℕ, ◌<◌, ◌==◌, ◌&&◌, ◌||◌, not, nat_lt, Bool, true, false, List, [], ◌∷◌, ◌++◌, length, filter, Option, Some, None, option_map, if◌then◌else◌, inl, inr}
use Rattle.std.proofs.Common.{refl, sym, ◌∙◌, ap, subst, arith}
use Rattle.std.proofs.lemmas.Bool.Decides.{nat_tests}
use Rattle.world_face.specs.Journal.{Entry, Connect, Listen, Accept, Close, UdpOpen, UdpSend, UdpRecv, CallUdpOpen, call_of}
use Rattle.world_face.specs.declared.Accepted.{Accepted}
use Rattle.world_face.specs.declared.Accepted.TheVariants.{From as FromPeer, NotYet as NoPeer, Failed as AcceptFailed}
use Rattle.world_face.specs.declared.Made.{Made}
use Rattle.world_face.specs.declared.Made.TheVariants.{Done, Failed}
use Rattle.world_face.specs.declared.Sent.{Sent}
use Rattle.world_face.specs.declared.Got.{Got}
use Rattle.world_face.specs.declared.Got.TheVariants.{From, NotYet as GotNotYet, Failed as GotFailed}
use Rattle.net_octets.specs.declared.Endpoint.{Endpoint}
use Rattle.slirp_settings.specs.Addresses.{Config}
use Rattle.rules_udp.specs.Associations.{heard_at, is_numbered, moved_last, numbers, sent_from, without}
use Rattle.rules_udp.specs.declared.Association.{Association}
use Rattle.spec_trace.specs.Moments.{moment, waits}
use Rattle.spec_trace.specs.Packets.{Datagram}
use Rattle.spec_trace.specs.Sockets.{Association as OfAssociation, Flow as OfFlow, Forward as OfForward, Listener as OfListener, Kind, DnsSocket, datagram_kind, is_among, is_association, next_number, open_sockets, with_made}
use Rattle.spec_run.specs.Asking.{step, step_of}
use Rattle.spec_run.specs.Errands.{errand_left}
use Rattle.spec_run.specs.Names.{datagram_kind_for, kind_for, questions}
use Rattle.spec_run.specs.Datagrams.{Errand, NeedsSocket, NeedsNothing, NeedsSending, asks_a_name}
use Rattle.spec_run.specs.Laws.{May, Lawful}
use Rattle.spec_run.specs.Ports.{is_used_by, last_datagram, last_mac, last_port, last_use, mac_of, opened_for, serves_port, used_at, forward_for, given_port, port_for}
use Rattle.spec_run.specs.Relayed.{association, associations, step_for, with_opened, with_sent}
use Rattle.spec_run.proofs.Bools.{and_false, equal, or_second, or_swap, same, turned, among_last, among_without}
use Rattle.spec_run.proofs.Finding.{Joined, same_port_socket, same_step}
use Rattle.spec_run.proofs.Longest.{once_open}
use Rattle.spec_run.proofs.OpenSockets.{next_is_new, peer_next}
use Rattle.spec_run.proofs.Phases.{asks_after_waits, at_any_port, given_forward, none_left, opens, sends}
use Rattle.spec_run.proofs.Steps.{Asks, OfErrand, errand_asks, errand_is, unopened}
use Rattle.spec_run.proofs.Uses.{AllBefore, AreKept, AreUnused, Kept, NoneOf, Use, all_unused, are_kept_on, in_order_last, in_order_moved, in_order_on, in_order_without, kept_last}
use Rattle.spec_run.proofs.Uses.{kept_moved, kept_without, none_of, use_unused}

-- ---- numbers

pub numbers_last : (list : List Association) (a : Association) → numbers (list ++ (a ∷ [])) ≡ numbers list ++ (a.number ∷ [])
numbers_last [] a = refl
numbers_last (x ∷ list) a = ap (λ ns. x.number ∷ ns) (numbers_last list a)

pub among_moved : (change : Association → Association) → ((a : Association) → (change a).number ≡ a.number) → (n m : ℕ) (list : List Association) → is_among n
    (numbers (moved_last change m list)) ≡ is_among n (numbers list)
among_moved change keeps n m [] = refl
among_moved change keeps n m (x ∷ list) = by_test (is_numbered m x) (among_moved change keeps n m list)
  where
    by_test : (t : Bool) → is_among n (numbers (moved_last change m list)) ≡ is_among n (numbers list) → is_among n
        (numbers (if t then list ++ (change x ∷ []) else x ∷ moved_last change m list)) ≡ is_among n (numbers (x ∷ list))
    by_test true rest = ap (is_among n) (numbers_last list (change x)) ∙ among_last n (change x).number (numbers list) ∙ ap (λ k. is_among n (numbers list) || (n == k)) (keeps x)
        ∙ or_swap (is_among n (numbers list)) (n == x.number)
    by_test false rest = ap (λ b. (n == x.number) || b) rest

pub numbers_without : (m : ℕ) (list : List Association) → numbers (without m list) ≡ filter (λ s. not (s == m)) (numbers list)
numbers_without m [] = refl
numbers_without m (x ∷ list) = by_test (x.number == m) (numbers_without m list)
  where
    by_test : (t : Bool) → numbers (without m list) ≡ filter (λ s. not (s == m)) (numbers list)
        → numbers (if not t then x ∷ without m list else without m list) ≡ (if not t then x.number ∷ filter (λ s. not (s == m)) (numbers list) else filter (λ s. not (s == m)) (numbers list))
    by_test true rest = rest
    by_test false rest = ap (λ ns. x.number ∷ ns) rest

-- ---- an entry that uses none of them and changes none

quiet : (config : Config) (e : Entry) (past : List Entry) (list : List Association) → AreUnused e list → ((n : ℕ) → serves_port config (e ∷ past) n ≡ serves_port config past n) →
    Joined config past list → Joined config (e ∷ past) list
quiet config e past list unused carried joined = record {
  those = λ n. carried n ∙ joined.those n;
  kept = are_kept_on config e past list unused joined.kept;
  order = in_order_on e past list unused joined.order;
}

silent : (config : Config) (e : Entry) (past : List Entry) (list : List Association) → ((n : ℕ) → is_used_by n e ≡ false) →
    ((n : ℕ) → serves_port config (e ∷ past) n ≡ serves_port config past n) → Joined config past list → Joined config (e ∷ past) list
silent config e past list none carried joined = quiet config e past list (all_unused e list none) carried joined

-- ---- a socket is opened

pub and_assoc : (a b c : Bool) → ((a && b) && c) ≡ (a && (b && c))
and_assoc true b c = refl
and_assoc false b c = refl

-- one whose kind fails a test
pub fresh_other : (test : Option Kind → Bool) (answer : Made) (n socket : ℕ) (sockets : List ℕ) (k kind : Option Kind) → is_among socket sockets ≡ false → test k ≡ false
    → (is_among n (with_made answer socket sockets) && test (if socket == n then k else kind)) ≡ (is_among n sockets && test kind)
fresh_other test answer n socket sockets k kind new other = by answer (socket == n) refl
  where
    by : (answer : Made) (t : Bool) → (socket == n) ≡ t → (is_among n (with_made answer socket sockets) && test (if t then k else kind)) ≡ (is_among n sockets && test kind)
    by answer true this =
        let one = equal socket n this in
        let shut : is_among n sockets ≡ false = subst (λ m. is_among m sockets ≡ false) one new in
        ap (λ b. is_among n (with_made answer socket sockets) && b) other ∙ and_false (is_among n (with_made answer socket sockets)) ∙ sym (ap (λ b. b && test kind) shut)
    by Done false this = ap (λ b. b && test kind) (among_last n socket sockets ∙ ap (λ b. is_among n sockets || b) (turned socket n false this) ∙ or_none (is_among n sockets))
      where
        or_none : (b : Bool) → (b || false) ≡ b
        or_none true = refl
        or_none false = refl
    by Failed false this = refl

-- one that couldn't be opened
pub fresh_failed : (test : Option Kind → Bool) (n socket : ℕ) (sockets : List ℕ) (k kind : Option Kind) → is_among socket sockets ≡ false
    → (is_among n sockets && test (if socket == n then k else kind)) ≡ (is_among n sockets && test kind)
fresh_failed test n socket sockets k kind new = by (socket == n) refl
  where
    by : (t : Bool) → (socket == n) ≡ t → (is_among n sockets && test (if t then k else kind)) ≡ (is_among n sockets && test kind)
    by true this =
        let shut : is_among n sockets ≡ false = subst (λ m. is_among m sockets ≡ false) (equal socket n this) new in
        ap (λ b. b && test k) shut ∙ sym (ap (λ b. b && test kind) shut)
    by false this = refl

-- one whose kind passes it
pub fresh_one : (test : Option Kind → Bool) (n socket : ℕ) (sockets : List ℕ) (k kind : Option Kind) → test k ≡ true
    → (is_among n (sockets ++ (socket ∷ [])) && test (if socket == n then k else kind)) ≡ ((is_among n sockets && test kind) || (n == socket))
fresh_one test n socket sockets k kind one = by (socket == n) refl
  where
    all : (a b c : Bool) → b ≡ true → c ≡ true → ((a || b) && c) ≡ true
    all true b c two three = three
    all false b c two three = cc

    none : (a b c : Bool) → b ≡ false → ((a || b) && c) ≡ ((a && c) || b)
    none true true c two = cc
    none true false true two = refl
    none true false false two = refl
    none false true c two = cc
    none false false c two = refl

    by : (t : Bool) → (socket == n) ≡ t → (is_among n (sockets ++ (socket ∷ [])) && test (if t then k else kind)) ≡ ((is_among n sockets && test kind) || (n == socket))
    by true this =
        ap (λ b. b && test k) (among_last n socket sockets) ∙ all (is_among n sockets) (n == socket) (test k) (turned socket n true this) one
        ∙ sym (or_second (is_among n sockets && test kind) (n == socket) (turned socket n true this))
    by false this = ap (λ b. b && test kind) (among_last n socket sockets) ∙ none (is_among n sockets) (n == socket) (test kind) (turned socket n false this)

unused_below : (config : Config) (past : List Entry) (socket : ℕ) (at : Endpoint) (answer : Made) (list : List Association) → (socket == next_number past) ≡ true →
    AreKept config past list → AreUnused (UdpOpen socket at answer) list
unused_below config past socket at answer [] is kept = tt
unused_below config past socket at answer (a ∷ list) is kept =
    (let drawn = kept.0.drawn in grind (arith, nat_tests, drawn, is), unused_below config past socket at answer list is kept.1)

pub none_early : (n : ℕ) (o : Option Errand) → n ≡ 0 → OfErrand (λ (errand : Errand). 0 < n) o → o ≡ None
none_early n None is asks = refl
none_early n (Some errand) is asks = absurd (omega (arith, is, asks))

module _ (config : Config) (past : List Entry) (socket : ℕ) (at : Endpoint) (answer : Made) (errand : Errand) (number : (socket == next_number past) ≡ true)
    (waited : nat_lt 0 (waits past) ≡ true) (any : at.port ≡ 0) (asks : Asks config (last_datagram config past) errand) where
  port_new : opened_for config socket (UdpOpen socket at answer ∷ past) ≡ Some errand.datagram.from
  port_new = ap (λ (b : Bool). if b then port_for config at.port socket past else opened_for config socket past) (same socket) ∙ ap (λ port. port_for config port socket past) any
      ∙ ap (λ (b : Bool). if b then last_port config past else given_port config socket) waited ∙ ap (option_map (λ (d : Datagram). d.from)) asks.datagram

  use_new : last_use socket (UdpOpen socket at answer ∷ past) ≡ length past
  use_new = ap (λ (b : Bool). if b then length past else last_use socket past) (same socket)

  kept_new : Kept config (UdpOpen socket at answer ∷ past) (association socket errand (moment past))
  kept_new = record {
    guest = port_new;
    mac = ap (λ (b : Bool). if b then last_mac config past else mac_of config socket past) (same socket) ∙ ap (option_map (λ (d : Datagram). d.mac)) asks.datagram;
    used = ap (λ (b : Bool). if b then moment past else used_at socket past) (same socket);
    placed = (let now = use_new in omega (arith, now));
    drawn = (let here = equal socket (next_number past) number in omega (arith, here));
  }

  before_new : (list : List Association) → AreUnused (UdpOpen socket at answer) list → AreKept config past list → NoneOf errand.datagram.from list → AllBefore
      (UdpOpen socket at answer ∷ past) list (association socket errand (moment past))
  before_new [] unused kept none = tt
  before_new (a ∷ list) unused kept none = (
    record {
      sooner = (let placed = kept.0.placed in let same = use_unused (UdpOpen socket at answer) past a.number unused.0 in let now = use_new in omega (arith, placed, same, now));
      guests = none.0;
    },
    before_new list unused.1 kept.1 none.1,
  )

module _ (config : Config) (past : List Entry) (socket : ℕ) (at : Endpoint) (number : (socket == next_number past) ≡ true) (new : is_among socket (open_sockets past) ≡ false)
    (list : List Association) (joined : Joined config past list) where
  unused : (answer : Made) → AreUnused (UdpOpen socket at answer) list
  unused answer = unused_below config past socket at answer list number joined.kept

  -- a forward's
  early_kind : waits past ≡ 0 → is_association (Some (datagram_kind (nat_lt 0 (waits past)) at.port)) ≡ false
  early_kind early = let not_yet : nat_lt 0 (waits past) ≡ false = grind (arith, nat_tests, early) in ap (λ (b : Bool). is_association (Some (datagram_kind b at.port))) not_yet

  plain_joins : (answer : Made) → is_association (Some (datagram_kind (nat_lt 0 (waits past)) at.port)) ≡ false → errand_left config past ≡ None → Joined config (UdpOpen socket at answer ∷ past) (with_opened config answer socket (moment past) None list)
  plain_joins answer other none = by answer
    where
      carried : (answer : Made) (n : ℕ) → serves_port config (UdpOpen socket at answer ∷ past) n ≡ serves_port config past n
      carried answer n = fresh_other is_association answer n socket (open_sockets past) (Some (datagram_kind_for config (nat_lt 0 (waits past)) at.port (errand_left config past))) (kind_for config n past) new
          (ap (λ o. is_association (Some (datagram_kind_for config (nat_lt 0 (waits past)) at.port o))) none ∙ other)

      by : (answer : Made) → Joined config (UdpOpen socket at answer ∷ past) (with_opened config answer socket (moment past) None list)
      by Done = quiet config (UdpOpen socket at Done) past list (unused Done) (carried Done) joined
      by Failed = quiet config (UdpOpen socket at Failed) past list (unused Failed) (carried Failed) joined

  early_joins : (answer : Made) → waits past ≡ 0 → errand_left config past ≡ None → Joined config (UdpOpen socket at answer ∷ past) (with_opened config answer socket (moment past) None list)
  early_joins answer early none = plain_joins answer (early_kind early) none

  -- a guest's
  module _ (errand : Errand) (waited : nat_lt 0 (waits past) ≡ true) (any : at.port ≡ 0) (left : errand_left config past ≡ Some errand) (asks : Asks config (last_datagram config past) errand) where
    kind_is : (name : Bool) → asks_a_name config errand ≡ name → is_association (Some (datagram_kind_for config (nat_lt 0 (waits past)) at.port (errand_left config past))) ≡ not name
    kind_is name is = ap (λ o. is_association (Some (datagram_kind_for config (nat_lt 0 (waits past)) at.port o))) left ∙ ap
        (λ (b : Bool). is_association (Some (if b then DnsSocket else datagram_kind (nat_lt 0 (waits past)) at.port))) is ∙ by name
      where
        by : (name : Bool) → is_association (Some (if name then DnsSocket else datagram_kind (nat_lt 0 (waits past)) at.port)) ≡ not name
        by true = refl
        by false = ap (λ (b : Bool). is_association (Some (datagram_kind b at.port))) waited ∙ ap (λ port. is_association (Some (datagram_kind true port))) any

    list_last : (n : ℕ) → is_among n (numbers (list ++ (association socket errand (moment past) ∷ []))) ≡ (is_among n (numbers list) || (n == socket))
    list_last n = ap (is_among n) (numbers_last list (association socket errand (moment past))) ∙ among_last n socket (numbers list)

    -- for a question
    name_joins : (answer : Made) → asks_a_name config errand ≡ true → Joined config (UdpOpen socket at answer ∷ past) list
    name_joins answer name = quiet config (UdpOpen socket at answer) past list (unused answer)
        (λ n. fresh_other is_association answer n socket (open_sockets past) (Some (datagram_kind_for config (nat_lt 0 (waits past)) at.port (errand_left config past)))
        (kind_for config n past) new (kind_is true name)) joined

    -- for its port
    port_joins : (answer : Made) → asks_a_name config errand ≡ false → NoneOf errand.datagram.from list → Joined config (UdpOpen socket at answer ∷ past)
        (with_opened config answer socket (moment past) (Some errand) list)
    port_joins Done other none = subst (λ (b : Bool). Joined config (UdpOpen socket at Done ∷ past) (if b then list else list ++ (association socket errand (moment past) ∷ []))) (sym other) (record {
      those = λ n. fresh_one is_association n socket (open_sockets past) (Some (datagram_kind_for config (nat_lt 0 (waits past)) at.port (errand_left config past)))
          (kind_for config n past) (kind_is false other)
          ∙ ap (λ b. b || (n == socket)) (joined.those n) ∙ sym (list_last n);
      kept = kept_last config (UdpOpen socket at Done ∷ past) list (association socket errand (moment past)) (are_kept_on config (UdpOpen socket at Done) past list (unused Done) joined.kept)
          (kept_new config past socket at Done errand number waited any asks);
      order = in_order_last (UdpOpen socket at Done ∷ past) list (association socket errand (moment past)) (in_order_on (UdpOpen socket at Done) past list (unused Done) joined.order)
          (before_new config past socket at Done errand number waited any asks list (unused Done) joined.kept none);
    })
    port_joins Failed other none = quiet config (UdpOpen socket at Failed) past list (unused Failed)
        (λ n. fresh_failed is_association n socket (open_sockets past) (Some (datagram_kind_for config (nat_lt 0 (waits past)) at.port (errand_left config past))) (kind_for config n past) new) joined

    late_joins : (answer : Made) (name : Bool) → asks_a_name config errand ≡ name → (name ≡ false → NoneOf errand.datagram.from list) → Joined config
        (UdpOpen socket at answer ∷ past) (with_opened config answer socket (moment past) (Some errand) list)
    late_joins Done true name none = subst (λ (b : Bool). Joined config (UdpOpen socket at Done ∷ past)
        (if b then list else list ++ (association socket errand (moment past) ∷ []))) (sym name) (name_joins Done name)
    late_joins Failed true name none = name_joins Failed name
    late_joins answer false name none = port_joins answer name (none refl)

pub waited_for : (config : Config) (past : List Entry) (errand : Errand) → errand_left config past ≡ Some errand → Lawful config past → nat_lt 0 (waits past) ≡ true
waited_for config past errand is lawful =
    let less : 0 < waits past = subst (λ o. OfErrand (λ (errand : Errand). 0 < waits past) o) is (asks_after_waits config past lawful) in grind (arith, nat_tests, less)

-- where a socket is opened at a port that is named no datagram is left to go out
pub settled_named : (config : Config) (past : List Entry) (socket : ℕ) (at : Endpoint) → Lawful config past → May config past (CallUdpOpen socket at) → (at.port == 0) ≡ false → step config past ≡ NeedsNothing
settled_named config past socket at lawful may named = elim (opens config past socket at may) [
  | inl early ↦ ap (step_of config past) (none_early (waits past) (errand_left config past) early.0 (asks_after_waits config past lawful))
  | inr later ↦ elim later [
    | inl o ↦ absurd (clash (at.port == 0) (ap (λ (e : Endpoint). e.port == 0) o.at_address) named)
    | inr given ↦ ap (step_of config past) (none_left config past given.nothing)
  ]
]
  where
    clash : (b : Bool) → b ≡ true → b ≡ false → ⊥
    clash true one other = cc
    clash false one other = cc

abbrev JoinedAt : Config → List Entry → Type 0
JoinedAt config past = Joined config past (associations config past)

opened_joins : (config : Config) (past : List Entry) (socket : ℕ) (at : Endpoint) (answer : Made) → May config past (call_of (UdpOpen socket at answer)) → Lawful config past →
    JoinedAt config past → JoinedAt config (UdpOpen socket at answer ∷ past)
opened_joins config past socket at answer may lawful joined =
    elim (opens config past socket at may) [
      | inl early ↦ subst (λ o. Joined config (UdpOpen socket at answer ∷ past) (with_opened config answer socket (moment past) o (associations config past)))
          (sym (none_early (waits past) (errand_left config past) early.0 (asks_after_waits config past lawful)))
          (early_joins config past socket at may.socket new (associations config past) joined answer early.0
          (none_early (waits past) (errand_left config past) early.0 (asks_after_waits config past lawful)))
      | inr later ↦ elim later [
        | inl o ↦ late o.errand o.asked
        | inr given ↦ (let left = none_left config past given.nothing in
            subst (λ o. Joined config (UdpOpen socket at answer ∷ past) (with_opened config answer socket (moment past) o (associations config past))) (sym left)
            (plain_joins config past socket at may.socket new (associations config past) joined answer
            (given_kind (nat_lt 0 (waits past)) at.port (given_forward config past socket at (given_port config socket) given.is).named) left))
      ]
    ]
  where
    some_waits : (errand : Errand) → errand_left config past ≡ Some errand → 0 < waits past
    some_waits errand left = let waited = waited_for config past errand left lawful in grind (arith, nat_tests, waited)

    given_kind : (waited : Bool) (port : ℕ) → (port == 0) ≡ false → is_association (Some (datagram_kind waited port)) ≡ false
    given_kind true port some = ap (λ (b : Bool). is_association (Some (if b then OfAssociation else OfForward))) some
    given_kind false port some = refl

    new : is_among socket (open_sockets past) ≡ false
    new = ap (λ n. is_among n (open_sockets past)) (equal socket (next_number past) may.socket) ∙ next_is_new config past lawful

    late : (errand : Errand) → step config past ≡ NeedsSocket errand → JoinedAt config (UdpOpen socket at answer ∷ past)
    late errand asked =
        let left = errand_is config past (NeedsSocket errand) asked in
        subst (λ o. Joined config (UdpOpen socket at answer ∷ past) (with_opened config answer socket (moment past) o (associations config past))) (sym left)
        (late_joins config past socket at may.socket new (associations config past) joined errand (waited_for config past errand left lawful) (at_any_port config past socket at errand (some_waits errand left) left may) left (errand_asks config past errand left) answer
        (asks_a_name config errand) refl
        (λ other. none_of errand.datagram.from (associations config past) (same_port_socket config past errand.datagram.from (associations config past) joined
        ∙ unopened config past errand other asked)))

-- ---- a socket is used

moved_joins : (config : Config) (e : Entry) (past : List Entry) (change : Association → Association) (socket : ℕ) (list : List Association) → Use config e past change socket
    → ((n : ℕ) → serves_port config (e ∷ past) n ≡ serves_port config past n) → Joined config past list → Joined config (e ∷ past) (moved_last change socket list)
moved_joins config e past change socket list u carried joined = record {
  those = λ n. carried n ∙ joined.those n ∙ sym (among_moved change u.number n socket list);
  kept = kept_moved config e past change socket u list joined.kept joined.order;
  order = in_order_moved config e past change socket u list joined.kept joined.order;
}

this_one : (socket n : ℕ) → n ≡ socket → (socket == n) ≡ true
this_one socket n is = ap (λ m. socket == m) is ∙ same socket

send_use : (config : Config) (past : List Entry) (socket : ℕ) (to : Endpoint) (octets : List ℕ) (answer : Sent) (errand : Errand) → Asks config (last_datagram config past) errand
    → Use config (UdpSend socket to octets answer) past (sent_from (record { 0 = errand.datagram.mac }) (moment past)) socket
send_use config past socket to octets answer errand asks = record {
  number = λ a. refl;
  guest = λ a. refl;
  last = ap (λ (b : Bool). if b then length past else last_use socket past) (same socket);
  kept = λ a this kept. record {
    guest = kept.guest;
    mac = ap (λ (b : Bool). if b then last_mac config past else mac_of config a.number past) (this_one socket a.number this) ∙ ap (option_map (λ (d : Datagram). d.mac)) asks.datagram;
    used = ap (λ (b : Bool). if b then moment past else used_at a.number past) (this_one socket a.number this);
    placed = (let now : last_use a.number (UdpSend socket to octets answer ∷ past) ≡ length past = ap (λ (b : Bool). if b then length past else last_use a.number past)
        (this_one socket a.number this) in omega (arith, now));
    drawn = kept.drawn;
  };
  others = λ n other. turned n socket false other;
}

sent_joins : (config : Config) (past : List Entry) (socket : ℕ) (to : Endpoint) (octets : List ℕ) (answer : Sent) → May config past (call_of (UdpSend socket to octets answer)) → JoinedAt config past
    → JoinedAt config (UdpSend socket to octets answer ∷ past)
sent_joins config past socket to octets answer may joined =
    let s = sends config past socket to octets may in
    let left = errand_is config past (NeedsSending socket s.errand) s.asked in
    subst (λ o. Joined config (UdpSend socket to octets answer ∷ past) (with_sent socket (moment past) o (associations config past))) (sym left)
    (moved_joins config (UdpSend socket to octets answer) past (sent_from (record { 0 = s.errand.datagram.mac }) (moment past)) socket (associations config past)
    (send_use config past socket to octets answer s.errand (errand_asks config past s.errand left)) (λ n. refl) joined)

hear_use : (config : Config) (past : List Entry) (socket asked : ℕ) (peer : Endpoint) (count : ℕ) (octets : List ℕ) → Use config
    (UdpRecv socket asked (From peer count) octets) past (heard_at (moment past)) socket
hear_use config past socket asked peer count octets = record {
  number = λ a. refl;
  guest = λ a. refl;
  last = ap (λ (b : Bool). if b then length past else last_use socket past) (same socket);
  kept = λ a this kept. record {
    guest = kept.guest;
    mac = kept.mac;
    used = ap (λ (b : Bool). if b then moment past else used_at a.number past) (this_one socket a.number this);
    placed = (let now : last_use a.number (UdpRecv socket asked (From peer count) octets ∷ past) ≡ length past = ap
        (λ (b : Bool). if b then length past else last_use a.number past) (this_one socket a.number this) in omega (arith, now));
    drawn = kept.drawn;
  };
  others = λ n other. turned n socket false other;
}

heard_joins : (config : Config) (past : List Entry) (socket asked : ℕ) (answer : Got) (octets : List ℕ) → JoinedAt config past → JoinedAt config (UdpRecv socket asked answer octets ∷ past)
heard_joins config past socket asked (From peer count) octets joined =
    moved_joins config (UdpRecv socket asked (From peer count) octets) past (heard_at (moment past)) socket (associations config past)
    (hear_use config past socket asked peer count octets) (λ n. refl) joined
heard_joins config past socket asked GotNotYet octets joined = silent config (UdpRecv socket asked GotNotYet octets) past (associations config past) (λ n. refl) (λ n. refl) joined
heard_joins config past socket asked GotFailed octets joined = silent config (UdpRecv socket asked GotFailed octets) past (associations config past) (λ n. refl) (λ n. refl) joined

-- ---- a socket is closed

closed_joins : (config : Config) (past : List Entry) (socket : ℕ) (list : List Association) → Joined config past list → Joined config (Close socket ∷ past) (without socket list)
closed_joins config past socket list joined = record {
  those = λ n. ap (λ b. b && is_association (kind_for config n past)) (among_without n socket (open_sockets past))
      ∙ and_assoc (not (n == socket)) (is_among n (open_sockets past)) (is_association (kind_for config n past))
      ∙ ap (λ b. not (n == socket) && b) (joined.those n)
      ∙ sym (among_without n socket (numbers list))
      ∙ sym (ap (is_among n) (numbers_without socket list));
  kept = kept_without config (Close socket ∷ past) socket list (are_kept_on config (Close socket) past list (all_unused (Close socket) list (λ n. refl)) joined.kept);
  order = in_order_without (Close socket ∷ past) socket list (in_order_on (Close socket) past list (all_unused (Close socket) list (λ n. refl)) joined.order);
}

-- ---- at every moment of a lawful run

-- a peer was accepted, or none came
peer_joins : (config : Config) (past : List Entry) (listener socket : ℕ) (answer : Accepted) (list : List Association) → is_among socket (open_sockets past) ≡ false →
    Joined config past list → Joined config (Accept listener socket answer ∷ past) list
peer_joins config past listener socket (FromPeer peer) list new joined =
    silent config (Accept listener socket (FromPeer peer)) past list (λ n. refl) (λ n. fresh_other is_association Done n socket (open_sockets past) (Some OfFlow)
    (kind_for config n past) new refl) joined
peer_joins config past listener socket NoPeer list new joined =
    silent config (Accept listener socket NoPeer) past list (λ n. refl) (λ n. fresh_other is_association Failed n socket (open_sockets past) (Some OfFlow) (kind_for config n past) new refl) joined
peer_joins config past listener socket AcceptFailed list new joined =
    silent config (Accept listener socket AcceptFailed) past list (λ n. refl) (λ n. fresh_other is_association Failed n socket (open_sockets past) (Some OfFlow)
    (kind_for config n past) new refl) joined

joins_by : (config : Config) (e : Entry) (past : List Entry) → May config past (call_of e) → Lawful config past → JoinedAt config past → JoinedAt config (e ∷ past)
joins_by config (Connect socket to answer) past may lawful joined =
    let new : is_among socket (open_sockets past) ≡ false = ap (λ n. is_among n (open_sockets past)) (equal socket (next_number past) may.socket) ∙ next_is_new config past lawful in
    silent config (Connect socket to answer) past (associations config past) (λ n. refl) (λ n. fresh_other is_association answer n socket (open_sockets past) (Some OfFlow)
    (kind_for config n past) new refl) joined
joins_by config (Accept listener socket answer) past may lawful joined =
    let new : is_among socket (open_sockets past) ≡ false = ap (λ n. is_among n (open_sockets past))
    (equal socket (next_number past) (peer_next config past listener socket answer may)) ∙ next_is_new config past lawful in
    peer_joins config past listener socket answer (associations config past) new joined
joins_by config (Listen socket at answer) past may lawful joined =
    let new : is_among socket (open_sockets past) ≡ false = ap (λ n. is_among n (open_sockets past)) (equal socket (next_number past) may.socket) ∙ next_is_new config past lawful in
    silent config (Listen socket at answer) past (associations config past) (λ n. refl) (λ n. fresh_other is_association answer n socket (open_sockets past) (Some OfListener)
    (kind_for config n past) new refl) joined
joins_by config (UdpOpen socket at answer) past may lawful joined = opened_joins config past socket at answer may lawful joined
joins_by config (UdpSend socket to octets answer) past may lawful joined = sent_joins config past socket to octets answer may joined
joins_by config (UdpRecv socket asked answer octets) past may lawful joined = heard_joins config past socket asked answer octets joined
joins_by config (Close socket) past may lawful joined = closed_joins config past socket (associations config past) joined
joins_by config e past may lawful joined = silent config e past (associations config past) (λ n. refl) (λ n. refl) joined

pub joined : (config : Config) (past : List Entry) → Lawful config past → Joined config past (associations config past)
joined config [] lawful = record { those = λ n. refl; kept = tt; order = tt }
joined config (e ∷ past) lawful = joins_by config e past lawful.0 lawful.1 (joined config past lawful.1)

-- and so is what the datagram that came last still asks for
pub joined_step : (config : Config) (past : List Entry) → Lawful config past → step config past ≡ step_for config (questions config past) (λ guest. forward_for config guest past)
    (associations config past) (errand_left config past)
joined_step config past lawful = same_step config past (associations config past) (once_open config past lawful) (joined config past lawful) (errand_left config past)
