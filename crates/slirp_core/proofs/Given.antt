-- The ports of the host that are given to guests: which calls leave them in force, and what the list of those that are says of the trace.
use Rattle.std.proofs.Common.{◌≡◌, ℕ, zero, suc, ◌+◌, ◌<◌, ◌≤◌, ◌==◌, ◌&&◌, ◌||◌, ◌⊎◌, not, nat_lt, Bool, true, false, List, [], ◌∷◌, ◌++◌, filter, find, slice_get, Option}
use Rattle.std.proofs.Common.{Some, None, option_map, if◌then◌else◌, inl, inr, refl, sym, ◌∙◌, ap, subst, arith}
use Rattle.std.proofs.lemmas.Bool.Decides.{nat_tests}
use Rattle.std.specs.Option.{option_and_then, option_map_or}
use Rattle.net_octets.specs.declared.Endpoint.{Endpoint}
use Rattle.world_face.specs.Journal.{Entry, Connect, Listen, Accept, Close, UdpOpen, call_of}
use Rattle.world_face.specs.declared.Accepted.TheVariants.{From, NotYet as NotYetAccepted, Failed as AcceptFailed}
use Rattle.world_face.specs.declared.Made.{Made}
use Rattle.world_face.specs.declared.Made.TheVariants.{Done, Failed}
use Rattle.slirp_settings.specs.declared.Forward.{Forward}
use Rattle.rules_forward.specs.Adding.{opening_of as port_opening}
use Rattle.slirp_settings.specs.declared.Proto.{Proto}
use Rattle.slirp_settings.specs.declared.Proto.TheVariants.{Tcp, Udp}
use Rattle.slirp_settings.specs.Ranges.{same_proto}
use Rattle.slirp_settings.specs.Classes.{same_endpoint}
use Rattle.rules_forward.specs.Opened.{Opened, forward_with, is_on, leads_to, socket_for, socket_of}
use Rattle.slirp_settings.specs.Addresses.{Config, forward_on}
use Rattle.spec_trace.specs.Moments.{waits}
use Rattle.spec_trace.specs.Sockets.{Kind, Association as OfAssociation, DnsSocket, Forward as OfForward, Listener, Flow as OfFlow, datagram_kind, is_among, is_flow, is_forward, kind_of, next_number}
use Rattle.spec_trace.specs.Sockets.{open_sockets, with_made}
use Rattle.spec_run.specs.Laws.{Lawful, May, is_closing}
use Rattle.spec_run.proofs.Bools.{among_last, among_without, and_both, equal, or_second, same, second_of, turned}
use Rattle.spec_run.proofs.OpenSockets.{open_below, peer_next}
use Rattle.spec_run.proofs.Giving.{leads}
use Rattle.spec_run.specs.Ports.{forward_for, given_by, is_port, opened_for}
use Rattle.tcp_flows.specs.Runs.{LeavesOthers}
use Rattle.slirp_core.specs.Forwards.{AreInForce, IsInForce, given_kind, guest_on, is_given}
use Rattle.rules_forward.specs.Opened.{forward_sockets, is_over, sockets_over}
use Rattle.slirp_core.specs.Sockets.{AllAbove, IsRising}
use Rattle.sim_flows.proofs.Seats.{same_or_not}
use Rattle.sim_flows.proofs.Options.{true_false}
use Rattle.slirp_core.proofs.Rising.{open_rise}

-- ---- numbers that rise

up_to : (a b : ℕ) (ns : List ℕ) → a ≤ b → IsRising a ns → IsRising b ns
up_to a b [] more rising = tt
up_to a b (n ∷ ns) more rising = let less = rising.0 in (omega (arith, less, more), rising.1, up_to a b ns more rising.2)

pub above : (n m : ℕ) (ms : List ℕ) → AllAbove n ms → is_among m ms ≡ true → n < m
above n m [] up is = cc
above n m (y ∷ ms) up is = by (m == y) refl is (above n m ms up.1)
  where
    by : (t : Bool) → (m == y) ≡ t → (t || is_among m ms) ≡ true → (is_among m ms ≡ true → n < m) → n < m
    by true one is rest = let here = equal m y one in let less = up.0 in omega (arith, here, less)
    by false other is rest = rest is

-- one that is under the first of them is none of them
pub none_above : (n : ℕ) (ms : List ℕ) → AllAbove n ms → is_among n ms ≡ false
none_above n ms up = by (is_among n ms) refl
  where
    by : (b : Bool) → is_among n ms ≡ b → b ≡ false
    by true is = let less = above n n ms up is in absurd (omega (arith, less))
    by false is = refl

all_above_both : (n bound : ℕ) (ms : List ℕ) → AllAbove n ms → n < bound → IsRising bound ms → IsRising bound (n ∷ ms)
all_above_both n bound ms up less rising = (less, up, rising)

-- two rows that rise, with the same numbers, are one
pub same_rising : (a b : ℕ) (xs ys : List ℕ) → IsRising a xs → IsRising b ys → ((n : ℕ) → is_among n xs ≡ is_among n ys) → xs ≡ ys
same_rising a b [] [] one two agree = refl
same_rising a b [] (y ∷ ys) one two agree = let never : false ≡ true = agree y ∙ ap (λ b. b || is_among y ys) (same y) in cc
same_rising a b (x ∷ xs) [] one two agree = let never : false ≡ true = sym (agree x) ∙ ap (λ b. b || is_among x xs) (same x) in cc
same_rising a b (x ∷ xs) (y ∷ ys) one two agree = ap (λ n. n ∷ xs) first ∙ ap (λ l. y ∷ l) (same_rising a b xs ys one.2 two.2 rest)
  where
    least : (n m : ℕ) (ns : List ℕ) → AllAbove m ns → is_among n (m ∷ ns) ≡ true → m ≤ n
    least n m ns up is = by (n == m) refl is
      where
        by : (t : Bool) → (n == m) ≡ t → (t || is_among n ns) ≡ true → m ≤ n
        by true here is = let it = equal n m here in omega (arith, it)
        by false other is = let less = above m n ns up is in omega (arith, less)

    first : x ≡ y
    first =
        let low = least y x xs one.1 (agree y ∙ ap (λ b. b || is_among y ys) (same y)) in
        let high = least x y ys two.1 (sym (agree x) ∙ ap (λ b. b || is_among x xs) (same x)) in
        omega (arith, low, high)

    rest : (n : ℕ) → is_among n xs ≡ is_among n ys
    rest n = by (n == x) refl (agree n)
      where
        by : (t : Bool) → (n == x) ≡ t → (t || is_among n xs) ≡ ((n == y) || is_among n ys) → is_among n xs ≡ is_among n ys
        by true here both =
            let it = equal n x here in
            ap (λ m. is_among m xs) it ∙ none_above x xs one.1 ∙ sym (none_above y ys two.1) ∙ ap (λ m. is_among m ys) (sym (it ∙ first))
        by false other both = both ∙ ap (λ b. b || is_among n ys) (ap (λ m. n == m) (sym first) ∙ other)

-- ---- which open socket is one of theirs

pub is_kind : (p : Proto) → is_given (Some (given_kind p)) ≡ true
is_kind Tcp = refl
is_kind Udp = refl

no_flow : (k : Option Kind) → is_given k ≡ true → is_flow k ≡ false
no_flow None is = cc
no_flow (Some OfAssociation) is = cc
no_flow (Some DnsSocket) is = cc
no_flow (Some OfForward) is = refl
no_flow (Some Listener) is = refl
no_flow (Some OfFlow) is = cc

-- where the sockets that are open stay of their kind, those of ports of the host stay open, and no other is one, all stays in force
pub unmoved : (config : Config) (forwards : List Opened) (now past : List Entry) → ((n : ℕ) → is_among n (open_sockets past) ≡ true → kind_of n now ≡ kind_of n past)
    → ((n : ℕ) → is_among n (open_sockets past) ≡ true → is_given (kind_of n past) ≡ true → is_among n (open_sockets now) ≡ true)
    → ((n : ℕ) → is_among n (open_sockets now) ≡ true → is_given (kind_of n now) ≡ true → (is_among n (open_sockets past) ≡ true) × (is_given (kind_of n past) ≡ true))
    → next_number past ≤ next_number now → AreInForce config forwards past → AreInForce config forwards now
unmoved config forwards now past kinds stay were more has = record {
  each = λ k o at.
      let was = has.each k o at in
      record { open_yet = stay (socket_of o) was.open_yet (ap is_given was.kind ∙ is_kind o.0.proto); kind = kinds (socket_of o) was.open_yet ∙ was.kind; is = was.is };
  all = λ n among given. let was = were n among given in has.all n was.0 was.1;
  rising = up_to (next_number past) (next_number now) (forward_sockets forwards) more has.rising;
}

-- ---- one entry

-- it opens no port of the host, and closes none
abbrev pub IsOther : Entry → List Entry → Type 0
IsOther (Listen socket at answer) past = ⊥
IsOther (UdpOpen socket at answer) past = (nat_lt 0 (waits past) ≡ true) × (at.port ≡ 0)
IsOther (Close n) past = is_given (kind_of n past) ≡ false
IsOther _ past = Unit {0}

other_kind : (b : Bool) (k : Kind) (before : Option Kind) → is_given (Some k) ≡ false → is_given (if b then Some k else before) ≡ true → (b ≡ false) × (is_given before ≡ true)
other_kind true k before other is = cc
other_kind false k before other is = (refl, is)

kept_kind : (b : Bool) (k : Kind) (before : Option Kind) → b ≡ false → (if b then Some k else before) ≡ before
kept_kind true k before is = cc
kept_kind false k before is = refl

or_of : (a b : Bool) → (a || b) ≡ true → b ≡ false → a ≡ true
or_of true b is off = refl
or_of false true is off = cc
or_of false false is off = cc

or_more : (a b : Bool) → a ≡ true → (a || b) ≡ true
or_more true b is = refl
or_more false b is = cc

was_among : (answer : Made) (n socket : ℕ) (sockets : List ℕ) → (socket == n) ≡ false → is_among n (with_made answer socket sockets) ≡ true → is_among n sockets ≡ true
was_among Done n socket sockets other is = or_of (is_among n sockets) (n == socket) (sym (among_last n socket sockets) ∙ is) (grind (arith, nat_tests, other))
was_among Failed n socket sockets other is = is

still_among : (answer : Made) (n socket : ℕ) (sockets : List ℕ) → is_among n sockets ≡ true → is_among n (with_made answer socket sockets) ≡ true
still_among Done n socket sockets is = among_last n socket sockets ∙ or_more (is_among n sockets) (n == socket) is
still_among Failed n socket sockets is = is

-- the next number is that of no open socket
apart : (config : Config) (past : List Entry) (socket n : ℕ) → Lawful config past → (socket == next_number past) ≡ true → is_among n (open_sockets past) ≡ true → (socket == n) ≡ false
apart config past socket n lawful next among =
    let less = open_below config past lawful n among in
    let it = equal socket (next_number past) next in
    grind (arith, nat_tests, less, it)

module _ (config : Config) (forwards : List Opened) (past : List Entry) (lawful : Lawful config past) (has : AreInForce config forwards past) where
  -- a socket of another kind gets the next number
  grows : (e : Entry) (socket : ℕ) (k : Kind) (made : Made) → (socket == next_number past) ≡ true → is_given (Some k) ≡ false
      → ((n : ℕ) → kind_of n (e ∷ past) ≡ (if socket == n then Some k else kind_of n past)) → open_sockets (e ∷ past) ≡ with_made made socket (open_sockets past)
      → next_number past ≤ next_number (e ∷ past) → AreInForce config forwards (e ∷ past)
  grows e socket k made next is_other kind opened more = unmoved config forwards (e ∷ past) past
      (λ n among. kind n ∙ kept_kind (socket == n) k (kind_of n past) (apart config past socket n lawful next among))
      (λ n among given. ap (is_among n) opened ∙ still_among made n socket (open_sockets past) among)
      (λ n among given.
      let was = other_kind (socket == n) k (kind_of n past) is_other (sym (ap is_given (kind n)) ∙ given) in
      (was_among made n socket (open_sockets past) was.0 (sym (ap (is_among n) opened) ∙ among), was.1))
      more has

  pub stays_in_force : (e : Entry) → May config past (call_of e) → IsOther e past → AreInForce config forwards (e ∷ past)
  stays_in_force (Connect socket to answer) may other = grows (Connect socket to answer) socket OfFlow answer may.socket refl (λ n. refl) refl (omega arith)
  stays_in_force (Listen socket at answer) may other = absurd other
  stays_in_force (UdpOpen socket at answer) may other = grows (UdpOpen socket at answer) socket (datagram_kind (nat_lt 0 (waits past)) at.port) answer may.socket
      (ap (λ (b : Bool). is_given (Some (datagram_kind b at.port))) other.0 ∙ ap (λ port. is_given (Some (datagram_kind true port))) other.1) (λ n. refl) refl (omega arith)
  stays_in_force (Accept listener socket (From peer)) may other =
      grows (Accept listener socket (From peer)) socket OfFlow Done (peer_next config past listener socket (From peer) may) refl (λ n. refl) refl (omega arith)
  stays_in_force (Accept listener socket NotYetAccepted) may other =
      grows (Accept listener socket NotYetAccepted) socket OfFlow Failed (peer_next config past listener socket NotYetAccepted may) refl (λ n. refl) refl (omega arith)
  stays_in_force (Accept listener socket AcceptFailed) may other =
      grows (Accept listener socket AcceptFailed) socket OfFlow Failed (peer_next config past listener socket AcceptFailed may) refl (λ n. refl) refl (omega arith)
  stays_in_force (Close m) may other = unmoved config forwards (Close m ∷ past) past (λ n among. refl)
      (λ n among given. among_without n m (open_sockets past) ∙ and_both (not (n == m)) (is_among n (open_sockets past)) (by n given (same_or_not n m)) among)
      (λ n among given. (second_of (not (n == m)) (is_among n (open_sockets past)) (sym (among_without n m (open_sockets past)) ∙ among), given)) (omega arith) has
    where
      by : (n : ℕ) → is_given (kind_of n past) ≡ true → (n ≡ m) ⊎ ((n == m) ≡ false) → not (n == m) ≡ true
      by n given (inl is) = absurd (true_false (sym given ∙ ap (λ x. is_given (kind_of x past)) is ∙ other))
      by n given (inr differ) = ap not differ
  stays_in_force _ may other = unmoved config forwards _ past (λ n among. refl) (λ n among given. among) (λ n among given. (among, given)) (omega arith) has

-- the calls of flows leave them in force
pub left_in_force : (config : Config) (forwards : List Opened) (past made : List Entry) → LeavesOthers config past made → next_number past ≤ next_number (made ++ past)
    → AreInForce config forwards past → AreInForce config forwards (made ++ past)
left_in_force config forwards past made others more has = unmoved config forwards (made ++ past) past (λ n among. others.kinds n)
    (λ n among given. others.stay n among (no_flow (kind_of n past) given)) (λ n among given. (others.opens n among, sym (ap is_given (others.kinds n)) ∙ given)) more has

-- ---- a port of the host is opened

pub none_in_force : (config : Config) → AreInForce config [] []
none_in_force config = record { each = λ k o at. cc; all = λ n among given. cc; rising = tt }

pub opening_kind : (p : Proto) (count : ℕ) (at : Endpoint) (answer : Made) (past : List Entry) → datagram_kind (nat_lt 0 (waits past)) at.port ≡ OfForward → (n : ℕ)
    → kind_of n (port_opening p count at answer ∷ past) ≡ (if count == n then Some (given_kind p) else kind_of n past)
opening_kind Tcp count at answer past named n = refl
opening_kind Udp count at answer past named n = ap (λ k. if count == n then Some k else kind_of n past) named

-- before the first wait all are
pub named_first : (past : List Entry) (at : Endpoint) → waits past ≡ 0 → datagram_kind (nat_lt 0 (waits past)) at.port ≡ OfForward
named_first past at unwaited = ap (λ n. datagram_kind (nat_lt 0 n) at.port) unwaited

pub opening_made : (p : Proto) (count : ℕ) (at : Endpoint) (answer : Made) (past : List Entry) → open_sockets (port_opening p count at answer ∷ past) ≡ with_made answer count (open_sockets past)
opening_made Tcp count at answer past = refl
opening_made Udp count at answer past = refl

pub opening_next : (p : Proto) (count : ℕ) (at : Endpoint) (answer : Made) (past : List Entry) → next_number (port_opening p count at answer ∷ past) ≡ next_number past + 1
opening_next Tcp count at answer past = refl
opening_next Udp count at answer past = refl

pub opening_open : (config : Config) (p : Proto) (count : ℕ) (at : Endpoint) (answer : Made) (past : List Entry) → is_closing config (port_opening p count at answer ∷ past) ≡ is_closing config past
opening_open config Tcp count at answer past = refl
opening_open config Udp count at answer past = refl

pub opening_waits : (p : Proto) (count : ℕ) (at : Endpoint) (answer : Made) (past : List Entry) → waits (port_opening p count at answer ∷ past) ≡ waits past
opening_waits Tcp count at answer past = refl
opening_waits Udp count at answer past = refl

sockets_more : (list : List Opened) (f : Forward) (n : ℕ) → forward_sockets (list ++ (f, n) ∷ []) ≡ forward_sockets list ++ n ∷ []
sockets_more [] f n = refl
sockets_more (x ∷ list) f n = ap (λ l. x.1 ∷ l) (sockets_more list f n)

-- the last of a list, or one before it
at_last : {A : Type 0} (list : List A) (x : A) (k : ℕ) (y : A) → slice_get (list ++ x ∷ []) k ≡ Some y → (slice_get list k ≡ Some y) ⊎ (y ≡ x)
at_last [] x zero y at = inr (the_same at)
  where
    the_same : Some x ≡ Some y → y ≡ x
    the_same is = cc
at_last [] x (suc k) y at = cc
at_last (z ∷ list) x zero y at = inl at
at_last (z ∷ list) x (suc k) y at = at_last list x k y at

rises_last : (next : ℕ) (ns : List ℕ) → IsRising next ns → IsRising (next + 1) (ns ++ next ∷ [])
rises_last next [] rising = (omega arith, tt, tt)
rises_last next (n ∷ ns) rising = let less = rising.0 in (omega (arith, less), above_last n next ns less rising.1, rises_last next ns rising.2)
  where
    above_last : (n next : ℕ) (ns : List ℕ) → n < next → AllAbove n ns → AllAbove n (ns ++ next ∷ [])
    above_last n next [] less up = (less, tt)
    above_last n next (m ∷ ns) less up = (up.0, above_last n next ns less up.1)

module _ (config : Config) (forwards : List Opened) (past : List Entry) (lawful : Lawful config past) (has : AreInForce config forwards past)
    (f : Forward) (at : Endpoint) (named : datagram_kind (nat_lt 0 (waits past)) at.port ≡ OfForward) where
  abbrev opens : ℕ → Made → Entry
  opens number answer = port_opening f.proto number at answer

  -- a number under the next one keeps its kind
  kind_stays : (number : ℕ) (answer : Made) → (number == next_number past) ≡ true → (n : ℕ) → is_among n (open_sockets past) ≡ true → kind_of n (opens number answer ∷ past) ≡ kind_of n past
  kind_stays number answer next n among =
      opening_kind f.proto number at answer past named n ∙ kept_kind (number == n) (given_kind f.proto) (kind_of n past) (apart config past number n lawful next among)

  -- it is the last of those in force
  pub given_last : (number : ℕ) → (number == next_number past) ≡ true → forward_on config number ≡ Some f → AreInForce config (forwards ++ (f, number) ∷ []) (opens number Done ∷ past)
  given_last number next is = record {
    each = λ k o here. by k o (at_last forwards (f, number) k o here);
    all = λ n among given. ap (is_among n) (sockets_more forwards f number) ∙ among_last n number (forward_sockets forwards) ∙ every n (same_or_not n number)
        (sym (among_last n number (open_sockets past)) ∙ sym (ap (is_among n) (opening_made f.proto number at Done past)) ∙ among)
        (sym (ap is_given (opening_kind f.proto number at Done past named n)) ∙ given);
    rising = subst (λ l. IsRising (next_number (opens number Done ∷ past)) l) (sym (sockets_more forwards f number))
        (subst (λ m. IsRising m (forward_sockets forwards ++ number ∷ [])) (sym (opening_next f.proto number at Done past))
        (subst (λ m. IsRising (next_number past + 1) (forward_sockets forwards ++ m ∷ [])) (sym (equal number (next_number past) next))
        (rises_last (next_number past) (forward_sockets forwards) has.rising)));
  }
    where
      by : (k : ℕ) (o : Opened) → (slice_get forwards k ≡ Some o) ⊎ (o ≡ (f, number)) → IsInForce config (opens number Done ∷ past) o
      by k o (inl before) =
          let was = has.each k o before in
          record {
            open_yet = ap (is_among (socket_of o)) (opening_made f.proto number at Done past) ∙ among_last (socket_of o) number (open_sockets past)
                ∙ or_more (is_among (socket_of o) (open_sockets past)) (socket_of o == number) was.open_yet;
            kind = kind_stays number Done next (socket_of o) was.open_yet ∙ was.kind;
            is = was.is;
          }
      by k o (inr last) = subst (IsInForce config (opens number Done ∷ past)) (sym last) (record {
        open_yet = ap (is_among number) (opening_made f.proto number at Done past) ∙ among_last number number (open_sockets past)
            ∙ or_second (is_among number (open_sockets past)) (number == number) (same number);
        kind = opening_kind f.proto number at Done past named number ∙ ap (λ b. if b then Some (given_kind f.proto) else kind_of number past) (same number);
        is = is;
      })

      every : (n : ℕ) → (n ≡ number) ⊎ ((n == number) ≡ false) → (is_among n (open_sockets past) || (n == number)) ≡ true
          → is_given (if number == n then Some (given_kind f.proto) else kind_of n past) ≡ true → (is_among n (forward_sockets forwards) || (n == number)) ≡ true
      every n (inl here) among given = or_second (is_among n (forward_sockets forwards)) (n == number) (ap (λ m. m == number) here ∙ same number)
      every n (inr other) among given = or_more (is_among n (forward_sockets forwards)) (n == number)
          (has.all n (or_of (is_among n (open_sockets past)) (n == number) among other)
          (sym (ap (λ b. is_given (if b then Some (given_kind f.proto) else kind_of n past)) (turned n number false other)) ∙ given))

  -- or the host refused it
  pub given_none : (number : ℕ) → (number == next_number past) ≡ true → AreInForce config forwards (opens number Failed ∷ past)
  given_none number next = unmoved config forwards (opens number Failed ∷ past) past (kind_stays number Failed next)
      (λ n among given. ap (is_among n) (opening_made f.proto number at Failed past) ∙ among)
      (λ n among given.
      let was = sym (ap (is_among n) (opening_made f.proto number at Failed past)) ∙ among in
      (was, sym (ap is_given (kind_stays number Failed next n was)) ∙ given))
      (let up = opening_next f.proto number at Failed past in omega (arith, up)) has

-- ---- by its socket

-- the socket of one that stands in the list is among theirs
pub among_at : (list : List Opened) (k : ℕ) (o : Opened) → slice_get list k ≡ Some o → is_among (socket_of o) (forward_sockets list) ≡ true
among_at [] k o at = cc
among_at (x ∷ list) zero o at = ap (λ (y : Opened). is_among (socket_of o) (socket_of y ∷ forward_sockets list)) (the_same at) ∙ ap (λ b. b || is_among (socket_of o) (forward_sockets list)) (same (socket_of o))
  where
    the_same : Some x ≡ Some o → x ≡ o
    the_same is = cc
among_at (x ∷ list) (suc k) o at = or_second (socket_of o == socket_of x) (is_among (socket_of o) (forward_sockets list)) (among_at list k o at)

-- and the other way round
place_of : (list : List Opened) (n : ℕ) → is_among n (forward_sockets list) ≡ true → (k : ℕ) × (o : Opened) × (slice_get list k ≡ Some o) × (socket_of o ≡ n)
place_of [] n is = cc
place_of (x ∷ list) n is = by (n == socket_of x) refl is (place_of list n)
  where
    by : (b : Bool) → (n == socket_of x) ≡ b → (b || is_among n (forward_sockets list)) ≡ true
        → (is_among n (forward_sockets list) ≡ true → (k : ℕ) × (o : Opened) × (slice_get list k ≡ Some o) × (socket_of o ≡ n))
        → (k : ℕ) × (o : Opened) × (slice_get (x ∷ list) k ≡ Some o) × (socket_of o ≡ n)
    by true here is rest = (0, x, refl, sym (equal n (socket_of x) here))
    by false other is rest = let more = rest is in (suc more.0, more.1, more.2, more.3)

-- the forward of a socket stands in the list, with it
with_place : (list : List Opened) (n : ℕ) (f : Forward) → forward_with n list ≡ Some f → (k : ℕ) × (slice_get list k ≡ Some (f, n))
with_place [] n f is = cc
with_place (x ∷ list) n f is = by (socket_of x == n) refl is (with_place list n f)
  where
    forward_same : Some x.0 ≡ Some f → x.0 ≡ f
    forward_same same_one = cc

    by : (b : Bool) → (socket_of x == n) ≡ b → option_map (λ (o : Opened). o.0) (if b then Some x else find (is_on n) list) ≡ Some f
        → (forward_with n list ≡ Some f → (k : ℕ) × (slice_get list k ≡ Some (f, n))) → (k : ℕ) × (slice_get (x ∷ list) k ≡ Some (f, n))
    by true here is rest = (0, λ i. Some (forward_same is i, equal (socket_of x) n here i))
    by false other is rest = let more = rest is in (suc more.0, more.1)

without_place : (list : List Opened) (n : ℕ) → forward_with n list ≡ None → is_among n (forward_sockets list) ≡ false
without_place [] n is = refl
without_place (x ∷ list) n is = by (socket_of x == n) refl is (without_place list n)
  where
    by : (b : Bool) → (socket_of x == n) ≡ b → option_map (λ (o : Opened). o.0) (if b then Some x else find (is_on n) list) ≡ None
        → (forward_with n list ≡ None → is_among n (forward_sockets list) ≡ false) → ((n == socket_of x) || is_among n (forward_sockets list)) ≡ false
    by true here is rest = cc
    by false other is rest = ap (λ b. b || is_among n (forward_sockets list)) (turned (socket_of x) n false other) ∙ rest is

-- of a protocol
abbrev pub is_at : Proto → Option Forward → Bool
is_at p o = option_map_or (λ (f : Forward). same_proto p f.proto) o false

over_above : (p : Proto) (n : ℕ) (list : List Opened) → AllAbove n (forward_sockets list) → AllAbove n (sockets_over p list)
over_above p n [] up = tt
over_above p n (x ∷ list) up = by (is_over p x) (over_above p n list up.1)
  where
    by : (b : Bool) → AllAbove n (sockets_over p list) → AllAbove n (forward_sockets (if b then x ∷ filter (is_over p) list else filter (is_over p) list))
    by true rest = (up.0, rest)
    by false rest = rest

pub over_rises : (p : Proto) (bound : ℕ) (list : List Opened) → IsRising bound (forward_sockets list) → IsRising bound (sockets_over p list)
over_rises p bound [] rising = tt
over_rises p bound (x ∷ list) rising = by (is_over p x) (over_rises p bound list rising.2)
  where
    by : (b : Bool) → IsRising bound (sockets_over p list) → IsRising bound (forward_sockets (if b then x ∷ filter (is_over p) list else filter (is_over p) list))
    by true rest = (rising.0, over_above p (socket_of x) list rising.1, rest)
    by false rest = rest

pub over_with : (p : Proto) (bound : ℕ) (list : List Opened) (n : ℕ) → IsRising bound (forward_sockets list) → is_among n (sockets_over p list) ≡ is_at p (forward_with n list)
over_with p bound [] n rising = refl
over_with p bound (x ∷ list) n rising = by (is_over p x) refl (socket_of x == n) refl (over_with p bound list n rising.2)
  where
    by : (b : Bool) → is_over p x ≡ b → (t : Bool) → (socket_of x == n) ≡ t → is_among n (sockets_over p list) ≡ is_at p (forward_with n list)
        → is_among n (forward_sockets (if b then x ∷ filter (is_over p) list else filter (is_over p) list))
        ≡ is_at p (option_map (λ (o : Opened). o.0) (if t then Some x else find (is_on n) list))
    by true of true here rest = ap (λ t. t || is_among n (sockets_over p list)) (turned (socket_of x) n true here) ∙ sym of
    by false of true here rest =
        let it = equal (socket_of x) n here in
        ap (λ m. is_among m (sockets_over p list)) (sym it) ∙ none_above (socket_of x) (sockets_over p list) (over_above p (socket_of x) list rising.1) ∙ sym of
    by true of false other rest = ap (λ t. t || is_among n (sockets_over p list)) (turned (socket_of x) n false other) ∙ rest
    by false of false other rest = rest

module _ (config : Config) (forwards : List Opened) (past : List Entry) (has : AreInForce config forwards past) where
  -- the forward with a number is in force
  pub in_force_with : (n : ℕ) (f : Forward) → forward_with n forwards ≡ Some f → IsInForce config past (f, n)
  in_force_with n f is = let at = with_place forwards n f is in has.each at.0 (f, n) at.1

  -- and so is one whose socket is among theirs
  pub in_force_among : (n : ℕ) → is_among n (forward_sockets forwards) ≡ true → (is_among n (open_sockets past) ≡ true) × (is_given (kind_of n past) ≡ true)
  in_force_among n among =
      let at = place_of forwards n among in
      let one = has.each at.0 at.1 at.2 in
      (ap (λ m. is_among m (open_sockets past)) (sym at.3) ∙ one.open_yet, ap (λ m. is_given (kind_of m past)) (sym at.3) ∙ ap is_given one.kind ∙ is_kind at.1.0.proto)

  -- an open port of the host with this protocol is one of the list's
  module _ (p : Proto) (test : Option Kind → Bool) (tells : (q : Proto) → test (Some (given_kind q)) ≡ same_proto p q) (only : (k : Option Kind) → test k ≡ true → is_given k ≡ true) where
    at_socket : (n : ℕ) (o : Option Forward) → forward_with n forwards ≡ o → (is_among n (open_sockets past) && test (kind_of n past)) ≡ is_at p o
    at_socket n None none = by (is_among n (open_sockets past)) (test (kind_of n past)) refl refl
      where
        by : (a b : Bool) → is_among n (open_sockets past) ≡ a → test (kind_of n past) ≡ b → (a && b) ≡ false
        by true true among listens = absurd (true_false (sym (has.all n among (only (kind_of n past) listens)) ∙ without_place forwards n none))
        by true false among listens = refl
        by false b among listens = refl
    at_socket n (Some f) here =
        let one = in_force_with n f here in
        ap (λ b. b && test (kind_of n past)) one.open_yet ∙ ap test one.kind ∙ tells f.proto

    pub port_open : (n : ℕ) → (is_among n (open_sockets past) && test (kind_of n past)) ≡ is_among n (sockets_over p forwards)
    port_open n = at_socket n (forward_with n forwards) refl ∙ sym (over_with p (next_number past) forwards n has.rising)

-- ---- the first forward of datagrams to a port of a guest

is_one : (k : Option Kind) → is_forward k ≡ true → is_given k ≡ true
is_one None is = cc
is_one (Some OfAssociation) is = cc
is_one (Some DnsSocket) is = cc
is_one (Some OfForward) is = refl
is_one (Some Listener) is = cc
is_one (Some OfFlow) is = cc

of_datagrams : (q : Proto) → is_forward (Some (given_kind q)) ≡ same_proto Udp q
of_datagrams Tcp = refl
of_datagrams Udp = refl

among_filter : (q : ℕ → Bool) (n : ℕ) (ns : List ℕ) → is_among n (filter q ns) ≡ (is_among n ns && q n)
among_filter q n [] = refl
among_filter q n (m ∷ ns) = by (q m) refl (n == m) refl (among_filter q n ns)
  where
    never : (b : Bool) → (b && false) ≡ false
    never true = refl
    never false = refl

    by : (b : Bool) → q m ≡ b → (t : Bool) → (n == m) ≡ t → is_among n (filter q ns) ≡ (is_among n ns && q n)
        → is_among n (if b then m ∷ filter q ns else filter q ns) ≡ ((t || is_among n ns) && q n)
    by true is true here rest = ap (λ t. t || is_among n (filter q ns)) here ∙ sym (ap q (equal n m here) ∙ is)
    by true is false other rest = ap (λ t. t || is_among n (filter q ns)) other ∙ rest
    by false is true here rest = rest ∙ ap (λ b. is_among n ns && b) (ap q (equal n m here) ∙ is) ∙ never (is_among n ns) ∙ sym (ap q (equal n m here) ∙ is)
    by false is false other rest = rest

filter_above : (q : ℕ → Bool) (n : ℕ) (ns : List ℕ) → AllAbove n ns → AllAbove n (filter q ns)
filter_above q n [] up = tt
filter_above q n (m ∷ ns) up = by (q m) (filter_above q n ns up.1)
  where
    by : (b : Bool) → AllAbove n (filter q ns) → AllAbove n (if b then m ∷ filter q ns else filter q ns)
    by true rest = (up.0, rest)
    by false rest = rest

filter_rises : (q : ℕ → Bool) (bound : ℕ) (ns : List ℕ) → IsRising bound ns → IsRising bound (filter q ns)
filter_rises q bound [] rising = tt
filter_rises q bound (m ∷ ns) rising = by (q m) (filter_rises q bound ns rising.2)
  where
    by : (b : Bool) → IsRising bound (filter q ns) → IsRising bound (if b then m ∷ filter q ns else filter q ns)
    by true rest = (rising.0, filter_above q m ns rising.1, rest)
    by false rest = rest

-- a test that says of each number for datagrams what its forward says finds the first that leads to this port
finds_first : (guest : Endpoint) (p : ℕ → Bool) (list : List Opened) → ((k : ℕ) (o : Opened) → slice_get list k ≡ Some o → o.0.proto ≡ Udp → p o.1 ≡ same_endpoint o.0.guest guest)
    → find p (sockets_over Udp list) ≡ socket_for guest list
finds_first guest p [] agree = refl
finds_first guest p (x ∷ list) agree = by x.0.proto refl (finds_first guest p list (λ k o at. agree (suc k) o at))
  where
    by : (q : Proto) → x.0.proto ≡ q → find p (sockets_over Udp list) ≡ socket_for guest list → find p (sockets_over Udp (x ∷ list)) ≡ socket_for guest (x ∷ list)
    by Tcp is rest =
        ap (λ q. find p (forward_sockets (if same_proto Udp q then x ∷ filter (is_over Udp) list else filter (is_over Udp) list))) is ∙ rest
        ∙ sym (ap (λ q. option_map socket_of (if same_proto q Udp && same_endpoint x.0.guest guest then Some x else find (leads_to guest) list)) is)
    by Udp is rest =
        ap (λ q. find p (forward_sockets (if same_proto Udp q then x ∷ filter (is_over Udp) list else filter (is_over Udp) list))) is
        ∙ ap (λ b. if b then Some x.1 else find p (sockets_over Udp list)) (agree 0 x refl is) ∙ found (same_endpoint x.0.guest guest)
        ∙ sym (ap (λ q. option_map socket_of (if same_proto q Udp && same_endpoint x.0.guest guest then Some x else find (leads_to guest) list)) is)
      where
        found : (b : Bool) → (if b then Some x.1 else find p (sockets_over Udp list)) ≡ option_map socket_of (if b then Some x else find (leads_to guest) list)
        found true = refl
        found false = rest

module _ (config : Config) (forwards : List Opened) (past : List Entry) (lawful : Lawful config past) (has : AreInForce config forwards past) where
  -- one for datagrams leads to the port of its guest
  pub leads_at : (n : ℕ) (f : Forward) → IsInForce config past (f, n) → f.proto ≡ Udp → (kind_of n past ≡ Some OfForward) × (opened_for config n past ≡ Some f.guest)
  leads_at n f one udp =
      let kind = one.kind ∙ ap (λ p. Some (given_kind p)) udp in
      (kind, leads config n past kind ∙ ap (option_and_then (λ (g : Forward). given_by g.proto g.guest)) one.is ∙ ap (λ p. given_by p f.guest) udp)

  pub forward_is : (guest : Endpoint) → forward_for config guest past ≡ socket_for guest forwards
  forward_is guest =
      ap (find (λ s. is_port guest (opened_for config s past))) (same_rising (next_number past) (next_number past) (filter (λ s. is_forward (kind_of s past)) (open_sockets past))
      (sockets_over Udp forwards) (filter_rises (λ s. is_forward (kind_of s past)) (next_number past) (open_sockets past) (open_rise config past lawful))
      (over_rises Udp (next_number past) forwards has.rising)
      (λ n. among_filter (λ s. is_forward (kind_of s past)) n (open_sockets past) ∙ port_open config forwards past has Udp is_forward of_datagrams is_one n))
      ∙ finds_first guest (λ s. is_port guest (opened_for config s past)) forwards
      (λ k o at udp. ap (is_port guest) (leads_at o.1 o.0 (has.each k o at) udp).1)

-- the forward for datagrams with a socket, where one leads to this port of a guest
pub guest_found : (forwards : List Opened) (n : ℕ) (guest : Endpoint) → guest_on forwards n ≡ Some guest → (f : Forward) × (forward_with n forwards ≡ Some f) × (f.proto ≡ Udp) × (f.guest ≡ guest)
guest_found forwards n guest is = by (forward_with n forwards) refl is
  where
    by_proto : (p : Proto) (g : Endpoint) → given_by p g ≡ Some guest → (p ≡ Udp) × (g ≡ guest)
    by_proto Tcp g is = cc
    by_proto Udp g is = (refl, the_same is)
      where
        the_same : Some g ≡ Some guest → g ≡ guest
        the_same same_one = cc

    by : (o : Option Forward) → forward_with n forwards ≡ o → option_and_then (λ (f : Forward). given_by f.proto f.guest) o ≡ Some guest
        → (f : Forward) × (forward_with n forwards ≡ Some f) × (f.proto ≡ Udp) × (f.guest ≡ guest)
    by None at is = cc
    by (Some f) at is = let here = by_proto f.proto f.guest is in (f, at, here.0, here.1)
