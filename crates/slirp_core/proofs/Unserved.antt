-- What the core tells of the reports that are left to be served.
use Rattle.std.proofs.Common.{◌≡◌, ◌⊎◌, ℕ, zero, suc, ◌≤◌, ◌==◌, ◌&&◌, ◌||◌, not, nat_lt, Bool, true, false, is_some, List, [], ◌∷◌, length, slice_get, slice_set, Option, None, Some, inl}
use Rattle.spec_flow.specs.Guest.{is_empty}
use Rattle.std.proofs.Common.{inr, refl, sym, ap, ◌∙◌, subst, arith}
use Rattle.std.proofs.lemmas.Bool.Decides.{nat_tests}
use Rattle.std.specs.List.{list_any}
use Rattle.poll_list.specs.Listing.{are_wants, differ, is_who, number_of as socket_number, reads, same_number, same_who, writes}
use Rattle.poll_list.specs.declared.Want.{Want}
use Rattle.poll_list.specs.declared.Who.{Who}
use Rattle.poll_list.specs.declared.Who.TheVariants.{Link, Listener, Tcp, Udp}
use Rattle.world_face.specs.Frames.{tail}
use Rattle.world_face.specs.Journal.{Entry}
use Rattle.slirp_settings.specs.Addresses.{Config}
use Rattle.sim_flows.proofs.Seats.{differ as slots_differ, same_or_not}
use Rattle.sim_flows.proofs.Tables.{get_set_other}
use Rattle.spec_flow.specs.Flow.{is_closed}
use Rattle.flow_splice.specs.Splice.{Splice, is_open}
use Rattle.spec_flows.specs.Book.{book}
use Rattle.spec_flows.specs.Flows.{Flow, flow_of}
use Rattle.spec_trace.specs.Sockets.{Kind, Association, DnsSocket, Forward, Flow as OfFlow, Listener as OfListener, is_among, is_flow, is_listener, kind_of, next_number, open_sockets}
use Rattle.spec_run.specs.Answers.{is_out, left, may_go_again, serving}
use Rattle.spec_run.specs.Laws.{Lawful}
use Rattle.spec_run.proofs.Bools.{equal, first_of, same, second_of}
use Rattle.sim_flows.proofs.Options.{true_false}
use Rattle.sim_flows.proofs.Sockets.{open_has_socket, open_is_young}
use Rattle.sim_flows.specs.Core.{number_of}
use Rattle.stream_netdev.specs.State.{LinkState}
use Rattle.tcp_flows.specs.Kept.{Kept}
use Rattle.tcp_flows.specs.Reading.{HasSocket, IsOpenAt, NoneOpen, Stays}
use Rattle.spec_duties.specs.Serving.{IsServed}
use Rattle.spec_duties.specs.Waiting.{MayBeWritten, MayWriteFlow, WaitsFor, are_in_order, comes_before, comes_first, is_all_sent, is_for_datagrams, is_read, reads_flow, takes_datagrams, writes_flow}
use Rattle.spec_duties.proofs.Serving.{unread, unwritten}
use Rattle.slirp_core.specs.Holds.{Flowing, Holds, Standing}
use Rattle.slirp_core.specs.Owed.{IsOwed}
use Rattle.slirp_core.specs.Pumps.{is_settled}
use Rattle.slirp_core.specs.State.{SlirpState}

some_option : {A : Type 0} (a b : A) → ◌≡◌ {A = Option A} (Some a) (Some b) → a ≡ b
some_option a b is = cc

some_part : (p q : Splice) → ◌≡◌ {A = Option Splice} (Some p) (Some q) → p ≡ q
some_part p q is = some_option p q is

-- ---- where something is left to be sent not all is sent

no_tail : (octets : List ℕ) → (length octets == 0) ≡ false → is_empty octets ≡ false
no_tail [] is = absurd (true_false is)
no_tail (x ∷ octets) is = refl

first_false : (a b c : Bool) → a ≡ false → ((a && b) && c) ≡ false
first_false true b c is = absurd cc
first_false false b c is = refl

second_false : (a b c : Bool) → b ≡ false → ((a && b) && c) ≡ false
second_false true true c is = absurd cc
second_false true false c is = refl
second_false false b c is = refl

last_false : (a b : Bool) → b ≡ false → (a && b) ≡ false
last_false true b is = is
last_false false b is = refl

some_frames : (frames : List (List ℕ)) → not (nat_lt 0 (length frames)) ≡ false → is_out frames ≡ false
some_frames [] is = absurd (true_false is)
some_frames (frame ∷ frames) is = refl

either_false : (a b : Bool) → (a && b) ≡ false → (a ≡ true → b ≡ false → a ≡ false) → a ≡ false
either_false true b is f = f refl is
either_false false b is f = refl

pub unsent : (config : Config) (at : Standing) (slirp : SlirpState) (f : Flowing) (link : LinkState) (past : List Entry) → Holds config at slirp f link past →
    is_settled slirp link ≡ false → is_all_sent config past ≡ false
unsent config at slirp f link past holds unsettled = by (length link.tail == 0) refl unsettled
  where
    by_owed : IsOwed config f.aged slirp past → not (nat_lt 0 (length slirp.pending)) ≡ false → is_all_sent config past ≡ false
    by_owed (inl l) some = second_false _ (is_out (left config past)) _ (ap is_out l.left ∙ some_frames slirp.pending some)
    by_owed (inr l) some = last_false _ (not (is_some (may_go_again (serving config past)))) (ap (λ o. not (is_some o)) l.may)

    by : (b : Bool) → (length link.tail == 0) ≡ b → (b && not (nat_lt 0 (length slirp.pending))) ≡ false → is_all_sent config past ≡ false
    by true is some = by_owed holds.answers.owed some
    by false is some = first_false (is_empty (tail past)) _ _ (ap is_empty holds.keeps.rest ∙ no_tail link.tail is)

-- ---- a flow that wasn't opened yet has no report

pub unopened : (config : Config) (past : List Entry) (n : ℕ) → Lawful config past → next_number past ≤ n → IsServed config past (Tcp n)
unopened config past n lawful drawn = by (flow_of n (book config past).flows) refl
  where
    by : (o : Option Flow) → flow_of n (book config past).flows ≡ o → IsServed config past (Tcp n)
    by None none = record { reading = unread config past (Tcp n) (ap (reads_flow config) none); writing = unwritten config past (Tcp n) (ap writes_flow none) }
    by (Some f) found = let young = open_is_young config past n f lawful found in absurd (omega (arith, young, drawn))

-- ---- what is said of the flows that were told in this turn

open_or_none : (n : ℕ) (parts : List (Option Splice)) → HasSocket n parts (λ p. Unit {0}) ⊎ NoneOpen n parts
open_or_none n [] = inr (λ k p at number. absurd (let here = at.here in cc))
open_or_none n (o ∷ parts) = by (here o refl) (open_or_none n parts)
  where
    is_it : (p : Splice) → ((is_open p ≡ true) × (number_of p ≡ n)) ⊎ (is_open p ≡ true → number_of p ≡ n → ⊥)
    is_it p = at (is_open p) refl (same_or_not (number_of p) n)
      where
        at : (b : Bool) → is_open p ≡ b → (number_of p ≡ n) ⊎ ((number_of p == n) ≡ false) → ((is_open p ≡ true) × (number_of p ≡ n)) ⊎ (is_open p ≡ true → number_of p ≡ n → ⊥)
        at true open_yet (inl same_number) = inl (open_yet, same_number)
        at true open_yet (inr other) = inr (λ one same_number. slots_differ (number_of p) n other same_number)
        at false shut of = inr (λ one same_number. true_false (sym one ∙ shut))

    here : (x : Option Splice) → o ≡ x → HasSocket n (o ∷ parts) (λ p. Unit {0}) ⊎ ((p : Splice) → o ≡ Some p → is_open p ≡ true → number_of p ≡ n → ⊥)
    here None is = inr (λ p at open_yet number. let never : ◌≡◌ {A = Option Splice} None (Some p) = sym is ∙ at in absurd cc)
    here (Some p) is = of (is_it p)
      where
        of : ((is_open p ≡ true) × (number_of p ≡ n)) ⊎ (is_open p ≡ true → number_of p ≡ n → ⊥) → HasSocket n (o ∷ parts) (λ q. Unit {0}) ⊎
            ((q : Splice) → o ≡ Some q → is_open q ≡ true → number_of q ≡ n → ⊥)
        of (inl it) = inl (0, p, record { here = ap Some is; open_yet = it.0 }, it.1, tt)
        of (inr not_it) = inr (λ q at open_yet number. let one : p ≡ q = some_part p q (sym is ∙ at) in not_it (ap is_open one ∙ open_yet) (ap number_of one ∙ number))

    by : HasSocket n (o ∷ parts) (λ p. Unit {0}) ⊎ ((p : Splice) → o ≡ Some p → is_open p ≡ true → number_of p ≡ n → ⊥) → HasSocket n parts (λ p. Unit {0}) ⊎ NoneOpen n parts
        → HasSocket n (o ∷ parts) (λ p. Unit {0}) ⊎ NoneOpen n (o ∷ parts)
    by (inl it) rest = inl it
    by (inr not_here) (inl it) = inl (suc it.0, it.1, record { here = it.2.here; open_yet = it.2.open_yet }, it.3, tt)
    by (inr not_here) (inr none) = inr none_at
      where
        none_at : NoneOpen n (o ∷ parts)
        none_at zero p at number = not_here p (some_option o (Some p) at.here) at.open_yet number
        none_at (suc k) p at number = none k p (record { here = at.here; open_yet = at.open_yet }) number

-- After a flow was told: what holds of its number, and held of those that were told before, holds of those that were told by then.
pub told_then : (number : ℕ) (old new : Kept) (P : ℕ → Type 0)
    → ((k : ℕ) (p : Splice) → IsOpenAt old.flows.slots k p → number_of p ≡ number → new.served ≡ slice_set old.served k old.turn) → (NoneOpen number old.flows.slots → new ≡ old) →
    Stays old new → new.turn ≡ old.turn
    → ((k : ℕ) (p : Splice) → slice_get old.flows.slots k ≡ Some (Some p) → slice_get old.served k ≡ Some old.turn → P (number_of p)) → P number
    → (k : ℕ) (p : Splice) → slice_get new.flows.slots k ≡ Some (Some p) → slice_get new.served k ≡ Some new.turn → P (number_of p)
told_then number old new P told untold stays turn each of_it k p here mark = by (open_or_none number old.flows.slots)
  where
    before : (q : Splice) × (slice_get old.flows.slots k ≡ Some (Some q)) × (number_of p ≡ number_of q)
    before = stays.numbers k p here

    by : HasSocket number old.flows.slots (λ q. Unit {0}) ⊎ NoneOpen number old.flows.slots → P (number_of p)
    by (inr none) = let same_kept = untold none in each k p (ap (λ (f : Kept). slice_get f.flows.slots k) (sym same_kept) ∙ here)
        (ap (λ (f : Kept). slice_get f.served k) (sym same_kept) ∙ mark ∙ ap Some turn)
    by (inl it) = at_slot (same_or_not k it.0)
      where
        at_slot : (k ≡ it.0) ⊎ ((k == it.0) ≡ false) → P (number_of p)
        at_slot (inl one) =
            let same_part : before.0 ≡ it.1 = some_part before.0 it.1 (some_option (Some before.0) (Some it.1) (sym before.1 ∙ ap (slice_get old.flows.slots) one ∙ it.2.here)) in
            subst P (sym (before.2 ∙ ap number_of same_part ∙ it.3)) of_it
        at_slot (inr other) =
            let was : slice_get old.served k ≡ Some old.turn = sym (get_set_other old.served it.0 k old.turn (slots_differ k it.0 other)) ∙ ap (λ l. slice_get l k)
            (sym (told it.0 it.1 it.2 it.3)) ∙ mark ∙ ap Some turn in
            subst P (sym before.2) (each k before.0 before.1 was)

-- ---- a list of what is waited for names no socket twice

-- a socket that is waited for is of the kind that its item says
abbrev IsOfKind : List Entry → Who → Type 0
IsOfKind past Link = Unit {0}
IsOfKind past (Listener n) = is_listener (kind_of n past) ≡ true
IsOfKind past (Udp n) = is_for_datagrams (kind_of n past) ≡ true
IsOfKind past (Tcp n) = is_flow (kind_of n past) ≡ true

module _ (config : Config) (past : List Entry) (lawful : Lawful config past) where
  flow_kind : (n : ℕ) (f : Flow) → flow_of n (book config past).flows ≡ Some f → is_closed f.story ≡ false → is_flow (kind_of n past) ≡ true
  flow_kind n f found open_yet = second_of (is_among n (open_sockets past)) (is_flow (kind_of n past)) (open_has_socket config past n f lawful found open_yet)

  three_middle : (a b c d : Bool) → (a && not b && c && d) ≡ true → b ≡ false
  three_middle true true c d is = absurd cc
  three_middle true false c d is = refl
  three_middle false b c d is = absurd cc

  read_kind : (who : Who) → is_read config past who ≡ true → IsOfKind past who
  read_kind Link is = tt
  read_kind (Listener n) is = listens (is_among n (open_sockets past)) (is_listener (kind_of n past)) _ is
    where
      listens : (a b c : Bool) → (a && b && c) ≡ true → b ≡ true
      listens true true c one = refl
      listens true false c one = absurd cc
      listens false b c one = absurd cc
  read_kind (Udp n) is = second_of (is_among n (open_sockets past)) (is_for_datagrams (kind_of n past)) (first_of (takes_datagrams past n) _ is)
  read_kind (Tcp n) is = by (flow_of n (book config past).flows) refl is
    where
      by : (o : Option Flow) → flow_of n (book config past).flows ≡ o → reads_flow config o ≡ true → is_flow (kind_of n past) ≡ true
      by None none one = absurd cc
      by (Some f) found one = flow_kind n f found (three_middle _ (is_closed f.story) _ _ one)

  written_kind : (who : Who) → MayBeWritten config past who → IsOfKind past who
  written_kind Link may = tt
  written_kind (Listener n) may = absurd may
  written_kind (Udp n) may = absurd may
  written_kind (Tcp n) may = by (flow_of n (book config past).flows) refl may
    where
      by : (o : Option Flow) → flow_of n (book config past).flows ≡ o → MayWriteFlow o → is_flow (kind_of n past) ≡ true
      by None none one = absurd one
      by (Some f) found one = flow_kind n f found one.0

  -- no socket is of two kinds
  not_two : (k : Option Kind) → is_listener k ≡ true → is_for_datagrams k ≡ true → ⊥
  not_two None one two = absurd cc
  not_two (Some Association) one two = absurd cc
  not_two (Some DnsSocket) one two = absurd cc
  not_two (Some Forward) one two = absurd cc
  not_two (Some OfListener) one two = absurd cc
  not_two (Some OfFlow) one two = absurd cc

  no_flow_listens : (k : Option Kind) → is_listener k ≡ true → is_flow k ≡ true → ⊥
  no_flow_listens None one two = absurd cc
  no_flow_listens (Some Association) one two = absurd cc
  no_flow_listens (Some DnsSocket) one two = absurd cc
  no_flow_listens (Some Forward) one two = absurd cc
  no_flow_listens (Some OfListener) one two = absurd cc
  no_flow_listens (Some OfFlow) one two = absurd cc

  no_flow_carries : (k : Option Kind) → is_for_datagrams k ≡ true → is_flow k ≡ true → ⊥
  no_flow_carries None one two = absurd cc
  no_flow_carries (Some Association) one two = absurd cc
  no_flow_carries (Some DnsSocket) one two = absurd cc
  no_flow_carries (Some Forward) one two = absurd cc
  no_flow_carries (Some OfListener) one two = absurd cc
  no_flow_carries (Some OfFlow) one two = absurd cc

  clash : (n m : ℕ) (P Q : Option Kind → Bool) → ((k : Option Kind) → P k ≡ true → Q k ≡ true → ⊥) → P (kind_of n past) ≡ true → Q (kind_of m past) ≡ true → (n == m) ≡ false
  clash n m P Q apart one two = by (n == m) refl
    where
      by : (b : Bool) → (n == m) ≡ b → b ≡ false
      by true is = absurd (apart (kind_of n past) one (subst (λ k. Q (kind_of k past) ≡ true) (sym (equal n m is)) two))
      by false is = refl

  flipped : (n m : ℕ) → (m == n) ≡ false → (n == m) ≡ false
  flipped n m is = by (n == m) refl
    where
      by : (b : Bool) → (n == m) ≡ b → b ≡ false
      by true here = absurd (true_false (sym (ap (λ k. k == n) (sym (equal n m here)) ∙ same n) ∙ is))
      by false here = refl

  less_apart : (n m : ℕ) → nat_lt n m ≡ true → (n == m) ≡ false
  less_apart n m is = grind (arith, nat_tests, is)

  who_apart : (a b : Who) → IsOfKind past a → IsOfKind past b → comes_before a b ≡ true → same_number (socket_number a) (socket_number b) ≡ false
  who_apart Link Link one two order = absurd (true_false (sym order))
  who_apart Link (Listener m) one two order = refl
  who_apart Link (Udp m) one two order = refl
  who_apart Link (Tcp m) one two order = refl
  who_apart (Listener n) Link one two order = refl
  who_apart (Listener n) (Listener m) one two order = less_apart n m order
  who_apart (Listener n) (Udp m) one two order = clash n m is_listener is_for_datagrams not_two one two
  who_apart (Listener n) (Tcp m) one two order = clash n m is_listener is_flow no_flow_listens one two
  who_apart (Udp n) Link one two order = refl
  who_apart (Udp n) (Listener m) one two order = flipped n m (clash m n is_listener is_for_datagrams not_two two one)
  who_apart (Udp n) (Udp m) one two order = less_apart n m order
  who_apart (Udp n) (Tcp m) one two order = clash n m is_for_datagrams is_flow no_flow_carries one two
  who_apart (Tcp n) Link one two order = refl
  who_apart (Tcp n) (Listener m) one two order = flipped n m (clash m n is_listener is_flow no_flow_listens two one)
  who_apart (Tcp n) (Udp m) one two order = flipped n m (clash m n is_for_datagrams is_flow no_flow_carries two one)
  who_apart (Tcp n) (Tcp m) one two order = less_apart n m order

  same_self : (who : Who) → same_who who who ≡ true
  same_self Link = refl
  same_self (Listener n) = same n
  same_self (Udp n) = same n
  same_self (Tcp n) = same n

  or_first : (a b : Bool) → a ≡ true → (a || b) ≡ true
  or_first true b is = refl
  or_first false b is = absurd cc

  or_second : (a b : Bool) → b ≡ true → (a || b) ≡ true
  or_second true b is = refl
  or_second false b is = is

  both_true : (a b : Bool) → a ≡ true → b ≡ true → (a && b) ≡ true
  both_true true true one two = refl
  both_true true false one two = absurd cc
  both_true false b one two = absurd cc

  module _ (wants : List Want) (are : WaitsFor config past wants) where
    -- what some of them name is waited for
    record AreAmong (some : List Want) : Type 0 where
      reading : (who : Who) → reads who some ≡ true → reads who wants ≡ true
      writing : (who : Who) → writes who some ≡ true → writes who wants ≡ true

    behind : (x : Want) (some : List Want) → AreAmong (x ∷ some) → AreAmong some
    behind x some among = record {
      reading = λ who is. among.reading who (or_second (same_who who x.of && x.read) (reads who some) is);
      writing = λ who is. among.writing who (or_second (same_who who x.of && x.write) (writes who some) is);
    }

    item_kind : (x : Want) (some : List Want) → AreAmong (x ∷ some) → (x.read || x.write) ≡ true → IsOfKind past x.of
    item_kind x some among is = by x.read x.write refl refl is
      where
        by : (r w : Bool) → x.read ≡ r → x.write ≡ w → (r || w) ≡ true → IsOfKind past x.of
        by true w read write one = read_kind x.of (sym (are.to_read x.of) ∙ among.reading x.of (or_first (same_who x.of x.of && x.read) (reads x.of some)
            (both_true (same_who x.of x.of) x.read (same_self x.of) read)))
        by false true read write one = written_kind x.of (are.only_to_write x.of
            (among.writing x.of (or_first (same_who x.of x.of && x.write) (writes x.of some) (both_true (same_who x.of x.of) x.write (same_self x.of) write))))
        by false false read write one = absurd (true_false (sym one))

    none_same : (x : Want) (some : List Want) → IsOfKind past x.of → AreAmong some → are_wants some ≡ true → comes_first x.of some ≡ true → list_any
        (λ w. same_number (socket_number x.of) (socket_number w.of)) some ≡ false
    none_same x [] kind among all order = refl
    none_same x (v ∷ some) kind among all order =
        let other = who_apart x.of v.of kind (item_kind v some among (first_of (v.read || v.write) (is_who v.of)
        (first_of ((v.read || v.write) && is_who v.of) (are_wants some) all))) (first_of (comes_before x.of v.of) (comes_first x.of some) order) in
        let rest = none_same x some kind (behind v some among) (second_of ((v.read || v.write) && is_who v.of) (are_wants some) all)
        (second_of (comes_before x.of v.of) (comes_first x.of some) order) in
        ap (λ b. b || list_any (λ w. same_number (socket_number x.of) (socket_number w.of)) some) other ∙ rest

    all_apart : (some : List Want) → AreAmong some → are_wants some ≡ true → are_in_order some ≡ true → differ some ≡ true
    all_apart [] among all order = refl
    all_apart (x ∷ some) among all order =
        let rest_all = second_of ((x.read || x.write) && is_who x.of) (are_wants some) all in
        let kind = item_kind x some among (first_of (x.read || x.write) (is_who x.of) (first_of ((x.read || x.write) && is_who x.of) (are_wants some) all)) in
        let here = none_same x some kind (behind x some among) rest_all (first_of (comes_first x.of some) (are_in_order some) order) in
        let rest = all_apart some (behind x some among) rest_all (second_of (comes_first x.of some) (are_in_order some) order) in
        both_true (not (list_any (λ w. same_number (socket_number x.of) (socket_number w.of)) some)) (differ some) (ap not here) rest

    pub wants_differ : are_wants wants ≡ true → differ wants ≡ true
    wants_differ all = all_apart wants (record { reading = λ who is. is; writing = λ who is. is }) all are.order
