-- What the core waits for is all that can be taken, and where the link isn't blocked all that is owed is out.
use Rattle.std.proofs.Common.{◌≡◌, ℕ, ◌==◌, ◌&&◌, ◌||◌, not, nat_lt, Bool, true, false, is_some, List, [], ◌∷◌, ◌++◌, All, filter, length, slice_get, nat_le, IsTrue}
use Rattle.spec_flow.specs.Guest.{is_empty}
use Rattle.std.specs.Option.{option_or}
use Rattle.std.proofs.Common.{IsPermutation, Option, None, Some, option_map, inl, inr, refl, sym, ap, ◌∙◌, subst, arith, if◌then◌else◌}
use Rattle.std.proofs.lemmas.Bool.Decides.{nat_tests}
use Rattle.std.proofs.lemmas.List.Sorted.{list_any-IsPermutation}
use Rattle.std.proofs.lemmas.Map.Keys.{IsDistinct-IsPermutation}
use Rattle.std.specs.List.{AllByRecursion, IsDistinct, list_any}
use Rattle.std.specs.List.Sorted.{IsNonDecreasing}
use Rattle.poll_list.specs.declared.Want.{Want}
use Rattle.world_face.specs.Journal.{Entry}
use Rattle.slirp_settings.specs.Addresses.{Config}
use Rattle.ipv4_head.specs.Sets.{PartSet}
use Rattle.slirp_settings.specs.Ranges.{same_proto}
use Rattle.slirp_settings.specs.declared.Proto.{Proto}
use Rattle.slirp_settings.specs.declared.Proto.TheVariants.{Tcp, Udp}
use Rattle.rules_forward.specs.Opened.{Opened}
use Rattle.rules_udp.specs.Associations.{is_over as is_idle_association, numbers}
use Rattle.rules_dns.specs.Questions.{is_over as is_idle_question, numbers as question_numbers}
use Rattle.rules_tftp.specs.Transfers.{Said, next_again, said_again}
use Rattle.rules_tftp.proofs.Turning.{next_left}
use Rattle.spec_flows.specs.Book.{book, is_young, scene}
use Rattle.spec_flows.specs.Flows.{guest_is_known, has_room_for_peer, is_among_time_waits}
use Rattle.sim_flows.specs.Peers.{fits_peer}
use Rattle.sim_flows.proofs.Peers.{room_recorded}
use Rattle.spec_trace.specs.Sockets.{Kind, Association, DnsSocket, Forward as OfForward, Listener, Flow, is_among, is_association, is_forward, is_listener, kind_of, next_number, open_sockets}
use Rattle.spec_run.specs.Answers.{is_out, left, may_go_again, serving}
use Rattle.spec_run.specs.Datagrams.{NeedsNothing}
use Rattle.spec_run.specs.Laws.{takes_peers}
use Rattle.spec_run.specs.Names.{questions}
use Rattle.spec_run.specs.Ports.{last_use}
use Rattle.spec_run.specs.Questions.{is_for_question}
use Rattle.spec_run.specs.Relayed.{associations}
use Rattle.spec_run.specs.Said.{AllUsedAfter, AreByLastUse}
use Rattle.spec_run.proofs.Bools.{equal, same}
use Rattle.spec_run.proofs.Finding.{rising as rising_use}
use Rattle.spec_run.proofs.Joining.{joined}
use Rattle.spec_run.proofs.KeptFiles.{now_is}
use Rattle.spec_run.proofs.Waiting.{are_waiting}
use Rattle.stream_netdev.specs.State.{LinkState}
use Rattle.sim_flows.specs.Core.{Following, number_of}
use Rattle.sim_flows.proofs.Options.{true_false}
use Rattle.tcp_flows.specs.Kept.{Kept}
use Rattle.tcp_flows.specs.Reading.{AreAbove, AreRising, AreTold, AreWantsOf}
use Rattle.tcp_flows.specs.Settled.{IsInTime}
use Rattle.tcp_flows.proofs.Settling.{are_settled}
use Rattle.tcp_flows.specs.Waits.{AreWaitedFor}
use Rattle.flow_splice.specs.Splice.{Splice, is_open}
use Rattle.spec_flow.specs.Close.{is_in_use}
use Rattle.spec_flow.specs.Dutiful.{AreAhead, IsSettled, MayWait, oldest_unheard}
use Rattle.spec_flow.specs.Event.{Story}
use Rattle.spec_flow.specs.Flow.{is_closed}
use Rattle.spec_flows.specs.Laws.{flow_settings}
use Rattle.flow_splice.proofs.Promises.{waited_is}
use Rattle.sim_flows.specs.FlowsHold.{time_waits_at}
use Rattle.spec_trace.specs.Moments.{moment}
use Rattle.sim_halves.proofs.Waiting.{settled_in_time}
use Rattle.sim_flows.proofs.Placing.{each, not_in_use}
use Rattle.spec_duties.proofs.Lives.{lives_ahead}
use Rattle.spec_duties.proofs.Waited.{all_ahead}
use Rattle.spec_duties.specs.Duties.{EachFlow, IsSettledNow, MustWait}
use Rattle.spec_duties.specs.Serving.{AllServed}
use Rattle.spec_duties.specs.Times.{lives}
use Rattle.spec_duties.specs.Waiting.{WaitsFor, is_all_sent, is_for_datagrams, takes_datagrams}
use Rattle.sim_flows.proofs.Listing.{AreOfFlows, AreOver, AreOverBy, DoRise, DoRiseBy, all_waited_for, of_flows}
use Rattle.slirp_core.specs.Calm.{AreClear}
use Rattle.tcp_flows.specs.Settled.{HaveTime}
use Rattle.slirp_core.specs.Forwards.{given_kind}
use Rattle.rules_forward.specs.Opened.{forward_sockets, is_over, sockets_over}
use Rattle.slirp_core.specs.Sockets.{AllAbove, IsRising}
use Rattle.slirp_core.specs.Holds.{Flowing, Holds, Standing, carriers, flowing, holders_of}
use Rattle.slirp_core.specs.Owed.{IsOwed, OfFile, OfLeft}
use Rattle.slirp_core.specs.Fragments.{IsHeld}
use Rattle.slirp_core.specs.Timeouts.{IsTimeout}
use Rattle.slirp_core.specs.Waiting.{AreFresh}
use Rattle.slirp_core.proofs.Bounding.{from_is, until_is, some_time_is}
use Rattle.slirp_core.specs.Pumps.{WantsOf, is_settled, listeners_of}
use Rattle.slirp_core.specs.State.{SlirpState}
use Rattle.slirp_core.proofs.Given.{over_rises, port_open}
use Rattle.slirp_core.proofs.Merging.{rising_climbs, AtLeast, Climbs, climbs}
use Rattle.slirp_core.proofs.Names.{IsKnown, among_both, known_of, two_apart}
use Rattle.slirp_core.proofs.Open.{are_open}
use Rattle.slirp_core.proofs.Parts.{carried_by}
use Rattle.flow_splice.specs.Wants.{HasTime}
use Rattle.tcp_flows.proofs.Awaiting.{closed_at_none}
use Rattle.tcp_flows.proofs.Timely.{shut_has_time}

-- ---- what is left

nothing_is : (octets : List ℕ) → is_empty octets ≡ (length octets == 0)
nothing_is [] = refl
nothing_is (x ∷ octets) = grind (arith, nat_tests)

none_and : (a : Bool) → (a && false) ≡ false
none_and true = refl
none_and false = refl

all_and : (a : Bool) → ((a && true) && true) ≡ (a && true)
all_and true = refl
all_and false = refl

cut : (a b : Bool) → ((a && false) && b) ≡ (a && false)
cut true b = refl
cut false b = refl

module _ (config : Config) (slirp : SlirpState) (link : LinkState) (past : List Entry) (at : (serving config past).now ≡ slirp.moment)
    (none_again : slirp.pending ≡ [] → next_again slirp.moment slirp.transfers ≡ None) where
  abbrev more : Option Said
  more = may_go_again (serving config past)

  abbrev tail_is : Bool
  tail_is = length link.tail == 0

  by_left : (frames : List (List ℕ)) → slirp.pending ≡ frames → OfLeft config true slirp past → (tail_is && is_out (left config past)) && not (is_some more) ≡
      (tail_is && not (nat_lt 0 (length slirp.pending)))
  by_left [] is l =
      let nothing : next_again (serving config past).now (serving config past).files.transfers ≡ None =
      sym (next_left (serving config past).now (serving config past).files.transfers) ∙ (λ i. next_again (at i) (sym l.files i)) ∙ none_again is in
      let none : more ≡ None = (λ i. option_or (l.again i) (option_map said_again (nothing i))) in
      (λ i. (tail_is && is_out ((l.left ∙ is) i)) && not (is_some (none i))) ∙ all_and tail_is ∙ ap (λ (frames : List (List ℕ)). tail_is && not (nat_lt 0 (length frames))) (sym is)
  by_left (frame ∷ frames) is l =
      let some : not (nat_lt 0 (length (frame ∷ frames))) ≡ false = grind (arith, nat_tests) in
      ap (λ (fs : List (List ℕ)). (tail_is && is_out fs) && not (is_some more)) (l.left ∙ is) ∙ cut tail_is (not (is_some more)) ∙ sym
      (ap (λ (fs : List (List ℕ)). tail_is && not (nat_lt 0 (length fs))) is ∙ ap (λ b. tail_is && b) some)

  by_file : OfFile config true slirp past → (tail_is && is_out (left config past)) && not (is_some more) ≡ (tail_is && not (nat_lt 0 (length slirp.pending)))
  by_file f =
      let few : not (nat_lt 0 (length slirp.pending)) ≡ false = let some = f.some in grind (arith, nat_tests, some) in
      ap (λ o. (tail_is && is_out (left config past)) && not (is_some o)) f.may ∙ none_and (tail_is && is_out (left config past)) ∙ sym (none_and tail_is) ∙ sym (ap (λ b. tail_is && b) few)

  by_owed : IsOwed config true slirp past → (tail_is && is_out (left config past)) && not (is_some more) ≡ (tail_is && not (nat_lt 0 (length slirp.pending)))
  by_owed (inl l) = by_left slirp.pending refl l
  by_owed (inr f) = by_file f

-- ---- numbers that differ, and rise

abbrev same_number : ℕ → ℕ → Bool
same_number a b = a == b

used_apart : (past : List Entry) (n : ℕ) (ns : List ℕ) → AllUsedAfter past n ns → AllByRecursion (λ m. same_number n m ≡ false) ns
used_apart past n [] is = tt
used_apart past n (m ∷ ns) is = (by (n == m) refl, used_apart past n ns is.1)
  where
    by : (b : Bool) → (n == m) ≡ b → b ≡ false
    by true here = let one = ap (λ k. last_use k past) (equal n m here) in let later = is.0 in absurd (omega (arith, one, later))
    by false other = refl

used_differ : (past : List Entry) (ns : List ℕ) → AreByLastUse past ns → IsDistinct same_number ns
unfolding IsDistinct
used_differ past [] is = tt
used_differ past (n ∷ ns) is = (used_apart past n ns is.0, used_differ past ns is.1)

none_of : (n : ℕ) (ns : List ℕ) → is_among n ns ≡ false → AllByRecursion (λ m. same_number n m ≡ false) ns
none_of n [] is = tt
none_of n (m ∷ ns) is = by (n == m) refl is (none_of n ns)
  where
    by : (b : Bool) → (n == m) ≡ b → (b || is_among n ns) ≡ false → (is_among n ns ≡ false → AllByRecursion (λ k. same_number n k ≡ false) ns) →
        (same_number n m ≡ false) × AllByRecursion (λ k. same_number n k ≡ false) ns
    by true here one rest = cc
    by false other one rest = (other, rest one)

all_of_both : (P : ℕ → Type 0) (xs ys : List ℕ) → AllByRecursion P xs → AllByRecursion P ys → AllByRecursion P (xs ++ ys)
all_of_both P [] ys one two = two
all_of_both P (x ∷ xs) ys one two = (one.0, all_of_both P xs ys one.1 two)

at_front : (n : ℕ) (ns : List ℕ) → is_among n (n ∷ ns) ≡ true
at_front n ns = ap (λ b. b || is_among n ns) (same n)

behind_it : (n m : ℕ) (ns : List ℕ) → is_among n ns ≡ true → is_among n (m ∷ ns) ≡ true
behind_it n m ns is = by (n == m)
  where
    by : (b : Bool) → (b || is_among n ns) ≡ true
    by true = refl
    by false = is

differ_both : (xs ys : List ℕ) → IsDistinct same_number xs → IsDistinct same_number ys → ((n : ℕ) → is_among n xs ≡ true → is_among n ys ≡ false) → IsDistinct same_number (xs ++ ys)
unfolding IsDistinct
differ_both [] ys one two apart = two
differ_both (x ∷ xs) ys one two apart = (
  all_of_both (λ m. same_number x m ≡ false) xs ys one.0 (none_of x ys (apart x (at_front x xs))),
  differ_both xs ys one.1 two (λ n among. apart n (behind_it n x xs among)),
)

flips : (a b : ℕ) → same_number a b ≡ same_number b a
flips a b = by (a == b) (b == a) refl refl
  where
    by : (s t : Bool) → (a == b) ≡ s → (b == a) ≡ t → s ≡ t
    by true true one two = refl
    by false false one two = refl
    by true false one two = absurd (true_false (sym (ap (λ x. x == a) (sym (equal a b one)) ∙ same a) ∙ two))
    by false true one two = absurd (true_false (sym (ap (λ x. x == b) (sym (equal b a two)) ∙ same b) ∙ one))

over_all : (n : ℕ) (ns : List ℕ) → AtLeast n ns → AllByRecursion (λ m. same_number n m ≡ false) ns → AreOver n ns
over_all n [] least apart = tt
over_all n (m ∷ ns) least apart = ((let low = least.0 in let other = apart.0 in grind (arith, nat_tests, low, other)), over_all n ns least.1 apart.1)

rise_of : (ns : List ℕ) → Climbs ns → IsDistinct same_number ns → DoRise ns
unfolding IsDistinct
rise_of [] climb apart = tt
rise_of (n ∷ ns) climb apart = (over_all n ns climb.0 apart.0, rise_of ns climb.1 apart.1)

-- so do numbers that rise under a bound
rising_differ : (bound : ℕ) (ns : List ℕ) → IsRising bound ns → IsDistinct same_number ns
unfolding IsDistinct
rising_differ bound [] rising = tt
rising_differ bound (n ∷ ns) rising = (above_differ n ns rising.1, rising_differ bound ns rising.2)
  where
    above_differ : (n : ℕ) (ns : List ℕ) → AllAbove n ns → AllByRecursion (λ m. same_number n m ≡ false) ns
    above_differ n [] up = tt
    above_differ n (m ∷ ns) up = ((let less = up.0 in grind (arith, nat_tests, less)), above_differ n ns up.1)

any_is : (n : ℕ) (ns : List ℕ) → is_among n ns ≡ list_any (λ m. n == m) ns
any_is n [] = refl
any_is n (m ∷ ns) = ap (λ b. (n == m) || b) (any_is n ns)

among_moved : (n : ℕ) (xs ys : List ℕ) → IsPermutation xs ys → is_among n xs ≡ is_among n ys
among_moved n xs ys moved = any_is n xs ∙ list_any-IsPermutation (λ m. n == m) xs ys moved ∙ sym (any_is n ys)

-- ---- ports of the host that are given to guests

-- numbers that rise under a bound rise
over_above_all : (n : ℕ) (ns : List ℕ) → AllAbove n ns → AreOver n ns
over_above_all n [] up = tt
over_above_all n (m ∷ ns) up = (up.0, over_above_all n ns up.1)

do_rise : (bound : ℕ) (ns : List ℕ) → IsRising bound ns → DoRise ns
do_rise bound [] rising = tt
do_rise bound (n ∷ ns) rising = (over_above_all n ns rising.1, do_rise bound ns rising.2)

-- those of a protocol are among all
among_all : (p : Proto) (os : List Opened) (n : ℕ) → is_among n (sockets_over p os) ≡ true → is_among n (forward_sockets os) ≡ true
among_all p [] n is = cc
among_all p ((f, k) ∷ os) n is = by (same_proto p f.proto) is (among_all p os n)
  where
    by : (b : Bool) → is_among n (forward_sockets (if b then (f, k) ∷ filter (is_over p) os else filter (is_over p) os)) ≡ true →
        (is_among n (sockets_over p os) ≡ true → is_among n (forward_sockets os) ≡ true)
        → ((n == k) || is_among n (forward_sockets os)) ≡ true
    by false one rest = behind_it n k (forward_sockets os) (rest one)
    by true one rest = head (n == k) one rest
      where
        head : (t : Bool) → (t || is_among n (sockets_over p os)) ≡ true → (is_among n (sockets_over p os) ≡ true → is_among n (forward_sockets os) ≡ true) →
            (t || is_among n (forward_sockets os)) ≡ true
        head true two others = refl
        head false two others = others two

-- ---- what flows wait for

above_by : (n : ℕ) (wants : List Want) → AreAbove n wants → AreOverBy n wants
above_by n [] are = tt
above_by n (w ∷ wants) are = (are.0, above_by n wants are.1)

rise_by : (wants : List Want) → AreRising wants → DoRiseBy wants
rise_by [] are = tt
rise_by (w ∷ wants) are = ((λ m is. above_by m wants (are.0 m is)), rise_by wants are.1)

each_of_flows : (parts : List (Option Splice)) (wants : List Want) → AreWantsOf parts wants → AreOfFlows wants
each_of_flows parts wants are = of_flows wants (λ w has. let one = are.only w has in (number_of one.1, ap (λ (v : Want). v.of) one.4))

-- ---- all together

is_given_kind : (k : Option Kind) → is_forward k ≡ true → (is_listener k || is_forward k) ≡ true
is_given_kind None is = cc
is_given_kind (Some Association) is = cc
is_given_kind (Some DnsSocket) is = cc
is_given_kind (Some OfForward) is = refl
is_given_kind (Some Listener) is = cc
is_given_kind (Some Flow) is = cc

is_listening_kind : (k : Option Kind) → is_listener k ≡ true → (is_listener k || is_forward k) ≡ true
is_listening_kind k is = ap (λ b. b || is_forward k) is

two_kinds : (a : Bool) (k : Option Kind) → is_for_question k ≡ false → (a && is_for_datagrams k) ≡ ((a && is_forward k) || (a && is_association k))
two_kinds false k other = refl
two_kinds true None other = refl
two_kinds true (Some Association) other = refl
two_kinds true (Some DnsSocket) other = cc
two_kinds true (Some OfForward) other = refl
two_kinds true (Some Listener) other = refl
two_kinds true (Some Flow) other = refl

-- the number of a socket doesn't tell that it is a question's
unquestioned : (config : Config) (n : ℕ) (past : List Entry) → IsKnown config n past → is_for_question (kind_of n past) ≡ false
unquestioned config n past (inl (is, none)) = none
unquestioned config n past (inr (is, was)) = ap is_for_question was

module _ (config : Config) (at : Standing) (slirp : SlirpState) (f : Flowing) (link : LinkState) (past : List Entry) (holds : Holds config at slirp f link past) where
  for_datagrams : (n : ℕ) → (is_among n (open_sockets past) && is_forward (kind_of n past)) ≡ is_among n (sockets_over Udp slirp.forwards)
  for_datagrams = port_open config slirp.forwards past holds.forwards Udp is_forward tells is_given_kind
    where
      tells : (q : Proto) → is_forward (Some (given_kind q)) ≡ same_proto Udp q
      tells Tcp = refl
      tells Udp = refl

  for_peers : (n : ℕ) → (is_among n (open_sockets past) && is_listener (kind_of n past)) ≡ is_among n (sockets_over Tcp slirp.forwards)
  for_peers = port_open config slirp.forwards past holds.forwards Tcp is_listener tells is_listening_kind
    where
      tells : (q : Proto) → is_listener (Some (given_kind q)) ≡ same_proto Tcp q
      tells Tcp = refl
      tells Udp = refl

  abbrev all_carriers : List ℕ
  all_carriers = sockets_over Udp slirp.forwards ++ carriers (holders_of slirp)

  pub sockets_are : (sockets : List ℕ) → IsPermutation all_carriers sockets → (n : ℕ) → takes_datagrams past n ≡ is_among n sockets
  sockets_are sockets moved n =
      two_kinds (is_among n (open_sockets past)) (kind_of n past) (unquestioned config n past (known_of config past holds.lawful n))
      ∙ (λ i. for_datagrams n i || carried_by config at NeedsNothing None slirp f link past holds n i)
      ∙ sym (among_both n (sockets_over Udp slirp.forwards) (carriers (holders_of slirp)))
      ∙ among_moved n all_carriers sockets moved

  room_is : has_room_for_peer config.flows (book config past).flows ≡ fits_peer f.kept.flows
  room_is = room_recorded config slirp.moment f.aged None f.kept.flows past holds.flows.holds holds.flows.asked

  pub listeners_are : f.kept ≡ slirp.flows → (n : ℕ) → takes_peers config past n ≡ is_among n (listeners_of slirp)
  listeners_are same_flows n =
      and_assoc_by (is_among n (open_sockets past)) (is_listener (kind_of n past)) (has_room_for_peer config.flows (book config past).flows)
      ∙ (λ i. for_peers n i && (room_is ∙ ap (λ (k : Kept). fits_peer k.flows) same_flows) i)
      ∙ by (fits_peer slirp.flows.flows)
    where
      and_assoc_by : (a b c : Bool) → (a && b && c) ≡ ((a && b) && c)
      and_assoc_by true b c = refl
      and_assoc_by false b c = refl

      by : (b : Bool) → (is_among n (sockets_over Tcp slirp.forwards) && b) ≡ is_among n (if b then sockets_over Tcp slirp.forwards else [])
      by true = all_true (is_among n (sockets_over Tcp slirp.forwards))
        where
          all_true : (c : Bool) → (c && true) ≡ c
          all_true true = refl
          all_true false = refl
      by false = none_and (is_among n (sockets_over Tcp slirp.forwards))

  -- each row of sockets rises
  over_rise : IsRising (next_number past) (sockets_over Udp slirp.forwards)
  over_rise = over_rises Udp (next_number past) slirp.forwards holds.forwards.rising

  rise_sockets : (sockets : List ℕ) → IsPermutation all_carriers sockets → (IsNonDecreasing (sockets_over Udp slirp.forwards) → IsNonDecreasing sockets) → DoRise sockets
  rise_sockets sockets moved rising = rise_of sockets (climbs sockets (rising (rising_climbs (next_number past) (sockets_over Udp slirp.forwards) over_rise)))
      (IsDistinct-IsPermutation same_number flips all_carriers sockets moved
      (differ_both (sockets_over Udp slirp.forwards) (carriers (holders_of slirp)) (rising_differ (next_number past) (sockets_over Udp slirp.forwards) over_rise) all_differ
      (λ n one. uncarried n (among_all Udp slirp.forwards n one) (is_among n (carriers (holders_of slirp))) refl)))
    where
      uncarried : (n : ℕ) → is_among n (forward_sockets slirp.forwards) ≡ true → (b : Bool) → is_among n (carriers (holders_of slirp)) ≡ b → b ≡ false
      uncarried n among true carried = absurd ((are_open config at NeedsNothing None slirp f link past holds).others n among (inl carried))
      uncarried n among false carried = refl

      all_differ : IsDistinct same_number (carriers (holders_of slirp))
      all_differ =
          subst (λ l. IsDistinct same_number (l ++ question_numbers slirp.questions)) (ap numbers holds.relayed.list)
          (subst (λ l. IsDistinct same_number (numbers (associations config past) ++ question_numbers l)) holds.relayed.questions
          (differ_both (numbers (associations config past)) (question_numbers (questions config past)) (used_differ past (numbers (associations config past))
          (rising_use past (associations config past) (joined config past holds.lawful).order))
          (used_differ past (question_numbers (questions config past)) (are_waiting config past holds.lawful).order) (two_apart config past holds.lawful)))

  rise_listeners : DoRise (listeners_of slirp)
  rise_listeners = by (fits_peer slirp.flows.flows)
    where
      by : (b : Bool) → DoRise (if b then sockets_over Tcp slirp.forwards else [])
      by true = do_rise (next_number past) (sockets_over Tcp slirp.forwards) (over_rises Tcp (next_number past) slirp.forwards holds.forwards.rising)
      by false = tt

-- flows of which both ends passed are closed, and those whose host had its time to connect
no_connecting : (a b : Bool) → b ≡ true → not (a || b) ≡ false
no_connecting true b is = refl
no_connecting false b is = ap not is

closed_waits : (story : Story) (now : ℕ) → is_in_use story ≡ false → MayWait story now
closed_waits story now unused = record {
  closes = λ conforming done. not_in_use story unused;
  connects = subst (λ ms. AreAhead now ms) (sym (closed_at_none story (not_in_use story unused))) tt;
  calls = first_true (is_closed story) (nat_le (oldest_unheard story) 9) (not_in_use story unused);
}
  where
    first_true : (a b : Bool) → a ≡ true → IsTrue (a || b)
    first_true a b is = rw is refl

each_waits : (config : Config) (at : Standing) (slirp : SlirpState) (link : LinkState) (past : List Entry) → Holds config at slirp (flowing true slirp.flows) link past →
    HaveTime slirp.moment slirp.flows.flows.slots → EachFlow config past (λ f. MayWait f.story (moment past))
each_waits config at slirp link past holds early =
    each number_of (Following config slirp.moment) slirp.flows.flows.table slirp.flows.flows.slots (next_number past) (book config past).flows (time_waits_at true config past) holds.flows.holds.seats
    (λ story. MayWait story (moment past))
    (λ k p story here follows. subst (λ (n : ℕ). MayWait story n) (sym holds.clock.moment)
    (waited_is (flow_settings config) p story slirp.moment follows (had k p here (is_open p) refl)))
    (λ story unused. closed_waits story (moment past) unused)
  where
    had : (k : ℕ) (p : Splice) → slice_get slirp.flows.flows.slots k ≡ Some (Some p) → (b : Bool) → is_open p ≡ b → HasTime p slirp.moment
    had k p here true open_yet = early k p (record { here = here; open_yet = open_yet })
    had k p here false shut = shut_has_time p slirp.moment shut

-- each flow is settled, where none owes a frame and none has a timer that is due
each_settled : (config : Config) (at : Standing) (slirp : SlirpState) (link : LinkState) (past : List Entry) → Holds config at slirp (flowing true slirp.flows) link past →
    AreClear slirp.known slirp.flows.flows → ((n : ℕ) → IsInTime slirp.moment slirp.flows.flows.slots n) → EachFlow config past (IsSettledNow config past)
each_settled config at slirp link past holds are early n f found =
    let known = guest_is_known (scene config past) f in
    subst (λ (m : ℕ). IsSettled (flow_settings config) f.story known (is_among_time_waits (filter (is_young m) (book config past).time_waits) (Some f)) m) (sym holds.clock.moment)
    (settled_in_time (IsInTime slirp.moment slirp.flows.flows.slots n) (flow_settings config) f.story known (is_among_time_waits (filter (is_young slirp.moment) (book config past).time_waits)
    (Some f)) slirp.moment
    (are_settled config slirp.moment slirp.flows.flows past holds.clock.moment holds.flows.holds are.slots (subst (λ l. AreTold l slirp.flows.flows.slots)
    (sym holds.guests.known) are.told) are.clear n f found)
    (early n))

-- A wait for what the core waits for, as long as it waits, is as it must be, where each report of the last wait is served, and unless the link is blocked all
-- that is owed is out, no flow owes a frame and none has a timer that is due; no socket for datagrams is idle for long, no fragments are to be dropped, and the
-- host of no flow had its time to connect.
pub must_wait : (config : Config) (at : Standing) (slirp : SlirpState) (link : LinkState) (past : List Entry) (wants : List Want) (timeout : Option ℕ) → Holds config at slirp
    (flowing true slirp.flows) link past → (slirp.pending ≡ [] → next_again slirp.moment slirp.transfers ≡ None)
    → (link.blocked ≡ false → is_settled slirp link ≡ true) → All (λ a. is_idle_association slirp.moment a ≡ false) slirp.associations → All
    (λ q. is_idle_question slirp.moment q ≡ false) slirp.questions → AreFresh slirp.moment slirp.fragments → HaveTime slirp.moment slirp.flows.flows.slots →
    (link.blocked ≡ false → AreClear slirp.known slirp.flows.flows × ((n : ℕ) → IsInTime slirp.moment slirp.flows.flows.slots n)) →
    ((held : List PartSet) → IsHeld slirp.fragments held → IsTimeout slirp link.blocked held timeout) → (of : WantsOf slirp link wants) → AreWaitedFor config past of.flows →
    AllServed config past → MustWait config past wants timeout
must_wait config at slirp link past wants timeout holds none_again quiet young recent fresh early calm times of are served = record {
  waits_for = subst (λ (ws : List Want). WaitsFor config past ws) (sym of.is)
      (all_waited_for config past (is_settled slirp link) link.blocked (listeners_of slirp) of.sockets of.flows holds.keeps.blocked sent_is quiet
      (listeners_are config at slirp (flowing true slirp.flows) link past holds refl) (sockets_are config at slirp (flowing true slirp.flows) link past holds of.sockets of.all)
      (each_of_flows slirp.flows.flows.slots of.flows of.of_flows) are.to_read are.to_write are.only_to_write (rise_listeners config at slirp (flowing true slirp.flows) link past holds)
      (rise_sockets config at slirp (flowing true slirp.flows) link past holds of.sockets of.all of.rising) (rise_by of.flows of.of_flows.rising));
  served = served;
  out = λ free. sent_is ∙ quiet (sym holds.keeps.blocked ∙ free);
  settled = λ free. let now = calm (sym holds.keeps.blocked ∙ free) in each_settled config at slirp link past holds now.0 now.1;
  unused = subst (λ (now : ℕ). AreAhead now (lives config past)) (sym holds.clock.moment)
      (all_ahead config past holds.lawful slirp.moment (subst (λ l. All (λ q. is_idle_question slirp.moment q ≡ false) l) (sym holds.relayed.questions) recent)
      (lives_ahead config past holds.lawful slirp.moment (subst (λ l. All (λ a. is_idle_association slirp.moment a ≡ false) l) (sym holds.relayed.list) young)));
  closed = each_waits config at slirp link past holds early;
  some_time = some_time_is config at slirp link past holds timeout times early (λ free. (calm free).1) fresh young recent;
  until = until_is config at slirp link past holds timeout times none_again early (λ free. let now = calm free in (now.0.clear, now.1)) young recent;
  from = from_is config at slirp link past holds timeout times none_again fresh young recent;
}
  where
    sent_is : is_all_sent config past ≡ is_settled slirp link
    sent_is =
        ap (λ octets. (is_empty octets && is_out (left config past)) && not (is_some (may_go_again (serving config past)))) holds.keeps.rest
        ∙ ap (λ b. (b && is_out (left config past)) && not (is_some (may_go_again (serving config past)))) (nothing_is link.tail)
        ∙ by_owed config slirp link past (now_is config past ∙ holds.clock.moment) none_again holds.answers.owed
