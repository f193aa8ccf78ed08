-- What is waited for.
use Rattle.std.proofs.Common.{◌-◌, ◌+◌, drop, take, take-append-drop, ◌≡◌, ℕ, zero, suc, ◌^◌, ◌<◌, ◌≤◌, ◌==◌, ◌&&◌, ◌||◌, not, nat_lt, Bool, true, false, IsTrue, List, [], ◌∷◌, ◌++◌, map}
use Rattle.std.proofs.Common.{length, slice_get, Option, Some, refl, sym, ◌∙◌, ap, subst, append_assoc, arith, length-append}
use Rattle.std.proofs.lemmas.Bool.Decides.{nat_tests}
use Rattle.std.proofs.lemmas.List.{length-map}
use Rattle.std.specs.Prelude.{Contains}
use Rattle.std.proofs.lemmas.List.Elements.{Contains-append_left, Contains-append_right, Contains-push}
use Rattle.std.specs.List.{list_any}
use Rattle.poll_list.specs.Listing.{AreWants, are_wants, is_who, names, reads, same_who, writes}
use Rattle.poll_list.specs.declared.Want.{Want}
use Rattle.poll_list.specs.declared.Who.{Who}
use Rattle.poll_list.specs.declared.Who.TheVariants.{Link, Listener, Udp, Tcp}
use Rattle.std.specs.List.Sorted.{IsPermutation, IsNonDecreasing}
use Rattle.stream_netdev.specs.State.{LinkState}
use Rattle.flow_splice.specs.Splice.{Splice}
use Rattle.sim_flows.specs.Core.{number_of}
use Rattle.tcp_flows.specs.Reading.{AreAbove, AreRising, AreWantsOf, want_of}
use Rattle.slirp_settings.specs.declared.Proto.TheVariants.{Udp as OverUdp}
use Rattle.sim_flows.proofs.Options.{true_false}
use Rattle.rules_forward.specs.Opened.{sockets_over}
use Rattle.slirp_core.specs.Holds.{carriers, holders_of}
use Rattle.slirp_core.specs.Pumps.{TcpOnce, WantsOf, is_settled, listeners_of, merged}
use Rattle.sim_flows.specs.Wants.{link_want, listener_want, udp_want, socket_wants}
use Rattle.slirp_core.specs.State.{SlirpState}
use Rattle.slirp_core.proofs.Merging.{length_merged}

-- the link, then the sockets where they are wanted, and what flows wait for
pub wants_of : (slirp : SlirpState) (link : LinkState) (wants flows : List Want) (read write : Bool) (listeners sockets : List ℕ) → read ≡ is_settled slirp link → write ≡ link.blocked
    → listeners ≡ listeners_of slirp → IsPermutation (sockets_over OverUdp slirp.forwards ++ carriers (holders_of slirp)) sockets
    → (IsNonDecreasing (sockets_over OverUdp slirp.forwards) → IsNonDecreasing sockets)
    → AreWantsOf slirp.flows.flows.slots flows → wants ≡ ((link_want read write ++ map listener_want listeners) ++ socket_wants read sockets) ++ flows → WantsOf slirp link wants
wants_of slirp link wants flows read write listeners sockets settled blocked listen all rising of_flows is = record {
  sockets = sockets;
  all = all;
  rising = rising;
  flows = flows;
  of_flows = of_flows;
  is =
      is ∙ ap (λ (b : Bool). ((link_want b write ++ map listener_want listeners) ++ socket_wants b sockets) ++ flows) settled
      ∙ ap (λ (b : Bool). ((link_want (is_settled slirp link) b ++ map listener_want listeners) ++ socket_wants (is_settled slirp link) sockets) ++ flows) blocked
      ∙ ap (λ l. ((link_want (is_settled slirp link) link.blocked ++ map listener_want l) ++ socket_wants (is_settled slirp link) sockets) ++ flows) listen;
}

-- all is wanted for reading
pub all_read : (read write : Bool) (listeners sockets : List ℕ) → (read && not write) ≡ true
    → (link_want true false ++ map listener_want listeners) ++ socket_wants true sockets ≡ (link_want read write ++ map listener_want listeners) ++ socket_wants read sockets
all_read true false listeners sockets is = refl
all_read true true listeners sockets is = cc
all_read false write listeners sockets is = cc

-- what is wanted has a direction
pub link_wants : (read write : Bool) → IsTrue (are_wants (link_want read write))
link_wants true true = refl
link_wants true false = refl
link_wants false true = refl
link_wants false false = refl

pub few_wants : (read write : Bool) → length (link_want read write) ≤ 1
few_wants true true = omega arith
few_wants true false = omega arith
few_wants false true = omega arith
few_wants false false = omega arith

-- how many are wanted for reading
pub few_read : (write : Bool) (wants : List Want) (listeners forwards some others : List ℕ) → wants ≡ (link_want true write ++ map listener_want listeners) ++ map udp_want (merged (merged forwards some) others)
    → length listeners + length forwards ≤ 32 → length some ≤ 512 → length others ≤ 512 → length wants ≤ 1057
few_read write wants listeners forwards some others is few one two =
    let long = ap length is in
    let all = length-append (link_want true write ++ map listener_want listeners) (map udp_want (merged (merged forwards some) others)) in
    let given = length-map (merged (merged forwards some) others) udp_want in
    let behind = length_merged forwards some in
    let both = length_merged (merged forwards some) others in
    let before = length-map listeners listener_want in
    omega (arith, long, all, given, behind, both, before)

-- the same listeners and sockets, behind the link, all for reading
pub same_rows : (write : Bool) (listeners forwards some others their_listeners their_forwards their_some their_others : List ℕ) → listeners ≡ their_listeners → forwards ≡ their_forwards →
    some ≡ their_some → others ≡ their_others
    → (link_want true write ++ map listener_want listeners) ++ map udp_want (merged (merged forwards some) others) ≡ (link_want true write ++ map listener_want their_listeners)
    ++ map udp_want (merged (merged their_forwards their_some) their_others)
same_rows write listeners forwards some others their_listeners their_forwards their_some their_others one two three four =
    ap (λ l. (link_want true write ++ map listener_want l) ++ map udp_want (merged (merged forwards some) others)) one
    ∙ ap (λ l. (link_want true write ++ map listener_want their_listeners) ++ map udp_want (merged (merged l some) others)) two
    ∙ ap (λ l. (link_want true write ++ map listener_want their_listeners) ++ map udp_want (merged (merged their_forwards l) others)) three
    ∙ ap (λ l. (link_want true write ++ map listener_want their_listeners) ++ map udp_want (merged (merged their_forwards their_some) l)) four

more_of : (wants : List Want) (w : Want) → (w.read || w.write) ≡ true → is_who w.of ≡ true → AreWants wants → AreWants (wants ++ (w ∷ []))
more_of [] w some who are = both (w.read || w.write) (is_who w.of) some who
  where
    both : (a b : Bool) → a ≡ true → b ≡ true → (a && b && true) ≡ true
    both true true one two = refl
    both true false one two = cc
    both false b one two = cc
more_of (want ∷ wants) w some who are = more (want.read || want.write) (is_who want.of) (are_wants wants) (are_wants (wants ++ (w ∷ []))) are (λ rest. more_of wants w some who rest)
  where
    more : (a b c d : Bool) → (a && b && c) ≡ true → (c ≡ true → d ≡ true) → (a && b && d) ≡ true
    more true true true d is goes = goes refl
    more true true false d is goes = cc
    more true false c d is goes = cc
    more false b c d is goes = cc

small_number : (n : ℕ) → n < 2 ^ 64 → nat_lt n (2 ^ 64) ≡ true
small_number n fits = grind (arith, nat_tests, fits)

pub one_more : (wants : List Want) (number : ℕ) → number < 2 ^ 64 → AreWants wants → AreWants (wants ++ (udp_want number ∷ []))
one_more wants number fits are = more_of wants (udp_want number) refl (small_number number fits) are

pub one_listener_more : (wants : List Want) (number : ℕ) → number < 2 ^ 64 → AreWants wants → AreWants (wants ++ (listener_want number ∷ []))
one_listener_more wants number fits are = more_of wants (listener_want number) refl (small_number number fits) are

-- ---- what flows wait for has directions, too

are_append : (before added : List Want) → AreWants before → AreWants added → AreWants (before ++ added)
are_append [] added some more = more
are_append (x ∷ before) added some more = both (x.read || x.write) (is_who x.of) (are_wants before) (are_wants (before ++ added)) some (λ rest. are_append before added rest more)
  where
    both : (a b c d : Bool) → (a && b && c) ≡ true → (c ≡ true → d ≡ true) → (a && b && d) ≡ true
    both true true true d is goes = goes refl
    both true true false d is goes = cc
    both true false c d is goes = cc
    both false b c d is goes = cc

are_each : (added : List Want) → ((w : Want) → Contains added w → ((w.read || w.write) ≡ true) × (is_who w.of ≡ true)) → AreWants added
are_each [] each = refl
are_each (x ∷ added) each =
    let here = each x (Contains-append_left (x ∷ []) added x (Contains-push [] x)) in
    all (x.read || x.write) (is_who x.of) (are_wants added) here.0 here.1 (are_each added (λ w inside. each w (Contains-append_right (x ∷ []) added w inside)))
  where
    all : (a b c : Bool) → a ≡ true → b ≡ true → c ≡ true → (a && b && c) ≡ true
    all true true c one two rest = rest
    all true false c one two rest = cc
    all false b c one two rest = cc

-- what stands in front of others has directions, too
pub are_front : (before added : List Want) → AreWants (before ++ added) → AreWants before
are_front [] added are = refl
are_front (x ∷ before) added are = both (x.read || x.write) (is_who x.of) (are_wants before) (are_wants (before ++ added)) are (λ rest. are_front before added rest)
  where
    both : (a b c d : Bool) → (a && b && d) ≡ true → (d ≡ true → c ≡ true) → (a && b && c) ≡ true
    both true true c true is goes = goes refl
    both true true c false is goes = cc
    both true false c d is goes = cc
    both false b c d is goes = cc

pub are_with : (before added wants : List Want) (parts : List (Option Splice)) → wants ≡ before ++ added → AreWants before → AreWantsOf parts added
    → ((k : ℕ) (p : Splice) → slice_get parts k ≡ Some (Some p) → number_of p < 2 ^ 64) → AreWants wants
are_with before added wants parts is are of_flows fit = subst AreWants (sym is) (are_append before added are (are_each added each))
  where
    small : (n : ℕ) → n < 2 ^ 64 → nat_lt n (2 ^ 64) ≡ true
    small n less = grind (arith, nat_tests, less)

    each : (w : Want) → Contains added w → ((w.read || w.write) ≡ true) × (is_who w.of ≡ true)
    each w inside =
        let flow = of_flows.only w inside in
        let same : w ≡ want_of flow.1 = flow.4 in
        (ap (λ (x : Want). x.read || x.write) same ∙ flow.3, ap (λ (x : Want). is_who x.of) same ∙ small (number_of flow.1) (fit flow.0 flow.1 flow.2))

-- ---- no flow's socket stands twice

-- what stands behind it has greater numbers
not_named : (n : ℕ) (wants : List Want) → AreAbove n wants → names (Tcp n) wants ≡ false
not_named n [] above = refl
not_named n (w ∷ wants) above = neither (same_who (Tcp n) w.of) (names (Tcp n) wants) (another w.of above.0) (not_named n wants above.1)
  where
    neither : (a b : Bool) → a ≡ false → b ≡ false → (a || b) ≡ false
    neither true b one two = cc
    neither false b one two = two

    another : (of : Who) → ((m : ℕ) → of ≡ Tcp m → n < m) → same_who (Tcp n) of ≡ false
    another Link up = refl
    another (Listener m) up = refl
    another (Udp m) up = refl
    another (Tcp m) up = let less : n < m = up m refl in grind (arith, nat_tests, less)

rising_once : (wants : List Want) → AreRising wants → TcpOnce wants
rising_once [] rising = tt
rising_once (w ∷ wants) rising = (λ m of. not_named m wants (rising.0 m of), rising_once wants rising.1)

sockets_once : (sockets : List ℕ) (wants : List Want) → TcpOnce wants → TcpOnce (map udp_want sockets ++ wants)
sockets_once [] wants once = once
sockets_once (n ∷ sockets) wants once = (λ m of. cc, sockets_once sockets wants once)

wanted_once : (read : Bool) (sockets : List ℕ) (wants : List Want) → TcpOnce wants → TcpOnce (socket_wants read sockets ++ wants)
wanted_once true sockets wants once = sockets_once sockets wants once
wanted_once false sockets wants once = once

link_once : (read write : Bool) (wants : List Want) → TcpOnce wants → TcpOnce (link_want read write ++ wants)
link_once true write wants once = (λ m of. cc, once)
link_once false true wants once = (λ m of. cc, once)
link_once false false wants once = once

listeners_once : (listeners : List ℕ) (wants : List Want) → TcpOnce wants → TcpOnce (map listener_want listeners ++ wants)
listeners_once [] wants once = once
listeners_once (n ∷ listeners) wants once = (λ m of. cc, listeners_once listeners wants once)

pub all_once : (read write : Bool) (listeners sockets : List ℕ) (flows : List Want) → AreRising flows → TcpOnce
    (((link_want read write ++ map listener_want listeners) ++ socket_wants read sockets) ++ flows)
all_once read write listeners sockets flows rising =
    subst TcpOnce (sym (append_assoc (link_want read write ++ map listener_want listeners) (socket_wants read sockets) flows ∙ append_assoc (link_want read write)
    (map listener_want listeners) (socket_wants read sockets ++ flows)))
    (link_once read write (map listener_want listeners ++ (socket_wants read sockets ++ flows)) (listeners_once listeners (socket_wants read sockets ++ flows)
    (wanted_once read sockets flows (rising_once flows rising))))

-- ---- what stands once is what is waited for

same_socket : (n : ℕ) (of : Who) → of ≡ Tcp n → same_who (Tcp n) of ≡ true
same_socket n of is = ap (same_who (Tcp n)) is ∙ same n
  where
    same : (n : ℕ) → (n == n) ≡ true
    same n = grind (arith, nat_tests)

-- the socket with a number, where it is: one with this name has it
of_number : (n : ℕ) (of : Who) → same_who (Tcp n) of ≡ true → of ≡ Tcp n
of_number n Link is = cc
of_number n (Listener m) is = cc
of_number n (Udp m) is = cc
of_number n (Tcp m) is = ap Tcp (equal is)
  where
    equal : (n == m) ≡ true → m ≡ n
    equal is = grind (arith, nat_tests, is)

named_at : (n : ℕ) (w : Want) → w.of ≡ Tcp n → (wants : List Want) (k : ℕ) → slice_get wants k ≡ Some w → names (Tcp n) wants ≡ true
named_at n w of [] k at = cc
named_at n w of (x ∷ wants) zero at = ap (λ b. b || names (Tcp n) wants) (same_socket n x.of (ap (λ (y : Want). y.of) (here at) ∙ of))
  where
    here : Some x ≡ Some w → x ≡ w
    here is = cc
named_at n w of (x ∷ wants) (suc k) at = later (same_who (Tcp n) x.of) (names (Tcp n) wants) (named_at n w of wants k at)
  where
    later : (a b : Bool) → b ≡ true → (a || b) ≡ true
    later true b is = refl
    later false b is = is

-- a place in what stands behind others
place_behind : (w : Want) (before part : List Want) (k : ℕ) → slice_get part k ≡ Some w → (j : ℕ) × (slice_get (before ++ part) j ≡ Some w)
place_behind w [] part k at = (k, at)
place_behind w (x ∷ before) part k at = let behind = place_behind w before part k at in (suc behind.0, behind.1)

-- a list read by a direction
module _ (f : Want → Bool) where
  abbrev is_for : ℕ → List Want → Bool
  is_for n wants = list_any (λ want. same_who (Tcp n) want.of && f want) wants

  none_for : (n : ℕ) (wants : List Want) → names (Tcp n) wants ≡ false → is_for n wants ≡ false
  none_for n [] none = refl
  none_for n (x ∷ wants) none = by (same_who (Tcp n) x.of) (f x) none (λ rest. none_for n wants rest)
    where
      by : (t u : Bool) → (t || names (Tcp n) wants) ≡ false → (names (Tcp n) wants ≡ false → is_for n wants ≡ false) → ((t && u) || is_for n wants) ≡ false
      by true u is rest = cc
      by false u is rest = rest is

  once_for : (n : ℕ) (w : Want) → w.of ≡ Tcp n → (wants : List Want) (k : ℕ) → TcpOnce wants → slice_get wants k ≡ Some w → is_for n wants ≡ f w
  once_for n w of [] k once at = cc
  once_for n w of (x ∷ wants) zero once at = first (same_who (Tcp n) x.of) (f x) (is_for n wants) (same_socket n x.of named) (none_for n wants (once.0 n named)) ∙ ap f is
    where
      here : Some x ≡ Some w → x ≡ w
      here is = cc

      is : x ≡ w
      is = here at

      named : x.of ≡ Tcp n
      named = ap (λ (y : Want). y.of) is ∙ of

      first : (t u v : Bool) → t ≡ true → v ≡ false → ((t && u) || v) ≡ u
      first true true v one none = refl
      first true false v one none = none
      first false u v one none = cc
  once_for n w of (x ∷ wants) (suc k) once at = by (same_who (Tcp n) x.of) refl (once_for n w of wants k once.1 at)
    where
      by : (t : Bool) → same_who (Tcp n) x.of ≡ t → is_for n wants ≡ f w → ((t && f x) || is_for n wants) ≡ f w
      by true is rest = absurd (true_false (sym (named_at n w of wants k at) ∙ once.0 n (of_number n x.of is)))
      by false is rest = rest

  once_behind : (n : ℕ) (w : Want) (wants before part : List Want) (k : ℕ) → TcpOnce wants → wants ≡ before ++ part → slice_get part k ≡ Some w → w.of ≡ Tcp n → is_for n wants ≡ f w
  once_behind n w wants before part k once is at of =
      let behind = place_behind w before part k at in
      once_for n w of wants behind.0 once (ap (λ (l : List Want). slice_get l behind.0) is ∙ behind.1)

-- a flow's want says in which directions its socket is waited for
pub reads_once : (n : ℕ) (w : Want) (wants before part : List Want) (k : ℕ) → TcpOnce wants → wants ≡ before ++ part → slice_get part k ≡ Some w → w.of ≡ Tcp n → reads (Tcp n) wants ≡ w.read
reads_once n w wants before part k once is at of = once_behind (λ (x : Want). x.read) n w wants before part k once is at of

pub writes_once : (n : ℕ) (w : Want) (wants before part : List Want) (k : ℕ) → TcpOnce wants → wants ≡ before ++ part → slice_get part k ≡ Some w → w.of ≡ Tcp n → writes (Tcp n) wants ≡ w.write
writes_once n w wants before part k once is at of = once_behind (λ (x : Want). x.write) n w wants before part k once is at of

-- ---- parts of a list

-- those before a place, from there to a later one, and the rest
pub three_parts : {A : Type 0} (xs : List A) (f b : ℕ) → f ≤ b → xs ≡ (take f xs ++ take (b - f) (drop f xs)) ++ drop b xs
three_parts xs zero b up = let whole : b ≡ b - 0 = omega arith in subst (λ n. xs ≡ take n xs ++ drop b xs) whole (sym (take-append-drop b xs))
three_parts [] (suc f) b up = nothing (b - suc f) b
  where
    nothing : {A : Type 0} (n b : ℕ) → [] ≡ ([] ++ take {A = A} n []) ++ drop b []
    nothing zero zero = refl
    nothing zero (suc b) = refl
    nothing (suc n) zero = refl
    nothing (suc n) (suc b) = refl
three_parts (x ∷ xs) (suc f) zero up = absurd (omega (arith, up))
three_parts (x ∷ xs) (suc f) (suc b) up =
    let same_many : b - f ≡ suc b - suc f = omega arith in
    subst (λ n. x ∷ xs ≡ x ∷ ((take f xs ++ take n (drop f xs)) ++ drop b xs)) same_many (ap (λ l. x ∷ l) (three_parts xs f b (omega (arith, up))))
