-- A list with the link, the listeners, the sockets for datagrams and what flows wait for is what a run waits for.
use Rattle.std.proofs.Common.{◌≡◌, ℕ, suc, ◌<◌, ◌==◌, ◌&&◌, ◌||◌, not, nat_lt, Bool, true, false, List, [], ◌∷◌, ◌++◌, map, Contains, refl, sym, ap, ◌∙◌, subst, arith}
use Rattle.std.proofs.lemmas.Bool.Decides.{nat_tests}
use Rattle.poll_list.specs.Listing.{reads, same_who, writes}
use Rattle.poll_list.specs.declared.Want.{Want}
use Rattle.poll_list.specs.declared.Who.{Who}
use Rattle.poll_list.specs.declared.Who.TheVariants.{Link, Listener, Tcp, Udp}
use Rattle.world_face.specs.Journal.{Entry}
use Rattle.world_face.specs.Frames.{is_blocked}
use Rattle.slirp_settings.specs.Addresses.{Config}
use Rattle.spec_trace.specs.Sockets.{is_among}
use Rattle.spec_run.specs.Laws.{takes_peers}
use Rattle.sim_flows.specs.Wants.{link_want, listener_want, socket_wants, udp_want}
use Rattle.spec_duties.specs.Waiting.{MayBeWritten, WaitsFor, are_in_order, comes_before, comes_first, is_all_sent, is_read, is_written, takes_datagrams, takes_in}

-- ---- the lists

-- each is a flow's
abbrev pub AreOfFlows : List Want → Type 0
AreOfFlows [] = Unit {0}
AreOfFlows (w ∷ wants) = ((n : ℕ) × (w.of ≡ Tcp n)) × AreOfFlows wants

-- numbers that rise
abbrev pub AreOver : ℕ → List ℕ → Type 0
AreOver n [] = Unit {0}
AreOver n (m ∷ ms) = (n < m) × AreOver n ms

abbrev pub DoRise : List ℕ → Type 0
DoRise [] = Unit {0}
DoRise (n ∷ ns) = AreOver n ns × DoRise ns

abbrev pub AreOverBy : ℕ → List Want → Type 0
AreOverBy n [] = Unit {0}
AreOverBy n (w ∷ wants) = ((m : ℕ) → w.of ≡ Tcp m → n < m) × AreOverBy n wants

abbrev pub DoRiseBy : List Want → Type 0
DoRiseBy [] = Unit {0}
DoRiseBy (w ∷ wants) = ((m : ℕ) → w.of ≡ Tcp m → AreOverBy m wants) × DoRiseBy wants

-- ---- what is read and written of lists

or_assoc : (a b c : Bool) → ((a || b) || c) ≡ (a || (b || c))
or_assoc true b c = refl
or_assoc false b c = refl

or_none : (b : Bool) → (b || false) ≡ b
or_none true = refl
or_none false = refl

reads_both : (who : Who) (xs ys : List Want) → reads who (xs ++ ys) ≡ (reads who xs || reads who ys)
reads_both who [] ys = refl
reads_both who (x ∷ xs) ys = ap (λ b. (same_who who x.of && x.read) || b) (reads_both who xs ys) ∙ sym (or_assoc (same_who who x.of && x.read) (reads who xs) (reads who ys))

writes_both : (who : Who) (xs ys : List Want) → writes who (xs ++ ys) ≡ (writes who xs || writes who ys)
writes_both who [] ys = refl
writes_both who (x ∷ xs) ys = ap (λ b. (same_who who x.of && x.write) || b) (writes_both who xs ys) ∙ sym (or_assoc (same_who who x.of && x.write) (writes who xs) (writes who ys))

and_none : (b : Bool) → (b && false) ≡ false
and_none true = refl
and_none false = refl

and_all : (b : Bool) → (b && true) ≡ b
and_all true = refl
and_all false = refl

reads_link : (who : Who) (r w : Bool) → reads who (link_want r w) ≡ (same_who who Link && r)
reads_link who true w = or_none (same_who who Link && true)
reads_link who false true = or_none (same_who who Link && false)
reads_link who false false = sym (and_none (same_who who Link))

writes_link : (who : Who) (r w : Bool) → writes who (link_want r w) ≡ (same_who who Link && w)
writes_link who true w = or_none (same_who who Link && w)
writes_link who false true = or_none (same_who who Link && true)
writes_link who false false = sym (and_none (same_who who Link))

-- whether it is the socket of one of these
abbrev pub is_socket : Who → List ℕ → Bool
is_socket Link ns = false
is_socket (Listener n) ns = false
is_socket (Udp n) ns = is_among n ns
is_socket (Tcp n) ns = false

reads_map : (who : Who) (ns : List ℕ) → reads who (map udp_want ns) ≡ is_socket who ns
reads_map Link [] = refl
reads_map (Listener n) [] = refl
reads_map (Udp n) [] = refl
reads_map (Tcp n) [] = refl
reads_map Link (m ∷ ns) = reads_map Link ns
reads_map (Listener n) (m ∷ ns) = reads_map (Listener n) ns
reads_map (Udp n) (m ∷ ns) = ap (λ b. b || reads (Udp n) (map udp_want ns)) (and_all (n == m)) ∙ ap (λ b. (n == m) || b) (reads_map (Udp n) ns)
reads_map (Tcp n) (m ∷ ns) = reads_map (Tcp n) ns

reads_sockets : (who : Who) (r : Bool) (ns : List ℕ) → reads who (socket_wants r ns) ≡ (r && is_socket who ns)
reads_sockets who true ns = reads_map who ns
reads_sockets who false ns = refl

writes_map : (who : Who) (ns : List ℕ) → writes who (map udp_want ns) ≡ false
writes_map who [] = refl
writes_map who (m ∷ ns) = ap (λ b. b || writes who (map udp_want ns)) (and_none (same_who who (Udp m))) ∙ writes_map who ns

writes_sockets : (who : Who) (r : Bool) (ns : List ℕ) → writes who (socket_wants r ns) ≡ false
writes_sockets who true ns = writes_map who ns
writes_sockets who false ns = refl

-- whether it is the listener of one of these
abbrev pub is_listener : Who → List ℕ → Bool
is_listener Link ns = false
is_listener (Listener n) ns = is_among n ns
is_listener (Udp n) ns = false
is_listener (Tcp n) ns = false

reads_listeners : (who : Who) (ns : List ℕ) → reads who (map listener_want ns) ≡ is_listener who ns
reads_listeners Link [] = refl
reads_listeners (Listener n) [] = refl
reads_listeners (Udp n) [] = refl
reads_listeners (Tcp n) [] = refl
reads_listeners Link (m ∷ ns) = reads_listeners Link ns
reads_listeners (Listener n) (m ∷ ns) = ap (λ b. b || reads (Listener n) (map listener_want ns)) (and_all (n == m)) ∙ ap (λ b. (n == m) || b) (reads_listeners (Listener n) ns)
reads_listeners (Udp n) (m ∷ ns) = reads_listeners (Udp n) ns
reads_listeners (Tcp n) (m ∷ ns) = reads_listeners (Tcp n) ns

writes_listeners : (who : Who) (ns : List ℕ) → writes who (map listener_want ns) ≡ false
writes_listeners who [] = refl
writes_listeners who (m ∷ ns) = ap (λ b. b || writes who (map listener_want ns)) (and_none (same_who who (Listener m))) ∙ writes_listeners who ns

-- of flows nothing else is waited for
abbrev pub is_flow : Who → Bool
is_flow Link = false
is_flow (Listener n) = false
is_flow (Udp n) = false
is_flow (Tcp n) = true

no_other : (who : Who) (n : ℕ) → is_flow who ≡ false → same_who who (Tcp n) ≡ false
no_other Link n is = refl
no_other (Listener m) n is = refl
no_other (Udp m) n is = refl
no_other (Tcp m) n is = absurd cc

reads_flows : (who : Who) (wants : List Want) → is_flow who ≡ false → AreOfFlows wants → reads who wants ≡ false
reads_flows who [] other are = refl
reads_flows who (w ∷ wants) other are =
    let none : same_who who w.of ≡ false = ap (same_who who) are.0.1 ∙ no_other who are.0.0 other in
    rw none (reads_flows who wants other are.1)

writes_flows : (who : Who) (wants : List Want) → is_flow who ≡ false → AreOfFlows wants → writes who wants ≡ false
writes_flows who [] other are = refl
writes_flows who (w ∷ wants) other are =
    let none : same_who who w.of ≡ false = ap (same_who who) are.0.1 ∙ no_other who are.0.0 other in
    rw none (writes_flows who wants other are.1)

-- those of a list of which each that it has is a flow's
pub of_flows : (wants : List Want) → ((w : Want) → Contains wants w → (n : ℕ) × (w.of ≡ Tcp n)) → AreOfFlows wants
of_flows [] only = tt
of_flows (w ∷ wants) only = (only w (0, omega arith, refl), of_flows wants (λ v has. only v (suc has.0, (let low = has.1 in omega (arith, low)), has.2)))

-- ---- their order

both : (a b : Bool) → a ≡ true → b ≡ true → (a && b) ≡ true
both true true one two = refl
both true false one two = absurd cc
both false b one two = absurd cc

before_flow : (n : ℕ) (w : Who) → (m : ℕ) → w ≡ Tcp m → comes_before (Udp n) w ≡ true
before_flow n w m is = subst (λ (x : Who). comes_before (Udp n) x ≡ true) (sym is) refl

link_first : (wants : List Want) → AreOfFlows wants → comes_first Link wants ≡ true
link_first [] are = refl
link_first (w ∷ wants) are = both (comes_before Link w.of) (comes_first Link wants) (subst (λ (x : Who). comes_before Link x ≡ true) (sym are.0.1) refl) (link_first wants are.1)

link_before : (ns : List ℕ) (wants : List Want) → AreOfFlows wants → comes_first Link (map udp_want ns ++ wants) ≡ true
link_before [] wants are = link_first wants are
link_before (n ∷ ns) wants are = link_before ns wants are

socket_first : (n : ℕ) (wants : List Want) → AreOfFlows wants → comes_first (Udp n) wants ≡ true
socket_first n [] are = refl
socket_first n (w ∷ wants) are = both (comes_before (Udp n) w.of) (comes_first (Udp n) wants) (before_flow n w.of are.0.0 are.0.1) (socket_first n wants are.1)

socket_before : (n : ℕ) (ns : List ℕ) (wants : List Want) → AreOver n ns → AreOfFlows wants → comes_first (Udp n) (map udp_want ns ++ wants) ≡ true
socket_before n [] wants over are = socket_first n wants are
socket_before n (m ∷ ns) wants over are =
    let low : nat_lt n m ≡ true = let one = over.0 in grind (arith, nat_tests, one) in
    both (nat_lt n m) (comes_first (Udp n) (map udp_want ns ++ wants)) low (socket_before n ns wants over.1 are)

flow_before : (n : ℕ) (wants : List Want) → AreOverBy n wants → AreOfFlows wants → comes_first (Tcp n) wants ≡ true
flow_before n [] over are = refl
flow_before n (w ∷ wants) over are =
    let low : nat_lt n are.0.0 ≡ true = let one = over.0 are.0.0 are.0.1 in grind (arith, nat_tests, one) in
    both (comes_before (Tcp n) w.of) (comes_first (Tcp n) wants) (subst (λ (x : Who). comes_before (Tcp n) x ≡ true) (sym are.0.1) low) (flow_before n wants over.1 are.1)

flows_in_order : (wants : List Want) → DoRiseBy wants → AreOfFlows wants → are_in_order wants ≡ true
flows_in_order [] rise are = refl
flows_in_order (w ∷ wants) rise are =
    both (comes_first w.of wants) (are_in_order wants) (subst (λ (x : Who). comes_first x wants ≡ true) (sym are.0.1) (flow_before are.0.0 wants (rise.0 are.0.0 are.0.1) are.1))
    (flows_in_order wants rise.1 are.1)

sockets_in_order : (ns : List ℕ) (wants : List Want) → DoRise ns → DoRiseBy wants → AreOfFlows wants → are_in_order (map udp_want ns ++ wants) ≡ true
sockets_in_order [] wants rise rise_by are = flows_in_order wants rise_by are
sockets_in_order (n ∷ ns) wants rise rise_by are =
    both (comes_first (Udp n) (map udp_want ns ++ wants)) (are_in_order (map udp_want ns ++ wants)) (socket_before n ns wants rise.0 are) (sockets_in_order ns wants rise.1 rise_by are)

wanted_in_order : (r : Bool) (ns : List ℕ) (wants : List Want) → DoRise ns → DoRiseBy wants → AreOfFlows wants → (are_in_order (socket_wants r ns ++ wants) ≡ true) ×
    (comes_first Link (socket_wants r ns ++ wants) ≡ true)
wanted_in_order true ns wants rise rise_by are = (sockets_in_order ns wants rise rise_by are, link_before ns wants are)
wanted_in_order false ns wants rise rise_by are = (flows_in_order wants rise_by are, link_first wants are)

listener_first : (n : ℕ) (wants : List Want) → AreOfFlows wants → comes_first (Listener n) wants ≡ true
listener_first n [] are = refl
listener_first n (w ∷ wants) are =
    both (comes_before (Listener n) w.of) (comes_first (Listener n) wants) (subst (λ (x : Who). comes_before (Listener n) x ≡ true) (sym are.0.1) refl) (listener_first n wants are.1)

listener_before : (n : ℕ) (ns : List ℕ) (wants : List Want) → AreOfFlows wants → comes_first (Listener n) (map udp_want ns ++ wants) ≡ true
listener_before n [] wants are = listener_first n wants are
listener_before n (m ∷ ns) wants are = listener_before n ns wants are

listener_before_wanted : (n : ℕ) (r : Bool) (ns : List ℕ) (wants : List Want) → AreOfFlows wants → comes_first (Listener n) (socket_wants r ns ++ wants) ≡ true
listener_before_wanted n true ns wants are = listener_before n ns wants are
listener_before_wanted n false ns wants are = listener_first n wants are

listener_over : (n : ℕ) (ls : List ℕ) (rest : List Want) → AreOver n ls → comes_first (Listener n) rest ≡ true → comes_first (Listener n) (map listener_want ls ++ rest) ≡ true
listener_over n [] rest over first = first
listener_over n (m ∷ ls) rest over first =
    let low : nat_lt n m ≡ true = let one = over.0 in grind (arith, nat_tests, one) in
    both (nat_lt n m) (comes_first (Listener n) (map listener_want ls ++ rest)) low (listener_over n ls rest over.1 first)

listeners_in_order : (ls : List ℕ) (rest : List Want) → DoRise ls → ((n : ℕ) → comes_first (Listener n) rest ≡ true) → are_in_order rest ≡ true → are_in_order (map listener_want ls ++ rest) ≡ true
listeners_in_order [] rest rise first order = order
listeners_in_order (n ∷ ls) rest rise first order =
    both (comes_first (Listener n) (map listener_want ls ++ rest)) (are_in_order (map listener_want ls ++ rest)) (listener_over n ls rest rise.0 (first n))
    (listeners_in_order ls rest rise.1 first order)

link_over : (ls : List ℕ) (rest : List Want) → comes_first Link rest ≡ true → comes_first Link (map listener_want ls ++ rest) ≡ true
link_over [] rest first = first
link_over (n ∷ ls) rest first = link_over ls rest first

regrouped : (ls : List ℕ) (some more : List Want) → (map listener_want ls ++ some) ++ more ≡ map listener_want ls ++ (some ++ more)
regrouped [] some more = refl
regrouped (n ∷ ls) some more = ap (λ (l : List Want). listener_want n ∷ l) (regrouped ls some more)

behind_link : (r : Bool) (ls ns : List ℕ) (wants : List Want) → DoRise ls → DoRise ns → DoRiseBy wants → AreOfFlows wants
    → (are_in_order ((map listener_want ls ++ socket_wants r ns) ++ wants) ≡ true) × (comes_first Link ((map listener_want ls ++ socket_wants r ns) ++ wants) ≡ true)
behind_link r ls ns wants rise_first rise rise_by are =
    let two = wanted_in_order r ns wants rise rise_by are in
    let same = sym (regrouped ls (socket_wants r ns) wants) in (
      subst (λ (l : List Want). are_in_order l ≡ true) same (listeners_in_order ls (socket_wants r ns ++ wants) rise_first (λ n. listener_before_wanted n r ns wants are) two.0),
      subst (λ (l : List Want). comes_first Link l ≡ true) same (link_over ls (socket_wants r ns ++ wants) two.1),
    )

all_in_order : (r w : Bool) (ls ns : List ℕ) (wants : List Want) → DoRise ls → DoRise ns → DoRiseBy wants → AreOfFlows wants
    → are_in_order (((link_want r w ++ map listener_want ls) ++ socket_wants r ns) ++ wants) ≡ true
all_in_order true w ls ns wants rise_first rise rise_by are =
    let two = behind_link true ls ns wants rise_first rise rise_by are in
    both (comes_first Link ((map listener_want ls ++ socket_wants true ns) ++ wants)) (are_in_order ((map listener_want ls ++ socket_wants true ns) ++ wants)) two.1 two.0
all_in_order false true ls ns wants rise_first rise rise_by are =
    let two = behind_link false ls ns wants rise_first rise rise_by are in
    both (comes_first Link ((map listener_want ls ++ socket_wants false ns) ++ wants)) (are_in_order ((map listener_want ls ++ socket_wants false ns) ++ wants)) two.1 two.0
all_in_order false false ls ns wants rise_first rise rise_by are = (behind_link false ls ns wants rise_first rise rise_by are).0

-- ---- all together

module _ (config : Config) (past : List Entry) (settled blocked : Bool) (listeners sockets : List ℕ) (flows : List Want) (blocked_is : is_blocked past ≡ blocked)
    (out_is : is_all_sent config past ≡ settled)
    (quiet : blocked ≡ false → settled ≡ true) (listeners_are : (n : ℕ) → takes_peers config past n ≡ is_among n listeners) (sockets_are : (n : ℕ) → takes_datagrams past n ≡ is_among n sockets)
    (of_flow : AreOfFlows flows) (to_read : (n : ℕ) → reads (Tcp n) flows ≡ is_read config past (Tcp n)) (to_write : (n : ℕ) → is_written config past (Tcp n) ≡ true → writes (Tcp n) flows ≡ true)
    (only_to_write : (n : ℕ) → writes (Tcp n) flows ≡ true → MayBeWritten config past (Tcp n)) (rise_first : DoRise listeners) (rise : DoRise sockets) (rise_by : DoRiseBy flows) where
  abbrev pub wants : List Want
  wants = ((link_want settled blocked ++ map listener_want listeners) ++ socket_wants settled sockets) ++ flows

  takes_is : takes_in config past ≡ settled
  takes_is = ap (λ b. not b || is_all_sent config past) blocked_is ∙ ap (λ b. not blocked || b) out_is ∙ by blocked quiet
    where
      by : (b : Bool) → (b ≡ false → settled ≡ true) → (not b || settled) ≡ settled
      by true q = refl
      by false q = sym (q refl)

  parts_read : (who : Who) → reads who wants ≡ ((((same_who who Link && settled) || is_listener who listeners) || (settled && is_socket who sockets)) || reads who flows)
  parts_read who =
      reads_both who ((link_want settled blocked ++ map listener_want listeners) ++ socket_wants settled sockets) flows
      ∙ ap (λ b. b || reads who flows) (reads_both who (link_want settled blocked ++ map listener_want listeners) (socket_wants settled sockets)
      ∙ ap (λ b. b || reads who (socket_wants settled sockets)) (reads_both who (link_want settled blocked) (map listener_want listeners)
      ∙ ap (λ b. b || reads who (map listener_want listeners)) (reads_link who settled blocked) ∙ ap (λ b. (same_who who Link && settled) || b) (reads_listeners who listeners))
      ∙ ap (λ b. ((same_who who Link && settled) || is_listener who listeners) || b) (reads_sockets who settled sockets))

  parts_written : (who : Who) → writes who wants ≡ ((((same_who who Link && blocked) || false) || false) || writes who flows)
  parts_written who =
      writes_both who ((link_want settled blocked ++ map listener_want listeners) ++ socket_wants settled sockets) flows
      ∙ ap (λ b. b || writes who flows) (writes_both who (link_want settled blocked ++ map listener_want listeners) (socket_wants settled sockets)
      ∙ ap (λ b. b || writes who (socket_wants settled sockets)) (writes_both who (link_want settled blocked) (map listener_want listeners)
      ∙ ap (λ b. b || writes who (map listener_want listeners)) (writes_link who settled blocked) ∙ ap (λ b. (same_who who Link && blocked) || b) (writes_listeners who listeners))
      ∙ ap (λ b. ((same_who who Link && blocked) || false) || b) (writes_sockets who settled sockets))

  sides : (a b : Bool) → (((a || false) || (b && false)) || false) ≡ a
  sides true b = refl
  sides false true = refl
  sides false false = refl

  turned : (a b : Bool) → (((false || false) || (a && b)) || false) ≡ (b && a)
  turned true true = refl
  turned true false = refl
  turned false true = refl
  turned false false = refl

  listened : (a b : Bool) → (((false || a) || (b && false)) || false) ≡ a
  listened true b = refl
  listened false true = refl
  listened false false = refl

  last : (a b : Bool) → (((false || false) || (a && false)) || b) ≡ b
  last true b = refl
  last false b = refl

  read_all : (who : Who) → reads who wants ≡ is_read config past who
  read_all Link = parts_read Link ∙ ap (λ b. ((settled || false) || (settled && false)) || b) (reads_flows Link flows refl of_flow) ∙ sides settled settled ∙ sym takes_is
  read_all (Listener n) =
      parts_read (Listener n) ∙ ap (λ b. ((false || is_among n listeners) || (settled && false)) || b) (reads_flows (Listener n) flows refl of_flow) ∙ listened
      (is_among n listeners) settled ∙ sym (listeners_are n)
  read_all (Udp n) =
      parts_read (Udp n) ∙ ap (λ b. ((false || false) || (settled && is_among n sockets)) || b) (reads_flows (Udp n) flows refl of_flow) ∙ turned settled (is_among n sockets)
      ∙ ap (λ b. b && settled) (sym (sockets_are n)) ∙ ap (λ b. takes_datagrams past n && b) (sym takes_is)
  read_all (Tcp n) = parts_read (Tcp n) ∙ last settled (reads (Tcp n) flows) ∙ to_read n

  no_link : (b : Bool) → (((b || false) || false) || false) ≡ b
  no_link true = refl
  no_link false = refl

  write_all : (who : Who) → is_written config past who ≡ true → writes who wants ≡ true
  write_all Link is = parts_written Link ∙ ap (λ b. ((blocked || false) || false) || b) (writes_flows Link flows refl of_flow) ∙ no_link blocked ∙ sym blocked_is ∙ is
  write_all (Listener n) is = absurd cc
  write_all (Udp n) is = absurd cc
  write_all (Tcp n) is = parts_written (Tcp n) ∙ to_write n is

  may_all : (who : Who) → writes who wants ≡ true → MayBeWritten config past who
  may_all Link is = blocked_is ∙ sym (parts_written Link ∙ ap (λ b. ((blocked || false) || false) || b) (writes_flows Link flows refl of_flow) ∙ no_link blocked) ∙ is
  may_all (Listener n) is = not_both (parts_written (Listener n) ∙ writes_flows (Listener n) flows refl of_flow) is
    where
      not_both : {b : Bool} → b ≡ false → b ≡ true → ⊥
      not_both {b} off on = cc
  may_all (Udp n) is = not_both (parts_written (Udp n) ∙ writes_flows (Udp n) flows refl of_flow) is
    where
      not_both : {b : Bool} → b ≡ false → b ≡ true → ⊥
      not_both {b} off on = cc
  may_all (Tcp n) is = only_to_write n (sym (parts_written (Tcp n)) ∙ is)

  pub all_waited_for : WaitsFor config past wants
  all_waited_for = record { to_read = read_all; to_write = write_all; only_to_write = may_all; order = all_in_order settled blocked listeners sockets flows rise_first rise rise_by of_flow }
