-- What the table of guests has was taught by a frame.
use Rattle.std.proofs.Common.{◌≡◌, ℕ, ◌==◌, not, Bool, true, false, cond, suc, List, [], ◌∷◌, filter, find, bytes_eq, Option, Some, None, option_map, refl, sym, ◌∙◌, ap, subst, arith}
use Rattle.std.specs.Prelude.{All, Contains}
use Rattle.std.specs.List.{list_any}
use Rattle.std.proofs.lemmas.List.Elements.{All-cons, All-contains, All-filter, All-nil, All-take, All-weaker}
use Rattle.std.proofs.lemmas.List.Folds.{list_any-from_Any}
use Rattle.world_face.specs.Journal.{Entry}
use Rattle.net_octets.specs.declared.Endpoint.{Endpoint}
use Rattle.net_octets.specs.declared.Ip4.{Ip4}
use Rattle.net_octets.specs.declared.Mac.{Mac}
use Rattle.slirp_settings.specs.Addresses.{Config, address}
use Rattle.arp_table.specs.Table.{is_for, mac_of}
use Rattle.spec_trace.specs.Guests.{known, with_arrival, with_pair}
use Rattle.spec_trace.specs.Happenings.{Arrival, happens}
use Rattle.spec_trace.specs.Packets.{Pair}
use Rattle.spec_flows.specs.Taught.{is_pair, taught, taught_by, taught_pair}
use Rattle.spec_run.specs.Sending.{is_latest}
use Rattle.spec_run.proofs.Bools.{and_both, equal, same}
use Rattle.flow_splice.specs.Sends.{or_known}
use Rattle.sim_flows.proofs.Options.{none_some, some_same}

same_ip : (a b : Ip4) → a.0 ≡ b.0 → a ≡ b
same_ip a b is = λ i. record { 0 = is i }

-- ---- members of a list

pub at_head : {X : Type 0} (x : X) (xs : List X) → Contains (x ∷ xs) x
at_head x xs = (0, omega arith, refl)

pub behind_head : {X : Type 0} (x y : X) (xs : List X) → Contains xs y → Contains (x ∷ xs) y
behind_head x y xs c = (suc c.0, omega (arith, c.1), c.2)

-- the first that passes a test is one of them, and passes it
pub first_passes : {X : Type 0} (test : X → Bool) (xs : List X) (x : X) → find test xs ≡ Some x → Contains xs x × (test x ≡ true)
first_passes test [] x is = absurd (none_some is)
first_passes test (y ∷ xs) x is = by_test (test y) refl is (first_passes test xs x)
  where
    by_test : (b : Bool) → test y ≡ b → cond b (Some y) (find test xs) ≡ Some x → (find test xs ≡ Some x → Contains xs x × (test x ≡ true)) → Contains (y ∷ xs) x × (test x ≡ true)
    by_test true passes is rest = let one = some_same y x is in (subst (Contains (y ∷ xs)) one (at_head y xs), ap test (sym one) ∙ passes)
    by_test false fails is rest = let later = rest is in (behind_head y x xs later.0, later.1)

-- ---- the table

by_pair : (o : Option Pair) (told pairs : List (Ip4 × Mac)) → All (Contains told) pairs → All (Contains (taught_pair o told)) (with_pair o pairs)
by_pair None told pairs all = all
by_pair (Some pair) told pairs all =
    let one : Ip4 × Mac = (record { 0 = pair.address }, record { 0 = pair.mac }) in
    let P : Ip4 × Mac → Type 0 = Contains (one ∷ told) in
    let others = filter (λ (p : Ip4 × Mac). not (is_for one.0 p)) pairs in
    All-take P 64 (one ∷ others)
    (All-cons P one others (at_head one told) (All-filter (λ (p : Ip4 × Mac). not (is_for one.0 p)) P pairs (All-weaker (Contains told) P (λ p. behind_head one p told) pairs all)))

by_arrival : (o : Option Arrival) (told pairs : List (Ip4 × Mac)) → All (Contains told) pairs → All (Contains (taught_by o told)) (with_arrival o pairs)
by_arrival None told pairs all = all
by_arrival (Some arrival) told pairs all = by_pair arrival.pair told pairs all

-- each pair of it was taught
pub known_is_taught : (config : Config) (past : List Entry) → All (Contains (taught config past)) (known config past)
known_is_taught config [] = All-nil (Contains [])
known_is_taught config (e ∷ past) = by_arrival (happens config past e).came (taught config past) (known config past) (known_is_taught config past)

-- the hardware address that it has for a guest
pub known_was_taught : (config : Config) (past : List Entry) (guest : Ip4) (mac : Mac) → mac_of guest (known config past) ≡ Some mac → Contains (taught config past) (guest, mac)
known_was_taught config past guest mac = by (find (is_for guest) (known config past)) refl
  where
    by : (o : Option (Ip4 × Mac)) → find (is_for guest) (known config past) ≡ o → option_map (λ (p : Ip4 × Mac). p.1) o ≡ Some mac → Contains (taught config past) (guest, mac)
    by None at is = absurd (none_some is)
    by (Some p) at is =
        let found = first_passes (is_for guest) (known config past) p at in
        let ip : p.0 ≡ guest = same_ip p.0 guest (equal p.0.0 guest.0 found.1) in
        let its : p.1 ≡ mac = some_same p.1 mac is in
        subst (Contains (taught config past)) (λ i. (ip i, its i)) (All-contains (Contains (taught config past)) (known config past) p (known_is_taught config past) found.0)

-- ---- as a test

same_octets : (octets : List ℕ) → bytes_eq octets octets ≡ true
same_octets [] = refl
same_octets (x ∷ octets) = and_both (x == x) (bytes_eq octets octets) (same x) (same_octets octets)

pub taught_is_learnt : (config : Config) (past : List Entry) (guest : Ip4) (mac : Mac) → Contains (taught config past) (guest, mac) → list_any (is_pair guest.0 mac.0) (taught config past) ≡ true
taught_is_learnt config past guest mac c =
    list_any-from_Any (is_pair guest.0 mac.0) (taught config past)
    (c.0, (guest, mac), c.1, c.2, and_both (guest.0 == guest.0) (bytes_eq mac.0 mac.0) (same guest.0) (same_octets mac.0))

-- of a guest's end
pub end_is_learnt : (config : Config) (past : List Entry) (guest : Endpoint) (mac : Mac) → Contains (taught config past) (guest.addr, mac) → list_any
    (is_pair (address guest) mac.0) (taught config past) ≡ true
end_is_learnt config past guest mac c = taught_is_learnt config past guest.addr mac c

pub known_is_learnt : (config : Config) (past : List Entry) (guest : Endpoint) (mac : Mac) → mac_of guest.addr (known config past) ≡ Some mac → list_any
    (is_pair (address guest) mac.0) (taught config past) ≡ true
known_is_learnt config past guest mac is = end_is_learnt config past guest mac (known_was_taught config past guest.addr mac is)

-- ---- the one that was learnt last

-- A flow that is told the hardware address that is known of its guest, if one is, has the one that was learnt last.
pub latest_is : (config : Config) (past : List Entry) (guest : Ip4) (had : Option Mac) (to : Mac) → or_known (mac_of guest (known config past)) had ≡ Some to → is_latest to.0
    (mac_of guest (known config past)) ≡ true
latest_is config past guest had to is = by (mac_of guest (known config past)) is
  where
    by : (o : Option Mac) → or_known o had ≡ Some to → is_latest to.0 o ≡ true
    by None is = refl
    by (Some latest) is = ap (λ (m : Mac). bytes_eq to.0 m.0) (some_same latest to is) ∙ same_octets to.0

-- and one from which it was learnt, where what it had was
pub latest_was_taught : (config : Config) (past : List Entry) (guest : Ip4) (had : Option Mac) (to : Mac) → ((m : Mac) → had ≡ Some m → Contains (taught config past) (guest, m)) →
    or_known (mac_of guest (known config past)) had ≡ Some to
    → Contains (taught config past) (guest, to)
latest_was_taught config past guest had to before is = by (mac_of guest (known config past)) refl is
  where
    by : (o : Option Mac) → mac_of guest (known config past) ≡ o → or_known o had ≡ Some to → Contains (taught config past) (guest, to)
    by None none is = before to is
    by (Some latest) some is = known_was_taught config past guest to (some ∙ is)
