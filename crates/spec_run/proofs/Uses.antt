-- Lists of associations in the order of their last use.
use Rattle.std.proofs.Common.{◌≡◌, ℕ, ◌<◌, ◌==◌, ◌&&◌, not, Bool, true, false, List, [], ◌∷◌, ◌++◌, length, find, Option, Some, None, option_map, if◌then◌else◌, refl, sym, ◌∙◌, ap, arith}
use Rattle.world_face.specs.Journal.{Entry, Connect, Listen, Accept, UdpOpen, UdpSend}
use Rattle.world_face.specs.declared.Accepted.{Accepted}
use Rattle.world_face.specs.declared.Accepted.TheVariants.{From as FromPeer, NotYet as NoPeer, Failed as AcceptFailed}
use Rattle.net_octets.specs.declared.Endpoint.{Endpoint}
use Rattle.slirp_settings.specs.Addresses.{Config, address}
use Rattle.slirp_settings.specs.Classes.{same_endpoint}
use Rattle.rules_udp.specs.Associations.{is_of, moved_last, socket_of, without}
use Rattle.rules_udp.specs.declared.Association.{Association}
use Rattle.spec_trace.specs.Moments.{moment}
use Rattle.spec_trace.specs.Sockets.{next_number, number_for_peer}
use Rattle.spec_run.specs.Ports.{is_used_by, last_use, mac_by, mac_of, opened_by, opened_for, port_for, used_at}
use Rattle.spec_run.proofs.Bools.{equal, turned}

-- what the trace says of the socket of an association
pub record Kept (config : Config) (past : List Entry) (a : Association) : Type 0 where
  pub guest : opened_for config a.number past ≡ Some a.guest
  pub mac : mac_of config a.number past ≡ Some a.mac.0
  pub used : used_at a.number past ≡ a.used
  pub placed : last_use a.number past < length past
  pub drawn : a.number < next_number past

-- one was used before the other, and is for another port
pub record Before (past : List Entry) (a b : Association) : Type 0 where
  pub sooner : last_use a.number past < last_use b.number past
  pub guests : same_endpoint a.guest b.guest ≡ false

abbrev pub AreKept : Config → List Entry → List Association → Type 0
AreKept config past [] = Unit {0}
AreKept config past (a ∷ list) = Kept config past a × AreKept config past list

abbrev pub BeforeAll : List Entry → Association → List Association → Type 0
BeforeAll past a [] = Unit {0}
BeforeAll past a (b ∷ list) = Before past a b × BeforeAll past a list

abbrev pub AllBefore : List Entry → List Association → Association → Type 0
AllBefore past [] b = Unit {0}
AllBefore past (a ∷ list) b = Before past a b × AllBefore past list b

abbrev pub InOrder : List Entry → List Association → Type 0
InOrder past [] = Unit {0}
InOrder past (a ∷ list) = BeforeAll past a list × InOrder past list

-- none of them is used by an entry
abbrev pub AreUnused : Entry → List Association → Type 0
AreUnused e [] = Unit {0}
AreUnused e (a ∷ list) = (is_used_by a.number e ≡ false) × AreUnused e list

-- none of them is for this port
abbrev pub NoneOf : Endpoint → List Association → Type 0
NoneOf guest [] = Unit {0}
NoneOf guest (a ∷ list) = (is_of guest a ≡ false) × NoneOf guest list

-- ---- an entry that doesn't use a socket

opened_unused : (n : ℕ) (e : Entry) (for : ℕ → Option Endpoint) (before : Option Endpoint) → is_used_by n e ≡ false → opened_by n e for before ≡ before
opened_unused n (UdpOpen s at answer) for before is = ap (λ (b : Bool). if b then for at.port else before) is
opened_unused n _ for before is = refl

mac_unused : (n : ℕ) (e : Entry) (mac before : Option (List ℕ)) → is_used_by n e ≡ false → mac_by n e mac before ≡ before
mac_unused n (UdpOpen s at answer) mac before is = ap (λ (b : Bool). if b then mac else before) is
mac_unused n (UdpSend s to octets answer) mac before is = ap (λ (b : Bool). if b then mac else before) is
mac_unused n _ mac before is = refl

pub port_unused : (config : Config) (e : Entry) (past : List Entry) (n : ℕ) → is_used_by n e ≡ false → opened_for config n (e ∷ past) ≡ opened_for config n past
port_unused config e past n is = opened_unused n e (λ port. port_for config port n past) (opened_for config n past) is

pub use_unused : (e : Entry) (past : List Entry) (n : ℕ) → is_used_by n e ≡ false → last_use n (e ∷ past) ≡ last_use n past
use_unused e past n is = ap (λ (b : Bool). if b then length past else last_use n past) is

pub at_unused : (e : Entry) (past : List Entry) (n : ℕ) → is_used_by n e ≡ false → used_at n (e ∷ past) ≡ used_at n past
at_unused e past n is = ap (λ (b : Bool). if b then moment past else used_at n past) is

drawn_for : (answer : Accepted) (n m : ℕ) → n < m → n < number_for_peer answer m
drawn_for (FromPeer peer) n m is = omega arith
drawn_for NoPeer n m is = is
drawn_for AcceptFailed n m is = is

pub drawn_on : (e : Entry) (past : List Entry) (n : ℕ) → n < next_number past → n < next_number (e ∷ past)
drawn_on (Connect socket to answer) past n is = omega arith
drawn_on (Listen socket at answer) past n is = omega arith
drawn_on (UdpOpen socket at answer) past n is = omega arith
drawn_on (Accept listener socket answer) past n is = drawn_for answer n (next_number past) is
drawn_on _ past n is = is

pub kept_on : (config : Config) (e : Entry) (past : List Entry) (a : Association) → is_used_by a.number e ≡ false → Kept config past a → Kept config (e ∷ past) a
kept_on config e past a unused kept = record {
  guest = port_unused config e past a.number unused ∙ kept.guest;
  mac = mac_unused a.number e _ (mac_of config a.number past) unused ∙ kept.mac;
  used = at_unused e past a.number unused ∙ kept.used;
  placed = (let before = kept.placed in let same = use_unused e past a.number unused in omega (arith, before, same));
  drawn = drawn_on e past a.number kept.drawn;
}

pub before_on : (e : Entry) (past : List Entry) (a b : Association) → is_used_by a.number e ≡ false → is_used_by b.number e ≡ false → Before past a b → Before (e ∷ past) a b
before_on e past a b first second is = record {
  sooner = (let before = is.sooner in let one = use_unused e past a.number first in let other = use_unused e past b.number second in omega (arith, before, one, other));
  guests = is.guests;
}

pub are_kept_on : (config : Config) (e : Entry) (past : List Entry) (list : List Association) → AreUnused e list → AreKept config past list → AreKept config (e ∷ past) list
are_kept_on config e past [] unused kept = tt
are_kept_on config e past (a ∷ list) unused kept = (kept_on config e past a unused.0 kept.0, are_kept_on config e past list unused.1 kept.1)

before_all_on : (e : Entry) (past : List Entry) (a : Association) (list : List Association) → is_used_by a.number e ≡ false → AreUnused e list → BeforeAll past a list → BeforeAll (e ∷ past) a list
before_all_on e past a [] first unused is = tt
before_all_on e past a (b ∷ list) first unused is = (before_on e past a b first unused.0 is.0, before_all_on e past a list first unused.1 is.1)

pub in_order_on : (e : Entry) (past : List Entry) (list : List Association) → AreUnused e list → InOrder past list → InOrder (e ∷ past) list
in_order_on e past [] unused is = tt
in_order_on e past (a ∷ list) unused is = (before_all_on e past a list unused.0 unused.1 is.0, in_order_on e past list unused.1 is.1)

pub all_unused : (e : Entry) (list : List Association) → ((n : ℕ) → is_used_by n e ≡ false) → AreUnused e list
all_unused e [] none = tt
all_unused e (a ∷ list) none = (none a.number, all_unused e list none)

-- ---- one more

pub kept_last : (config : Config) (past : List Entry) (list : List Association) (z : Association) → AreKept config past list → Kept config past z → AreKept config past (list ++ (z ∷ []))
kept_last config past [] z kept last = (last, tt)
kept_last config past (a ∷ list) z kept last = (kept.0, kept_last config past list z kept.1 last)

before_last : (past : List Entry) (a : Association) (list : List Association) (z : Association) → BeforeAll past a list → Before past a z → BeforeAll past a (list ++ (z ∷ []))
before_last past a [] z is last = (last, tt)
before_last past a (b ∷ list) z is last = (is.0, before_last past a list z is.1 last)

pub in_order_last : (past : List Entry) (list : List Association) (z : Association) → InOrder past list → AllBefore past list z → InOrder past (list ++ (z ∷ []))
in_order_last past [] z is all = (tt, tt)
in_order_last past (a ∷ list) z is all = (before_last past a list z is.0 all.0, in_order_last past list z is.1 all.1)

-- ---- one less

pub kept_without : (config : Config) (past : List Entry) (s : ℕ) (list : List Association) → AreKept config past list → AreKept config past (without s list)
kept_without config past s [] kept = tt
kept_without config past s (a ∷ list) kept = by (a.number == s) (kept_without config past s list kept.1)
  where
    by : (t : Bool) → AreKept config past (without s list) → AreKept config past (if not t then a ∷ without s list else without s list)
    by true rest = rest
    by false rest = (kept.0, rest)

before_without : (past : List Entry) (s : ℕ) (x : Association) (list : List Association) → BeforeAll past x list → BeforeAll past x (without s list)
before_without past s x [] is = tt
before_without past s x (a ∷ list) is = by (a.number == s) (before_without past s x list is.1)
  where
    by : (t : Bool) → BeforeAll past x (without s list) → BeforeAll past x (if not t then a ∷ without s list else without s list)
    by true rest = rest
    by false rest = (is.0, rest)

pub in_order_without : (past : List Entry) (s : ℕ) (list : List Association) → InOrder past list → InOrder past (without s list)
in_order_without past s [] is = tt
in_order_without past s (a ∷ list) is = by (a.number == s) (in_order_without past s list is.1)
  where
    by : (t : Bool) → InOrder past (without s list) → InOrder past (if not t then a ∷ without s list else without s list)
    by true rest = rest
    by false rest = (before_without past s a list is.0, rest)

pub none_without : (guest : Endpoint) (s : ℕ) (list : List Association) → NoneOf guest list → NoneOf guest (without s list)
none_without guest s [] none = tt
none_without guest s (a ∷ list) none = by (a.number == s) (none_without guest s list none.1)
  where
    by : (t : Bool) → NoneOf guest (without s list) → NoneOf guest (if not t then a ∷ without s list else without s list)
    by true rest = rest
    by false rest = (none.0, rest)

pub none_of : (guest : Endpoint) (list : List Association) → socket_of guest list ≡ None → NoneOf guest list
none_of guest [] is = tt
none_of guest (a ∷ list) is = by (is_of guest a) refl is (λ rest. none_of guest list rest)
  where
    by : (t : Bool) → is_of guest a ≡ t → option_map (λ (b : Association). b.number) (if t then Some a else find (is_of guest) list) ≡ None →
        (socket_of guest list ≡ None → NoneOf guest list) → NoneOf guest (a ∷ list)
    by true this is rest = cc
    by false this is rest = (this, rest is)

-- ---- one that is used becomes the last

turned_endpoints : (a b : Endpoint) → same_endpoint a b ≡ false → same_endpoint b a ≡ false
turned_endpoints a b is = by (address a == address b) (a.port == b.port) (address b == address a) (b.port == a.port)
    (sym (turned (address a) (address b) (address a == address b) refl)) (sym (turned a.port b.port (a.port == b.port) refl)) is
  where
    by : (p q r s : Bool) → p ≡ r → q ≡ s → (p && q) ≡ false → (r && s) ≡ false
    by p q r s one two is = let all : (p && q) ≡ (r && s) = cc in sym all ∙ is

-- an entry that uses one socket alone, and what becomes of its association
pub record Use (config : Config) (e : Entry) (past : List Entry) (change : Association → Association) (s : ℕ) : Type 0 where
  pub number : (a : Association) → (change a).number ≡ a.number
  pub guest : (a : Association) → (change a).guest ≡ a.guest
  pub last : last_use s (e ∷ past) ≡ length past
  pub kept : (a : Association) → a.number ≡ s → Kept config past a → Kept config (e ∷ past) (change a)
  pub others : (n : ℕ) → (n == s) ≡ false → is_used_by n e ≡ false

module _ (config : Config) (e : Entry) (past : List Entry) (change : Association → Association) (s : ℕ) (u : Use config e past change s) where
  -- it stands once in the list
  rest_unused : (a : Association) (list : List Association) → a.number ≡ s → BeforeAll past a list → AreUnused e list
  rest_unused a [] this is = tt
  rest_unused a (b ∷ list) this is = (u.others b.number (by (b.number == s) refl), rest_unused a list this is.1)
    where
      by : (t : Bool) → (b.number == s) ≡ t → t ≡ false
      by true same = absurd (let one : b.number ≡ a.number = equal b.number s same ∙ sym this in let sooner = is.0.sooner in let uses = ap (λ n. last_use n past) one in omega (arith, sooner, uses))
      by false same = refl

  pub kept_moved : (list : List Association) → AreKept config past list → InOrder past list → AreKept config (e ∷ past) (moved_last change s list)
  kept_moved [] kept order = tt
  kept_moved (a ∷ list) kept order = by (a.number == s) refl (kept_moved list kept.1 order.1)
    where
      by : (t : Bool) → (a.number == s) ≡ t → AreKept config (e ∷ past) (moved_last change s list) → AreKept config (e ∷ past) (if t then list ++ (change a ∷ []) else a ∷ moved_last change s list)
      by true this more =
          let one = equal a.number s this in
          kept_last config (e ∷ past) list (change a) (are_kept_on config e past list (rest_unused a list one order.0) kept.1) (u.kept a one kept.0)
      by false this more = (kept_on config e past a (u.others a.number this) kept.0, more)

  -- what was used before is before it
  before_changed : (b z : Association) → z.number ≡ s → is_used_by b.number e ≡ false → Kept config past b → same_endpoint b.guest z.guest ≡ false → Before (e ∷ past) b (change z)
  before_changed b z this unused kept other = record {
    sooner = (let placed = kept.placed in let same = use_unused e past b.number unused in let now = ap (λ n. last_use n (e ∷ past)) (u.number z ∙ this) ∙ u.last in omega (arith, placed, same, now));
    guests = ap (same_endpoint b.guest) (u.guest z) ∙ other;
  }

  all_before_changed : (list : List Association) (z : Association) → z.number ≡ s → AreUnused e list → AreKept config past list → BeforeAll past z list → AllBefore (e ∷ past) list (change z)
  all_before_changed [] z this unused kept is = tt
  all_before_changed (b ∷ list) z this unused kept is = (before_changed b z this unused.0 kept.0 (turned_endpoints z.guest b.guest is.0.guests), all_before_changed list z this unused.1 kept.1 is.1)

  before_moved : (x : Association) (list : List Association) → is_used_by x.number e ≡ false → Kept config past x → InOrder past list → BeforeAll past x list → BeforeAll
      (e ∷ past) x (moved_last change s list)
  before_moved x [] unused kept order is = tt
  before_moved x (b ∷ list) unused kept order is = by (b.number == s) refl (before_moved x list unused kept order.1 is.1)
    where
      by : (t : Bool) → (b.number == s) ≡ t → BeforeAll (e ∷ past) x (moved_last change s list) → BeforeAll (e ∷ past) x (if t then list ++ (change b ∷ []) else b ∷ moved_last change s list)
      by true this more =
          let one = equal b.number s this in
          before_last (e ∷ past) x list (change b) (before_all_on e past x list unused (rest_unused b list one order.0) is.1) (before_changed x b one unused kept is.0.guests)
      by false this more = (before_on e past x b unused (u.others b.number this) is.0, more)

  pub in_order_moved : (list : List Association) → AreKept config past list → InOrder past list → InOrder (e ∷ past) (moved_last change s list)
  in_order_moved [] kept order = tt
  in_order_moved (a ∷ list) kept order = by (a.number == s) refl (in_order_moved list kept.1 order.1)
    where
      by : (t : Bool) → (a.number == s) ≡ t → InOrder (e ∷ past) (moved_last change s list) → InOrder (e ∷ past) (if t then list ++ (change a ∷ []) else a ∷ moved_last change s list)
      by true this more =
          let one = equal a.number s this in
          let unused = rest_unused a list one order.0 in
          in_order_last (e ∷ past) list (change a) (in_order_on e past list unused order.1) (all_before_changed list a one unused kept.1 order.0)
      by false this more = (before_moved a list (u.others a.number this) kept.0 order.1 order.0, more)
