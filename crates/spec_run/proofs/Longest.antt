-- Sockets of the trace: the one for a port, the longest unused, and how many there are.
use Rattle.std.proofs.Common.{◌≡◌, ℕ, ◌<◌, ◌≤◌, ◌==◌, ◌&&◌, ◌||◌, not, nat_lt, Bool, true, false, List, [], ◌∷◌, ◌++◌, length, filter, find, Option, Some, None, if◌then◌else◌, refl, sym}
use Rattle.std.proofs.Common.{◌∙◌, ap, subst, arith}
use Rattle.std.proofs.lemmas.Bool.Decides.{nat_tests}
use Rattle.world_face.specs.Journal.{Entry, Connect, Listen, Accept, Close, UdpOpen, call_of}
use Rattle.world_face.specs.declared.Accepted.{Accepted}
use Rattle.world_face.specs.declared.Accepted.TheVariants.{From, NotYet as NotYetAccepted, Failed as AcceptFailed}
use Rattle.world_face.specs.declared.Made.{Made}
use Rattle.world_face.specs.declared.Made.TheVariants.{Done, Failed}
use Rattle.net_octets.specs.declared.Endpoint.{Endpoint}
use Rattle.slirp_settings.specs.Addresses.{Config, address}
use Rattle.slirp_settings.specs.Classes.{same_endpoint}
use Rattle.spec_trace.specs.Sockets.{is_among, next_number, open_sockets, with_made, with_peer}
use Rattle.spec_run.specs.Laws.{May, Lawful}
use Rattle.spec_run.specs.Ports.{associations_open, earlier, is_port, last_use, longest_unused_of, opened_for, socket_for, forward_for, forwards_open}
use Rattle.spec_run.proofs.Bools.{and_both, equal, first_of, second_of, or_second, same, turned, among_last, among_without}
use Rattle.spec_run.proofs.OpenSockets.{next_is_new, peer_next}

pub equal_endpoints : (a b : Endpoint) → same_endpoint a b ≡ true → a ≡ b
equal_endpoints a b is =
    let addr : a.addr.0 ≡ b.addr.0 = equal a.addr.0 b.addr.0 (first_of (a.addr.0 == b.addr.0) (a.port == b.port) is) in
    let port : a.port ≡ b.port = equal a.port b.port (second_of (a.addr.0 == b.addr.0) (a.port == b.port) is) in
    λ i. record { addr = record { 0 = addr i }; port = port i }

pub among_if : (p : ℕ → Bool) (n : ℕ) (ns : List ℕ) → is_among n (filter p ns) ≡ (is_among n ns && p n)
among_if p n [] = refl
among_if p n (x ∷ ns) = by (p x) (n == x) refl refl (among_if p n ns)
  where
    by : (t u : Bool) → p x ≡ t → (n == x) ≡ u → is_among n (filter p ns) ≡ (is_among n ns && p n)
        → is_among n (if t then x ∷ filter p ns else filter p ns) ≡ ((u || is_among n ns) && p n)
    by true true passes this rest = ap (λ b. b || is_among n (filter p ns)) this ∙ sym (ap p (equal n x this) ∙ passes)
    by true false passes this rest = ap (λ b. b || is_among n (filter p ns)) this ∙ rest
    by false true fails this rest = let none : p n ≡ false = ap p (equal n x this) ∙ fails in rest ∙ ap (λ b. is_among n ns && b) none ∙ and_none (is_among n ns) ∙ sym none
      where
        and_none : (b : Bool) → (b && false) ≡ false
        and_none true = refl
        and_none false = refl
    by false false fails this rest = rest

-- ---- lists in which each stands once

abbrev pub Once : List ℕ → Type 0
Once [] = Unit {0}
Once (n ∷ ns) = (is_among n ns ≡ false) × Once ns

no_more : (n : ℕ) (ns : List ℕ) → length (filter (λ s. not (s == n)) ns) ≤ length ns
no_more n [] = omega arith
no_more n (x ∷ ns) = by (x == n) (no_more n ns)
  where
    by : (t : Bool) → length (filter (λ s. not (s == n)) ns) ≤ length ns → length (if not t then x ∷ filter (λ s. not (s == n)) ns else filter (λ s. not (s == n)) ns) ≤ length (x ∷ ns)
    by true rest = omega (arith, rest)
    by false rest = omega (arith, rest)

fewer : (n : ℕ) (ns : List ℕ) → is_among n ns ≡ true → length (filter (λ s. not (s == n)) ns) < length ns
fewer n [] is = cc
fewer n (x ∷ ns) is = by (x == n) refl (λ more. fewer n ns more)
  where
    by : (t : Bool) → (x == n) ≡ t → (is_among n ns ≡ true → length (filter (λ s. not (s == n)) ns) < length ns) → length
        (if not t then x ∷ filter (λ s. not (s == n)) ns else filter (λ s. not (s == n)) ns) < length (x ∷ ns)
    by true this more = omega (arith, no_more n ns)
    by false other more = let rest = more (sym (ap (λ b. b || is_among n ns) (turned x n false other)) ∙ is) in omega (arith, rest)

-- a list in which each stands once is no longer than one that has all of it
pub no_longer : (ns ms : List ℕ) → Once ns → ((n : ℕ) → is_among n ns ≡ true → is_among n ms ≡ true) → length ns ≤ length ms
no_longer [] ms once all = omega arith
no_longer (x ∷ ns) ms once all =
    let less = fewer x ms (all x (ap (λ b. b || is_among x ns) (same x))) in
    let rest = no_longer ns (filter (λ s. not (s == x)) ms) once.1 (λ n among. stays n among) in
    omega (arith, less, rest)
  where
    differs : (n : ℕ) (t : Bool) → (n == x) ≡ t → is_among n ns ≡ true → t ≡ false
    differs n true this among = let twice : is_among n ns ≡ false = subst (λ m. is_among m ns ≡ false) (sym (equal n x this)) once.0 in cc
    differs n false this among = refl

    stays : (n : ℕ) → is_among n ns ≡ true → is_among n (filter (λ s. not (s == x)) ms) ≡ true
    stays n among =
        among_without n x ms ∙ ap (λ b. not b && is_among n ms) (differs n (n == x) refl among) ∙ all n (or_second (n == x) (is_among n ns) among)

-- so it is where some are taken out, and where a new one is added
pub once_if : (p : ℕ → Bool) (ns : List ℕ) → Once ns → Once (filter p ns)
once_if p [] once = tt
once_if p (x ∷ ns) once = by (p x) (once_if p ns once.1)
  where
    none : is_among x (filter p ns) ≡ false
    none = among_if p x ns ∙ ap (λ b. b && p x) once.0

    by : (t : Bool) → Once (filter p ns) → Once (if t then x ∷ filter p ns else filter p ns)
    by true rest = (none, rest)
    by false rest = rest

or_none : (a b : Bool) → a ≡ false → b ≡ false → (a || b) ≡ false
or_none true b one two = cc
or_none false b one two = two

no_or : (a b : Bool) → (a || b) ≡ false → (a ≡ false) × (b ≡ false)
no_or true b is = cc
no_or false b is = (refl, is)

once_last : (n : ℕ) (ns : List ℕ) → is_among n ns ≡ false → Once ns → Once (ns ++ (n ∷ []))
once_last n [] new once = (refl, tt)
once_last n (x ∷ ns) new once =
    let apart = no_or (n == x) (is_among n ns) new in (
      among_last x n ns ∙ or_none (is_among x ns) (x == n) once.0 (turned n x false apart.0),
      once_last n ns apart.1 once.1,
    )

once_made : (answer : Made) (n : ℕ) (ns : List ℕ) → is_among n ns ≡ false → Once ns → Once (with_made answer n ns)
once_made Done n ns new once = once_last n ns new once
once_made Failed n ns new once = once

once_peer : (answer : Accepted) (n : ℕ) (ns : List ℕ) → is_among n ns ≡ false → Once ns → Once (with_peer answer n ns)
once_peer (From peer) n ns new once = once_last n ns new once
once_peer NotYetAccepted n ns new once = once
once_peer AcceptFailed n ns new once = once

once_by : (config : Config) (e : Entry) (past : List Entry) → May config past (call_of e) → is_among (next_number past) (open_sockets past) ≡ false → Once (open_sockets past) →
    Once (open_sockets (e ∷ past))
once_by config (Connect socket to answer) past may new once = once_made answer socket (open_sockets past)
    (ap (λ n. is_among n (open_sockets past)) (equal socket (next_number past) may.socket) ∙ new) once
once_by config (Accept listener socket answer) past may new once =
    once_peer answer socket (open_sockets past) (ap (λ n. is_among n (open_sockets past)) (equal socket (next_number past) (peer_next config past listener socket answer may)) ∙ new) once
once_by config (Listen socket at answer) past may new once = once_made answer socket (open_sockets past)
    (ap (λ n. is_among n (open_sockets past)) (equal socket (next_number past) may.socket) ∙ new) once
once_by config (UdpOpen socket at answer) past may new once = once_made answer socket (open_sockets past)
    (ap (λ n. is_among n (open_sockets past)) (equal socket (next_number past) may.socket) ∙ new) once
once_by config (Close socket) past may new once = once_if (λ s. not (s == socket)) (open_sockets past) once
once_by config _ past may new once = once

-- each open socket stands once
pub once_open : (config : Config) (past : List Entry) → Lawful config past → Once (open_sockets past)
once_open config [] lawful = tt
once_open config (e ∷ past) lawful = once_by config e past lawful.0 (next_is_new config past lawful.1) (once_open config past lawful.1)

-- ---- of a port

pub same_port : (a : Endpoint) → same_endpoint a a ≡ true
same_port a = and_both (address a == address a) (a.port == a.port) (same (address a)) (same a.port)

pub find_some : (p : ℕ → Bool) (ns : List ℕ) (m : ℕ) → find p ns ≡ Some m → (p m ≡ true) × (is_among m ns ≡ true)
find_some p [] m is = cc
find_some p (x ∷ ns) m is = by (p x) refl is (λ more. find_some p ns m more)
  where
    by : (t : Bool) → p x ≡ t → (if t then Some x else find p ns) ≡ Some m → (find p ns ≡ Some m → (p m ≡ true) × (is_among m ns ≡ true)) → (p m ≡ true) × (((m == x) || is_among m ns) ≡ true)
    by true passes is more = let this : x ≡ m = cc in (ap p (sym this) ∙ passes, ap (λ k. (m == k) || is_among m ns) this ∙ ap (λ b. b || is_among m ns) (same m))
    by false passes is more = let rest = more is in (rest.0, or_second (m == x) (is_among m ns) rest.1)

pub find_none : (p : ℕ → Bool) (ns : List ℕ) (m : ℕ) → find p ns ≡ None → is_among m ns ≡ true → p m ≡ false
find_none p [] m is among = cc
find_none p (x ∷ ns) m is among = by (p x) (m == x) refl refl is among (λ none more. find_none p ns m none more)
  where
    by : (t u : Bool) → p x ≡ t → (m == x) ≡ u → (if t then Some x else find p ns) ≡ None → (u || is_among m ns) ≡ true → (find p ns ≡ None → is_among m ns ≡ true → p m ≡ false) → p m ≡ false
    by true u passes this is among more = cc
    by false true passes this is among more = ap p (equal m x this) ∙ passes
    by false false passes this is among more = more is among

-- the socket for a port was opened for it
is_that_port : (guest : Endpoint) (o : Option Endpoint) → is_port guest o ≡ true → o ≡ Some guest
is_that_port guest None is = cc
is_that_port guest (Some port) is = ap Some (equal_endpoints port guest is)

pub found_for : (config : Config) (past : List Entry) (guest : Endpoint) (socket : ℕ) → socket_for config guest past ≡ Some socket → opened_for config socket past ≡ Some guest
found_for config past guest socket is = is_that_port guest (opened_for config socket past) (find_some (λ s. is_port guest (opened_for config s past)) (associations_open config past) socket is).0

-- and so was a port of the host that is given to it
pub given_for : (config : Config) (past : List Entry) (guest : Endpoint) (socket : ℕ) → forward_for config guest past ≡ Some socket → opened_for config socket past ≡ Some guest
given_for config past guest socket is = is_that_port guest (opened_for config socket past) (find_some (λ s. is_port guest (opened_for config s past)) (forwards_open past) socket is).0

-- ---- of the longest unused

pub record LeastOf (past : List Entry) (ns : List ℕ) (m : ℕ) : Type 0 where
  pub among : is_among m ns ≡ true
  pub least : (n : ℕ) → is_among n ns ≡ true → last_use m past ≤ last_use n past

abbrev pub IsLeastOf : List Entry → List ℕ → Option ℕ → Type 0
IsLeastOf past ns None = ns ≡ []
IsLeastOf past ns (Some m) = LeastOf past ns m

least_more : (past : List Entry) (x : ℕ) (ns : List ℕ) (o : Option ℕ) → IsLeastOf past ns o → IsLeastOf past (x ∷ ns) (earlier past x o)
least_more past x ns None none = record { among = ap (λ b. b || is_among x ns) (same x); least = λ n among. alone n (n == x) refl (subst (λ l. ((n == x) || is_among n l) ≡ true) none among) }
  where
    alone : (n : ℕ) (t : Bool) → (n == x) ≡ t → (t || false) ≡ true → last_use x past ≤ last_use n past
    alone n true this is = let here = ap (λ k. last_use k past) (equal n x this) in omega (arith, here)
    alone n false this is = cc
least_more past x ns (Some m) least = by (nat_lt (last_use m past) (last_use x past)) refl
  where
    of_rest : (n : ℕ) (t : Bool) (bound : ℕ) → (n == x) ≡ t → bound ≤ last_use x past → bound ≤ last_use m past → (t || is_among n ns) ≡ true → bound ≤ last_use n past
    of_rest n true bound this first rest among = let here = ap (λ k. last_use k past) (equal n x this) in omega (arith, here, first)
    of_rest n false bound this first rest among = let more = least.least n among in omega (arith, more, rest)

    by : (t : Bool) → nat_lt (last_use m past) (last_use x past) ≡ t → IsLeastOf past (x ∷ ns) (if t then Some m else Some x)
    by true less = record {
      among = or_second (m == x) (is_among m ns) least.among;
      least = λ n among. of_rest n (n == x) (last_use m past) refl (let is : last_use m past < last_use x past = grind (arith, nat_tests, less) in omega (arith, is)) (omega arith) among;
    }
    by false less = record {
      among = ap (λ b. b || is_among x ns) (same x);
      least = λ n among. of_rest n (n == x) (last_use x past) refl (omega arith) (grind (arith, nat_tests, less)) among;
    }

pub least_of : (past : List Entry) (ns : List ℕ) → IsLeastOf past ns (longest_unused_of past ns)
least_of past [] = refl
least_of past (x ∷ ns) = least_more past x ns (longest_unused_of past ns) (least_of past ns)
