-- What is found in the list of associations is what the trace says.
use Rattle.std.proofs.Common.{◌≡◌, ℕ, ◌+◌, ◌<◌, ◌≤◌, ◌==◌, ◌&&◌, ◌||◌, nat_le, Bool, true, false, List, [], ◌∷◌, find, length, Option, Some, None, option_map, if◌then◌else◌, refl, sym}
use Rattle.std.specs.Option.{option_or}
use Rattle.std.proofs.Common.{◌∙◌, ap, subst, arith}
use Rattle.std.proofs.lemmas.Bool.Decides.{nat_tests}
use Rattle.world_face.specs.Journal.{Entry}
use Rattle.net_octets.specs.declared.Endpoint.{Endpoint}
use Rattle.slirp_settings.specs.Addresses.{Config}
use Rattle.slirp_settings.specs.Classes.{same_endpoint}
use Rattle.rules_udp.specs.Associations.{idle_life, is_idle, is_of, is_over, most_associations, numbered, numbers, socket_of}
use Rattle.rules_udp.specs.declared.Association.{Association}
use Rattle.spec_trace.specs.Sockets.{first, is_among, is_association, open_sockets}
use Rattle.spec_run.specs.Asking.{step_of, step_on, yields}
use Rattle.spec_run.specs.Datagrams.{Errand, NeedsRoom, NeedsSocket, asks_a_name}
use Rattle.spec_run.specs.Names.{kind_for, questions, step_to_names}
use Rattle.spec_run.specs.Ports.{associations_open, is_port, last_use, longest_unused, opened_for, serves_port, socket_for, used_at, forward_for}
use Rattle.spec_run.specs.Relayed.{step_for, with_socket, without_socket, with_forward}
use Rattle.spec_run.specs.Said.{AllUsedAfter, AreByLastUse, SaysOf}
use Rattle.spec_run.proofs.Bools.{equal, or_second, same, turned}
use Rattle.spec_run.proofs.Longest.{IsLeastOf, Once, among_if, equal_endpoints, find_none, find_some, least_of, no_longer, once_if, same_port}
use Rattle.spec_run.proofs.Uses.{AreKept, BeforeAll, InOrder}

-- the open sockets are those of the list, which is in the order of use and has of each what the trace says
pub record Joined (config : Config) (past : List Entry) (list : List Association) : Type 0 where
  pub those : (n : ℕ) → serves_port config past n ≡ is_among n (numbers list)
  pub kept : AreKept config past list
  pub order : InOrder past list

-- the open ones are those of the list
pub same_sockets : (config : Config) (past : List Entry) (list : List Association) → Joined config past list → (n : ℕ) → is_among n (associations_open config past) ≡ is_among n (numbers list)
same_sockets config past list j n = among_if (λ s. is_association (kind_for config s past)) n (open_sockets past) ∙ j.those n

-- ---- of one of them

pub says_of : (config : Config) (past : List Entry) (n : ℕ) (list : List Association) (a : Association) → AreKept config past list → numbered n list ≡ Some a → SaysOf config past n a
says_of config past n [] a kept is = cc
says_of config past n (x ∷ list) a kept is = by (x.number == n) refl is (λ more. says_of config past n list a kept.1 more)
  where
    here : x.number ≡ n → SaysOf config past n x
    here this = subst (λ m. SaysOf config past m x) this (record { guest = kept.0.guest; mac = kept.0.mac; used = kept.0.used })

    by : (t : Bool) → (x.number == n) ≡ t → (if t then Some x else numbered n list) ≡ Some a → (numbered n list ≡ Some a → SaysOf config past n a) → SaysOf config past n a
    by true this is more = let one : x ≡ a = cc in subst (λ y. SaysOf config past n y) one (here (equal x.number n this))
    by false this is more = more is

-- ---- of a port

pub found_port : (config : Config) (past : List Entry) (guest : Endpoint) (list : List Association) (socket : ℕ) → AreKept config past list → socket_of guest list ≡ Some socket →
    opened_for config socket past ≡ Some guest
found_port config past guest [] socket kept is = cc
found_port config past guest (a ∷ list) socket kept is = by (is_of guest a) refl is (λ rest. found_port config past guest list socket kept.1 rest)
  where
    by : (t : Bool) → is_of guest a ≡ t → option_map (λ (b : Association). b.number) (if t then Some a else find (is_of guest) list) ≡ Some socket →
        (socket_of guest list ≡ Some socket → opened_for config socket past ≡ Some guest) → opened_for config socket past ≡ Some guest
    by true this is rest = let here : a.number ≡ socket = cc in subst (λ n. opened_for config n past ≡ Some guest) here (kept.0.guest ∙ ap Some (equal_endpoints a.guest guest this))
    by false this is rest = rest is

-- the one for a port is the only one
apart : (past : List Entry) (config : Config) (a : Association) (list : List Association) (m : ℕ) (guest : Endpoint) → BeforeAll past a list → AreKept config past list →
    is_of guest a ≡ true → is_among m (numbers list) ≡ true
    → is_port guest (opened_for config m past) ≡ true → ⊥
apart past config a [] m guest before kept one among port = cc
apart past config a (b ∷ list) m guest before kept one among port = by (m == b.number) refl among (λ more. apart past config a list m guest before.1 kept.1 one more port)
  where
    by : (t : Bool) → (m == b.number) ≡ t → (t || is_among m (numbers list)) ≡ true → (is_among m (numbers list) ≡ true → ⊥) → ⊥
    by true this among more =
        let here : opened_for config m past ≡ Some b.guest = ap (λ n. opened_for config n past) (equal m b.number this) ∙ kept.0.guest in
        let other : b.guest ≡ guest = equal_endpoints b.guest guest (sym (ap (is_port guest) here) ∙ port) in
        let first : a.guest ≡ guest = equal_endpoints a.guest guest one in
        let both : same_endpoint a.guest b.guest ≡ true = ap (λ g. same_endpoint g b.guest) first ∙ ap (same_endpoint guest) other ∙ same_port guest in
        let none = before.0.guests in
        cc
    by false this among more = more among

only_one : (config : Config) (past : List Entry) (guest : Endpoint) (list : List Association) (m : ℕ) → AreKept config past list → InOrder past list → is_among m
    (numbers list) ≡ true → is_port guest (opened_for config m past) ≡ true → socket_of guest list ≡ Some m
only_one config past guest [] m kept order among port = cc
only_one config past guest (a ∷ list) m kept order among port = by (is_of guest a) (m == a.number) refl refl among (λ more. only_one config past guest list m kept.1 order.1 more port)
  where
    by : (t u : Bool) → is_of guest a ≡ t → (m == a.number) ≡ u → (u || is_among m (numbers list)) ≡ true → (is_among m (numbers list) ≡ true → socket_of guest list ≡ Some m)
        → option_map (λ (b : Association). b.number) (if t then Some a else find (is_of guest) list) ≡ Some m
    by true true one this among more = ap Some (sym (equal m a.number this))
    by true false one this among more = absurd (apart past config a list m guest order.0 kept.1 one among port)
    by false true one this among more =
        let here : opened_for config m past ≡ Some a.guest = ap (λ n. opened_for config n past) (equal m a.number this) ∙ kept.0.guest in
        let that : is_of guest a ≡ true = sym (ap (is_port guest) here) ∙ port in
        cc
    by false false one this among more = more among

-- the socket of a guest's port is among those of the list
pub socket_among : (guest : Endpoint) (list : List Association) (n : ℕ) → socket_of guest list ≡ Some n → is_among n (numbers list) ≡ true
socket_among guest [] n is = cc
socket_among guest (x ∷ list) n is = by_test (is_of guest x) (λ more. socket_among guest list n more) is
  where
    by_test : (t : Bool) → (socket_of guest list ≡ Some n → is_among n (numbers list) ≡ true) → option_map (λ (a : Association). a.number)
        (if t then Some x else find (is_of guest) list) ≡ Some n → ((n == x.number) || is_among n (numbers list)) ≡ true
    by_test true more is = let this : x.number ≡ n = cc in ap (λ b. b || is_among n (numbers list)) (subst (λ m. (n == m) ≡ true) (sym this) (same n))
    by_test false more is = or_second (n == x.number) (is_among n (numbers list)) (more is)

pub same_port_socket : (config : Config) (past : List Entry) (guest : Endpoint) (list : List Association) → Joined config past list → socket_of guest list ≡ socket_for config guest past
same_port_socket config past guest list j = by (socket_for config guest past) refl
  where
    by : (o : Option ℕ) → socket_for config guest past ≡ o → socket_of guest list ≡ o
    by (Some m) is =
        let found = find_some (λ s. is_port guest (opened_for config s past)) (associations_open config past) m is in
        only_one config past guest list m j.kept j.order (sym (same_sockets config past list j m) ∙ found.1) found.0
    by None is = none (socket_of guest list) refl
      where
        none : (o : Option ℕ) → socket_of guest list ≡ o → o ≡ None
        none None that = refl
        none (Some n) that =
            let port = found_port config past guest list n j.kept that in
            let among : is_among n (associations_open config past) ≡ true = same_sockets config past list j n ∙ socket_among guest list n that in
            let fails = find_none (λ s. is_port guest (opened_for config s past)) (associations_open config past) n is among in
            let passes : is_port guest (opened_for config n past) ≡ true = ap (is_port guest) port ∙ same_port guest in
            cc

-- ---- of the longest unused

pub all_after : (past : List Entry) (a : Association) (list : List Association) (n : ℕ) → BeforeAll past a list → is_among n (numbers list) ≡ true → last_use a.number past < last_use n past
all_after past a [] n is among = cc
all_after past a (b ∷ list) n is among = by (n == b.number) refl (λ more. all_after past a list n is.1 more) among
  where
    by : (t : Bool) → (n == b.number) ≡ t → (is_among n (numbers list) ≡ true → last_use a.number past < last_use n past) → (t || is_among n (numbers list)) ≡ true →
        last_use a.number past < last_use n past
    by true this more among = subst (λ m. last_use a.number past < last_use m past) (sym (equal n b.number this)) is.0.sooner
    by false this more among = more among

pub first_is_least : (past : List Entry) (a : Association) (list : List Association) (n : ℕ) → BeforeAll past a list → is_among n (numbers (a ∷ list)) ≡ true → last_use a.number past ≤ last_use n past
first_is_least past a list n is among = by (n == a.number) refl among
  where
    by : (t : Bool) → (n == a.number) ≡ t → (t || is_among n (numbers list)) ≡ true → last_use a.number past ≤ last_use n past
    by true this among = let here = ap (λ m. last_use m past) (equal n a.number this) in omega (arith, here)
    by false this among = let after = all_after past a list n is among in omega (arith, after)

oldest_is : (past : List Entry) (list : List Association) (ns : List ℕ) (o : Option ℕ) → InOrder past list → ((n : ℕ) → is_among n ns ≡ is_among n (numbers list)) →
    IsLeastOf past ns o → option_map (λ (a : Association). a.number) (first list) ≡ o
oldest_is past [] ns None order those least = refl
oldest_is past [] ns (Some m) order those least = let never = sym (those m) ∙ least.among in cc
oldest_is past (a ∷ list) ns None order those none =
    let here : is_among a.number [] ≡ true = ap (is_among a.number) (sym none) ∙ those a.number ∙ ap (λ b. b || is_among a.number (numbers list)) (same a.number) in cc
oldest_is past (a ∷ list) ns (Some m) order those least = by (m == a.number) refl (sym (those m) ∙ least.among)
  where
    sooner : last_use m past ≤ last_use a.number past
    sooner = least.least a.number (those a.number ∙ ap (λ b. b || is_among a.number (numbers list)) (same a.number))

    by : (t : Bool) → (m == a.number) ≡ t → (t || is_among m (numbers list)) ≡ true → Some a.number ≡ Some m
    by true this among = ap Some (sym (equal m a.number this))
    by false this among = absurd (let later = all_after past a list m order.0 among in let before = sooner in omega (arith, later, before))

pub same_oldest : (config : Config) (past : List Entry) (list : List Association) → Joined config past list → option_map (λ (a : Association). a.number) (first list) ≡ longest_unused config past
same_oldest config past list j = oldest_is past list (associations_open config past) (longest_unused config past) j.order (same_sockets config past list j)
    (least_of past (associations_open config past))

-- ---- of the idle life

pub idle_is : (config : Config) (past : List Entry) (n now : ℕ) (list : List Association) → AreKept config past list → is_idle n now list ≡ true → used_at n past + idle_life ≤ now
idle_is config past n now [] kept is = cc
idle_is config past n now (a ∷ list) kept is = by (a.number == n) (is_over now a) refl refl (λ more. idle_is config past n now list kept.1 more) is
  where
    by : (t u : Bool) → (a.number == n) ≡ t → is_over now a ≡ u → (is_idle n now list ≡ true → used_at n past + idle_life ≤ now)
        → ((t && u) || is_idle n now list) ≡ true → used_at n past + idle_life ≤ now
    by true true this over more is =
        let here : used_at n past ≡ a.used = ap (λ m. used_at m past) (sym (equal a.number n this)) ∙ kept.0.used in
        let long : a.used + idle_life ≤ now = grind (arith, nat_tests, over) in
        omega (arith, here, long)
    by true false this over more is = more is
    by false u this over more is = more is

is_idle_of : (config : Config) (past : List Entry) (n now : ℕ) (list : List Association) → AreKept config past list → is_among n (numbers list) ≡ true →
    used_at n past + idle_life ≤ now → is_idle n now list ≡ true
is_idle_of config past n now [] kept among long = cc
is_idle_of config past n now (a ∷ list) kept among long = by (a.number == n) refl (λ more. is_idle_of config past n now list kept.1 more long)
  where
    by : (t : Bool) → (a.number == n) ≡ t → (is_among n (numbers list) ≡ true → is_idle n now list ≡ true) → ((t && is_over now a) || is_idle n now list) ≡ true
    by true this more =
        let here : used_at n past ≡ a.used = ap (λ m. used_at m past) (sym (equal a.number n this)) ∙ kept.0.used in
        let over : is_over now a ≡ true = grind (arith, nat_tests, here, long) in
        ap (λ b. b || is_idle n now list) over
    by false this more = more (sym (ap (λ b. b || is_among n (numbers list)) (turned a.number n false this)) ∙ among)

pub idle_exactly : (config : Config) (past : List Entry) (n now : ℕ) (list : List Association) → Joined config past list → is_among n (associations_open config past) ≡ true
    → (is_idle n now list ≡ true → used_at n past + idle_life ≤ now) × (used_at n past + idle_life ≤ now → is_idle n now list ≡ true)
idle_exactly config past n now list j among = (
  λ is. idle_is config past n now list j.kept is,
  λ long. is_idle_of config past n now list j.kept (sym (same_sockets config past list j n) ∙ among) long,
)

-- ---- in the order of use

rising_after : (past : List Entry) (a : Association) (list : List Association) → BeforeAll past a list → AllUsedAfter past a.number (numbers list)
rising_after past a [] is = tt
rising_after past a (b ∷ list) is = (is.0.sooner, rising_after past a list is.1)

pub rising : (past : List Entry) (list : List Association) → InOrder past list → AreByLastUse past (numbers list)
rising past [] is = tt
rising past (a ∷ list) is = (rising_after past a list is.0, rising past list is.1)

-- ---- how many they are

once_numbers : (past : List Entry) (list : List Association) → InOrder past list → Once (numbers list)
once_numbers past [] order = tt
once_numbers past (a ∷ list) order = (by (is_among a.number (numbers list)) refl, once_numbers past list order.1)
  where
    by : (t : Bool) → is_among a.number (numbers list) ≡ t → t ≡ false
    by true among = absurd (let after = all_after past a list a.number order.0 among in omega (arith, after))
    by false among = refl

count : (list : List Association) → length (numbers list) ≡ length list
count [] = refl
count (a ∷ list) = let rest = count list in omega (arith, rest)

same_count : (config : Config) (past : List Entry) (list : List Association) → Once (open_sockets past) → Joined config past list → length (associations_open config past) ≡ length list
same_count config past list once j =
    let fewer_listed = no_longer (numbers list) (associations_open config past) (once_numbers past list j.order) (λ n among. same_sockets config past list j n ∙ among) in
    let fewer_open = no_longer (associations_open config past) (numbers list) (once_if (λ s. is_association (kind_for config s past)) (open_sockets past) once)
    (λ n among. sym (same_sockets config past list j n) ∙ among) in
    omega (arith, fewer_listed, fewer_open, count list)

-- ---- what is asked for

module _ (config : Config) (past : List Entry) (list : List Association) (once : Once (open_sockets past)) (j : Joined config past list) where
  yields_same : (oldest : Option ℕ) (list : List Association) (errand : Errand) → option_map (λ (a : Association). a.number) (first list) ≡ oldest
      → (if nat_le most_associations (length list) then yields oldest errand else NeedsSocket errand) ≡ without_socket list errand
  yields_same oldest [] errand is = refl
  yields_same None (a ∷ list) errand is = cc
  yields_same (Some oldest) (a ∷ list) errand is = (let this : a.number ≡ oldest = cc in ap
      (λ n. if nat_le most_associations (length (a ∷ list)) then NeedsRoom n errand else NeedsSocket errand) (sym this))

  on_same : (o : Option ℕ) (errand : Errand) → step_on config o past errand ≡ with_socket o list errand
  on_same (Some socket) errand = refl
  on_same None errand =
      ap (λ n. if nat_le most_associations n then yields (longest_unused config past) errand else NeedsSocket errand) (same_count config past list once j)
      ∙ yields_same (longest_unused config past) list errand (same_oldest config past list j)

  on_forward : (forward : Option ℕ) (errand : Errand) → step_on config (option_or forward (socket_for config errand.datagram.from past)) past errand ≡ with_forward forward list errand
  on_forward (Some forward) errand = refl
  on_forward None errand =
      on_same (socket_for config errand.datagram.from past) errand ∙ ap (λ o. with_socket o list errand) (sym (same_port_socket config past errand.datagram.from list j))

  by_name : (errand : Errand) (name : Bool)
      → (if name then step_to_names (questions config past) errand else step_on config (option_or (forward_for config errand.datagram.from past) (socket_for config errand.datagram.from past)) past errand)
      ≡ (if name then step_to_names (questions config past) errand else with_forward (forward_for config errand.datagram.from past) list errand)
  by_name errand true = refl
  by_name errand false = on_forward (forward_for config errand.datagram.from past) errand

  pub same_step : (o : Option Errand) → step_of config past o ≡ step_for config (questions config past) (λ guest. forward_for config guest past) list o
  same_step None = refl
  same_step (Some errand) = by_name errand (asks_a_name config errand)
