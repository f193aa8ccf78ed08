-- What is waited for, by kind: the three parts of the list.
use Rattle.std.proofs.Common.{◌≡◌, ℕ, ◌-◌, Bool, true, false, List, [], ◌∷◌, ◌++◌, filter, map, length, take, drop, Option, if◌then◌else◌, refl, sym, ◌∙◌, ap, subst, append_assoc, arith}
use Rattle.std.proofs.Common.{length-append}
use Rattle.std.proofs.Math.Seq.{take-append_seam, drop-append_seam}
use Rattle.std.proofs.lemmas.List.{append-nil}
use Rattle.std.proofs.lemmas.List.Elements.{filter-append, Contains-append_left, Contains-append_right, Contains-push}
use Rattle.std.specs.Prelude.{Contains}
use Rattle.poll_list.specs.declared.Want.{Want}
use Rattle.poll_list.specs.declared.Who.{Who}
use Rattle.poll_list.specs.declared.Who.TheVariants.{Link, Listener, Udp, Tcp}
use Rattle.flow_splice.specs.Splice.{Splice}
use Rattle.tcp_flows.specs.Reading.{AreWantsOf}
use Rattle.slirp_core.specs.Kinds.{AreAll, InThreeParts, is_of_datagrams, is_of_flow, is_of_link_or_listener, names_datagrams, names_flow, names_link_or_listener}
use Rattle.sim_flows.specs.Wants.{link_want, listener_want, socket_wants, udp_want}

-- ---- one kind

kept : (is : Want → Bool) (wants : List Want) → AreAll is wants → filter is wants ≡ wants
kept is [] all = refl
kept is (w ∷ wants) all = by (is w) all.0 (kept is wants all.1)
  where
    by : (b : Bool) → b ≡ true → filter is wants ≡ wants → (if b then w ∷ filter is wants else filter is wants) ≡ w ∷ wants
    by true so rest = ap (λ l. w ∷ l) rest
    by false so rest = cc

none_kept : (is other : Want → Bool) → ((w : Want) → other w ≡ true → is w ≡ false) → (wants : List Want) → AreAll other wants → filter is wants ≡ []
none_kept is other apart [] all = refl
none_kept is other apart (w ∷ wants) all = by (is w) (apart w all.0) (none_kept is other apart wants all.1)
  where
    by : (b : Bool) → b ≡ false → filter is wants ≡ [] → (if b then w ∷ filter is wants else filter is wants) ≡ []
    by true isnt rest = cc
    by false isnt rest = rest

all_append : (is : Want → Bool) (some more : List Want) → AreAll is some → AreAll is more → AreAll is (some ++ more)
all_append is [] more one two = two
all_append is (w ∷ some) more one two = (one.0, all_append is some more one.1 two)

-- a want is of one kind
datagrams_not_first : (w : Want) → is_of_datagrams w ≡ true → is_of_link_or_listener w ≡ false
datagrams_not_first w = by w.of
  where
    by : (of : Who) → names_datagrams of ≡ true → names_link_or_listener of ≡ false
    by Link is = cc
    by (Listener n) is = cc
    by (Udp n) is = refl
    by (Tcp n) is = cc

flow_not_first : (w : Want) → is_of_flow w ≡ true → is_of_link_or_listener w ≡ false
flow_not_first w = by w.of
  where
    by : (of : Who) → names_flow of ≡ true → names_link_or_listener of ≡ false
    by Link is = cc
    by (Listener n) is = cc
    by (Udp n) is = cc
    by (Tcp n) is = refl

first_not_datagrams : (w : Want) → is_of_link_or_listener w ≡ true → is_of_datagrams w ≡ false
first_not_datagrams w = by w.of
  where
    by : (of : Who) → names_link_or_listener of ≡ true → names_datagrams of ≡ false
    by Link is = refl
    by (Listener n) is = refl
    by (Udp n) is = cc
    by (Tcp n) is = cc

flow_not_datagrams : (w : Want) → is_of_flow w ≡ true → is_of_datagrams w ≡ false
flow_not_datagrams w = by w.of
  where
    by : (of : Who) → names_flow of ≡ true → names_datagrams of ≡ false
    by Link is = cc
    by (Listener n) is = cc
    by (Udp n) is = cc
    by (Tcp n) is = refl

first_not_flow : (w : Want) → is_of_link_or_listener w ≡ true → is_of_flow w ≡ false
first_not_flow w = by w.of
  where
    by : (of : Who) → names_link_or_listener of ≡ true → names_flow of ≡ false
    by Link is = refl
    by (Listener n) is = refl
    by (Udp n) is = cc
    by (Tcp n) is = cc

datagrams_not_flow : (w : Want) → is_of_datagrams w ≡ true → is_of_flow w ≡ false
datagrams_not_flow w = by w.of
  where
    by : (of : Who) → names_datagrams of ≡ true → names_flow of ≡ false
    by Link is = cc
    by (Listener n) is = cc
    by (Udp n) is = refl
    by (Tcp n) is = cc

-- ---- each part has all of its kind

-- what is kept of a list is what is kept of its parts
of_parts : (is : Want → Bool) (a b c one two three : List Want) → filter is a ≡ one → filter is b ≡ two → filter is c ≡ three → filter is ((a ++ b) ++ c) ≡ (one ++ two) ++ three
of_parts is a b c one two three of_a of_b of_c =
    filter-append is (a ++ b) c ∙ ap (λ l. l ++ filter is c) (filter-append is a b)
    ∙ ap (λ l. (l ++ filter is b) ++ filter is c) of_a ∙ ap (λ l. (one ++ l) ++ filter is c) of_b ∙ ap (λ l. (one ++ two) ++ l) of_c

pub first_is : (front before : ℕ) (wants : List Want) → InThreeParts front before wants → take front wants ≡ filter is_of_link_or_listener wants
first_is front before wants p =
    let there : take front wants ≡ p.first =
    ap (take front) (p.are ∙ append_assoc p.first p.middle p.last) ∙ ap (λ n. take n (p.first ++ (p.middle ++ p.last))) p.to_front ∙ take-append_seam p.first (p.middle ++ p.last) in
    let all : filter is_of_link_or_listener wants ≡ p.first =
    ap (filter is_of_link_or_listener) p.are
    ∙ of_parts is_of_link_or_listener p.first p.middle p.last p.first [] [] (kept is_of_link_or_listener p.first p.all_first)
    (none_kept is_of_link_or_listener is_of_datagrams datagrams_not_first p.middle p.all_middle) (none_kept is_of_link_or_listener is_of_flow flow_not_first p.last p.all_last)
    ∙ append-nil (p.first ++ []) ∙ append-nil p.first in
    there ∙ sym all

pub middle_is : (front before : ℕ) (wants : List Want) → InThreeParts front before wants → take (before - front) (drop front wants) ≡ filter is_of_datagrams wants
middle_is front before wants p =
    let behind : drop front wants ≡ p.middle ++ p.last =
    ap (drop front) (p.are ∙ append_assoc p.first p.middle p.last) ∙ ap (λ n. drop n (p.first ++ (p.middle ++ p.last))) p.to_front ∙ drop-append_seam p.first (p.middle ++ p.last) in
    let both = length-append p.first p.middle in
    let to_front = p.to_front in
    let to_before = p.to_before in
    let many : before - front ≡ length p.middle = omega (arith, both, to_front, to_before) in
    let there : take (before - front) (drop front wants) ≡ p.middle =
    ap (take (before - front)) behind ∙ ap (λ n. take n (p.middle ++ p.last)) many ∙ take-append_seam p.middle p.last in
    let all : filter is_of_datagrams wants ≡ p.middle =
    ap (filter is_of_datagrams) p.are
    ∙ of_parts is_of_datagrams p.first p.middle p.last [] p.middle [] (none_kept is_of_datagrams is_of_link_or_listener first_not_datagrams p.first p.all_first)
    (kept is_of_datagrams p.middle p.all_middle) (none_kept is_of_datagrams is_of_flow flow_not_datagrams p.last p.all_last)
    ∙ append-nil p.middle in
    there ∙ sym all

pub last_is : (front before : ℕ) (wants : List Want) → InThreeParts front before wants → drop before wants ≡ filter is_of_flow wants
last_is front before wants p =
    let there : drop before wants ≡ p.last =
    ap (drop before) p.are ∙ ap (λ n. drop n ((p.first ++ p.middle) ++ p.last)) p.to_before ∙ drop-append_seam (p.first ++ p.middle) p.last in
    let all : filter is_of_flow wants ≡ p.last =
    ap (filter is_of_flow) p.are
    ∙ of_parts is_of_flow p.first p.middle p.last [] [] p.last (none_kept is_of_flow is_of_link_or_listener first_not_flow p.first p.all_first)
    (none_kept is_of_flow is_of_datagrams datagrams_not_flow p.middle p.all_middle) (kept is_of_flow p.last p.all_last) in
    there ∙ sym all

-- ---- how the list comes to be

pub none_in_parts : InThreeParts 0 0 []
none_in_parts = record { first = []; middle = []; last = []; are = refl; to_front = refl; to_before = refl; all_first = tt; all_middle = tt; all_last = tt }

all_listeners : (listeners : List ℕ) → AreAll is_of_link_or_listener (map listener_want listeners)
all_listeners [] = tt
all_listeners (n ∷ listeners) = (refl, all_listeners listeners)

all_front : (read write : Bool) (listeners : List ℕ) → AreAll is_of_link_or_listener (link_want read write ++ map listener_want listeners)
all_front true write listeners = (refl, all_listeners listeners)
all_front false true listeners = (refl, all_listeners listeners)
all_front false false listeners = all_listeners listeners

all_sockets : (sockets : List ℕ) → AreAll is_of_datagrams (map udp_want sockets)
all_sockets [] = tt
all_sockets (n ∷ sockets) = (refl, all_sockets sockets)

all_wanted : (read : Bool) (sockets : List ℕ) → AreAll is_of_datagrams (socket_wants read sockets)
all_wanted true sockets = all_sockets sockets
all_wanted false sockets = tt

-- the link and listeners, and then sockets of datagrams
pub begun_in_parts : (read write : Bool) (listeners sockets : List ℕ) (front before : ℕ) (begun wants : List Want)
    → begun ≡ link_want read write ++ map listener_want listeners → wants ≡ begun ++ socket_wants read sockets → front ≡ length begun → before ≡ length wants → InThreeParts front before wants
begun_in_parts read write listeners sockets front before begun wants begins are to_front to_before = record {
  first = begun;
  middle = socket_wants read sockets;
  last = [];
  are = are ∙ sym (append-nil (begun ++ socket_wants read sockets));
  to_front = to_front;
  to_before = to_before ∙ ap length are;
  all_first = subst (AreAll is_of_link_or_listener) (sym begins) (all_front read write listeners);
  all_middle = all_wanted read sockets;
  all_last = tt;
}

-- what flows wait for, behind it
pub more_in_parts : (front before : ℕ) (wants added more : List Want) (parts : List (Option Splice)) → InThreeParts front before wants → more ≡ wants ++ added →
    AreWantsOf parts added → InThreeParts front before more
more_in_parts front before wants added more parts p is of_flows = record {
  first = p.first;
  middle = p.middle;
  last = p.last ++ added;
  are = is ∙ ap (λ l. l ++ added) p.are ∙ append_assoc (p.first ++ p.middle) p.last added;
  to_front = p.to_front;
  to_before = p.to_before;
  all_first = p.all_first;
  all_middle = p.all_middle;
  all_last = all_append is_of_flow p.last added p.all_last (each added (λ w has. let flow = of_flows.only w has in ap is_of_flow flow.4));
}
  where
    each : (wants : List Want) → ((w : Want) → Contains wants w → is_of_flow w ≡ true) → AreAll is_of_flow wants
    each [] all = tt
    each (x ∷ wants) all = (all x (Contains-append_left (x ∷ []) wants x (Contains-push [] x)), each wants (λ w has. all w (Contains-append_right (x ∷ []) wants w has)))

-- without them
pub cut_in_parts : (front before : ℕ) (wants cut : List Want) → InThreeParts front before wants → cut ≡ take before wants → InThreeParts front before cut
cut_in_parts front before wants cut p is = record {
  first = p.first;
  middle = p.middle;
  last = [];
  are = is ∙ ap (take before) p.are ∙ ap (λ n. take n ((p.first ++ p.middle) ++ p.last)) p.to_before ∙ take-append_seam (p.first ++ p.middle) p.last ∙ sym (append-nil (p.first ++ p.middle));
  to_front = p.to_front;
  to_before = p.to_before;
  all_first = p.all_first;
  all_middle = p.all_middle;
  all_last = tt;
}
