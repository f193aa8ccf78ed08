-- What becomes of the sockets becomes of the associations that they are.
use Rattle.std.proofs.Common.{◌≡◌, ℕ, ◌&&◌, Bool, true, cond, List, [], ◌∷◌, ◌++◌, find, Option, Some, option_map, refl, sym, ◌∙◌, ap, subst, false}
use Rattle.std.proofs.lemmas.List.{map-append}
use Rattle.std.proofs.lemmas.List.Elements.{All-cons, All-head, All-nil, All-tail}
use Rattle.net_octets.specs.declared.Endpoint.{Endpoint}
use Rattle.slirp_settings.specs.Classes.{same_endpoint}
use Rattle.idle_sockets.specs.Sockets.{is_numbered, is_of, moved_last, number_of, numbered, numbers, socket_of}
use Rattle.idle_sockets.specs.declared.IdleSocket.{IdleSocket}
use Rattle.idle_sockets.specs.Closing.{calls_for_room as calls_for_room_of, with_room as with_room_of}
use Rattle.idle_sockets.proofs.Mapping.{calls_mapped, find_mapped, room_mapped}
use Rattle.idle_sockets.proofs.Yielding.{all_without, of_room}
use Rattle.rules_udp.specs.Associations.{is_numbered as is_association, is_of as is_port, moved_last as association_moved, numbered as numbered_association, numbers as association_numbers}
use Rattle.rules_udp.specs.Associations.{socket_of as association_socket}
use Rattle.udp_assoc.specs.Kept.{as_association, associations, is_only, only, AreOnly}
use Rattle.udp_assoc.specs.Relays.{calls_for_room, with_room}
use Rattle.rules_udp.specs.declared.Association.{Association}

pub moved : (change : IdleSocket → IdleSocket) (changes : Association → Association) → ((s : IdleSocket) → as_association (change s) ≡ changes (as_association s)) → (n : ℕ)
    (sockets : List IdleSocket) → associations (moved_last change n sockets) ≡ association_moved changes n (associations sockets)
moved change changes alike n [] = refl
moved change changes alike n (s ∷ sockets) = by (is_numbered n s) (moved change changes alike n sockets)
  where
    by : (t : Bool) → associations (moved_last change n sockets) ≡ association_moved changes n (associations sockets) → associations (cond t (sockets ++ (change s ∷ [])) (s ∷ moved_last change n sockets)) ≡ cond t (associations sockets ++ (changes (as_association s) ∷ []))
        (as_association s ∷ association_moved changes n (associations sockets))
    by true rest = map-append as_association sockets (change s ∷ []) ∙ ap (λ (a : Association). associations sockets ++ (a ∷ [])) (alike s)
    by false rest = ap (λ (l : List Association). as_association s ∷ l) rest

pub numbers_are : (sockets : List IdleSocket) → numbers sockets ≡ association_numbers (associations sockets)
numbers_are [] = refl
numbers_are (s ∷ sockets) = ap (λ (l : List ℕ). s.number ∷ l) (numbers_are sockets)

pub numbered_is : (n : ℕ) (sockets : List IdleSocket) → numbered_association n (associations sockets) ≡ option_map as_association (numbered n sockets)
numbered_is n sockets = find_mapped as_association (is_numbered n) (is_association n) (λ s. refl) sockets

pub socket_is : (guest : Endpoint) (sockets : List IdleSocket) → AreOnly sockets → socket_of guest only sockets ≡ association_socket guest (associations sockets)
socket_is guest [] all = refl
socket_is guest (s ∷ sockets) all =
    ap (λ t. option_map number_of (cond (same_endpoint s.guest guest && t) (Some s) (find (is_of guest only) sockets))) (All-head (λ (x : IdleSocket). is_only x ≡ true) s sockets all)
    ∙ by (same_endpoint s.guest guest) (socket_is guest sockets (All-tail (λ (x : IdleSocket). is_only x ≡ true) s sockets all))
  where
    by : (t : Bool) → socket_of guest only sockets ≡ association_socket guest (associations sockets) → option_map number_of (cond (t && true) (Some s) (find (is_of guest only) sockets)) ≡ option_map (λ (a : Association). a.number)
        (cond t (Some (as_association s)) (find (is_port guest) (associations sockets)))
    by true rest = refl
    by false rest = rest

-- a port has one socket at most
pub none_only : AreOnly []
none_only = All-nil (λ (x : IdleSocket). is_only x ≡ true)

pub last_only : (sockets : List IdleSocket) (s : IdleSocket) → AreOnly sockets → is_only s ≡ true → AreOnly (sockets ++ (s ∷ []))
last_only [] s all is = All-cons (λ (x : IdleSocket). is_only x ≡ true) s [] is none_only
last_only (x ∷ sockets) s all is =
    All-cons (λ (y : IdleSocket). is_only y ≡ true) x (sockets ++ (s ∷ [])) (All-head (λ (y : IdleSocket). is_only y ≡ true) x sockets all)
    (last_only sockets s (All-tail (λ (y : IdleSocket). is_only y ≡ true) x sockets all) is)

pub moved_only : (change : IdleSocket → IdleSocket) → ((s : IdleSocket) → is_only (change s) ≡ is_only s) → (n : ℕ) (sockets : List IdleSocket) → AreOnly sockets
    → AreOnly (moved_last change n sockets)
moved_only change keeps n [] all = all
moved_only change keeps n (s ∷ sockets) all = by (is_numbered n s) (moved_only change keeps n sockets (All-tail (λ (x : IdleSocket). is_only x ≡ true) s sockets all))
  where
    here : is_only s ≡ true
    here = All-head (λ (x : IdleSocket). is_only x ≡ true) s sockets all

    by : (t : Bool) → AreOnly (moved_last change n sockets) → AreOnly (cond t (sockets ++ (change s ∷ [])) (s ∷ moved_last change n sockets))
    by true rest = last_only sockets (change s) (All-tail (λ (x : IdleSocket). is_only x ≡ true) s sockets all) (keeps s ∙ here)
    by false rest = All-cons (λ (x : IdleSocket). is_only x ≡ true) s (moved_last change n sockets) here rest

-- what is found of the associations is found of the sockets
pub found_is : (n : ℕ) (sockets : List IdleSocket) (list : List Association) → associations sockets ≡ list → (found : Option IdleSocket) → found ≡ numbered n sockets
    → numbered_association n list ≡ option_map as_association found
found_is n sockets list same found is = ap (numbered_association n) (sym same) ∙ numbered_is n sockets ∙ ap (option_map as_association) (sym is)

pub port_is : (guest : Endpoint) (sockets : List IdleSocket) → AreOnly sockets → (list : List Association) → associations sockets ≡ list → (found : Option ℕ)
    → found ≡ socket_of guest only sockets → association_socket guest list ≡ found
port_is guest sockets all list same found is = ap (association_socket guest) (sym same) ∙ sym (socket_is guest sockets all) ∙ sym is

-- room was made
pub left : (sockets new : List IdleSocket) (list : List Association) → associations sockets ≡ list → new ≡ with_room_of number_of sockets → associations new ≡ with_room list
left sockets new list same is = ap associations is ∙ room_mapped as_association number_of (λ (a : Association). a.number) (λ s. refl) sockets ∙ ap with_room same

pub calls_are : (sockets : List IdleSocket) (list : List Association) → associations sockets ≡ list → calls_for_room_of number_of sockets ≡ calls_for_room list
calls_are sockets list same = calls_mapped as_association number_of (λ (a : Association). a.number) (λ s. refl) sockets ∙ ap calls_for_room same

pub room_only : (sockets new : List IdleSocket) → AreOnly sockets → new ≡ with_room_of number_of sockets → AreOnly new
room_only sockets new all is =
    subst AreOnly (sym is) (of_room number_of AreOnly sockets all (λ n. all_without number_of (λ (s : IdleSocket). is_only s ≡ true) n sockets all))
