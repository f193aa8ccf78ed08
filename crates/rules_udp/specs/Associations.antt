-- The associations: open sockets, each for the datagrams of one port of a guest, the longest unused first.
use Rattle.std.specs.Prelude.{◌≡◌, ◌≤◌, All, false, ℕ, ◌+◌, ◌==◌, ◌&&◌, not, nat_le, true, Bool, List, [], ◌∷◌, ◌++◌, map, filter, find, Option, Some, None, option_map, if◌then◌else◌}
use Rattle.std.specs.List.{list_any}
use Rattle.net_octets.specs.declared.Endpoint.{Endpoint}
use Rattle.net_octets.specs.declared.Mac.{Mac}
use Rattle.slirp_settings.specs.Classes.{same_endpoint}
use Rattle.rules_udp.specs.declared.Association.{Association}
use Rattle.rules_udp.specs.Lives.{is_life_over}

-- so many are open at once; ours
abbrev pub most_associations : ℕ
most_associations = 512

-- each lives so many milliseconds after its last use: four minutes, ours; RFC 4787, 4.3 asks for two at least
abbrev pub idle_life : ℕ
idle_life = 240000

abbrev pub is_numbered : ℕ → Association → Bool
is_numbered number a = a.number == number

abbrev pub is_of : Endpoint → Association → Bool
is_of guest a = same_endpoint a.guest guest

-- the numbers of the sockets
abbrev pub numbers : List Association → List ℕ
numbers associations = map (λ a. a.number) associations

-- the association with this number; the socket of the one for this port of a guest
abbrev pub numbered : ℕ → List Association → Option Association
numbered number associations = find (is_numbered number) associations

abbrev pub socket_of : Endpoint → List Association → Option ℕ
socket_of guest associations = option_map (λ a. a.number) (find (is_of guest) associations)

-- its socket was closed
abbrev pub without : ℕ → List Association → List Association
without number associations = filter (λ a. not (is_numbered number a)) associations

-- it was used, so it is the last of all
abbrev pub moved_last : (Association → Association) → ℕ → List Association → List Association
moved_last change number [] = []
moved_last change number (a ∷ associations) =
    if is_numbered number a then associations ++ (change a ∷ []) else a ∷ moved_last change number associations

-- by a datagram that the guest sent from this hardware address
abbrev pub sent_from : Mac → ℕ → Association → Association
sent_from mac now a = record { number = a.number; guest = a.guest; mac = mac; used = now }

-- by a datagram that came from a peer
abbrev pub heard_at : ℕ → Association → Association
heard_at now a = record { number = a.number; guest = a.guest; mac = a.mac; used = now }

-- its idle life is over
abbrev pub is_over : ℕ → Association → Bool
is_over now a = is_life_over idle_life a.used now

abbrev pub is_idle : ℕ → ℕ → List Association → Bool
is_idle number now associations = list_any (λ a. is_numbered number a && is_over now a) associations

-- the least number of those that pass a test, where one does
abbrev pub IsLeast : (Association → Bool) → List Association → Option ℕ → Type 0
IsLeast test associations None = All (λ a. test a ≡ false) associations
IsLeast test associations (Some number) = (list_any (λ a. is_numbered number a && test a) associations ≡ true) × All (λ a. test a ≡ true → number ≤ a.number) associations
