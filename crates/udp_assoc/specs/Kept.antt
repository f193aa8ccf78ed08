-- How associations are kept: as sockets with an idle life, of which a port has one at most.
use Rattle.std.specs.Prelude.{◌≡◌, ℕ, ◌==◌, true, Bool, All, List, map}
use Rattle.idle_sockets.specs.declared.IdleSocket.{IdleSocket}
use Rattle.rules_udp.specs.declared.Association.{Association}

-- the identifier of a socket that is the only one of its port
abbrev pub only : ℕ
only = 0

abbrev pub is_only : IdleSocket → Bool
is_only s = s.ident == only

abbrev pub AreOnly : List IdleSocket → Type 0
AreOnly sockets = All (λ s. is_only s ≡ true) sockets

abbrev pub as_association : IdleSocket → Association
as_association s = record { number = s.number; guest = s.guest; mac = s.mac; used = s.used }

abbrev pub associations : List IdleSocket → List Association
associations sockets = map as_association sockets
