-- A port without an association has none where another was closed.
use Rattle.std.proofs.Common.{◌≡◌, ℕ, not, Bool, true, false, List, [], ◌∷◌, find, Some, None, option_map, if◌then◌else◌, refl, ◌∙◌, ap}
use Rattle.net_octets.specs.declared.Endpoint.{Endpoint}
use Rattle.rules_udp.specs.Associations.{is_numbered, is_of, socket_of, without}
use Rattle.rules_udp.specs.declared.Association.{Association}

pub still_none : (guest : Endpoint) (socket : ℕ) (list : List Association) → socket_of guest list ≡ None → socket_of guest (without socket list) ≡ None
still_none guest socket [] none = none
still_none guest socket (a ∷ list) none = by (is_of guest a) refl (is_numbered socket a) none (λ rest. still_none guest socket list rest)
  where
    by : (b : Bool) → is_of guest a ≡ b → (t : Bool) → option_map (λ (x : Association). x.number) (if b then Some a else find (is_of guest) list) ≡ None →
        (socket_of guest list ≡ None → socket_of guest (without socket list) ≡ None)
        → socket_of guest (if not t then a ∷ without socket list else without socket list) ≡ None
    by true here t none more = cc
    by false here true none more = more none
    by false here false none more = ap (λ (b : Bool). option_map (λ (x : Association). x.number) (if b then Some a else find (is_of guest) (without socket list))) here ∙ more none
