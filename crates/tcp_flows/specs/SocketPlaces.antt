-- Where the socket of a number stands among those that are open.
use Rattle.std.specs.Prelude.{◌≡◌, ℕ, List, Some, slice_get}
use Rattle.tcp_flows.specs.declared.sockets.Numbered.{Numbered}

-- the socket at this place has the number
abbrev pub HasNumber : ℕ → List Numbered → ℕ → Type 0
HasNumber n rows place = (r : Numbered) × ((slice_get rows place ≡ Some r) × (r.number ≡ n))
