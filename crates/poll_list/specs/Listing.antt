-- Lists of wants and of ready items.
use Rattle.std.specs.Prelude.{ℕ, ◌==◌, ◌^◌, nat_lt, ◌||◌, ◌&&◌, not, Bool, true, false, List, [], ◌∷◌, Option, Some, None, IsTrue}
use Rattle.std.specs.List.{list_any}
use Rattle.poll_list.specs.declared.Who.{Who}
use Rattle.poll_list.specs.declared.Who.TheVariants.{Link, Listener, Udp, Tcp}
use Rattle.poll_list.specs.declared.Want.{Want}
use Rattle.poll_list.specs.declared.Way.{Way}
use Rattle.poll_list.specs.declared.Way.TheVariants.{Read, Write}

-- what contracts see of a list with room for a fixed number
pub record Listing : Type 0 where
  pub items : List Want
  pub capacity : ℕ

abbrev pub same_who : Who → Who → Bool
same_who Link Link = true
same_who (Listener a) (Listener b) = a == b
same_who (Udp a) (Udp b) = a == b
same_who (Tcp a) (Tcp b) = a == b
same_who _ _ = false

-- one of them is of this
abbrev pub names : Who → List Want → Bool
names who [] = false
names who (want ∷ wants) = same_who who want.of || names who wants

-- the number of a socket has 64 bits
abbrev pub is_who : Who → Bool
is_who Link = true
is_who (Listener socket) = nat_lt socket (2 ^ 64)
is_who (Udp socket) = nat_lt socket (2 ^ 64)
is_who (Tcp socket) = nat_lt socket (2 ^ 64)

-- each has a direction
abbrev pub are_wants : List Want → Bool
are_wants [] = true
are_wants (want ∷ wants) = (want.read || want.write) && is_who want.of && are_wants wants

abbrev pub AreWants : List Want → Type 0
AreWants wants = IsTrue (are_wants wants)

-- the number of a socket, of whatever kind
abbrev pub number_of : Who → Option ℕ
number_of Link = None
number_of (Listener socket) = Some socket
number_of (Udp socket) = Some socket
number_of (Tcp socket) = Some socket

abbrev pub same_number : Option ℕ → Option ℕ → Bool
same_number None None = true
same_number (Some a) (Some b) = a == b
same_number _ _ = false

-- no socket stands twice, nor the link
abbrev pub differ : List Want → Bool
differ [] = true
differ (want ∷ wants) = not (list_any (λ w. same_number (number_of want.of) (number_of w.of)) wants) && differ wants

-- this is among them for reading, or for writing
abbrev pub reads : Who → List Want → Bool
reads who wants = list_any (λ want. same_who who want.of && want.read) wants

abbrev pub writes : Who → List Want → Bool
writes who wants = list_any (λ want. same_who who want.of && want.write) wants

-- either, by the direction
abbrev pub goes : Way → Want → Bool
goes Read want = want.read
goes Write want = want.write

abbrev pub is_of : Who → Way → Want → Bool
is_of who way want = same_who who want.of && goes way want

abbrev pub is_among : Who → Way → List Want → Bool
is_among who way wants = list_any (λ want. same_who who want.of && goes way want) wants
