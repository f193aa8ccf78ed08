-- What is waited for, by kind.
use Rattle.std.specs.Prelude.{◌≡◌, ℕ, Bool, true, false, List, [], ◌∷◌, ◌++◌, length}
use Rattle.poll_list.specs.declared.Want.{Want}
use Rattle.poll_list.specs.declared.Who.{Who}
use Rattle.poll_list.specs.declared.Who.TheVariants.{Link, Listener, Udp, Tcp}

abbrev pub names_link_or_listener : Who → Bool
names_link_or_listener Link = true
names_link_or_listener (Listener socket) = true
names_link_or_listener (Udp socket) = false
names_link_or_listener (Tcp socket) = false

abbrev pub names_datagrams : Who → Bool
names_datagrams Link = false
names_datagrams (Listener socket) = false
names_datagrams (Udp socket) = true
names_datagrams (Tcp socket) = false

abbrev pub names_flow : Who → Bool
names_flow Link = false
names_flow (Listener socket) = false
names_flow (Udp socket) = false
names_flow (Tcp socket) = true

-- of the link, or of a port to which peers connect
abbrev pub is_of_link_or_listener : Want → Bool
is_of_link_or_listener want = names_link_or_listener want.of

-- of a socket of datagrams
abbrev pub is_of_datagrams : Want → Bool
is_of_datagrams want = names_datagrams want.of

-- of a socket of a flow
abbrev pub is_of_flow : Want → Bool
is_of_flow want = names_flow want.of

-- all are of one kind
abbrev pub AreAll : (Want → Bool) → List Want → Type 0
AreAll is [] = Unit {0}
AreAll is (want ∷ wants) = (is want ≡ true) × AreAll is wants

-- The link and the listeners stand first, so many as `front`; then sockets of datagrams, with which it is so many as `before`; and those of flows last.
pub record InThreeParts (front before : ℕ) (wants : List Want) : Type 0 where
  pub first : List Want
  pub middle : List Want
  pub last : List Want
  pub are : wants ≡ (first ++ middle) ++ last
  pub to_front : front ≡ length first
  pub to_before : before ≡ length (first ++ middle)
  pub all_first : AreAll is_of_link_or_listener first
  pub all_middle : AreAll is_of_datagrams middle
  pub all_last : AreAll is_of_flow last
