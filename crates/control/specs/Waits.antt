-- What a wait is for where the control waits for something, too.
use Rattle.std.specs.Prelude.{ℕ, not, Bool, true, false, List, length, insert, position, unwrap_or, Option, Some, None, if◌then◌else◌}
use Rattle.poll_list.specs.declared.Want.{Want}
use Rattle.poll_list.specs.declared.Who.{Who}
use Rattle.poll_list.specs.declared.Who.TheVariants.{Link, Listener, Tcp, Udp}
use Rattle.rules_control.specs.Apart.{takes_item}

-- The link and the listeners stand in front: how many wants do.
abbrev pub stands_in_front : Who → Bool
stands_in_front Link = true
stands_in_front (Listener socket) = true
stands_in_front (Udp socket) = false
stands_in_front (Tcp socket) = false

abbrev pub front_length : List Want → ℕ
front_length wants = unwrap_or (position (λ want. not (stands_in_front want.of)) wants) (length wants)

-- where an item is put: a listener's behind the link and the listeners, any other at the end
abbrev pub place_for : Who → List Want → ℕ
place_for (Listener socket) wants = front_length wants
place_for _ wants = length wants

-- the wants of the network, with the control's item where it has one and they take it
abbrev pub with_item : Option Want → List Want → List Want
with_item None wants = wants
with_item (Some item) wants = if takes_item wants then insert wants (place_for item.of wants) item else wants
