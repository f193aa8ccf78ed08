-- What a control waits for is on sockets of its own.
use Rattle.std.proofs.Common.{◌≡◌, ℕ, not, ◌||◌, Bool, true, false, Option, None, Some, refl, sym, subst}
use Rattle.poll_list.specs.declared.Want.{Want}
use Rattle.rules_control.specs.Talk.{Talk, is_out, listener, listener_want, want_by, want_of}
use Rattle.control.specs.Stretches.{IsItem}
use Rattle.control_loop.specs.Standing.{IsHeld}
use Rattle.control_loop.proofs.Talking.{above_own}

own_by : (talk : Talk) → IsHeld talk → (o : Option ℕ) → talk.peer ≡ o → IsItem (want_by o talk)
own_by talk held None is = of_listener talk.listening
  where
    of_listener : (b : Bool) → IsItem (listener_want b)
    of_listener true = (refl, refl)
    of_listener false = tt
own_by talk held (Some socket) is = (some (is_out talk), above_own listener socket (held.above socket is))
  where
    some : (b : Bool) → (b || not b) ≡ true
    some true = refl
    some false = refl

pub own_want : (talk : Talk) → IsHeld talk → IsItem (want_of talk)
own_want talk held = own_by talk held talk.peer refl

pub own_item : (talk : Talk) → IsHeld talk → {item : Option Want} → item ≡ want_of talk → IsItem item
own_item talk held is = subst IsItem (sym is) (own_want talk held)
