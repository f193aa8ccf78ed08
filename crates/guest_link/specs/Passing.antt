-- What a call makes of the octets that pass the link.
use Rattle.std.specs.Prelude.{◌≡◌, ℕ, Bool, true, cond, List, [], Option, None}
use Rattle.guest_link.specs.Places.{of_guest}
use Rattle.guest_link.specs.Linking.{Linked, is_open}
use Rattle.guest_link.specs.Keeping.{HandsOn, SendsOn}

-- The octets that pass a link: what its stream took, and what waits to go out; what its stream has still to give, and what is ahead; and whether what is written
-- goes out.
pub record Passing : Type 0 where
  pub taken : Option (List ℕ)
  pub waits : List ℕ
  pub left : Option (List ℕ)
  pub ahead : List ℕ
  pub goes_out : Bool

abbrev pub passing : {S : Type 0} → (remaining contents : S → Option (List ℕ)) → Linked S → Passing
passing remaining contents link =
    record { taken = of_guest contents link.place; waits = link.outbox.octets; left = of_guest remaining link.place; ahead = link.inbox.octets; goes_out = is_open link.outlet }

-- The same over a stream that tells nothing, as a socket does: what waits, and what is ahead.
abbrev pub told_nothing : {S : Type 0} → S → Option (List ℕ)
told_nothing stream = None

abbrev pub passing_untold : {S : Type 0} → Linked S → Passing
passing_untold link = passing told_nothing told_nothing link

-- A call: what it put stands behind what waited, what it handed out stood before what is ahead, and what doesn't go out goes out no more.
pub record Passes (put out : List ℕ) (old new : Passing) : Type 0 where
  pub sends : SendsOn old.taken new.taken old.waits new.waits (cond old.goes_out put [])
  pub hands : HandsOn old.left new.left old.ahead new.ahead out
  pub shut : new.goes_out ≡ true → old.goes_out ≡ true
