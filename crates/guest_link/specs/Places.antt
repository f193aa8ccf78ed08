-- Where the link stands.
use Rattle.std.specs.Prelude.{◌≡◌, Bool, true, false, ⊤, Option, None, Some}
use Rattle.mio.specs.declared.interest.Interest.{Interest}
use Rattle.mio.specs.Interest.{is_readable, is_writable}
use Rattle.guest_link.specs.declared.place.Place.{Place}
use Rattle.guest_link.specs.declared.place.Place.TheVariants.{Closed, ListensUnix, ListensTcp, Guest}

-- what is known of the guest that came; nothing of a place where there is none
abbrev pub of_guest : {S A : Type 0} → (S → Option A) → Place S → Option A
of_guest known Closed = None
of_guest known (ListensUnix listener) = None
of_guest known (ListensTcp listener) = None
of_guest known (Guest stream) = known stream

-- no guest has come yet
abbrev pub listens : {S : Type 0} → Place S → Bool
listens Closed = false
listens (ListensUnix listener) = true
listens (ListensTcp listener) = true
listens (Guest stream) = false

abbrev pub has_guest : {S : Type 0} → Place S → Bool
has_guest Closed = false
has_guest (ListensUnix listener) = false
has_guest (ListensTcp listener) = false
has_guest (Guest stream) = true

-- the system is to tell this from now on
abbrev pub Asks : (old new : Option Interest) → Interest → Type 0
Asks None None interest = ⊤
Asks None (Some new) interest = ⊥
Asks (Some old) None interest = ⊥
Asks (Some old) (Some new) interest = new ≡ interest

-- What it is to tell is that octets came, and, where that was noted, when it takes more.
abbrev pub IsNoted : Option Interest → Bool → Type 0
IsNoted None writes = ⊤
IsNoted (Some interest) writes = (is_readable interest ≡ true) × (is_writable interest ≡ writes)
