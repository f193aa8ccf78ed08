-- Settings as their types hold them: two of the numbers have 32 bits, the list of forwards has room for 32, that of forwards of guests for 16, that of denied networks for 9, and words may say more.
use Rattle.std.specs.Prelude.{ℕ, min, nat_le, List, [], ◌∷◌, length, take, if◌then◌else◌}
use Rattle.slirp_settings.specs.Addresses.{Config}
use Rattle.host_policy.specs.Targets.{anywhere}
use Rattle.slirp_settings.specs.declared.Denial.{Denial}
use Rattle.slirp_settings.specs.declared.Forward.{Forward}
use Rattle.slirp_settings.specs.declared.GuestFwd.{GuestFwd}
use Rattle.slirp_settings.specs.declared.Proto.TheVariants.{Tcp}
use Rattle.command_words.specs.Meaning.{Meaning, Replays, Serves, Drives, Helps, TellsVersion}

-- a number that 32 bits don't hold is the greatest that they hold
abbrev pub narrowed : ℕ → ℕ
narrowed n = min n 4294967295

-- a forward of port 0
abbrev pub portless : Forward
portless = record { proto = Tcp; host = anywhere; guest = anywhere }

-- of more than 32 forwards none is held: in their place stands one of port 0, for which their field is refused
abbrev pub held_forwards : List Forward → List Forward
held_forwards forwards = if nat_le (length forwards) 32 then forwards else portless ∷ []

-- and of more than 16 forwards of guests
abbrev pub guest_portless : GuestFwd
guest_portless = record { guest = anywhere; host = anywhere }

-- of more than 16 none is held, and one of port 0 stands in their place
abbrev pub held_guests : List GuestFwd → List GuestFwd
held_guests forwards = if nat_le (length forwards) 16 then forwards else guest_portless ∷ []

-- of more than 8 denied networks 9 are held, for which their field is refused
abbrev pub held_denials : List Denial → List Denial
held_denials denials = take 9 denials

abbrev pub narrowed_settings : Config → Config
narrowed_settings config = record config {
  flows = narrowed config.flows;
  ring = narrowed config.ring;
  forwards = held_forwards config.forwards;
  guest_forwards = held_guests config.guest_forwards;
  denied = held_denials config.denied;
}

abbrev pub narrowed_meaning : Meaning → Meaning
narrowed_meaning (Replays file config) = Replays file (narrowed_settings config)
narrowed_meaning (Serves config at tap) = Serves (narrowed_settings config) at tap
narrowed_meaning (Drives number octets) = Drives number octets
narrowed_meaning Helps = Helps
narrowed_meaning TellsVersion = TellsVersion
