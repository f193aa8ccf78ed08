-- What a pump makes.
use Rattle.std.specs.Prelude.{◌≡◌, ℕ, ◌+◌, ◌%◌, ◌^◌, ◌≤◌, List, [], ◌++◌, Bool, true, false, ◌&&◌, ◌⊎◌, nat_lt, Option, None, Some, if◌then◌else◌}
use Rattle.net_octets.specs.declared.Mac.{Mac}
use Rattle.world_face.specs.Journal.{Entry}
use Rattle.stream_netdev.specs.Keeps.{Keeps}
use Rattle.stream_netdev.specs.State.{LinkState}
use Rattle.stream_netdev.specs.declared.Offered.{Offered}
use Rattle.stream_netdev.specs.declared.Offered.TheVariants.{Taken, Blocked, Failed}
use Rattle.tcp_connection.specs.Owing.{after_gone, change_gone, owed_of}
use Rattle.tcp_connection.specs.declared.Owed.{Owed}
use Rattle.tcp_connection.specs.declared.Owed.TheVariants.{Ack}
use Rattle.spec_flow.specs.Settings.{Settings}
use Rattle.spec_flow.specs.Event.{Story}
use Rattle.sim_connection.specs.Sending.{is_rst, is_syn}
use Rattle.flow_splice.specs.Hosts.{Sees, ends}
use Rattle.flow_splice.specs.declared.Place.{Place}
use Rattle.flow_splice.specs.declared.Place.TheVariants.{Empty, InUse, InTimeWait}
use Rattle.sim_halves.specs.Resends.{least_wait}
use Rattle.flow_splice.specs.Entries.{ident_after}
use Rattle.flow_splice.specs.Follows.{Follows}
use Rattle.flow_splice.specs.Serves.{Serves}
use Rattle.flow_splice.specs.Splice.{Splice, is_open}

-- the flow keeps a hardware address that it is told
abbrev pub or_known : Option Mac → Option Mac → Option Mac
or_known None old = old
or_known (Some mac) old = Some mac

-- What was made are events of the flow, after every story that it followed; datagrams are numbered from one identification on to another.
abbrev pub Sends : (old new : Splice) → (first last now : ℕ) → List Entry → Type 0
Sends old new first last now made =
    (s : Settings) (past : Story) (before : ℕ) (ended known : Bool) → before ≤ now → Follows s old past before → (serves : Serves s new false ended known first now past made) ×
    (last ≡ ident_after first serves.beats)

-- And the link goes on.
abbrev pub SendsOn : (old new : Splice) → (link next : LinkState) → (first last now : ℕ) → List Entry → Type 0
SendsOn old new link next first last now made = Sends old new first last now made × ((past : List Entry) → Keeps link past → Keeps next (made ++ past))

-- the next identification after an offer
abbrev pub ident_if : Offered → ℕ → ℕ
ident_if Taken ident = (ident + 1) % 2 ^ 16
ident_if Blocked ident = ident
ident_if Failed ident = ident

-- the flow after what it owed went out
abbrev pub went_out : Splice → Owed → ℕ → Splice
went_out f what now = record f { conn = after_gone what f.conn f.up now; last = now; called = if is_syn what then now else f.called }

-- one in TIME-WAIT acknowledges, or goes on as it was: it stays in TIME-WAIT
abbrev pub Acknowledges : (old new : Splice) → ℕ → Type 0
Acknowledges old new now = (new ≡ old) ⊎ (new ≡ went_out old Ack now)

-- the flow then: after a reset its place is empty, and where both ends passed its socket is closed
abbrev pub GoesOut : Bool → Owed → Splice → Splice → ℕ → List Entry → Type 0
GoesOut true what old new now made = (made ≡ []) × (new ≡ record (went_out old what now) { place = Empty })
GoesOut false what old new now made = Sees (ends (change_gone what old.conn old.up now)) (went_out old what now) new now made

-- what was offered counts as sent only where the link took something of it
abbrev pub Marks : Offered → Owed → Splice → Splice → ℕ → List Entry → Type 0
Marks Taken what old new now made = GoesOut (is_rst what) what old new now made
Marks Blocked what old new now made = (made ≡ []) × (new ≡ old)
Marks Failed what old new now made = (made ≡ []) × (new ≡ old)

-- with a hardware address that it is told
abbrev pub learnt : Splice → Option Mac → Splice
learnt f mac = record f { mac = or_known mac f.mac }

-- what is owed goes out of a place that a flow has
abbrev pub takes_part_at : Place → Option Owed → Option Owed
takes_part_at Empty what = None
takes_part_at InUse what = what
takes_part_at (InTimeWait since) what = what

abbrev pub takes_part : Splice → Option Owed → Option Owed
takes_part f what = takes_part_at f.place what

-- a request for the guest's hardware address is owed: nine times at most
abbrev pub asks_now : Splice → Bool
asks_now f = is_open f && nat_lt f.asked 9 && f.asks

-- once a request was taken its answer is waited for
abbrev pub asked : Offered → Splice → ℕ → Splice
asked Taken f now = record f { asked = f.asked + 1; ask_at = now + least_wait f.asked; asks = false }
asked Blocked f now = f
asked Failed f now = f

-- nothing is owed, or, as long as the guest's hardware address isn't known, no request for it
abbrev pub IsClearBy : Option Mac → Splice → Type 0
IsClearBy None f = asks_now f ≡ false
IsClearBy (Some mac) f = takes_part f (owed_of f.conn f.up f.down) ≡ None

-- a flow that owes no frame
abbrev pub IsClear : Splice → Type 0
IsClear f = IsClearBy f.mac f

-- what stays of a flow by a pump
pub record IsPumped (mac : Option Mac) (old new : Splice) : Type 0 where
  pub face : new.face ≡ old.face
  pub mac_is : new.mac ≡ or_known mac old.mac
  pub since : new.since ≡ old.since
  pub accepted : new.accepted ≡ old.accepted
  pub up : new.up ≡ old.up
  pub down : new.down ≡ old.down
  pub mru : new.mru ≡ old.mru
