-- What became of a segment that came: its flow took it, or, as one without a flow, it is ignored, answered by a reset, given room, or has the host connect.
use Rattle.std.specs.Prelude.{◌≡◌, ℕ, ◌+◌, Bool, List, [], ◌∷◌, ◌++◌, ◌⊎◌, length, nat_lt}
use Rattle.net_octets.specs.declared.Endpoint.{Endpoint}
use Rattle.net_octets.specs.declared.Mac.{Mac}
use Rattle.world_face.specs.Journal.{Entry, Connect}
use Rattle.world_face.specs.declared.Made.TheVariants.{Done, Failed}
use Rattle.slirp_settings.specs.Addresses.{Config}
use Rattle.tcp_segment.specs.Tcp.{Tcp, tcp_of}
use Rattle.spec_flows.specs.SegmentVerdicts.{SegmentVerdict, Dropped, AsksFor, GetsReset, NeedsRoom}
use Rattle.spec_flows.specs.Segments.{OnTuple, segment_of}
use Rattle.sim_flows.specs.Seats.{in_use_slots}
use Rattle.sim_flows.specs.Stands.{verdict_without_flow}
use Rattle.tcp_flows.specs.Kept.{Kept}
use Rattle.tcp_flows.specs.Reading.{StaysBut}
use Rattle.tcp_flows.specs.Runs.{Begins, Hears}
use Rattle.tcp_flows.specs.Way.{GivesWay}
use Rattle.tcp_flows.specs.declared.guest.Heard.TheVariants.{Taken, Strange, Alone}
use Rattle.tcp_flows.specs.declared.receiving.Received.{Received}
use Rattle.tcp_flows.specs.declared.receiving.Received.TheVariants.{Settled, TurnedAway, Opened, Refused}
use Rattle.tcp_flows.specs.declared.receiving.SegmentView.{SegmentView}
use Rattle.tcp_flows.specs.declared.receiving.StrayVerdict.{StrayVerdict}
use Rattle.tcp_flows.specs.declared.receiving.StrayVerdict.TheVariants.{Dropped as SeenDropped, Reset, Connects, Crowded}

abbrev pub on_of : SegmentView → OnTuple
on_of s = record { mac = s.mac.0; tuple = s.ends; segment = segment_of (tcp_of s.segment) }

-- a slot is left for a flow more
abbrev pub has_room : Kept → Bool
has_room kept = nat_lt (in_use_slots kept.flows.table.slots) (length kept.flows.table.slots)

abbrev pub verdict_of_stray : StrayVerdict → SegmentVerdict
verdict_of_stray SeenDropped = Dropped
verdict_of_stray Reset = GetsReset
verdict_of_stray (Connects to) = AsksFor to
verdict_of_stray Crowded = NeedsRoom

-- It is ignored, or each slot is in use and one flow gives way, or none.
abbrev pub IsLeft : (now : ℕ) → (segment_verdict : SegmentVerdict) → (old new : Kept) → List Entry → Type 0
IsLeft now segment_verdict old new made = ((segment_verdict ≡ Dropped) × (new ≡ old) × (made ≡ [])) ⊎ ((segment_verdict ≡ NeedsRoom) × GivesWay now old new made)

-- The host connects to the endpoint for which it asks, and its flow has a slot.
abbrev pub IsOpened : (now number : ℕ) → (segment_verdict : SegmentVerdict) → (old new : Kept) → OnTuple → Mac → Tcp → List Entry → Type 0
IsOpened now number segment_verdict old new on mac tcp made = (to : Endpoint) × ((segment_verdict ≡ AsksFor to) × (made ≡ Connect number to Done ∷ []) × Begins now number old new on.tuple mac tcp)

-- The host didn't connect to it.
abbrev pub IsRefused : (number : ℕ) → (segment_verdict : SegmentVerdict) → (old new : Kept) → List Entry → Type 0
IsRefused number segment_verdict old new made = (to : Endpoint) × ((segment_verdict ≡ AsksFor to) × (made ≡ Connect number to Failed ∷ []) × (new ≡ old))

-- what is made of one without a flow, by the policy and the room
abbrev pub Becomes : Received → Config → (now number : ℕ) → (old new : Kept) → OnTuple → Mac → Tcp → List Entry → Type 0
Becomes Settled config now number old new on mac tcp made = IsLeft now (verdict_without_flow config (has_room old) on) old new made
Becomes TurnedAway config now number old new on mac tcp made = (verdict_without_flow config (has_room old) on ≡ GetsReset) × (new ≡ old) × (made ≡ [])
Becomes Opened config now number old new on mac tcp made = IsOpened now number (verdict_without_flow config (has_room old) on) old new on mac tcp made
Becomes Refused config now number old new on mac tcp made = IsRefused number (verdict_without_flow config (has_room old) on) old new made

-- No flow took it, and then this was made of it.
pub record Strays (result : Received) (config : Config) (now number : ℕ) (old new : Kept) (on : OnTuple) (mac : Mac) (tcp : Tcp) (made : List Entry) : Type 0 where
  pub between : Kept
  pub before : List Entry
  pub after : List Entry
  pub is : made ≡ after ++ before
  pub hears : Hears now old between on.tuple tcp Alone before
  pub becomes : Becomes result config now number between new on mac tcp after

abbrev pub Receives : Received → Config → (now number : ℕ) → (old new : Kept) → OnTuple → Mac → Tcp → List Entry → Type 0
Receives result config now number old new on mac tcp made =
    ((result ≡ Settled) × Hears now old new on.tuple tcp Taken made)
    ⊎ (((result ≡ TurnedAway) × Hears now old new on.tuple tcp Strange made) ⊎ Strays result config now number old new on mac tcp made)

-- a flow more has begun, with this number
pub record HasGrown (number : ℕ) (old new : Kept) : Type 0 where
  pub slots : length new.flows.slots ≡ length old.flows.slots
  pub opened : new.flows.opened ≡ old.flows.opened + 1
  pub numbers : StaysBut number old new
