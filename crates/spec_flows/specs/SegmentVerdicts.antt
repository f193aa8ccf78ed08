-- What a segment asks for that came last: a connection of the host, a reset, or nothing beside its flow.
use Rattle.std.specs.Prelude.{ℕ, ◌+◌, ◌%◌, ◌^◌, ◌==◌, ◌&&◌, ◌||◌, not, nat_eq, nat_lt, Bool, true, false, List, [], ◌∷◌, length, Option, Some, None, option_and_then, option_map, if◌then◌else◌}
use Rattle.std.specs.List.{list_any}
use Rattle.net_octets.specs.declared.Endpoint.{Endpoint}
use Rattle.world_face.specs.Journal.{Call, CallConnect, CallClose}
use Rattle.slirp_settings.specs.declared.Proto.TheVariants.{Tcp as OverTcp}
use Rattle.host_policy.specs.declared.Verdict.{Verdict}
use Rattle.host_policy.specs.declared.Verdict.TheVariants.{Go, Denied}
use Rattle.slirp_settings.specs.Addresses.{Config, address, last_address}
use Rattle.host_policy.specs.Targets.{target}
use Rattle.slirp_settings.specs.Classes.{is_group_or_reserved}
use Rattle.tcp_segment.specs.Tcp.{Tcp}
use Rattle.spec_flows.specs.declared.Tuple.{Tuple}
use Rattle.spec_flow.specs.Event.{Segment}
use Rattle.spec_flow.specs.Host.{answered}
use Rattle.spec_flow.specs.Close.{last_at, may_give_way, owes_reset}
use Rattle.spec_flow.specs.Flow.{host, our_number, next_number, is_closed, syn_is_out}
use Rattle.spec_flows.specs.Flows.{Flow, Book, owner, is_used, used, has_time_wait}
use Rattle.spec_flows.specs.Segments.{OnTuple}

-- a segment is its flow's; is ignored; asks for a connection to this endpoint; asks for one where all slots are in use; or is answered by a reset
pub data SegmentVerdict : Type 0 where
  OfFlow : SegmentVerdict
  Dropped : SegmentVerdict
  AsksFor : (to : Endpoint) → SegmentVerdict
  NeedsRoom : SegmentVerdict
  GetsReset : SegmentVerdict

-- SYN and none of ACK, RST and FIN
abbrev pub is_opening : Segment → Bool
is_opening seg = seg.syn && not seg.ack && not seg.rst && not seg.fin

-- to a group, a reserved address or the network's last one (RFC 9293, 3.9.2.3; RFC 1122, 4.2.3.10)
abbrev pub is_to_many : Config → Endpoint → Bool
is_to_many config to = is_group_or_reserved (address to) || (address to == last_address config)

abbrev pub verdict_by_policy : Verdict → Bool → SegmentVerdict
verdict_by_policy (Go to) has_room = if has_room then AsksFor to else NeedsRoom
verdict_by_policy (Denied rule) has_room = GetsReset

abbrev pub segment_verdict : Config → Book → OnTuple → SegmentVerdict
segment_verdict config book on =
    if is_used on.tuple book.flows || has_time_wait on.tuple book then OfFlow
    else (if on.segment.rst || is_to_many config on.tuple.other then Dropped
    else (if is_opening on.segment then verdict_by_policy (target config OverTcp on.tuple.other) (nat_lt (used book.flows) config.flows) else GetsReset))

-- ---- room for a flow more

-- of two flows the one whose last sign of life is the earlier, of the same moment the one with the lesser number
abbrev pub goes_before : Flow → Flow → Bool
goes_before f g = nat_lt (last_at f.story) (last_at g.story) || ((last_at f.story == last_at g.story) && nat_lt f.number g.number)

abbrev pub the_earlier : Flow → Option Flow → Flow
the_earlier f None = f
the_earlier f (Some g) = if goes_before f g then f else g

-- the first of those that may give way
abbrev pub quietest : ℕ → List Flow → Option Flow
quietest now [] = None
quietest now (f ∷ flows) = if may_give_way now f.story then Some (the_earlier f (quietest now flows)) else quietest now flows

abbrev pub needs_room : SegmentVerdict → Bool
needs_room NeedsRoom = true
needs_room _ = false

-- A SYN finds all slots in use: one flow gives way, unless a flow that was closed still owes its reset. The SYN itself is ignored.
abbrev pub giving_way : Config → ℕ → OnTuple → Book → Option ℕ
giving_way config now on book =
    if needs_room (segment_verdict config book on) && not (list_any (λ f. owes_reset f.story) book.flows) then option_map (λ f. f.number) (quietest now book.flows) else None

-- ---- the call that is due

abbrev pub asked_for : SegmentVerdict → Option Endpoint
asked_for (AsksFor to) = Some to
asked_for _ = None

-- to which endpoint the host is to connect for the segment that came last
abbrev pub connects_to : Config → Book → Option Endpoint
connects_to config book = option_and_then (λ on. asked_for (segment_verdict config book on)) book.came

-- a socket is closed, or one connects
abbrev pub due_by : Option ℕ → Option Endpoint → ℕ → Option Call
due_by (Some socket) to number = Some (CallClose socket)
due_by None to number = option_map (CallConnect number) to

abbrev pub due_for_flows : Config → Book → ℕ → Option Call
due_for_flows config book number = due_by book.doomed (connects_to config book) number

-- ---- resets (RFC 9293, 3.10.7.1 and 3.10.7.4)

-- numbers that a segment takes
abbrev pub numbers_of : Segment → ℕ
numbers_of seg = length seg.octets + (if seg.syn then 1 else 0) + (if seg.fin then 1 else 0)

-- a reset has the number that was acknowledged; where none was it acknowledges all that came
abbrev pub reset_to : Tuple → Segment → Tcp
reset_to tuple seg =
    if seg.ack then record { from_port = tuple.other.port; to_port = tuple.guest.port; seq = seg.acknowledgement; ack = 0; flags = 4; window = 0; mss = None; scale = None; body = [] }
    else record { from_port = tuple.other.port; to_port = tuple.guest.port; seq = 0; ack = (seg.number + numbers_of seg) % 2 ^ 32; flags = 20; window = 0; mss = None; scale = None; body = [] }

-- the guest acknowledges another SYN than the one that went out, and none was acknowledged yet
abbrev pub is_mistaken : Segment → Option Flow → Bool
is_mistaken seg None = false
is_mistaken seg (Some f) =
    not (is_closed f.story) && syn_is_out f.story && not (answered (host f.story))
    && seg.ack && not seg.rst && not (nat_eq seg.acknowledgement (next_number (our_number f.story)))

abbrev pub is_reset_by : SegmentVerdict → Bool → Bool
is_reset_by OfFlow mistaken = mistaken
is_reset_by GetsReset mistaken = true
is_reset_by _ mistaken = false

-- a segment that came owes a reset
abbrev pub is_reset : Config → Book → OnTuple → Bool
is_reset config book on = is_reset_by (segment_verdict config book on) (is_mistaken on.segment (owner on.tuple book.flows))
