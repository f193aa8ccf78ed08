-- The frames that aren't out yet.
use Rattle.std.specs.Prelude.{◌≡◌, ℕ, ◌==◌, ◌<◌, ◌≤◌, List, [], ◌∷◌, drop, map, take, if◌then◌else◌}
use Rattle.world_face.specs.Frames.{encoding}
use Rattle.net_octets.specs.Kinds.{icmp_proto, tcp_proto, udp_proto}
use Rattle.icmp_echo.specs.Icmp.{Icmp, icmp_octets}
use Rattle.ipv4_head.specs.Cuts.{cuts_from}
use Rattle.udp_datagram.specs.Udp.{Udp, udp_octets}
use Rattle.spec_run.specs.Answers.{datagram_frames, part_frame, uncut}
use Rattle.owed_frames.specs.declared.cutting.Plan.{Plan}
use Rattle.owed_frames.specs.declared.outgoing.Course.{Course}
use Rattle.tcp_segment.specs.Tcp.{Tcp, tcp_octets}

-- the frames of the parts that aren't cut yet, of a datagram at the front of the octets
abbrev pub frames_left : Plan → List ℕ → List (List ℕ)
frames_left plan octets =
    map (part_frame plan.course.to_mac.0 plan.course.from_mac.0 plan.course.ident plan.proto plan.course.from.0 plan.course.to.0)
    (cuts_from plan.course.mtu (uncut (take plan.size octets)) plan.next plan.left)

-- the frame that stands behind its length in so many octets at the front, or none
abbrev pub frames_in : ℕ → List ℕ → List (List ℕ)
frames_in size octets = if size == 0 then [] else drop 4 (take size octets) ∷ []

-- what stands there is a frame behind its length
abbrev pub IsEncoded : ℕ → List ℕ → Type 0
IsEncoded size octets = 0 < size → take size octets ≡ encoding (drop 4 (take size octets))

-- the octets of a segment, as one word
unfoldable pub segment_octets : (from to : ℕ) → Tcp → List ℕ
segment_octets from to tcp = tcp_octets from to tcp

-- a datagram on this course may be cut: a part has room for eight octets, and a frame for a part
abbrev pub MayBeCut : Course → Type 0
MayBeCut course = (28 ≤ course.mtu) × (course.mtu ≤ 1500)

-- the frames of a datagram of this protocol with these octets, and of one with a message, of one of UDP and of one with a segment
abbrev pub frames_on : Course → ℕ → List ℕ → List (List ℕ)
frames_on course proto octets = datagram_frames course.mtu course.to_mac.0 course.from_mac.0 course.ident proto course.from.0 course.to.0 octets

abbrev pub message_frames : Course → Icmp → List (List ℕ)
message_frames course message = frames_on course icmp_proto (icmp_octets message)

abbrev pub udp_frames : Course → Udp → List (List ℕ)
udp_frames course udp = frames_on course udp_proto (udp_octets course.from.0 course.to.0 udp)

abbrev pub segment_frames : Course → Tcp → List (List ℕ)
segment_frames course tcp = frames_on course tcp_proto (segment_octets course.from.0 course.to.0 tcp)
