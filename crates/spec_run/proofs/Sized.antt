-- A segment of a flow, with its headers, is no longer than the MTU.
use Rattle.std.proofs.Common.{◌≡◌, ℕ, ◌+◌, ◌-◌, ◌≤◌, ◌&&◌, ◌||◌, not, Bool, true, false, List, [], ◌∷◌, length, drop, MatchBool, Option, Some, None, if◌then◌else◌, refl, ◌∙◌, ap, subst}
use Rattle.std.proofs.Common.{arith, length-append}
use Rattle.world_face.specs.Journal.{Entry, LinkWrite}
use Rattle.world_face.specs.Frames.{goes_out, opens, tail}
use Rattle.world_face.specs.declared.Io.{Io}
use Rattle.world_face.specs.declared.Io.TheVariants.{Done, End, NotYet, Failed}
use Rattle.slirp_settings.specs.Addresses.{Config}
use Rattle.ipv4_head.specs.Ip.{Ip}
use Rattle.net_octets.specs.Octets.{checksum}
use Rattle.tcp_segment.specs.Tcp.{Tcp, mss_octets, options_octets, scale_octets, summed, tcp_length, tcp_octets, tcp_with, words_of}
use Rattle.tcp_segment.proofs.Encoding.{length-segment}
use Rattle.spec_trace.specs.Moments.{moment}
use Rattle.spec_flow.specs.Event.{Segment, Story}
use Rattle.spec_flow.specs.Lawful.{IsPiece, May as MayOfOne, Send}
use Rattle.spec_flow.specs.Windows.{is_scaled, least_shift, mss}
use Rattle.spec_flows.specs.Book.{book}
use Rattle.spec_flows.specs.Laws.{MaySend, SendsOn, WritesBy, flow_settings}
use Rattle.spec_flows.specs.Segments.{OnTuple, segment_in}
use Rattle.spec_run.specs.Answers.{left}
use Rattle.spec_run.specs.Laws.{Lawful}
use Rattle.spec_run.specs.Said.{Carries, IsOfFlow}
use Rattle.spec_run.specs.Sending.{tcp_for}
use Rattle.spec_run.proofs.Only.{is_of_flow, writes_only}

-- ---- how long a segment is

mss_few : (mss : Option ℕ) → length (mss_octets mss) ≤ 4
mss_few None = omega arith
mss_few (Some mss) = omega arith

scale_few : (scale : Option ℕ) → length (scale_octets scale) ≤ 4
scale_few None = omega arith
scale_few (Some shift) = omega arith

pub tcp_long : (from to : ℕ) (tcp : Tcp) → length (tcp_octets from to tcp) ≡ tcp_length tcp
tcp_long from to tcp =
    length-segment (words_of tcp) 0 (checksum (summed from to (tcp_with 0 tcp))) 0 (options_octets tcp) tcp
    ∙ omega (arith, length-append (mss_octets tcp.mss) (scale_octets tcp.scale))

empty_none : (xs : List ℕ) → xs ≡ [] → length xs ≡ 0
empty_none xs is = ap length is

-- ---- one that its flow may send

module _ (config : Config) (past : Story) (now : ℕ) (on : OnTuple) (may : MayOfOne (flow_settings config) past now (Send on.segment)) (room : 48 ≤ config.mtu) where
  abbrev seg : Segment
  seg = on.segment

  -- one without octets has a SYN's options at most
  alone : seg.octets ≡ [] → 20 + tcp_length (tcp_for on) ≤ config.mtu
  alone none = omega (arith, room, mss_few seg.mss, scale_few seg.scale, empty_none seg.octets none)

  few : length seg.octets ≤ config.mtu - 40
  few = omega (arith, may.sends_within_mss)

  -- and one that is neither a SYN nor a reset has no options
  plain : seg.syn ≡ false → 20 + tcp_length (tcp_for on) ≤ config.mtu
  plain not_syn =
      let no_mss : seg.mss ≡ None = may.sends_its_options.0 ∙ ap (λ b. if b && not seg.rst then Some (config.mru - 40) else None) not_syn in
      let no_scale : seg.scale ≡ None = may.sends_its_options.1 ∙ ap (λ b. if true && b && not seg.rst && (not seg.ack || is_scaled (flow_settings config) past) then Some
      (least_shift config.ring) else None) not_syn in
      let short : length (mss_octets seg.mss) ≡ 0 = ap (λ o. length (mss_octets o)) no_mss in
      let short_scale : length (scale_octets seg.scale) ≡ 0 = ap (λ o. length (scale_octets o)) no_scale in
      omega (arith, room, few, short, short_scale)

  by_flags : (syn rst : Bool) → seg.syn ≡ syn → seg.rst ≡ rst → 20 + tcp_length (tcp_for on) ≤ config.mtu
  by_flags true rst syn_is rst_is = alone (subst (λ b. MatchBool (b || seg.rst) ((seg.octets ≡ []) × (seg.fin ≡ false)) (IsPiece past seg)) syn_is may.sends_what_the_host_sent).0
  by_flags false rst syn_is rst_is = plain syn_is

  pub sized : 20 + tcp_length (tcp_for on) ≤ config.mtu
  sized = by_flags seg.syn seg.rst refl refl

-- ---- of a run

module _ (config : Config) (past : List Entry) (frame : List ℕ) where
  may_on : (octets : List ℕ) (answer : Io) (t : List ℕ) → opens (LinkWrite octets answer) t ≡ Some frame → WritesBy (MaySend (flow_settings config) (moment past)) (book config past).flows t octets
      → SendsOn (MaySend (flow_settings config) (moment past)) (book config past).flows (segment_in frame)
  may_on octets (Done n) [] out may = subst (λ x. SendsOn (MaySend (flow_settings config) (moment past)) (book config past).flows (segment_in x)) (same out) may
    where
      same : Some (drop 4 octets) ≡ Some frame → drop 4 octets ≡ frame
      same is = cc
  may_on octets End [] out may = cc
  may_on octets NotYet [] out may = cc
  may_on octets Failed [] out may = cc
  may_on octets answer (x ∷ t) out may = cc

  may_begin : (e : Entry) → Lawful config (e ∷ past) → goes_out e past ≡ Some frame → SendsOn (MaySend (flow_settings config) (moment past)) (book config past).flows (segment_in frame)
  may_begin (LinkWrite octets answer) lawful out = may_on octets answer (tail past) out lawful.0.flows.touches
  may_begin _ lawful out = cc

  of_owner : (f : IsOfFlow config past frame) → SendsOn (MaySend (flow_settings config) (moment past)) (book config past).flows (segment_in frame) → MayOfOne
      (flow_settings config) f.flow.story (moment past) (Send f.on.segment)
  of_owner f may =
      let sends = subst (SendsOn (MaySend (flow_settings config) (moment past)) (book config past).flows) f.carried may in
      let own = subst (MaySend (flow_settings config) (moment past) f.on.segment) f.owner sends in
      subst (λ b. MatchBool b (Unit {0}) (MayOfOne (flow_settings config) f.flow.story (moment past) (Send f.on.segment))) f.own own

pub fits_mtu : (config : Config) (e : Entry) (past : List Entry) (frame : List ℕ) (ip : Ip) (on : OnTuple) → 48 ≤ config.mtu → Lawful config (e ∷ past) →
    goes_out e past ≡ Some frame → left config past ≡ [] → Carries frame ip → segment_in frame ≡ Some on
    → 20 + length ip.body ≤ config.mtu
fits_mtu config e past frame ip on room lawful out nothing c carried =
    let f = is_of_flow config e past frame ip on lawful out nothing c carried in
    let body = writes_only config e past frame ip f.on lawful out nothing c f.carried in
    let long : length ip.body ≡ tcp_length (tcp_for f.on) = ap length body ∙ tcp_long ip.from ip.to (tcp_for f.on) in
    let fits = sized config f.flow.story (moment past) f.on (of_owner config past frame f (may_begin config past frame e lawful out)) room in
    omega (arith, long, fits)
