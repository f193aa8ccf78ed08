-- Frames that go out beside the answers: segments of flows, and requests for a guest's hardware address.
use Rattle.std.proofs.Common.{◌≡◌, ℕ, ◌^◌, ◌<◌, ◌≤◌, ◌==◌, ◌&&◌, ◌||◌, not, nat_le, Bool, true, false, List, [], ◌∷◌, length, drop, bytes_eq, Option, Some, None, option_map}
use Rattle.std.proofs.Common.{option_and_then, if◌then◌else◌, ◌⊎◌, inl, inr, refl, sym, ◌∙◌, ap, subst, arith, lit<}
use Rattle.std.specs.List.{list_any}
use Rattle.std.proofs.lemmas.Bool.Decides.{nat_tests}
use Rattle.std.proofs.lemmas.Option.{cond_some}
use Rattle.net_octets.specs.Kinds.{ipv4_kind, tcp_proto, udp_proto}
use Rattle.net_octets.specs.Octets.{part, two_at, our_mac}
use Rattle.net_octets.proofs.Parts.{length-part}
use Rattle.world_face.specs.Journal.{Entry}
use Rattle.slirp_settings.specs.Addresses.{Config, address}
use Rattle.ether_frame.specs.Ether.{Ether, read_ether}
use Rattle.arp_table.specs.Table.{mac_of as learnt_for}
use Rattle.ipv4_head.specs.Ip.{Ip, is_unbroken, read_ip}
use Rattle.tcp_segment.specs.Tcp.{Tcp, read_tcp}
use Rattle.spec_flows.specs.Book.{book}
use Rattle.spec_flows.specs.Flows.{Flow, is_strange, owner}
use Rattle.spec_flows.specs.Segments.{OnTuple, asked_in, segment_in, tcp_of, to_guest, went_by, went_of}
use Rattle.spec_flows.specs.Taught.{is_pair, taught}
use Rattle.spec_trace.specs.Guests.{known}
use Rattle.spec_run.specs.Answers.{is_flows, again_frames, frames_of, may_go_again, serving, told_of_files, begins_datagram, datagrams_in, identification, is_first, left, part_frame}
use Rattle.spec_run.specs.Answers.{uncut, request}
use Rattle.arp_table.specs.Arp.{everyone}
use Rattle.world_face.specs.Frames.{goes_out}
use Rattle.spec_run.specs.Laws.{Lawful}
use Rattle.spec_run.specs.Said.{AnswersLast, AsksForGuest, Carries, GoesAgain, IsOfFlow}
use Rattle.rules_tftp.specs.Transfers.{Said}
use Rattle.tcp_segment.specs.Tcp.{tcp_octets}
use Rattle.spec_run.specs.Sending.{ip_in, ip_of, is_beside, is_latest, is_own, is_well_sent, is_written, may_ask, request_for, sends_again, sends_segment, speaks_yet, tcp_for}
use Rattle.spec_run.proofs.Bools.{equal, equal_octets, first_of, second_of}
use Rattle.spec_run.proofs.Framing.{our_six, part_begins}
use Rattle.spec_run.proofs.Owing.{Begins, Next, Beside, first_answers, out_by}
use Rattle.spec_run.proofs.Reading.{no_arp, reads_part}

-- ---- why

of_owner : (config : Config) (past : List Entry) (frame : List ℕ) (on : OnTuple) (o : Option Flow) → left config past ≡ [] → segment_in frame ≡ Some on → owner on.tuple (book config past).flows ≡ o
    → (is_own on.segment (book config past).time_waits o && is_well_sent config past frame on) ≡ true → IsOfFlow config past frame
of_owner config past frame on None nothing carried owned is = cc
of_owner config past frame on (Some f) nothing carried owned is = record {
  nothing = nothing;
  on = on;
  carried = carried;
  flow = f;
  owner = owned;
  own = is_not (is_strange on.segment f) (first_of (not (is_strange on.segment f)) (speaks_yet on.segment (book config past).time_waits f) own);
  speaks = second_of (not (is_strange on.segment f)) (speaks_yet on.segment (book config past).time_waits f) own;
  sent = second_of (is_own on.segment (book config past).time_waits (Some f)) (is_well_sent config past frame on) is;
}
  where
    own : is_own on.segment (book config past).time_waits (Some f) ≡ true
    own = first_of (is_own on.segment (book config past).time_waits (Some f)) (is_well_sent config past frame on) is

    is_not : (b : Bool) → not b ≡ true → b ≡ false
    is_not true is = cc
    is_not false is = refl

pub by_segment : (config : Config) (past : List Entry) (frame : List ℕ) (o : Option OnTuple) → left config past ≡ [] → segment_in frame ≡ o →
    sends_segment config past frame o ≡ true → IsOfFlow config past frame
by_segment config past frame None nothing carried is = cc
by_segment config past frame (Some on) nothing carried is = of_owner config past frame on (owner on.tuple (book config past).flows) nothing carried refl is

pub by_request : (config : Config) (past : List Entry) (frame : List ℕ) (o : Option ℕ) → left config past ≡ [] → asked_in frame ≡ o → may_ask config past frame o ≡ true →
    AsksForGuest config past frame
by_request config past frame None nothing asked is = cc
by_request config past frame (Some guest) nothing asked is = record { nothing = nothing; guest = guest; asked = asked; may = is }

pub beside : (config : Config) (past : List Entry) (frame : List ℕ) → left config past ≡ [] → is_beside config past frame ≡ true → IsOfFlow config past frame ⊎
    (AsksForGuest config past frame ⊎ GoesAgain config past frame)
beside config past frame nothing is = by (sends_segment config past frame (segment_in frame)) (may_ask config past frame (asked_in frame)) refl refl is
  where
    of_said : (o : Option Said) → may_go_again (serving config past) ≡ o → is_first frame (frames_of config (identification past) (told_of_files config o)) ≡ true → GoesAgain config past frame
    of_said None may is = cc
    of_said (Some said) may is = record { nothing = nothing; said = said; may = may; first = is }

    by : (b c : Bool) → sends_segment config past frame (segment_in frame) ≡ b → may_ask config past frame (asked_in frame) ≡ c → (b || c || sends_again config past frame) ≡ true
        → IsOfFlow config past frame ⊎ (AsksForGuest config past frame ⊎ GoesAgain config past frame)
    by true c sends asks may = inl (by_segment config past frame (segment_in frame) nothing refl sends)
    by false true none asks may = inr (inl (by_request config past frame (asked_in frame) nothing refl asks))
    by false false none asks may = inr (inr (of_said (may_go_again (serving config past)) refl
        (second_of (not (is_flows frame)) (is_first frame (again_frames config (identification past) (serving config past))) may)))

pub why_out : (config : Config) (e : Entry) (past : List Entry) (frame : List ℕ) → 28 ≤ config.mtu → Lawful config (e ∷ past) → goes_out e past ≡ Some frame
    → AnswersLast config past frame ⊎ (IsOfFlow config past frame ⊎ (AsksForGuest config past frame ⊎ GoesAgain config past frame))
why_out config e past frame fits lawful out = by (out_by config e past frame lawful.0 out)
  where
    by : Begins config past frame → AnswersLast config past frame ⊎ (IsOfFlow config past frame ⊎ (AsksForGuest config past frame ⊎ GoesAgain config past frame))
    by (Next first) = inl (first_answers config past frame fits lawful.1 first)
    by (Beside nothing is) = inr (beside config past frame nothing is)

pub first_or_none : (config : Config) (e : Entry) (past : List Entry) (frame : List ℕ) → Lawful config (e ∷ past) → goes_out e past ≡ Some frame → (left config past ≡ []) ⊎
    (is_first frame (left config past) ≡ true)
first_or_none config e past frame lawful out = by (out_by config e past frame lawful.0 out)
  where
    by : Begins config past frame → (left config past ≡ []) ⊎ (is_first frame (left config past) ≡ true)
    by (Next first) = inr first
    by (Beside nothing is) = inl nothing

-- ---- requests carry no datagram

pub no_request : (config : Config) (past : List Entry) (frame : List ℕ) (ip : Ip) → AsksForGuest config past frame → Carries frame ip → ⊥
no_request config past frame ip a c =
    let same = equal_octets frame (request_for config a.guest) (first_of _ _ (first_of _ _ (first_of _ _ a.may))) in
    no_arp everyone (request config a.guest) ip refl (our_six config.vhost) (subst (λ f. Carries f ip) same c)

-- ---- segments carry one of TCP

some_of : (mac : List ℕ) (ip : Ip) (o : Option Tcp) (on : OnTuple) → option_map (to_guest mac ip) o ≡ Some on → (tcp : Tcp) × (o ≡ Some tcp) × (to_guest mac ip tcp ≡ on)
some_of mac ip None on is = cc
some_of mac ip (Some tcp) on is = (tcp, refl, cc)

pub carried_segment : (frame : List ℕ) (ip : Ip) (on : OnTuple) (c : Carries frame ip) → segment_in frame ≡ Some on → (tcp : Tcp) × (tcp_of ip ≡ Some tcp) × (to_guest c.ether.to ip tcp ≡ on)
carried_segment frame ip on c is =
    let kind : (c.ether.kind == ipv4_kind) ≡ true = ap (λ n. n == ipv4_kind) c.kind in
    some_of c.ether.to ip (tcp_of ip) on
    (ap (option_and_then (went_by c.ether.to)) (sym c.holds) ∙ ap (λ (b : Bool). if b then option_and_then (went_by c.ether.to) (read_ip c.ether.body) else None) (sym kind)
    ∙ ap (option_and_then went_of) (sym c.framed) ∙ is)

pub is_tcp : (ip : Ip) (tcp : Tcp) → tcp_of ip ≡ Some tcp → ip.proto ≡ tcp_proto
is_tcp ip tcp is = by ((ip.proto == tcp_proto) && is_unbroken ip) refl is
  where
    by : (b : Bool) → ((ip.proto == tcp_proto) && is_unbroken ip) ≡ b → (if b then read_tcp ip.from ip.to ip.body else None) ≡ Some tcp → ip.proto ≡ tcp_proto
    by true both is = equal ip.proto tcp_proto (first_of (ip.proto == tcp_proto) (is_unbroken ip) both)
    by false both is = cc

pub no_udp : (config : Config) (past : List Entry) (frame : List ℕ) (ip : Ip) → IsOfFlow config past frame → Carries frame ip → ip.proto ≡ udp_proto → ⊥
no_udp config past frame ip f c udp =
    let s = carried_segment frame ip f.on c f.carried in
    let protos : 6 ≡ 17 = sym (is_tcp ip s.0 s.1) ∙ udp in
    absurd (omega (arith, protos))

to_six : (frame : List ℕ) (ether : Ether) → read_ether frame ≡ Some ether → length ether.to ≡ 6
to_six frame ether is =
    let found = cond_some (nat_le 14 (length frame)) (record { to = part frame 0 6; from = part frame 6 6; kind = two_at frame 12; body = drop 14 frame }) ether is in
    let enough : 6 ≤ length frame = (let long = found.0 in grind (arith, nat_tests, long)) in
    ap (λ (e : Ether). length e.to) (sym found.1) ∙ length-part frame 0 6 enough

as_read : (frame : List ℕ) (ip : Ip) (c : Carries frame ip) → ip_in frame ≡ Some ip
as_read frame ip c =
    let kind : (c.ether.kind == ipv4_kind) ≡ true = ap (λ n. n == ipv4_kind) c.kind in
    ap (option_and_then ip_of) c.framed ∙ ap (λ (b : Bool). if b then read_ip c.ether.body else None) kind ∙ c.holds

-- a whole datagram with the next identification, which begins it
pub record IsWhole (past : List Entry) (frame : List ℕ) (ip : Ip) : Type 0 where
  pub ident : ip.ident ≡ identification past
  pub front : ip.place ≡ 0
  pub begins : datagrams_in frame ≡ 1

pub sends_whole : (config : Config) (past : List Entry) (frame : List ℕ) (ip : Ip) → IsOfFlow config past frame → Carries frame ip → IsWhole past frame ip
sends_whole config past frame ip f c =
    let s = carried_segment frame ip f.on c f.carried in
    let six : length f.on.mac ≡ 6 = ap (λ (on : OnTuple). length on.mac) (sym s.2) ∙ to_six frame c.ether c.framed in
    let written : is_written config (identification past) frame f.on (Some ip) ≡ true =
    ap (is_written config (identification past) frame f.on) (sym (as_read frame ip c)) ∙ second_of (list_any (is_pair (address f.on.tuple.guest) f.on.mac)
    (taught config past) && is_latest f.on.mac (learnt_for f.on.tuple.guest.addr (known config past))) (is_written config (identification past) frame f.on (ip_in frame)) f.sent in
    let whole = part_frame f.on.mac (our_mac config.vhost) (identification past) ip.proto ip.from ip.to (uncut ip.body) in
    let same = equal_octets frame whole (first_of (bytes_eq frame whole) (bytes_eq ip.body (tcp_octets ip.from ip.to (tcp_for f.on))) written) in
    let fits : identification past < 2 ^ 16 = omega arith in
    let r = reads_part config (identification past) f.on.mac ip.proto ip.from ip.to (uncut ip.body) ip fits (lit< tt) six (subst (λ f. Carries f ip) same c) in
    record {
      ident = r.ident;
      front = r.place;
      begins = ap datagrams_in same ∙ one (begins_datagram whole) (part_begins f.on.mac (our_mac config.vhost) (identification past) ip.proto ip.from ip.to (uncut ip.body) six
          (our_six config.vhost) (lit< tt));
    }
  where
    one : (b : Bool) → b ≡ true → ◌≡◌ {A = ℕ} (if b then 1 else 0) 1
    one true is = refl
    one false is = cc

-- what it carries is its segment, and nothing beside it
pub carries_only : (config : Config) (past : List Entry) (frame : List ℕ) (ip : Ip) (f : IsOfFlow config past frame) → Carries frame ip → ip.body ≡ tcp_octets ip.from ip.to (tcp_for f.on)
carries_only config past frame ip f c =
    let written : is_written config (identification past) frame f.on (Some ip) ≡ true =
    ap (is_written config (identification past) frame f.on) (sym (as_read frame ip c)) ∙ second_of (list_any (is_pair (address f.on.tuple.guest) f.on.mac)
    (taught config past) && is_latest f.on.mac (learnt_for f.on.tuple.guest.addr (known config past))) (is_written config (identification past) frame f.on (ip_in frame)) f.sent in
    let whole = part_frame f.on.mac (our_mac config.vhost) (identification past) ip.proto ip.from ip.to (uncut ip.body) in
    let only = tcp_octets ip.from ip.to (tcp_for f.on) in
    equal_octets ip.body only (second_of (bytes_eq frame whole) (bytes_eq ip.body only) written)
