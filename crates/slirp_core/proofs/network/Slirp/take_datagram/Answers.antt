use Rattle.std.proofs.Common.{◌≡◌, true, false, Some, None, sym, ◌∙◌, ap, subst}
use Rattle.world_face.proofs.Telling.{brings_none}
use Rattle.slirp_settings.specs.Addresses.{Config}
use Rattle.ipv4_head.specs.Ip.{ip_of}
use Rattle.slirp_core.specs.Datagrams.{datagram_of}
use Rattle.slirp_core.specs.Holds.{Holds, flowing}
use Rattle.slirp_core.specs.Packets.{is_message_to_us, is_segment, udp_of}
use Rattle.slirp_core.specs.Segments.{coming_of}
use Rattle.slirp_core.specs.State.{SlirpState}
use Rattle.slirp_core.proofs.Taking.{message_comes, no_segment_comes, no_udp_comes, segment_comes, udp_comes}
use Rattle.slirp_core.proofs.Telling.{from_more}
use Rattle.slirp_core.proofs.network.Slirp.take_datagram.Goals as goal

-- a message
pub returns-then-is_message_to_us-clause-makes : goal.returns-then-is_message_to_us-clause-makes
returns-then-is_message_to_us-clause-makes g c config at link =
    let old = c.args.self.now in
    let mac = c.args.mac.0 in
    let ip = ip_of c.args.datagram.now in
    let policy = ap (λ (s : SlirpState). s.config) c.self.view_is in
    let asked : is_message_to_us old.config ip ≡ true = ap (λ (k : Config). is_message_to_us k ip) (sym policy) ∙ sym c.is_message_to_us.ensures ∙ c.if-is_message_to_us.true in
    brings_none (λ past came. subst (λ (s : SlirpState). Holds config at s (flowing false s.flows) link past) (sym c.take_icmp.ensures)
    (message_comes old mac ip config at link c.requires.none past came asked))

-- a segment
pub returns-in-Some-clause-makes : goal.returns-in-Some-clause-makes
returns-in-Some-clause-makes g c config at link =
    let old = c.args.self.now in
    let mac = c.args.mac.0 in
    let ip = ip_of c.args.datagram.now in
    let policy = ap (λ (s : SlirpState). s.config) c.self.view_is in
    let asked : is_message_to_us old.config ip ≡ false = ap (λ (k : Config). is_message_to_us k ip) (sym policy) ∙ sym c.is_message_to_us.ensures ∙ c.if-is_message_to_us.false in
    let carries : is_segment old.config ip ≡ true = ap (λ (k : Config). is_segment k ip) (sym policy) ∙ sym c.is_segment.ensures ∙ c.if-is_segment.true in
    from_more _ _ _ _ _ (λ past came. segment_comes old mac ip config at link c.requires.none past came (coming_of c.in-Some.segment) asked carries c.in-Some.ensures.segment)
    (c.take_segment.ensures.makes config at link)

pub returns-in_default-clause-makes : goal.returns-in_default-clause-makes
returns-in_default-clause-makes g c config at link =
    let old = c.args.self.now in
    let mac = c.args.mac.0 in
    let ip = ip_of c.args.datagram.now in
    let policy = ap (λ (s : SlirpState). s.config) c.self.view_is in
    let asked : is_message_to_us old.config ip ≡ false = ap (λ (k : Config). is_message_to_us k ip) (sym policy) ∙ sym c.is_message_to_us.ensures ∙ c.if-is_message_to_us.false in
    let carries : is_segment old.config ip ≡ true = ap (λ (k : Config). is_segment k ip) (sym policy) ∙ sym c.is_segment.ensures ∙ c.if-is_segment.true in
    brings_none (λ past came. no_segment_comes old mac ip config at link c.requires.none past came asked carries c.in_default.ensures.segment)

-- a datagram of UDP
pub returns-in-Some-datagram_in-clause-makes : goal.returns-in-Some-datagram_in-clause-makes
returns-in-Some-datagram_in-clause-makes g c config at link =
    let old = c.args.self.now in
    let mac = c.args.mac.0 in
    let ip = ip_of c.args.datagram.now in
    let policy = ap (λ (s : SlirpState). s.config) c.self.view_is in
    let asked : is_message_to_us old.config ip ≡ false = ap (λ (k : Config). is_message_to_us k ip) (sym policy) ∙ sym c.is_message_to_us.ensures ∙ c.if-is_message_to_us.false in
    let carries : is_segment old.config ip ≡ false = ap (λ (k : Config). is_segment k ip) (sym policy) ∙ sym c.is_segment.ensures ∙ c.if-is_segment.false in
    let udp : Some (datagram_of c.in-Some-datagram_in.udp) ≡ udp_of old.config mac ip = c.in-Some-datagram_in.ensures.datagram ∙ ap (λ (k : Config). udp_of k mac ip) policy in
    from_more _ _ _ _ _ (λ past came. udp_comes old mac ip config at link c.requires.none past came (datagram_of c.in-Some-datagram_in.udp) asked carries udp)
    (c.take_udp.ensures.makes config at link)

pub returns-in_default-datagram_in-clause-makes : goal.returns-in_default-datagram_in-clause-makes
returns-in_default-datagram_in-clause-makes g c config at link =
    let old = c.args.self.now in
    let mac = c.args.mac.0 in
    let ip = ip_of c.args.datagram.now in
    let policy = ap (λ (s : SlirpState). s.config) c.self.view_is in
    let asked : is_message_to_us old.config ip ≡ false = ap (λ (k : Config). is_message_to_us k ip) (sym policy) ∙ sym c.is_message_to_us.ensures ∙ c.if-is_message_to_us.false in
    let carries : is_segment old.config ip ≡ false = ap (λ (k : Config). is_segment k ip) (sym policy) ∙ sym c.is_segment.ensures ∙ c.if-is_segment.false in
    let udp : None ≡ udp_of old.config mac ip = c.in_default-datagram_in.ensures.datagram ∙ ap (λ (k : Config). udp_of k mac ip) policy in
    brings_none (λ past came. no_udp_comes old mac ip config at link c.requires.none past came asked carries udp)
