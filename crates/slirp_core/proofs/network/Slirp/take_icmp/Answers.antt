use Rattle.std.proofs.Common.{◌≡◌, ℕ, List, ◌∙◌, ap}
use Rattle.ipv4_head.specs.Ip.{ip_of}
use Rattle.net_octets.specs.Kinds.{icmp_proto}
use Rattle.icmp_echo.specs.Icmp.{icmp_octets, icmp_of, read_icmp}
use Rattle.spec_run.specs.Answers.{datagram_frames, frames_of, owed_for_icmp}
use Rattle.slirp_core.specs.Packets.{owed_for}
use Rattle.slirp_core.specs.State.{SlirpState}
use Rattle.owed_frames.specs.declared.outgoing.Course.{Course}
use Rattle.slirp_core.proofs.Taking.{echoed}
use Rattle.slirp_core.proofs.Viewed.{state_of}
use Rattle.slirp_core.proofs.network.Slirp.take_icmp.Goals as goal

pub returns-in-Some : goal.returns-in-Some
returns-in-Some c =
    let old = c.args.self.now in
    let inside = c.self.inside in
    let ip = ip_of c.args.datagram.now in
    let pending : c.put_message.new.self ≡ frames_of old.config old.sent (owed_for (owed_for_icmp c.args.mac.0 ip) (read_icmp ip.body)) =
    c.put_message.ensures
    ∙ ap (λ (k : Course). datagram_frames k.mtu k.to_mac.0 k.from_mac.0 k.ident icmp_proto k.from.0 k.to.0 (icmp_octets (icmp_of c.in-Some.reply))) c.course-course.ensures.course
    ∙ echoed old.config old.sent c.args.mac.0 ip c.in-Ok.message c.in-Some.reply c.in-Some.ensures c.in-Ok.ensures.packet c.requires.size c.in-Ok.ensures.fields in
    ap (λ (p : List (List ℕ)). record (state_of inside) { pending = p }) pending
    ∙ ap (λ (s : SlirpState). record s { pending = frames_of old.config old.sent (owed_for (owed_for_icmp c.args.mac.0 ip) (read_icmp ip.body)) }) c.self.view_is
