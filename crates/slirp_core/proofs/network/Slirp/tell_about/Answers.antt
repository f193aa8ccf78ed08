use Rattle.std.proofs.Common.{◌≡◌, ℕ, ◌==◌, ◌||◌, false, List, sym, ◌∙◌, ap}
use Rattle.net_octets.specs.Kinds.{icmp_proto}
use Rattle.net_octets.specs.Octets.{our_mac}
use Rattle.slirp_settings.specs.Addresses.{Config, last_address}
use Rattle.slirp_settings.specs.Classes.{is_group_or_reserved}
use Rattle.icmp_echo.specs.Icmp.{unreachable_octets}
use Rattle.spec_run.specs.Answers.{datagram_frames, is_untold, frames_of, told_about}
use Rattle.slirp_core.specs.Datagrams.{datagram_of}
use Rattle.slirp_core.specs.State.{SlirpState}
use Rattle.owed_frames.specs.declared.outgoing.Course.{Course}
use Rattle.slirp_core.proofs.Taking.{told, both_false}
use Rattle.slirp_core.proofs.Viewed.{state_of}
use Rattle.slirp_core.proofs.network.Slirp.tell_about.Goals as goal

pub returns : goal.returns
returns c =
    let old = c.args.self.now in
    let inside = c.self.inside in
    let d = datagram_of c.args.datagram.now in
    let code = c.args.code in
    let policy : inside.policy ≡ old.config = ap (λ (s : SlirpState). s.config) c.self.view_is in
    let nobody : (d.from.addr.0 == 0) ≡ false = sym c.eq.ensures ∙ c.if-eq.false in
    let many : (is_group_or_reserved d.to.addr.0 || (d.to.addr.0 == last_address old.config)) ≡ false =
    ap (λ (k : Config). is_group_or_reserved d.to.addr.0 || (d.to.addr.0 == last_address k)) (sym policy) ∙ sym c.is_of_many.ensures ∙ c.if-is_of_many.false in
    let untold : is_untold old.config d ≡ false = both_false (d.from.addr.0 == 0) (is_group_or_reserved d.to.addr.0) (d.to.addr.0 == last_address old.config) nobody many in
    let host : c.vhost.result.0 ≡ old.config.vhost = c.vhost.ensures ∙ ap (λ (k : Config). k.vhost) policy in
    let pending : c.put_message.new.self ≡ frames_of old.config old.sent (told_about old.config code d) =
    c.put_message.ensures
    ∙ ap (λ (k : Course). datagram_frames k.mtu k.to_mac.0 k.from_mac.0 k.ident icmp_proto k.from.0 k.to.0 (unreachable_octets code d.quote)) c.course-course.ensures.course
    ∙ ap (λ (host : ℕ). datagram_frames old.config.mtu d.mac (our_mac old.config.vhost) old.sent icmp_proto host d.from.addr.0 (unreachable_octets code d.quote)) host
    ∙ told old.config old.sent code d untold c.requires.quote in
    ap (λ (p : List (List ℕ)). record (state_of inside) { pending = p }) pending
    ∙ ap (λ (s : SlirpState). record s { pending = frames_of old.config old.sent (told_about old.config code d) }) c.self.view_is
