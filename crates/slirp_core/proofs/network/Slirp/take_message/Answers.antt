use Rattle.std.proofs.Common.{◌≡◌, ℕ, ◌++◌, List, [], drop, length, refl, ◌∙◌, ap, arith, length-append}
use Rattle.std.proofs.lemmas.List.{take_at}
use Rattle.slirp_settings.specs.Addresses.{Config}
use Rattle.rules_udp.specs.declared.Reply.{Reply}
use Rattle.rules_dhcp.specs.Messages.{read_message}
use Rattle.rules_dhcp.specs.Replies.{replied_octets, reply_to}
use Rattle.rules_dhcp.specs.Serving.{leases_after}
use Rattle.spec_run.specs.Answers.{answers_of, frames_of}
use Rattle.spec_run.specs.Leasing.{sending_of}
use Rattle.slirp_core.specs.Datagrams.{datagram_of}
use Rattle.slirp_core.specs.Leases.{after_message}
use Rattle.slirp_core.specs.Replies.{replied_by}
use Rattle.slirp_core.specs.State.{SlirpState}
use Rattle.slirp_core.proofs.Taking.{lease_fits, lease_replied}
use Rattle.slirp_core.proofs.Viewed.{state_of}
use Rattle.slirp_core.proofs.network.Slirp.take_message.Goals as goal

-- what was written stands at the front of the room
pub put_reply-requires-clause-fits : goal.put_reply-requires-clause-fits
put_reply-requires-clause-fits c =
    let i = c.self.inside in
    let m = read_message c.args.datagram.now.body.now in
    let room = c.message-reply.new.into in
    let octets = replied_octets i.leases.config i.moment i.leases.leases m in
    let rest = drop (length octets) c.deref_mut.result.now in
    let size : length room ≡ i.message.len = c.message-reply.auto.into ∙ c.deref_mut.ensures.len in
    let whole : c.deref.result.now ≡ room = c.deref.ensures.value ∙ take_at room (drop (length room) i.message.items) i.message.len size in
    let long : length c.deref.result.now ≡ length (octets ++ rest) = ap length (whole ∙ c.message-reply.ensures.octets) in
    lease_fits i.leases.config i.moment i.leases.leases m c.message-reply.result (length c.deref.result.now) c.message-reply.ensures.reply (omega (arith, long, length-append octets rest))

pub returns : goal.returns
returns c =
    let i = c.self.inside in
    let d = datagram_of c.args.datagram.now in
    let m = read_message d.body in
    let reply = c.message-reply.result in
    let room = c.message-reply.new.into in
    let said = replied_octets i.leases.config i.moment i.leases.leases m in
    let octets = replied_octets i.policy i.moment i.leases.leases m in
    let rest = drop (length said) c.deref_mut.result.now in
    let same : said ≡ octets = ap (λ (k : Config). replied_octets k i.moment i.leases.leases m) c.self.invariant.4 in
    let size : length room ≡ i.message.len = c.message-reply.auto.into ∙ c.deref_mut.ensures.len in
    let whole : c.deref.result.now ≡ said ++ rest =
    c.deref.ensures.value ∙ take_at room (drop (length room) i.message.items) i.message.len size ∙ c.message-reply.ensures.octets in
    let is : reply ≡ reply_to i.policy i.moment i.leases.leases m = c.message-reply.ensures.reply ∙ ap (λ (k : Config). reply_to k i.moment i.leases.leases m) c.self.invariant.4 in
    let leased : c.message-reply.new.self.leases ≡ leases_after i.policy i.moment d.body i.leases.leases = c.message-reply.ensures.leases ∙ ap
    (λ (k : Config). leases_after k i.moment d.body i.leases.leases) c.self.invariant.4 in
    let none : i.outgoing ≡ [] = ap (λ (s : SlirpState). s.pending) c.self.view_is ∙ c.requires.none in
    let owed : c.put_reply.new.outgoing ≡ frames_of i.policy i.sent (answers_of (sending_of (reply_to i.policy i.moment i.leases.leases m) octets)) =
    c.put_reply.ensures
    ∙ ap (λ (o : List ℕ). replied_by i.policy i.sent i.outgoing reply o) (whole ∙ ap (λ (o : List ℕ). o ++ rest) same)
    ∙ lease_replied i.policy i.sent i.moment i.leases.leases m reply i.outgoing octets rest none refl is
    ∙ ap (λ (r : Reply). frames_of i.policy i.sent (answers_of (sending_of r octets))) is in
    (λ j. record (state_of i) { pending = owed j; leases = leased j })
    ∙ ap (λ (s : SlirpState). after_message s d) c.self.view_is
