use Rattle.std.proofs.Common.{◌≡◌, ℕ, rules, Option, List, ◌++◌, drop, length, false, sym, ◌∙◌, ap, subst}
use Rattle.std.proofs.lemmas.List.{take_at}
use Rattle.world_face.specs.Tells.{Brings, Makes}
use Rattle.world_face.proofs.Telling.{makes_as}
use Rattle.rules_tftp.specs.Asking.{IsServed}
use Rattle.rules_tftp.specs.Saying.{IsFromServer, said_by}
use Rattle.rules_tftp.specs.Transfers.{came, settled}
use Rattle.spec_run.specs.Answers.{frames_of, told_of_files}
use Rattle.slirp_core.specs.Datagrams.{datagram_of}
use Rattle.slirp_core.specs.Files.{ServesFile}
use Rattle.slirp_core.specs.Holds.{AsksFile, Holds, flowing}
use Rattle.slirp_core.specs.State.{SlirpState}
use Rattle.slirp_core.proofs.Services.{server_on}
use Rattle.slirp_core.proofs.Serving.{served}
use Rattle.slirp_core.proofs.Taking.{file_fits, file_told}
use Rattle.slirp_core.proofs.Telling.{brings_allowed}
use Rattle.slirp_core.proofs.Viewed.{state_of}
use Rattle.slirp_core.proofs.network.Slirp.take_file.Goals as goal

pub put_reply-requires-clause-fits : goal.put_reply-requires-clause-fits
put_reply-requires-clause-fits g c =
    let i = c.self.inside in
    let room = c.packet-reply.new.into in
    let whole : c.deref.result.now ≡ room = c.deref.ensures.value ∙ take_at room (drop (length room) i.message.items) i.message.len (c.packet-reply.auto.into ∙ c.deref_mut.ensures.len) in
    file_fits i.files.vhost c.packet-reply.result (length c.deref.result.now) c.packet-reply.ensures.from (search rules)

pub returns-clause-makes : goal.returns-clause-makes
returns-clause-makes g c config at link =
    let i = c.self.inside in
    let slirp : SlirpState = state_of i in
    let d = datagram_of c.args.datagram.now in
    let room = c.packet-reply.new.into in
    let told = said_by c.packet-reply.result room in
    let transfers = c.packet-reply.new.self.transfers in
    let whole : c.deref.result.now ≡ room = c.deref.ensures.value ∙ take_at room (drop (length room) i.message.items) i.message.len (c.packet-reply.auto.into ∙ c.deref_mut.ensures.len) in
    let owed : c.put_reply.new.outgoing ≡ frames_of i.policy i.sent (told_of_files i.policy told) =
    file_told i.policy i.sent c.packet-reply.result i.outgoing c.put_reply.new.outgoing c.deref.result.now room c.put_reply.ensures (ap (λ (s : SlirpState). s.pending) c.self.view_is ∙ c.requires.none)
    (subst (λ (n : ℕ). IsFromServer n c.packet-reply.result) c.self.invariant.7.vhost c.packet-reply.ensures.from) whole in
    subst (λ (s : SlirpState). Brings (g.W.World.tells c.args.world.now) (g.W.World.tells c.packet-reply.new.world) (AsksFile config at s s.flows link d)
    (Holds config at (record slirp { pending = c.put_reply.new.outgoing; transfers = transfers }) (flowing false i.flows) link)) c.self.view_is
    (brings_allowed c.packet-reply.ensures.serves (λ made is allowed past asks.
    subst (λ (p : List (List ℕ)). Holds config at (record slirp { pending = p; transfers = transfers }) (flowing false i.flows) link (made ++ past)) (sym owed)
    (served config at slirp i.flows link d past made transfers told asks allowed
    (subst (λ (f : Option (List ℕ)). IsServed i.moment (came f i.moment d.mac d.from d.body (settled i.files.transfers)) transfers told made) c.self.invariant.7.folder is))))

pub returns-clause-serves : goal.returns-clause-serves
returns-clause-serves g c =
    let i = c.self.inside in
    let slirp : SlirpState = state_of i in
    let d = datagram_of c.args.datagram.now in
    let room = c.packet-reply.new.into in
    let told = said_by c.packet-reply.result room in
    let transfers = c.packet-reply.new.self.transfers in
    let whole : c.deref.result.now ≡ room = c.deref.ensures.value ∙ take_at room (drop (length room) i.message.items) i.message.len (c.packet-reply.auto.into ∙ c.deref_mut.ensures.len) in
    let owed : c.put_reply.new.outgoing ≡ frames_of i.policy i.sent (told_of_files i.policy told) =
    file_told i.policy i.sent c.packet-reply.result i.outgoing c.put_reply.new.outgoing c.deref.result.now room c.put_reply.ensures (ap (λ (s : SlirpState). s.pending) c.self.view_is ∙ c.requires.none)
    (subst (λ (n : ℕ). IsFromServer n c.packet-reply.result) c.self.invariant.7.vhost c.packet-reply.ensures.from) whole in
    subst (λ (s : SlirpState). Makes (g.W.World.tells c.args.world.now) (g.W.World.tells c.packet-reply.new.world)
    (ServesFile s d (record slirp { pending = c.put_reply.new.outgoing; transfers = transfers }))) c.self.view_is
    (makes_as _ _ _ (ServesFile slirp d (record slirp { pending = c.put_reply.new.outgoing; transfers = transfers })) c.packet-reply.ensures.serves (λ made is. record {
      told = told;
      served = subst (λ (f : Option (List ℕ)). IsServed i.moment (came f i.moment d.mac d.from d.body (settled i.files.transfers)) transfers told made) c.self.invariant.7.folder is;
      pending = owed;
    }))

pub invariant_of-self : goal.invariant_of-self
invariant_of-self g c =
    let i = c.self.inside in (
      c.self.invariant.0,
      c.self.invariant.1,
      c.self.invariant.2,
      c.self.invariant.3,
      c.self.invariant.4,
      search rules,
      c.self.invariant.6,
      server_on i.policy i.files c.packet-reply.new.self _ c.packet-reply.ensures.rest c.self.invariant.7,
    )
