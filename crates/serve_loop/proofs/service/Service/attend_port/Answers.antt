use Rattle.std.proofs.Common.{◌≡◌, Bool, ◌&&◌, ◌∙◌, ap, false, inl, refl, sym, true}
use Rattle.poll_list.specs.Listing.{reads, same_who}
use Rattle.poll_list.specs.declared.Who.{Who}
use Rattle.poll_list.specs.declared.Who.TheVariants.{Link as TheLink, Udp}
use Rattle.world_face.proofs.Telling.{brings_none, brings_then}
use Rattle.spec_duties.specs.Waiting.{is_written}
use Rattle.spec_duties.proofs.Serving.{unwritten}
use Rattle.slirp_core.specs.Holds.{standing}
use Rattle.serve_loop.proofs.Attending.{pump_serves, same_marks, socket_passed, socket_serves}
use Rattle.serve_loop.proofs.Left.{true_false}
use Rattle.serve_loop.proofs.Turning.{calm_behind, of_socket, read_counts}
use Rattle.serve_loop.proofs.Among.{both}
use Rattle.serve_loop.proofs.service.Service.attend_port.Goals as goal

-- where a report doesn't count
not_both : (a b : Bool) → (a && b) ≡ false → a ≡ true → b ≡ true → ⊥
not_both true b is one two = true_false b two is
not_both false b is one two = absurd cc

pub returns-then-not-waits_for-clause-makes : goal.returns-then-not-waits_for-clause-makes
returns-then-not-waits_for-clause-makes g c config count items to_read =
    let wants = c.args.self.now.wants in
    let item = c.args.item.now in
    let unwaited : (item.read && reads (Udp c.args.number) wants) ≡ false = sym c.waits_for.ensures ∙ c.if-not-waits_for.true in
    brings_none (λ past. socket_passed config count wants items item c.args.self.now.slirp c.args.self.now.link past to_read
    (λ read wanted. absurd (not_both item.read (reads (Udp c.args.number) wants) unwaited read (ap (λ who. reads who wants) (sym c.requires.of) ∙ wanted)))
    (λ write wanted. unwritten config past item.of (ap (is_written config past) c.requires.of)))

pub returns-clause-makes : goal.returns-clause-makes
returns-clause-makes g c config count items to_read =
    let wants = c.args.self.now.wants in
    let item = c.args.item.now in
    let slirp = c.args.self.now.slirp in
    let link = c.args.self.now.link in
    let mid = c.receive_datagram.new.self in
    let new = c.pump.new.self in
    let waited = both item.read (reads (Udp c.args.number) wants) (sym c.waits_for.ensures ∙ c.if-not-waits_for.false) in
    brings_then
    (socket_serves config count wants items item slirp mid.slirp link mid.link (g.W.World.tells c.args.world.now) (g.W.World.tells c.receive_datagram.new.world)
    (Udp c.args.number) to_read c.requires.of (λ past. refl)
    (same_marks slirp.number slirp.flows mid.slirp.flows c.receive_datagram.ensures.flows)
    (c.receive_datagram.ensures.makes config count wants item items (of_socket c.args.number wants item c.requires.of waited.0 waited.1)))
    (pump_serves config count wants items c.pump.result to_read mid.slirp new.slirp mid.link new.link (g.W.World.tells c.receive_datagram.new.world)
    (g.W.World.tells c.pump.new.world) c.pump.ensures.marks c.pump.ensures.sent (c.pump.ensures.makes config (standing count wants items) false))

pub returns-clause-passed : goal.returns-clause-passed
returns-clause-passed g c passed =
    let waited = both c.args.item.now.read (reads (Udp c.args.number) c.args.self.now.wants) (sym c.waits_for.ensures ∙ c.if-not-waits_for.false) in
    absurd (read_counts c.args.self.now.wants c.args.item.now (Udp c.args.number) c.requires.of waited.0 waited.1 passed)

pub returns-then-not-waits_for-clause-calm : goal.returns-then-not-waits_for-clause-calm
returns-then-not-waits_for-clause-calm g c items before again =
    calm_behind c.args.self.now.wants items c.args.item.now c.args.self.now.slirp c.args.self.now.link (ap (λ (who : Who). same_who TheLink who && c.args.item.now.write) c.requires.of) before

pub returns-clause-calm : goal.returns-clause-calm
returns-clause-calm g c items before again = inl (c.pump.ensures.calm again)
