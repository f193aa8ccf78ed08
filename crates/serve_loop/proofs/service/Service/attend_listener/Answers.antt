use Rattle.std.proofs.Common.{◌≡◌, Bool, ◌&&◌, ◌∷◌, ◌∙◌, ap, false, inl, refl, subst, sym, true}
use Rattle.poll_list.specs.Listing.{reads, same_who}
use Rattle.poll_list.specs.declared.Who.{Who}
use Rattle.poll_list.specs.declared.Who.TheVariants.{Link as TheLink, Listener}
use Rattle.world_face.specs.Tells.{Brings}
use Rattle.world_face.proofs.Telling.{brings_none, brings_then}
use Rattle.spec_duties.specs.Waiting.{is_written}
use Rattle.spec_duties.proofs.Serving.{unwritten}
use Rattle.slirp_core.specs.Holds.{standing}
use Rattle.slirp_core.proofs.Telling.{from_more}
use Rattle.serve_loop.proofs.Attending.{pump_serves, socket_passed, socket_serves}
use Rattle.serve_loop.proofs.Left.{true_false}
use Rattle.serve_loop.specs.Served.{ServiceState}
use Rattle.serve_loop.specs.Turns.{AfterItem, ServesNow}
use Rattle.serve_loop.proofs.Turning.{calm_behind, of_listener, read_counts}
use Rattle.serve_loop.proofs.Among.{both}
use Rattle.serve_loop.proofs.service.Service.attend_listener.Goals as goal

-- where a report doesn't count
not_both : (a b : Bool) → (a && b) ≡ false → a ≡ true → b ≡ true → ⊥
not_both true b is one two = true_false b two is
not_both false b is one two = absurd cc

pub returns-then-not-waits_for_peers-clause-makes : goal.returns-then-not-waits_for_peers-clause-makes
returns-then-not-waits_for_peers-clause-makes g c config count items to_read =
    let wants = c.args.self.now.wants in
    let item = c.args.item.now in
    let unwaited : (item.read && reads (Listener c.args.number) wants) ≡ false = sym c.waits_for_peers.ensures ∙ c.if-not-waits_for_peers.true in
    brings_none (λ past. socket_passed config count wants items item c.args.self.now.slirp c.args.self.now.link past to_read
    (λ read wanted. absurd (not_both item.read (reads (Listener c.args.number) wants) unwaited read (ap (λ who. reads who wants) (sym c.requires.of) ∙ wanted)))
    (λ write wanted. unwritten config past item.of (ap (is_written config past) c.requires.of)))

pub returns-clause-makes : goal.returns-clause-makes
returns-clause-makes g c config count items to_read =
    let wants = c.args.self.now.wants in
    let item = c.args.item.now in
    let link = c.self.inside.link in
    let mid = c.accept.new.self in
    let new = c.pump.new.self in
    let waited = both item.read (reads (Listener c.args.number) wants) (sym c.waits_for_peers.ensures ∙ c.if-not-waits_for_peers.false) in
    subst (λ (s : ServiceState). Brings (g.W.World.tells c.args.world.now) (g.W.World.tells c.pump.new.world) (ServesNow config count wants (item ∷ items) to_read s.slirp s.link)
    (AfterItem c.pump.result config count wants items to_read new.slirp new.link)) c.self.view_is
    (brings_then
    (socket_serves config count wants items item c.self.inside.slirp mid link link (g.W.World.tells c.args.world.now) (g.W.World.tells c.accept.new.world)
    (Listener c.args.number) to_read c.requires.of (λ past. refl) c.accept.ensures.marks
    (from_more _ _ _ _ _ (λ past now. now.0) (c.accept.ensures.makes config count wants item items link (of_listener c.args.number wants item c.requires.of waited.0 waited.1))))
    (pump_serves config count wants items c.pump.result to_read mid new.slirp link new.link (g.W.World.tells c.accept.new.world)
    (g.W.World.tells c.pump.new.world) c.pump.ensures.marks c.pump.ensures.sent (c.pump.ensures.makes config (standing count wants items) false)))

pub returns-clause-passed : goal.returns-clause-passed
returns-clause-passed g c passed =
    let waited = both c.args.item.now.read (reads (Listener c.args.number) c.args.self.now.wants) (sym c.waits_for_peers.ensures ∙ c.if-not-waits_for_peers.false) in
    absurd (read_counts c.args.self.now.wants c.args.item.now (Listener c.args.number) c.requires.of waited.0 waited.1 passed)

pub returns-then-not-waits_for_peers-clause-calm : goal.returns-then-not-waits_for_peers-clause-calm
returns-then-not-waits_for_peers-clause-calm g c items before again =
    calm_behind c.args.self.now.wants items c.args.item.now c.args.self.now.slirp c.args.self.now.link (ap (λ (who : Who). same_who TheLink who && c.args.item.now.write) c.requires.of) before

pub returns-clause-calm : goal.returns-clause-calm
returns-clause-calm g c items before again = inl (c.pump.ensures.calm again)
