use Rattle.std.proofs.Common.{◌≡◌, Bool, ◌&&◌, ◌||◌, ◌∷◌, ap, false, inl, refl, subst, true}
use Rattle.poll_list.specs.Listing.{reads, same_who, writes}
use Rattle.poll_list.specs.declared.Who.{Who}
use Rattle.poll_list.specs.declared.Who.TheVariants.{Link as TheLink}
use Rattle.world_face.specs.Tells.{Brings}
use Rattle.world_face.proofs.Telling.{brings_none, brings_then}
use Rattle.slirp_core.specs.Holds.{standing}
use Rattle.slirp_core.specs.State.{SlirpState}
use Rattle.serve_loop.proofs.Attending.{flow_serves, pump_serves, socket_passed}
use Rattle.serve_loop.proofs.Left.{both_true, true_false}
use Rattle.serve_loop.specs.Served.{ServiceState}
use Rattle.serve_loop.specs.Turns.{AfterItem, ServesNow}
use Rattle.serve_loop.proofs.Turning.{calm_behind, some_counts}
use Rattle.serve_loop.proofs.Wanted.{counted_as}
use Rattle.serve_loop.proofs.service.Service.attend_flow.Goals as goal

pub returns-clause-makes : goal.returns-clause-makes
returns-clause-makes g c config count items to_read =
    let wants = c.args.self.now.wants in
    let item = c.args.item.now in
    let link = c.self.inside.link in
    let mid = c.take_report.new.self in
    let new = c.pump.new.self in
    let wanted = c.in-Some.wanted in
    let counts = counted_as c.args.number wants item wanted c.requires.of c.in-Some.ensures.counts in
    subst (λ (s : ServiceState). Brings (g.W.World.tells c.args.world.now) (g.W.World.tells c.pump.new.world) (ServesNow config count wants (item ∷ items) to_read s.slirp s.link)
    (AfterItem c.pump.result config count wants items to_read new.slirp new.link)) c.self.view_is
    (brings_then
    (flow_serves config count wants items item c.args.number c.requires.of c.self.inside.slirp mid link wanted.read wanted.write counts c.take_report.ensures.told
    (λ none. ap (λ (s : SlirpState). s.flows) (c.take_report.ensures.untold none)) c.take_report.ensures.stays c.take_report.ensures.turn
    (g.W.World.tells c.args.world.now) (g.W.World.tells c.take_report.new.world) to_read (c.take_report.ensures.makes config count wants item items link counts))
    (pump_serves config count wants items c.pump.result to_read mid new.slirp link new.link (g.W.World.tells c.take_report.new.world)
    (g.W.World.tells c.pump.new.world) c.pump.ensures.marks c.pump.ensures.sent (c.pump.ensures.makes config (standing count wants items) false)))

-- neither direction counts
neither : (a b : Bool) → (a || b) ≡ false → (a ≡ false) × (b ≡ false)
neither true b is = absurd cc
neither false b is = (refl, is)

pub returns-in_default-clause-makes : goal.returns-in_default-clause-makes
returns-in_default-clause-makes g c config count items to_read =
    let wants = c.args.self.now.wants in
    let item = c.args.item.now in
    let none = neither (item.read && reads item.of wants) (item.write && writes item.of wants) (c.in_default.ensures.none refl) in
    brings_none (λ past. socket_passed config count wants items item c.args.self.now.slirp c.args.self.now.link past to_read
    (λ read wanted. absurd (true_false (item.read && reads item.of wants) (both_true item.read (reads item.of wants) read wanted) none.0))
    (λ write wanted. absurd (true_false (item.write && writes item.of wants) (both_true item.write (writes item.of wants) write wanted) none.1)))

pub returns-clause-passed : goal.returns-clause-passed
returns-clause-passed g c passed = absurd (some_counts c.args.self.now.wants c.args.item.now c.in-Some.wanted c.in-Some.ensures.counts c.in-Some.ensures.some passed)

pub returns-in_default-clause-calm : goal.returns-in_default-clause-calm
returns-in_default-clause-calm g c items before again =
    calm_behind c.args.self.now.wants items c.args.item.now c.args.self.now.slirp c.args.self.now.link (ap (λ (who : Who). same_who TheLink who && c.args.item.now.write) c.requires.of) before

pub returns-clause-calm : goal.returns-clause-calm
returns-clause-calm g c items before again = inl (c.pump.ensures.calm again)
