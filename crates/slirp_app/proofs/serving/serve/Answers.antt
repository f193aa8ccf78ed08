use Rattle.std.proofs.Common.{subst, sym}
use Rattle.slirp_settings.specs.Settings.{settings}
use Rattle.world_face.specs.Journal.{place_of}
use Rattle.world_face.specs.Tells.{Makes}
use Rattle.command_words.specs.declared.Tap.{Tap}
use Rattle.slirp_app.specs.Serving.{ServesAt}
use Rattle.slirp_app.proofs.Courses.{opens_code}
use Rattle.slirp_app.proofs.Served.{served, served_plain}
use Rattle.slirp_app.proofs.serving.serve.Goals as goal

pub returns-in-Off-clause-serves : goal.returns-in-Off-clause-serves
returns-in-Off-clause-serves g c =
    subst (λ (t : Tap). Makes (g.W.World.tells c.args.world.now) (g.W.World.tells c.serve_link.new.world)
    (ServesAt (settings c.args.config.now) (place_of c.args.at.now) t c.serve_link.result (g.K.Sink.holds c.args.out.now) (g.K.Sink.holds c.args.out.now))) (sym c.in-Off.is)
    (served_plain _ _ (settings c.args.config.now) c.in-Ok.network (place_of c.args.at.now) c.serve_link.result
    (g.K.Sink.holds c.args.out.now) c.in-Ok.ensures c.serve_link.ensures.opens)

pub returns-in-Ok-open-clause-serves : goal.returns-in-Ok-open-clause-serves
returns-in-Ok-open-clause-serves g c =
    subst (λ (t : Tap). Makes (g.W.World.tells c.args.world.now) (g.W.World.tells c.record_link.new.world)
    (ServesAt (settings c.args.config.now) (place_of c.args.at.now) t c.record_link.result (g.K.Sink.holds c.args.out.now) (g.K.Sink.holds c.record_link.new.out))) (sym c.in-Record.is)
    (served _ _ (settings c.args.config.now) c.in-Ok.network (place_of c.args.at.now) _ c.record_link.result (g.K.Sink.holds c.args.out.now)
    (g.K.Sink.holds c.record_link.new.out) c.in-Ok.ensures c.record_link.ensures.records)

pub returns-in-Ok-open-2-clause-serves : goal.returns-in-Ok-open-2-clause-serves
returns-in-Ok-open-2-clause-serves g c =
    subst (λ (t : Tap). Makes (g.W.World.tells c.args.world.now) (g.W.World.tells c.capture_link.new.world)
    (ServesAt (settings c.args.config.now) (place_of c.args.at.now) t c.capture_link.result (g.K.Sink.holds c.args.out.now) (g.K.Sink.holds c.capture_link.new.out))) (sym c.in-Capture.is)
    (served _ _ (settings c.args.config.now) c.in-Ok.network (place_of c.args.at.now) _ c.capture_link.result (g.K.Sink.holds c.args.out.now)
    (g.K.Sink.holds c.capture_link.new.out) c.in-Ok.ensures c.capture_link.ensures.captures)

-- a run that nothing is put of doesn't end as one whose record was refused
pub returns-in-Off-clause-refused : goal.returns-in-Off-clause-refused
returns-in-Off-clause-refused g c twelve = absurd ((opens_code _ _ _ _ c.serve_link.ensures.opens.holds).taken twelve)

pub returns-in-Off-clause-counted : goal.returns-in-Off-clause-counted
returns-in-Off-clause-counted g c = c.serve_link.ensures.counted

pub returns-in-Ok-open-clause-counted : goal.returns-in-Ok-open-clause-counted
returns-in-Ok-open-clause-counted g c = c.record_link.ensures.counted

pub returns-in-Ok-open-2-clause-counted : goal.returns-in-Ok-open-2-clause-counted
returns-in-Ok-open-2-clause-counted g c = c.capture_link.ensures.counted
