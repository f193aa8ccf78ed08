use Rattle.slirp_app.proofs.Risen.{counted_through}
use Rattle.slirp_app.proofs.Tapped.{run_recorded}
use Rattle.slirp_app.proofs.tapping.record_run.Goals as goal

pub returns-clause-recorded : goal.returns-clause-recorded
returns-clause-recorded g c =
    let tap = c.new-tap.result in
    let new = c.run_network-outcome.new.world in
    let parts = c.into_parts-world in
    (run_recorded g.W.World.tells c.args.run.1 c.run_network-outcome.result c.unless_failed.result c.close-sink.result.1 c.args.run.0 parts.result.0 c.args.sink
    (g.K.Sink.holds c.args.sink) (g.K.Sink.holds c.close-sink.result.0) (g.K.Sink.faults c.args.sink) (g.K.Sink.faults c.close-sink.result.0)
    (g.W.World.tells tap.world).faults (g.W.World.tells new.world).faults c.new.result tap new parts.result.1
    c.new.ensures c.new-tap.ensures c.run_network-outcome.ensures.runs parts.ensures.passed parts.ensures.book c.close-sink.ensures c.unless_failed.ensures).0

pub returns-clause-counted : goal.returns-clause-counted
returns-clause-counted g c =
    counted_through g.W.World.tells c.run_network-outcome.result c.unless_failed.result c.close-sink.result.1 c.args.run.0 c.into_parts-world.result.0 c.new.result
    c.new-tap.result c.run_network-outcome.new.world c.new-tap.ensures c.into_parts-world.ensures.world c.unless_failed.ensures c.run_network-outcome.ensures.counted

pub returns-clause-refused : goal.returns-clause-refused
returns-clause-refused g c =
    let tap = c.new-tap.result in
    let new = c.run_network-outcome.new.world in
    let parts = c.into_parts-world in
    (run_recorded g.W.World.tells c.args.run.1 c.run_network-outcome.result c.unless_failed.result c.close-sink.result.1 c.args.run.0 parts.result.0 c.args.sink
    (g.K.Sink.holds c.args.sink) (g.K.Sink.holds c.close-sink.result.0) (g.K.Sink.faults c.args.sink) (g.K.Sink.faults c.close-sink.result.0)
    (g.W.World.tells tap.world).faults (g.W.World.tells new.world).faults c.new.result tap new parts.result.1
    c.new.ensures c.new-tap.ensures c.run_network-outcome.ensures.runs parts.ensures.passed parts.ensures.book c.close-sink.ensures c.unless_failed.ensures).1
