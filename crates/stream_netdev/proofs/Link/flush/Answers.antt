use Rattle.std.proofs.Common.{refl}
use Rattle.world_face.specs.Journal.{LinkWrite}
use Rattle.world_face.proofs.Telling.{makes_one}
use Rattle.stream_netdev.proofs.Writing.{after_rest, settles_rest}
use Rattle.stream_netdev.proofs.Failing.{write_rose}
use Rattle.stream_netdev.proofs.Link.flush.Goals as goal

pub returns-clause-makes : goal.returns-clause-makes
returns-clause-makes g c =
    let old = c.args.self.now in
    let sent = c.send.ensures.sent in
    makes_one _ _ (LinkWrite old.tail sent.0) _ sent.1 (λ allowed.
    ((sent.0, refl, sent.2), λ past keeps. after_rest old c.send.new.self sent.0 past c.requires.some c.requires.free allowed sent.3 sent.4 c.send.ensures.same keeps))

pub returns-clause-settles : goal.returns-clause-settles
returns-clause-settles g c =
    let old = c.args.self.now in
    let sent = c.send.ensures.sent in
    settles_rest c.send.new.self sent.0 old.tail c.send.result c.requires.some sent.1.allowed sent.4 sent.3 sent.2

pub returns-clause-failed : goal.returns-clause-failed
returns-clause-failed g c is = write_rose _ _ _ _ _ (returns-clause-makes g c) is
