use Rattle.std.proofs.Common.{◌+◌, arith, ap}
use Rattle.std.proofs.lemmas.Int.{ints, to_z-of_z}
use Rattle.tcp_receive.specs.Received.{Received, place_in}
use Rattle.tcp_receive.proofs.Arriving.{same_origin, same_place}
use Rattle.tcp_receive.proofs.Coming.{comes_by, nothing_comes}
use Rattle.tcp_receive.proofs.Receive.arrive.Goals as goal

pub returns-clause-held : goal.returns-clause-held
returns-clause-held c k x less is =
    let taken = ap (λ (r : Received). r.taken) c.self.view_is in
    let first = ap (λ (r : Received). r.first) c.self.view_is in
    same_origin c.args.up.now _ (place_in c.args.self.now c.args.seq.0) _ c.args.self.now.taken c.args.octets.now k x (c.put-count.ensures.held k x less is)
    (grind (arith, ints, to_z-of_z)) (grind arith)

pub returns-clause-kept : goal.returns-clause-kept
returns-clause-kept c k x is =
    let taken = ap (λ (r : Received). r.taken) c.self.view_is in
    let first = ap (λ (r : Received). r.first) c.self.view_is in
    same_place c.args.up.now _ (place_in c.args.self.now c.args.seq.0) _ c.args.self.now.taken c.args.octets.now (c.put-count.result + k) (c.put-count.result + k) x (c.put-count.ensures.kept k x is)
    (grind (arith, ints, to_z-of_z)) (grind arith)

pub returns-clause-comes : goal.returns-clause-comes
returns-clause-comes c = comes_by c.args.self.now c.args.seq.0 c.args.octets.now c.args.up.now c.put-count.new.up c.put-count.result c.put-count.ensures.count
    (returns-clause-held c) (returns-clause-kept c)

pub returns-then-self-clause-comes : goal.returns-then-self-clause-comes
returns-then-self-clause-comes c = nothing_comes c.args.self.now c.args.seq.0 c.args.octets.now c.args.up.now
