use Rattle.std.proofs.Common.{arith}
use Rattle.port_forward.proofs.Listing.{as_many}
use Rattle.port_forward.proofs.Forwards.len.Goals as goal

pub returns-clause-count : goal.returns-clause-count
returns-clause-count c = let many = as_many c.self.inside.ports.entries c.args.self.now c.len.result c.len.ensures.len c.self.view_is in omega (arith, many)

pub returns-clause-few : goal.returns-clause-few
returns-clause-few c =
    let many = as_many c.self.inside.ports.entries c.args.self.now c.len.result c.len.ensures.len c.self.view_is in
    let most = c.self.invariant.0 in
    let count = c.len.ensures.len in
    omega (arith, many, most, count)
