-- The four numbers one after another.
use Rattle.std.proofs.Common.{subst}
use Rattle.net_octets.specs.Octets.{four}
use Rattle.dhcp_server.specs.Writing.{Adds}
use Rattle.dhcp_server.proofs.Adding.{then}
use Rattle.dhcp_server.proofs.reply.put_addresses.Goals as goal

pub returns-clause-written : goal.returns-clause-written
returns-clause-written c =
    let own = subst (λ n. Adds c.args.into.now c.args.at c.add_number-at.new.into c.add_number-at.result (four n)) c.own_address.ensures c.add_number-at.ensures.written in
    let given = subst (λ n. Adds c.add_number-at.new.into c.add_number-at.result c.add_number-at-2.new.into c.add_number-at-2.result (four n)) c.given.ensures c.add_number-at-2.ensures.written in
    let next = subst (λ n. Adds c.add_number-at-2.new.into c.add_number-at-2.result c.add_number-at-3.new.into c.add_number-at-3.result
    (four n)) c.next_server.ensures c.add_number-at-3.ensures.written in
    then _ _ _ _ _ _ _ _ (then _ _ _ _ _ _ _ _ (then _ _ _ _ _ _ _ _ own given) next) c.add.ensures.written
