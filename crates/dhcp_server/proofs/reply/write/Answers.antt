-- The parts one after another, and zeros up to 300 octets.
use Rattle.std.proofs.Common.{◌-◌, ◌∙◌, ap, subst, arith}
use Rattle.rules_dhcp.specs.Replies.{zeros}
use Rattle.dhcp_server.specs.Writing.{Adds}
use Rattle.dhcp_server.proofs.Adding.{then}
use Rattle.dhcp_server.proofs.reply.write.Goals as goal

pub returns-clause-written : goal.returns-clause-written
returns-clause-written c =
    let head = then _ _ _ _ _ _ _ _ (then _ _ _ _ _ _ _ _ c.put_front-at.ensures.written c.put_addresses-at.ensures.written) c.put_back-at.ensures.written in
    let cookie = then _ _ _ _ _ _ _ _ head c.add-at.ensures.written in
    let options = then _ _ _ _ _ _ _ _ cookie c.put_options-at.ensures.written in
    let all = then _ _ _ _ _ _ _ _ options c.add-at-2.ensures.written in
    let rest = c.saturating_sub.ensures ∙ ap (λ n. 300 - n) (all.end_is ∙ omega arith) in
    then _ _ _ _ _ _ _ _ all (subst (λ n. Adds c.add-at-2.new.into c.add-at-2.result c.add_zeros.new.into c.add_zeros.result (zeros n)) rest c.add_zeros.ensures.written)
