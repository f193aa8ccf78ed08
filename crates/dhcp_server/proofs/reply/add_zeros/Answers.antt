-- The part is filled.
use Rattle.std.proofs.Common.{◌+◌, ◌-◌, ◌∙◌, ap, replicate, drop, arith}
use Rattle.std.proofs.lemmas.List.{length-replicate, length-take-le, length-drop}
use Rattle.rules_dhcp.specs.Replies.{zeros}
use Rattle.dhcp_server.proofs.Adding.{adds_part}
use Rattle.dhcp_server.proofs.reply.add_zeros.Goals as goal

pub returns-clause-written : goal.returns-clause-written
returns-clause-written c =
    let at = c.args.at in
    let count = c.args.count in
    let into = c.args.into.now in
    adds_part into _ (zeros count) at _ (at + count) (ap (λ n. at + n) (length-replicate count 0)) (omega arith) c.requires
    (c.fill.ensures.after (λ y is. is) ∙ ap (λ n. replicate n 0) (length-take-le (at + count - at) (drop at into) (omega (arith, length-drop at into, c.requires)) ∙ omega arith))
