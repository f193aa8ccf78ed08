-- The option is put at the front of what is left.
use Rattle.std.proofs.Common.{◌≡◌, ◌+◌, ◌-◌, ◌++◌, [], ◌∙◌, sym, ap, length, take, drop, refl, arith, append-nil}
use Rattle.tlv_table.specs.Tables.{Rules}
use Rattle.tlv_table.specs.Grammar.{Field, item_octets}
use Rattle.rules_dhcp.specs.Messages.{form}
use Rattle.dhcp_server.proofs.Adding.{adds_front}
use Rattle.dhcp_server.proofs.reply.put.Goals as goal

pub returns-clause-written : goal.returns-clause-written
returns-clause-written c =
    let at = c.args.at in
    let body = c.args.body.now in
    let into = c.args.into.now in
    let item = item_octets form (Field c.args.code body) in
    let size = c.write.ensures.length in
    let octets : c.write.new.into ≡ (item ++ []) ++ drop c.write.result (take (length into - at) (drop at into)) =
    c.write.ensures.written
    ∙ ap (λ (r : Rules). item_octets r.form (Field c.args.code body) ++ drop c.write.result (take (length into - at) (drop at into))) c.requires.table
    ∙ ap (λ xs. xs ++ drop c.write.result (take (length into - at) (drop at into))) (sym (append-nil item)) in
    adds_front into c.write.new.into (item ++ []) at c.write.result (length into - at) (at + c.write.result) (omega (arith, size, ap length (append-nil item))) refl
    (omega (arith, size, c.requires.room)) (omega (arith, size, c.requires.room)) octets
