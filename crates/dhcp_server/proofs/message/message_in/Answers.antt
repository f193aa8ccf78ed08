-- The table reads what the definition does.
use Rattle.std.proofs.Common.{◌≡◌, ◌-◌, List, ℕ, length, take, drop, ap, ◌∙◌, arith}
use Rattle.std.proofs.lemmas.List.{take_all, length-drop}
use Rattle.tlv_table.specs.Tables.{Rules}
use Rattle.tlv_table.specs.Reading.{reading}
use Rattle.rules_dhcp.specs.Messages.{form, rows_read, message_of}
use Rattle.dhcp_server.proofs.message.message_in.Goals as goal

-- what follows the fixed part
rest : (octets : List ℕ) → take (length octets - 240) (drop 240 octets) ≡ drop 240 octets
rest octets = take_all (length octets - 240) (drop 240 octets) (omega (arith, length-drop 240 octets))

pub returns-in-Ok : goal.returns-in-Ok
returns-in-Ok c =
    let octets = c.args.octets.now in
    c.message_with.ensures
    ∙ ap (message_of octets) (c.in-Ok.ensures.exact ∙ ap (λ (r : Rules). reading r.form r.rows (take (length octets - 240) (drop 240 octets))) c.options_read.ensures ∙ ap
    (reading form rows_read) (rest octets))

pub returns-in-Err : goal.returns-in-Err
returns-in-Err c =
    let octets = c.args.octets.now in
    ap (message_of octets) (c.in-Err.ensures.exact ∙ ap (λ (r : Rules). reading r.form r.rows (take (length octets - 240) (drop 240 octets))) c.options_read.ensures ∙ ap
    (reading form rows_read) (rest octets))
