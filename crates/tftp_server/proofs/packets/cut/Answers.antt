-- The first place that has the octet parts them.
use Rattle.std.proofs.Common.{◌≡◌, ℕ, ◌+◌, ◌-◌, List, take, drop, length, Option, Some, option_map, sym, ◌∙◌, ap, arith, length-drop}
use Rattle.std.proofs.lemmas.List.{take_all}
use Rattle.tftp_server.specs.Reading.{parts_of}
use Rattle.tftp_server.proofs.Cutting.{cut_by, parts_at}
use Rattle.tftp_server.proofs.packets.cut.Goals as goal

pub returns-in_err-at-clause-parts : goal.returns-in_err-at-clause-parts
returns-in_err-at-clause-parts c =
    let octets = c.args.octets.now in
    ap (option_map parts_of) c.from_residual.ensures ∙ ap (option_map (parts_at octets)) c.in_err-at.ensures ∙ sym (cut_by c.args.octet octets)

-- what is behind it, whole
behind : (octets : List ℕ) (at : ℕ) → take (length octets - (at + 1)) (drop (at + 1) octets) ≡ drop (at + 1) octets
behind octets at = take_all (length octets - (at + 1)) (drop (at + 1) octets) (omega (arith, length-drop (at + 1) octets))

pub returns-clause-parts : goal.returns-clause-parts
returns-clause-parts c =
    let octets = c.args.octets.now in
    let at = c.in_ok-at.at in
    let pair : List ℕ → Option (List ℕ × List ℕ) = λ rest. Some (take at octets, rest) in
    ap pair (behind octets at) ∙ ap (option_map (parts_at octets)) c.in_ok-at.ensures ∙ sym (cut_by c.args.octet octets)
