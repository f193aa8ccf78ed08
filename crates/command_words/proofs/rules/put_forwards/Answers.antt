use Rattle.std.proofs.Common.{◌<◌, ◌≤◌, [], ◌∷◌, ◌++◌, List, length, ◌∙◌, ap, arith}
use Rattle.std.proofs.lemmas.List.{length-map}
use Rattle.slirp_settings.specs.declared.Forward.{Forward}
use Rattle.command_words.specs.Narrowing.{portless}
use Rattle.command_words.proofs.Ruled.{rule_words, held_all, held_none}
use Rattle.command_words.proofs.rules.put_forwards.Goals as goal

pub returns-then-rules-gt-ROOM-clause-put : goal.returns-then-rules-gt-ROOM-clause-put
returns-then-rules-gt-ROOM-clause-put c =
    let read = c.in_ok-read_rules.ensures.read in
    let many : 32 < length (rule_words c.args.rules.now) = omega (arith, c.if-rules-gt-ROOM.true, length-map c.args.rules.now (λ rule. rule.now)) in
    (read.0, read.1, c.push.ensures.items ∙ ap (λ (t : List Forward). t ++ portless ∷ []) c.clear.ensures ∙ held_none (rule_words c.args.rules.now) c.args.dhcp_start.0 read.0 read.1 many)

pub returns-else-rules-gt-ROOM-clause-put : goal.returns-else-rules-gt-ROOM-clause-put
returns-else-rules-gt-ROOM-clause-put c =
    let read = c.in_ok-read_rules.ensures.read in
    let few : length (rule_words c.args.rules.now) ≤ 32 = omega (arith, c.if-rules-gt-ROOM.false, length-map c.args.rules.now (λ rule. rule.now)) in
    (read.0, read.1, held_all (rule_words c.args.rules.now) c.args.dhcp_start.0 read.0 _ read.1 few read.2)
