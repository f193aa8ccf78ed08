use Rattle.std.proofs.Common.{◌≡◌, ◌<◌, ◌∷◌, [], length, ◌∙◌, ap, arith}
use Rattle.std.proofs.lemmas.Bool.Decides.{nat_tests}
use Rattle.std.proofs.lemmas.List.{length-map, map-append}
use Rattle.command_words.proofs.Putting.{put_more, put_none}
use Rattle.command_words.proofs.Ruled.{rule_words}
use Rattle.command_words.proofs.line.keep_guest.Goals as goal

pub returns-then-not-is_full : goal.returns-then-not-is_full
returns-then-not-is_full c = λ all is.
    let few : length c.args.guests.now.items < 17 = grind (arith, nat_tests) in
    let room : length (rule_words c.args.guests.now.items) < 17 = omega (arith, few, length-map c.args.guests.now.items (λ word. word.now)) in
    ap rule_words c.push.ensures.items ∙ map-append (λ word. word.now) c.args.guests.now.items (c.args.word ∷ []) ∙ put_more 17 all c.args.word.now (rule_words c.args.guests.now.items) is room

pub returns-else-not-is_full : goal.returns-else-not-is_full
returns-else-not-is_full c = λ all is.
    let many : length c.args.guests.now.items ≡ 17 = grind (arith, nat_tests) in
    let full : length (rule_words c.args.guests.now.items) ≡ 17 = omega (arith, many, length-map c.args.guests.now.items (λ word. word.now)) in
    put_none 17 all c.args.word.now (rule_words c.args.guests.now.items) is full
