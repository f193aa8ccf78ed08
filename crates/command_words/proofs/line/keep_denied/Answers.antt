use Rattle.std.proofs.Common.{◌≡◌, ◌<◌, ◌∷◌, [], length, ◌∙◌, ap, arith}
use Rattle.std.proofs.lemmas.Bool.Decides.{nat_tests}
use Rattle.std.proofs.lemmas.List.{length-map, map-append}
use Rattle.command_words.proofs.Putting.{put_more, put_none}
use Rattle.command_words.proofs.Ruled.{rule_words}
use Rattle.command_words.proofs.line.keep_denied.Goals as goal

pub returns-then-not-is_full : goal.returns-then-not-is_full
returns-then-not-is_full c = λ all is.
    let few : length c.args.denied.now.items < 9 = grind (arith, nat_tests) in
    let room : length (rule_words c.args.denied.now.items) < 9 = omega (arith, few, length-map c.args.denied.now.items (λ word. word.now)) in
    ap rule_words c.push.ensures.items ∙ map-append (λ word. word.now) c.args.denied.now.items (c.args.word ∷ []) ∙ put_more 9 all c.args.word.now (rule_words c.args.denied.now.items) is room

pub returns-else-not-is_full : goal.returns-else-not-is_full
returns-else-not-is_full c = λ all is.
    let many : length c.args.denied.now.items ≡ 9 = grind (arith, nat_tests) in
    let full : length (rule_words c.args.denied.now.items) ≡ 9 = omega (arith, many, length-map c.args.denied.now.items (λ word. word.now)) in
    put_none 9 all c.args.word.now (rule_words c.args.denied.now.items) is full
