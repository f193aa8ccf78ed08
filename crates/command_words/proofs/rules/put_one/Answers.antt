use Rattle.std.proofs.Common.{◌≡◌, ◌<◌, length, ◌∙◌, arith}
use Rattle.std.proofs.lemmas.Bool.Decides.{nat_tests}
use Rattle.command_words.proofs.Putting.{put_more, put_none}
use Rattle.command_words.proofs.rules.put_one.Goals as goal

pub returns-then-not-is_full : goal.returns-then-not-is_full
returns-then-not-is_full c = λ all is.
    let room : length c.args.forwards.now.items < 32 = grind (arith, nat_tests) in
    c.push.ensures.items ∙ put_more 32 all c.args.forward c.args.forwards.now.items is room

pub returns-else-not-is_full : goal.returns-else-not-is_full
returns-else-not-is_full c = λ all is.
    let full : length c.args.forwards.now.items ≡ 32 = grind (arith, nat_tests) in
    put_none 32 all c.args.forward c.args.forwards.now.items is full
