use Rattle.std.proofs.Common.{◌≡◌, ◌<◌, List, length, sym, ◌∙◌, ap, arith}
use Rattle.std.proofs.lemmas.Bool.Decides.{nat_tests}
use Rattle.command_words.specs.Options.{Word}
use Rattle.command_words.specs.Walking.{walk_of}
use Rattle.command_words.proofs.Kept.{keep_more, keep_none}
use Rattle.command_words.proofs.Ruled.{rule_words}
use Rattle.command_words.proofs.line.Line.keep_alone.Goals as goal

pub returns-then-not-is_full : goal.returns-then-not-is_full
returns-then-not-is_full c =
    let room : length c.args.self.now.alone.items < 34 = grind (arith, nat_tests) in
    sym (ap (λ (a : List Word). record (walk_of c.args.self.now) { alone = a }) (keep_more c.args.self.now.alone.items c.args.word room ∙ ap rule_words (sym c.push.ensures.items)))

pub returns-else-not-is_full : goal.returns-else-not-is_full
returns-else-not-is_full c =
    let full : length c.args.self.now.alone.items ≡ 34 = grind (arith, nat_tests) in
    sym (ap (λ (a : List Word). record (walk_of c.args.self.now) { alone = a }) (keep_none c.args.self.now.alone.items c.args.word full))
