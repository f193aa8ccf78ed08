use Rattle.std.proofs.Common.{◌∷◌, ◌++◌, [], Bool, Some, cond, sym, ◌∙◌, ap}
use Rattle.command_words.specs.Walking.{Walk, kept, walk_of}
use Rattle.command_words.proofs.line.Line.put_alone.Goals as goal

pub returns-then-is_guest_word : goal.returns-then-is_guest_word
returns-then-is_guest_word c =
    let walk = walk_of c.args.self.now in
    ap (λ (b : Bool). Some (record walk { alone = cond b walk.alone (kept (walk.alone ++ c.args.word.now ∷ [])) })) (sym c.is_guest_word.ensures ∙ c.if-is_guest_word.true)

pub returns : goal.returns
returns c =
    let walk = walk_of c.args.self.now in
    ap (λ (b : Bool). Some (record walk { alone = cond b walk.alone (kept (walk.alone ++ c.args.word.now ∷ [])) })) (sym c.is_guest_word.ensures ∙ c.if-is_guest_word.false)
    ∙ ap (λ (w : Walk). Some w) (sym c.keep_alone.ensures)
