use Rattle.std.proofs.Common.{◌∷◌, ◌++◌, [], Bool, cond, sym, ◌∙◌, ap, append-nil}
use Rattle.command_words.specs.Walking.{kept_guests}
use Rattle.command_words.proofs.line.Line.lead.Goals as goal

pub returns-then-is_guest_rule : goal.returns-then-is_guest_rule
returns-then-is_guest_rule c = λ all is.
    c.keep_guest.ensures all is ∙ ap (λ (b : Bool). kept_guests (all ++ cond b (c.args.word.now ∷ []) [])) (sym (sym c.is_guest_rule.ensures ∙ c.if-is_guest_rule.true))

pub returns-else-is_guest_rule : goal.returns-else-is_guest_rule
returns-else-is_guest_rule c = λ all is.
    is ∙ ap kept_guests (sym (append-nil all)) ∙ ap (λ (b : Bool). kept_guests (all ++ cond b (c.args.word.now ∷ []) [])) (sym (sym c.is_guest_rule.ensures ∙ c.if-is_guest_rule.false))
