use Rattle.std.proofs.Common.{Bool, map, ◌||◌, bytes_eq, sym, ◌∙◌, ap}
use Rattle.command_words.specs.Walking.{given_of}
use Rattle.command_words.proofs.Given.{more_given}
use Rattle.command_words.proofs.line.Line.has_with.Goals as goal

pub returns-then-has : goal.returns-then-has
returns-then-has c =
    let given = given_of c.args.given.now in
    let has = sym c.has.ensures ∙ c.if-has.true in
    c.if-has.true ∙ sym (more_given (map given_of c.args.self.now.options.items) given c.args.name.now ∙ ap (λ (b : Bool). b || bytes_eq given.name c.args.name.now) has)

pub returns-else-has : goal.returns-else-has
returns-else-has c =
    let given = given_of c.args.given.now in
    let has = sym c.has.ensures ∙ c.if-has.false in
    c.eq.ensures ∙ sym (more_given (map given_of c.args.self.now.options.items) given c.args.name.now ∙ ap (λ (b : Bool). b || bytes_eq given.name c.args.name.now) has)
