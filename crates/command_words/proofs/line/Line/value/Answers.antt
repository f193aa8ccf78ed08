use Rattle.std.proofs.Common.{Some, None, bytes_eq, find, ◌∙◌, ap}
use Rattle.command_words.proofs.Finding.{value_is}
use Rattle.command_words.proofs.line.Line.value.Goals as goal

pub returns-in-Some : goal.returns-in-Some
returns-in-Some c = value_is c.args.self.now.options.items c.args.name.now (Some c.in-Some.given.now)
    (c.in-Some.ensures ∙ ap (find (λ given. bytes_eq given.name.now c.args.name.now)) c.as_slice.ensures.value)

pub returns-in-None : goal.returns-in-None
returns-in-None c = value_is c.args.self.now.options.items c.args.name.now None (c.in-None.ensures ∙ ap (find (λ given. bytes_eq given.name.now c.args.name.now)) c.as_slice.ensures.value)
