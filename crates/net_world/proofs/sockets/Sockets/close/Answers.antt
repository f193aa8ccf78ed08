use Rattle.std.proofs.Common.{◌∙◌, ap, sym}
use Rattle.net_world.specs.Tables.{fed_at, number_of}
use Rattle.net_world.proofs.Feeding.{was_fed}
use Rattle.net_world.proofs.sockets.Sockets.close.Goals as goal

pub returns-then-remove-clause-none : goal.returns-then-remove-clause-none
returns-then-remove-clause-none g c = λ none. let r = (c.remove.ensures.none none).0 in absurd (cc (r, c.if-remove.true))

pub returns-then-remove-clause-gone : goal.returns-then-remove-clause-gone
returns-then-remove-clause-gone g c = λ key slot here same.
    let w = was_fed c.remove.new.self.slots c.feed.new.self.slots c.feed.ensures key slot here in
    c.remove.ensures.out key w.0 w.1 (ap number_of (sym w.2) ∙ same)

pub returns-then-remove-clause-others : goal.returns-then-remove-clause-others
returns-then-remove-clause-others g c = λ at f key slot there not.
    let r = c.remove.ensures.gone at f in
    c.feed.ensures key ∙ ap fed_at (r.2 key not ∙ there)

pub returns-else-remove-clause-none : goal.returns-else-remove-clause-none
returns-else-remove-clause-none g c = λ none. (c.remove.ensures.none none).1

pub returns-else-remove-clause-gone : goal.returns-else-remove-clause-gone
returns-else-remove-clause-gone g c = c.remove.ensures.out

pub returns-else-remove-clause-others : goal.returns-else-remove-clause-others
returns-else-remove-clause-others g c = λ at f key slot there not. let r = (c.remove.ensures.gone at f).0 in absurd (cc (r, c.if-remove.false))
