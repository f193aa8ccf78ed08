use Rattle.std.proofs.Common.{ℕ, ◌∙◌, sym, ap}
use Rattle.net_world.specs.Tables.{number_of, slot_at}
use Rattle.net_world.proofs.sockets.Sockets.look_up.Goals as goal

pub returns-in-Some-clause-found : goal.returns-in-Some-clause-found
returns-in-Some-clause-found g c = λ key slot here of.
    let number = ap number_of of ∙ sym (ap (λ (r : ℕ × ℕ). r.1) c.rank-number.ensures) in
    let at = c.in-Some.ensures.3 key slot here number in
    c.known_at.ensures.found slot (ap (λ (k : ℕ). slot_at c.args.self.now.slots k) (sym at) ∙ here) of
