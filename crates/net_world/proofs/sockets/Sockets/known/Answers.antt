use Rattle.std.proofs.Common.{◌≡◌, ℕ, Some, sym, ap, subst, ◌∙◌}
use Rattle.std.specs.List.{Contains}
use Rattle.net_world.specs.declared.sockets.Known.{Known}
use Rattle.net_world.specs.Tables.{Table, number_of, slot_at}
use Rattle.net_world.proofs.Standing.{one_key}
use Rattle.net_world.proofs.sockets.Sockets.known.Goals as goal

pub returns-clause-listed : goal.returns-clause-listed
returns-clause-listed g c = λ h key slot here of.
    let s = c.self.inside in
    let stands = c.self.invariant.0.stand c.args.listed.now (subst (λ (t : Table g.row.S.Denot). Contains t.readable c.args.listed.now) (sym c.self.view_is) h) in
    let there = subst (λ (t : Table g.row.S.Denot). slot_at t.slots key ≡ Some slot) (sym c.self.view_is) here in
    let at = one_key s.slots.slots s.places.items key c.args.listed.now.key slot stands.0 c.self.invariant.1 there stands.1 (ap number_of (of ∙ sym stands.2)) in
    c.known_at.ensures.found slot (ap (λ (k : ℕ). slot_at c.args.self.now.slots k) (sym at) ∙ here) of

pub returns-clause-reads : goal.returns-clause-reads
returns-clause-reads g c = λ h.
    let stands = c.self.invariant.0.stand c.args.listed.now (subst (λ (t : Table g.row.S.Denot). Contains t.readable c.args.listed.now) (sym c.self.view_is) h) in
    let there = subst (λ (t : Table g.row.S.Denot). slot_at t.slots c.args.listed.now.key ≡ Some stands.0) c.self.view_is stands.1 in
    ap (λ (k : Known). k.read) (c.known_at.ensures.found stands.0 there stands.2) ∙ stands.3
