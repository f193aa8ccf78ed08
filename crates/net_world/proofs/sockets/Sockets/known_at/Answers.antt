use Rattle.std.proofs.Common.{inl, inr, sym, subst}
use Rattle.net_world.specs.Tables.{Table}
use Rattle.net_world.specs.Telling.{IsKnown}
use Rattle.net_world.proofs.sockets.Sockets.known_at.Goals as goal

pub returns-in-Some-clause-is : goal.returns-in-Some-clause-is
returns-in-Some-clause-is g c = subst (λ (t : Table g.row.S.Denot). IsKnown t.slots c.args.of c.known_if.result) c.self.view_is (elim c.known_if.ensures.is [
  | inl none ↦ inl none
  | inr (of, is) ↦ inr (c.args.key, c.in-Some.slot.now, sym c.in-Some.ensures, of, is)
])
