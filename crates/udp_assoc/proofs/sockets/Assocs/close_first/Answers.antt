use Rattle.std.proofs.Common.{true, length, refl, ap, subst, arith}
use Rattle.world_face.proofs.Telling.{makes_as}
use Rattle.idle_sockets.specs.Sockets.{number_of}
use Rattle.idle_sockets.specs.declared.IdleSocket.{IdleSocket}
use Rattle.idle_sockets.proofs.Mapping.{closes_mapped, length_mapped}
use Rattle.udp_assoc.specs.Kept.{as_association, associations, is_only}
use Rattle.udp_assoc.specs.Relays.{ClosesLeast}
use Rattle.udp_assoc.specs.State.{AssocsState}
use Rattle.rules_udp.specs.declared.Association.{Association}
use Rattle.udp_assoc.proofs.sockets.Assocs.close_first.Goals as goal

pub invariant_of-self : goal.invariant_of-self
invariant_of-self g c = c.close_first.ensures.among is_only c.self.invariant

pub returns-clause-closes : goal.returns-clause-closes
returns-clause-closes g c =
    let old = c.self.inside.list in
    let new = c.close_first.new.self in
    makes_as _ _ _ _ c.close_first.ensures.closes
    (λ made closes. subst (λ (s : AssocsState). ClosesLeast (λ a. true) c.close_first.result s.list (associations new) made) c.self.view_is
    (closes_mapped as_association number_of (λ (a : Association). a.number) (λ s. refl) (λ (s : IdleSocket). true) (λ (a : Association). true) (λ s. refl) c.close_first.result old new made closes))

pub returns-clause-fewer : goal.returns-clause-fewer
returns-clause-fewer g c is =
    let less = c.close_first.ensures.fewer is in
    let before = length_mapped as_association c.self.inside.list in
    let after = length_mapped as_association c.close_first.new.self in
    let same = ap (λ (s : AssocsState). length s.list) c.self.view_is in
    omega (arith, less, before, after, same)
