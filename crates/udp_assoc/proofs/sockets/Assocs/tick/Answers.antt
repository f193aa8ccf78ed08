use Rattle.std.proofs.Common.{◌≡◌, false, refl, subst}
use Rattle.world_face.proofs.Telling.{makes_as}
use Rattle.idle_sockets.specs.Sockets.{is_over as is_over_socket, number_of}
use Rattle.idle_sockets.proofs.Mapping.{all_closed_mapped, all_mapped}
use Rattle.rules_udp.specs.Associations.{idle_life, is_over}
use Rattle.udp_assoc.specs.Kept.{as_association, associations, is_only}
use Rattle.udp_assoc.specs.Relays.{Ticks}
use Rattle.udp_assoc.specs.State.{AssocsState}
use Rattle.rules_udp.specs.declared.Association.{Association}
use Rattle.udp_assoc.proofs.sockets.Assocs.tick.Goals as goal

pub invariant_of-self : goal.invariant_of-self
invariant_of-self g c = c.close_idle.ensures.among is_only c.self.invariant

pub returns-clause-closes : goal.returns-clause-closes
returns-clause-closes g c =
    let now = c.args.now in
    let old = c.self.inside.list in
    let new = c.close_idle.new.self in
    makes_as _ _ _ _ c.close_idle.ensures.closes
    (λ made closes. subst (λ (s : AssocsState). Ticks now s.list (associations new) made) c.self.view_is
    (all_closed_mapped as_association number_of (λ (a : Association). a.number) (λ s. refl) (is_over_socket idle_life now) (is_over now) (λ s. refl) old new made closes))

pub returns-clause-none : goal.returns-clause-none
returns-clause-none g c = all_mapped as_association (λ (a : Association). is_over c.args.now a ≡ false) c.close_idle.new.self c.close_idle.ensures.none
