use Rattle.std.proofs.Common.{◌+◌, ◌^◌, ◌-◌, min, slice_get, option_map, refl, sym, ◌∙◌, ap}
use Rattle.idle_sockets.specs.declared.IdleSocket.{IdleSocket}
use Rattle.idle_sockets.proofs.Mapping.{first_mapped}
use Rattle.rules_udp.specs.Associations.{idle_life}
use Rattle.udp_assoc.specs.Kept.{as_association}
use Rattle.udp_assoc.specs.State.{AssocsState}
use Rattle.rules_udp.specs.declared.Association.{Association}
use Rattle.udp_assoc.proofs.sockets.Assocs.next_due.Goals as goal

pub returns : goal.returns
returns c =
    c.next_due.ensures
    ∙ sym (first_mapped as_association (λ (a : Association). min (2 ^ 64 - 1) (a.used + idle_life)) (λ (s : IdleSocket). min (2 ^ 64 - 1) (s.used + idle_life)) (λ s. refl) c.self.inside.list)
    ∙ ap (λ (s : AssocsState). option_map (λ (a : Association). min (2 ^ 64 - 1) (a.used + idle_life)) (slice_get s.list 0)) c.self.view_is
