use Rattle.std.proofs.Common.{true, length, refl, ap, subst, arith}
use Rattle.world_face.proofs.Telling.{makes_as}
use Rattle.idle_sockets.specs.Sockets.{number_of}
use Rattle.idle_sockets.specs.declared.IdleSocket.{IdleSocket}
use Rattle.idle_sockets.proofs.Mapping.{closes_mapped, length_mapped}
use Rattle.dns_relay.specs.Kept.{as_question, questions}
use Rattle.dns_relay.specs.Relaying.{ClosesLeast}
use Rattle.dns_relay.specs.State.{RelayState}
use Rattle.rules_dns.specs.declared.Question.{Question}
use Rattle.dns_relay.proofs.relay.Relay.close_first.Goals as goal

pub returns-clause-closes : goal.returns-clause-closes
returns-clause-closes g c =
    let old = c.self.inside.list in
    let new = c.close_first.new.self in
    makes_as _ _ _ _ c.close_first.ensures.closes
    (λ made closes. subst (λ (s : RelayState). ClosesLeast (λ q. true) c.close_first.result s.list (questions new) made) c.self.view_is
    (closes_mapped as_question number_of (λ (q : Question). q.number) (λ s. refl) (λ (s : IdleSocket). true) (λ (q : Question). true) (λ s. refl) c.close_first.result old new made closes))

pub returns-clause-fewer : goal.returns-clause-fewer
returns-clause-fewer g c is =
    let less = c.close_first.ensures.fewer is in
    let before = length_mapped as_question c.self.inside.list in
    let after = length_mapped as_question c.close_first.new.self in
    let same = ap (λ (s : RelayState). length s.list) c.self.view_is in
    omega (arith, less, before, after, same)
