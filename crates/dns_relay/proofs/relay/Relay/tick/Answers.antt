use Rattle.std.proofs.Common.{◌≡◌, false, refl, subst}
use Rattle.world_face.proofs.Telling.{makes_as}
use Rattle.idle_sockets.specs.Sockets.{is_over as is_over_socket, number_of}
use Rattle.idle_sockets.proofs.Mapping.{all_closed_mapped, all_mapped}
use Rattle.dns_relay.specs.Kept.{as_question, questions}
use Rattle.rules_dns.specs.Questions.{is_over, question_life}
use Rattle.dns_relay.specs.Relaying.{Ticks}
use Rattle.dns_relay.specs.State.{RelayState}
use Rattle.rules_dns.specs.declared.Question.{Question}
use Rattle.dns_relay.proofs.relay.Relay.tick.Goals as goal

pub returns-clause-closes : goal.returns-clause-closes
returns-clause-closes g c =
    let now = c.args.now in
    let old = c.self.inside.list in
    let new = c.close_idle.new.self in
    makes_as _ _ _ _ c.close_idle.ensures.closes
    (λ made closes. subst (λ (s : RelayState). Ticks now s.list (questions new) made) c.self.view_is
    (all_closed_mapped as_question number_of (λ (q : Question). q.number) (λ s. refl) (is_over_socket question_life now) (is_over now) (λ s. refl) old new made closes))

pub returns-clause-none : goal.returns-clause-none
returns-clause-none g c = all_mapped as_question (λ (q : Question). is_over c.args.now q ≡ false) c.close_idle.new.self c.close_idle.ensures.none
