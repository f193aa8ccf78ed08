use Rattle.std.proofs.Common.{◌+◌, ◌^◌, ◌-◌, min, slice_get, option_map, refl, sym, ◌∙◌, ap}
use Rattle.idle_sockets.specs.declared.IdleSocket.{IdleSocket}
use Rattle.idle_sockets.proofs.Mapping.{first_mapped}
use Rattle.dns_relay.specs.Kept.{as_question}
use Rattle.rules_dns.specs.Questions.{question_life}
use Rattle.dns_relay.specs.State.{RelayState}
use Rattle.rules_dns.specs.declared.Question.{Question}
use Rattle.dns_relay.proofs.relay.Relay.next_due.Goals as goal

pub returns : goal.returns
returns c =
    c.next_due.ensures
    ∙ sym (first_mapped as_question (λ (q : Question). min (2 ^ 64 - 1) (q.used + question_life)) (λ (s : IdleSocket). min (2 ^ 64 - 1) (s.used + question_life)) (λ s. refl) c.self.inside.list)
    ∙ ap (λ (s : RelayState). option_map (λ (q : Question). min (2 ^ 64 - 1) (q.used + question_life)) (slice_get s.list 0)) c.self.view_is
