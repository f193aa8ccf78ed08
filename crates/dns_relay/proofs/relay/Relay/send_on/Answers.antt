use Rattle.std.proofs.Common.{List, refl, ◌∙◌, ap}
use Rattle.idle_sockets.specs.Sockets.{sent_from}
use Rattle.dns_relay.specs.Kept.{questions}
use Rattle.rules_dns.specs.Questions.{asked_from, moved_last}
use Rattle.dns_relay.specs.State.{RelayState}
use Rattle.rules_dns.specs.declared.Question.{Question}
use Rattle.dns_relay.proofs.Keeping.{moved}
use Rattle.dns_relay.proofs.relay.Relay.send_on.Goals as goal

pub returns-clause-list : goal.returns-clause-list
returns-clause-list g c =
    let mac = c.args.asked.now.mac in
    let now = c.args.now in
    let i = c.self.inside in
    ap (λ (l : List Question). let t : RelayState = record { bind = i.bind.0; resolver = i.resolver; name_server = i.name_server.0; list = l } in t)
    (ap questions c.sent.ensures ∙ moved (sent_from mac now) (asked_from mac now) (λ s. refl) c.args.socket i.list)
    ∙ ap (λ (s : RelayState). let t : RelayState = record s { list = moved_last (asked_from mac now) c.args.socket s.list } in t) c.self.view_is
