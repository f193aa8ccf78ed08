use Rattle.std.proofs.Common.{◌≡◌, Bool, List, [], ◌∷◌, length, true, false, if◌then◌else◌, refl, sym, ◌∙◌, ap, subst}
use Rattle.world_face.specs.Journal.{Close}
use Rattle.world_face.specs.Tells.{Makes}
use Rattle.world_face.specs.declared.Got.TheVariants.{From}
use Rattle.world_face.proofs.Telling.{makes_one}
use Rattle.idle_sockets.specs.Closing.{without as without_socket}
use Rattle.idle_sockets.specs.Sockets.{heard_at as socket_heard, moved_last as socket_moved, number_of}
use Rattle.idle_sockets.proofs.Mapping.{without_mapped}
use Rattle.dns_relay.specs.Kept.{as_question, questions}
use Rattle.rules_dns.specs.Questions.{heard_at, is_answered, moved_last, without}
use Rattle.dns_relay.specs.Relaying.{calls_after, list_after}
use Rattle.dns_relay.specs.State.{RelayState}
use Rattle.rules_dns.specs.declared.Question.{Question}
use Rattle.dns_relay.proofs.Keeping.{moved}
use Rattle.dns_relay.proofs.relay.Relay.receive_answer.Goals as goal

pub returns-then-not-is_answered-clause-list : goal.returns-then-not-is_answered-clause-list
returns-then-not-is_answered-clause-list g c =
    let now = c.args.now in
    let i = c.self.inside in
    let q = c.args.question.now in
    let octets = c.args.octets.now in
    let used = moved_last (heard_at now) q.number (questions i.list) in
    let no : is_answered i.resolver q c.args.peer octets ≡ false = sym c.is_answered.ensures ∙ c.if-not-is_answered.true in
    ap (λ (l : List Question). let t : RelayState = record { bind = i.bind.0; resolver = i.resolver; name_server = i.name_server.0; list = l } in t)
    (ap questions c.received.ensures ∙ moved (socket_heard now) (heard_at now) (λ s. refl) q.number i.list ∙ sym (ap (λ (b : Bool). if b then without q.number used else used) no))
    ∙ ap (λ (s : RelayState). let t : RelayState = record s { list = list_after s now q (From c.args.peer (length octets)) octets } in t) c.self.view_is

pub returns-clause-calls : goal.returns-clause-calls
returns-clause-calls g c =
    let q = c.args.question.now in
    let octets = c.args.octets.now in
    let yes : is_answered c.self.inside.resolver q c.args.peer octets ≡ true = sym c.is_answered.ensures ∙ c.if-not-is_answered.false in
    subst (λ (s : RelayState). Makes (g.W.World.tells c.args.world.now) (g.W.World.tells c.close.new.self) (λ made. made ≡ calls_after s q (From c.args.peer (length octets)) octets)) c.self.view_is
    (makes_one _ _ (Close q.number) _ c.close.ensures (λ allowed. sym (ap (λ b. if b then Close q.number ∷ [] else []) yes)))

pub returns-clause-list : goal.returns-clause-list
returns-clause-list g c =
    let now = c.args.now in
    let i = c.self.inside in
    let q = c.args.question.now in
    let octets = c.args.octets.now in
    let used = moved_last (heard_at now) q.number (questions i.list) in
    let yes : is_answered i.resolver q c.args.peer octets ≡ true = sym c.is_answered.ensures ∙ c.if-not-is_answered.false in
    ap (λ (l : List Question). let t : RelayState = record { bind = i.bind.0; resolver = i.resolver; name_server = i.name_server.0; list = l } in t)
    (ap questions (c.close-2.ensures ∙ ap (without_socket number_of q.number) c.received.ensures)
    ∙ without_mapped as_question number_of (λ (x : Question). x.number) (λ s. refl) q.number (socket_moved (socket_heard now) q.number i.list)
    ∙ ap (without q.number) (moved (socket_heard now) (heard_at now) (λ s. refl) q.number i.list)
    ∙ sym (ap (λ (b : Bool). if b then without q.number used else used) yes))
    ∙ ap (λ (s : RelayState). let t : RelayState = record s { list = list_after s now q (From c.args.peer (length octets)) octets } in t) c.self.view_is
