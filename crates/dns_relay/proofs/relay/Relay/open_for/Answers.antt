use Rattle.std.proofs.Common.{◌≡◌, ℕ, ◌<◌, All, List, ◌++◌, ◌∷◌, [], length, refl, sym, ◌∙◌, ap, subst, arith}
use Rattle.std.proofs.lemmas.List.{map-append}
use Rattle.slirp_settings.specs.Addresses.{endpoint}
use Rattle.rules_udp.specs.declared.Reply.TheVariants.{Unreachable}
use Rattle.world_face.specs.Journal.{Entry, UdpOpen, UdpSend}
use Rattle.world_face.specs.Tells.{Makes}
use Rattle.world_face.specs.declared.Made.TheVariants.{Done, Failed}
use Rattle.world_face.proofs.Telling.{makes_one, makes_then}
use Rattle.idle_sockets.specs.declared.IdleSocket.{IdleSocket}
use Rattle.idle_sockets.proofs.Mapping.{length_mapped}
use Rattle.dns_relay.specs.Asking.{asked_of}
use Rattle.dns_relay.specs.Kept.{as_question, questions}
use Rattle.rules_dns.specs.Questions.{asked_from, moved_last, numbers, socket_of}
use Rattle.dns_relay.specs.Relaying.{Opens, OpensFor, OpensNone, no_network}
use Rattle.dns_relay.specs.State.{RelayState}
use Rattle.rules_dns.specs.declared.Question.{Question}
use Rattle.dns_relay.proofs.Keeping.{numbers_are, socket_is}
use Rattle.dns_relay.proofs.relay.Relay.open_for.Goals as goal

pub open_at-requires-clause-room : goal.open_at-requires-clause-room
open_at-requires-clause-room g c =
    let same = ap (λ (s : RelayState). length s.list) c.self.view_is in
    let long = length_mapped as_question c.self.inside.list in
    omega (arith, same, long, c.requires.room)

pub open_at-requires-clause-above : goal.open_at-requires-clause-above
open_at-requires-clause-above g c =
    subst (All (λ (n : ℕ). n < c.args.number.now)) (sym (numbers_are c.self.inside.list ∙ ap (λ (s : RelayState). numbers s.list) c.self.view_is)) c.requires.above

pub open_at-requires-clause-fresh : goal.open_at-requires-clause-fresh
open_at-requires-clause-fresh g c =
    let guest = c.args.asked.now.from in
    socket_is guest c.args.ident c.self.inside.list ∙ ap (λ (s : RelayState). socket_of guest c.args.ident s.list) c.self.view_is ∙ c.requires.fresh

pub returns-in-Done-clause-opens : goal.returns-in-Done-clause-opens
returns-in-Done-clause-opens g c =
    let number = c.args.number.now in
    let now = c.args.now in
    let d = asked_of c.args.asked.now in
    let at = endpoint c.self.inside.bind.0 0 in
    let old = questions c.self.inside.list in
    let s : IdleSocket = record { number = number; guest = d.from; ident = c.args.ident; mac = d.mac; used = now } in
    let opened = ap questions (c.in-Done.ensures.done refl) ∙ map-append as_question c.self.inside.list (s ∷ [])
    ∙ ap (λ (i : ℕ). let q : Question = record { number = number; guest = d.from; mac = d.mac; ident = i; used = now } in old ++ (q ∷ [])) c.requires.ident in
    let is = ap (λ (s : RelayState). s.list) c.send_on.ensures.list ∙ ap (moved_last (asked_from d.mac now) number) opened in
    subst (λ (s : RelayState). Makes (g.W.World.tells c.args.world.now) (g.W.World.tells c.send_on.new.world)
    (OpensFor s.bind d now number s.list c.send_on.new.self.list c.send_on.result)) c.self.view_is
    (makes_then _ _ _ _ _ _ (makes_one _ _ (UdpOpen number at Done) (λ made. ◌≡◌ {A = List Entry} made (UdpOpen number at Done ∷ [])) c.in-Done.ensures.call (λ allowed. refl)) c.send_on.ensures.sends
    (λ first second opens sends. Opens sends.0 (ap (λ (m : List Entry). m ++ first) sends.1 ∙ ap (λ (m : List Entry). UdpSend number d.to d.body sends.0 ∷ m) opens) is sends.2))

pub returns-in-Failed-clause-opens : goal.returns-in-Failed-clause-opens
returns-in-Failed-clause-opens g c =
    subst (λ (s : RelayState). Makes (g.W.World.tells c.args.world.now) (g.W.World.tells c.open_at.new.world)
    (OpensFor s.bind (asked_of c.args.asked.now) c.args.now c.args.number.now s.list (questions c.open_at.new.self) (Unreachable no_network))) c.self.view_is
    (makes_one _ _ (UdpOpen c.args.number.now (endpoint c.self.inside.bind.0 0) Failed) _ c.in-Failed.ensures.call (λ allowed. OpensNone refl (ap questions (c.in-Failed.ensures.failed refl)) refl))
