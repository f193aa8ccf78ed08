use Rattle.std.proofs.Common.{◌≡◌, ℕ, ◌<◌, All, List, ◌++◌, ◌∷◌, [], length, refl, sym, ◌∙◌, ap, subst, arith}
use Rattle.std.proofs.lemmas.List.{map-append}
use Rattle.slirp_settings.specs.Addresses.{endpoint}
use Rattle.rules_udp.specs.declared.Reply.TheVariants.{Unreachable}
use Rattle.world_face.specs.Journal.{Entry, UdpOpen, UdpSend}
use Rattle.world_face.specs.Tells.{Makes}
use Rattle.world_face.specs.declared.Made.TheVariants.{Done, Failed}
use Rattle.world_face.proofs.Telling.{makes_one, makes_then}
use Rattle.idle_sockets.specs.declared.IdleSocket.{IdleSocket}
use Rattle.idle_sockets.proofs.Mapping.{length_mapped}
use Rattle.rules_udp.specs.Associations.{moved_last, numbers, sent_from, socket_of}
use Rattle.udp_assoc.specs.Kept.{as_association, associations, only, AreOnly}
use Rattle.udp_assoc.specs.Relays.{Opens, OpensFor, OpensNone, no_network}
use Rattle.udp_assoc.specs.Sending.{outbound_of}
use Rattle.udp_assoc.specs.State.{AssocsState}
use Rattle.udp_assoc.proofs.Keeping.{last_only, numbers_are, socket_is}
use Rattle.udp_assoc.proofs.sockets.Assocs.open_for.Goals as goal

pub open_at-requires-clause-room : goal.open_at-requires-clause-room
open_at-requires-clause-room g c =
    let same = ap (λ (s : AssocsState). length s.list) c.self.view_is in
    let long = length_mapped as_association c.self.inside.list in
    omega (arith, same, long, c.requires.room)

pub open_at-requires-clause-above : goal.open_at-requires-clause-above
open_at-requires-clause-above g c =
    subst (All (λ (n : ℕ). n < c.args.number.now)) (sym (numbers_are c.self.inside.list ∙ ap (λ (s : AssocsState). numbers s.list) c.self.view_is)) c.requires.above

pub open_at-requires-clause-fresh : goal.open_at-requires-clause-fresh
open_at-requires-clause-fresh g c =
    let guest = c.args.datagram.now.from in
    socket_is guest c.self.inside.list c.self.invariant ∙ ap (λ (s : AssocsState). socket_of guest s.list) c.self.view_is ∙ c.requires.fresh

pub invariant_of-self : goal.invariant_of-self
invariant_of-self g c =
    let d = outbound_of c.args.datagram.now in
    let s : IdleSocket = record { number = c.args.number.now; guest = d.from; ident = only; mac = d.mac; used = c.args.now } in
    subst AreOnly (sym (c.in-Done.ensures.done refl)) (last_only c.self.inside.list s c.self.invariant refl)

pub returns-in-Done-clause-opens : goal.returns-in-Done-clause-opens
returns-in-Done-clause-opens g c =
    let number = c.args.number.now in
    let now = c.args.now in
    let d = outbound_of c.args.datagram.now in
    let at = endpoint c.self.inside.bind.0 0 in
    let s : IdleSocket = record { number = number; guest = d.from; ident = only; mac = d.mac; used = now } in
    let opened = ap associations (c.in-Done.ensures.done refl) ∙ map-append as_association c.self.inside.list (s ∷ []) in
    let is = ap (λ (s : AssocsState). s.list) c.send_on.ensures.list ∙ ap (moved_last (sent_from d.mac now) number) opened in
    subst (λ (s : AssocsState). Makes (g.W.World.tells c.args.world.now) (g.W.World.tells c.send_on.new.world)
    (OpensFor s.bind d now number s.list c.send_on.new.self.list c.send_on.result)) c.self.view_is
    (makes_then _ _ _ _ _ _ (makes_one _ _ (UdpOpen number at Done) (λ made. ◌≡◌ {A = List Entry} made (UdpOpen number at Done ∷ [])) c.in-Done.ensures.call (λ allowed. refl)) c.send_on.ensures.sends
    (λ first second opens sends. Opens sends.0 (ap (λ (m : List Entry). m ++ first) sends.1 ∙ ap (λ (m : List Entry). UdpSend number d.to d.body sends.0 ∷ m) opens) is sends.2))

pub returns-in-Failed-clause-opens : goal.returns-in-Failed-clause-opens
returns-in-Failed-clause-opens g c =
    subst (λ (s : AssocsState). Makes (g.W.World.tells c.args.world.now) (g.W.World.tells c.open_at.new.world)
    (OpensFor s.bind (outbound_of c.args.datagram.now) c.args.now c.args.number.now s.list (associations c.open_at.new.self) (Unreachable no_network))) c.self.view_is
    (makes_one _ _ (UdpOpen c.args.number.now (endpoint c.self.inside.bind.0 0) Failed) _ c.in-Failed.ensures.call (λ allowed. OpensNone refl (ap associations (c.in-Failed.ensures.failed refl)) refl))
