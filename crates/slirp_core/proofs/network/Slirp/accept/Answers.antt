use Rattle.std.proofs.Common.{[], ◌∷◌, ◌++◌, ◌≡◌, ◌<◌, ◌&&◌, nat_lt, ℕ, Bool, true, false, List, Some, None, length, refl, sym, ◌∙◌, ap, subst, arith}
use Rattle.std.specs.Option.{option_map_or}
use Rattle.slirp_settings.specs.Ranges.{same_proto}
use Rattle.slirp_settings.specs.declared.Proto.TheVariants.{Tcp}
use Rattle.slirp_settings.specs.declared.Forward.{Forward}
use Rattle.rules_forward.specs.Opened.{forward_with}
use Rattle.std.proofs.lemmas.Bool.Decides.{nat_tests}
use Rattle.net_octets.specs.declared.Endpoint.{Endpoint}
use Rattle.poll_list.specs.declared.Who.TheVariants.{Listener as AListener}
use Rattle.world_face.specs.Journal.{Accept, AreAllowed, Entry}
use Rattle.world_face.specs.declared.Accepted.TheVariants.{From}
use Rattle.world_face.specs.Tells.{Answers, Brings}
use Rattle.world_face.proofs.Telling.{brings_none, makes_one, makes_then}
use Rattle.slirp_settings.specs.Addresses.{Config}
use Rattle.sim_flows.specs.Peers.{fits_peer, peer_slots}
use Rattle.sim_flows.specs.Seats.{in_use_slots}
use Rattle.rules_flow.specs.Choices.{most_for_peers}
use Rattle.spec_flows.specs.Book.{book, is_refused}
use Rattle.sim_flows.specs.Core.{CoreHolds}
use Rattle.spec_duties.specs.Serving.{is_left_to_read}
use Rattle.slirp_core.specs.Holds.{Holds, as_given, flowing, standing}
use Rattle.slirp_core.specs.State.{SlirpState}
use Rattle.slirp_core.specs.Visits.{AsksForPeer, ClosesOne, Treats}
use Rattle.slirp_core.proofs.Associating.{passes_over}
use Rattle.slirp_core.proofs.Counted.{grown}
use Rattle.slirp_core.proofs.Served.{peer_is_read, unawaited_is_unread}
use Rattle.slirp_core.proofs.Telling.{brings_allowed}
use Rattle.slirp_core.proofs.Visiting.{passed_by, treated}
use Rattle.slirp_core.proofs.Marking.{marks_same}
use Rattle.slirp_core.proofs.Viewed.{state_of}
use Rattle.slirp_core.proofs.network.Slirp.accept.Goals as goal

abbrev is_for_peers : Forward → Bool
is_for_peers f = same_proto Tcp f.proto

-- where a test fails none is awaited
no_room : (a b : Bool) → a ≡ false → (a && b) ≡ false
no_room true b is = cc
no_room false b is = refl

none_there : (a b : Bool) → b ≡ false → (a && b) ≡ false
none_there true b is = is
none_there false b is = refl

pub returns-then-not-has_room_for_peer-clause-makes : goal.returns-then-not-has_room_for_peer-clause-makes
returns-then-not-has_room_for_peer-clause-makes g c config count wants item items link reads_it =
    let full = c.if-not-has_room_for_peer.ensures.room in
    brings_none (λ past holds. (
      passes_over config count wants item items c.args.self.now (flowing false c.args.self.now.flows) link past holds,
      unawaited_is_unread config (standing count wants (item ∷ items)) c.args.self.now (flowing false c.args.self.now.flows) link past holds refl c.args.listener
          (no_room (fits_peer c.args.self.now.flows.flows)
          (option_map_or is_for_peers (forward_with c.args.listener c.args.self.now.forwards) false)
          (subst (λ (s : SlirpState). fits_peer s.flows.flows ≡ false) c.self.view_is (sym full))),
    ))

pub returns-in_default-clause-makes : goal.returns-in_default-clause-makes
returns-in_default-clause-makes g c config count wants item items link reads_it =
    let none = subst (λ (s : SlirpState). forward_with c.args.listener s.forwards ≡ None) c.self.view_is (sym c.with_socket.ensures ∙ c.in_default.is) in
    brings_none (λ past holds. (
      passes_over config count wants item items c.args.self.now (flowing false c.args.self.now.flows) link past holds,
      unawaited_is_unread config (standing count wants (item ∷ items)) c.args.self.now (flowing false c.args.self.now.flows) link past holds refl c.args.listener
          (none_there (fits_peer c.args.self.now.flows.flows)
          (option_map_or is_for_peers (forward_with c.args.listener c.args.self.now.forwards) false) (ap (λ o. option_map_or is_for_peers o false) none)),
    ))

-- where a peer's flow fits not every slot is in use
not_full : (a b : ℕ) (c : Bool) → (nat_lt a b && c) ≡ true → a < b
not_full a b c is = by (nat_lt a b) refl is
  where
    by : (t : Bool) → nat_lt a b ≡ t → (t && c) ≡ true → a < b
    by true less both = grind (arith, nat_tests, less)
    by false none both = cc

pub welcome-requires-clause-room : goal.welcome-requires-clause-room
welcome-requires-clause-room g c =
    let state = c.self.inside.flows.flows in
    subst (λ (s : SlirpState). in_use_slots s.flows.flows.table.slots < length s.flows.flows.table.slots) c.self.view_is
    (not_full (in_use_slots state.table.slots) (length state.table.slots) (nat_lt (peer_slots state.table.slots state.slots) (most_for_peers (length state.table.slots)))
    (sym c.if-not-has_room_for_peer.ensures.room))

pub returns-in-NotYet : goal.returns-in-NotYet
returns-in-NotYet g c =
    let i = c.self.inside in
    let slirp : SlirpState = state_of i in
    let room_is = c.if-not-has_room_for_peer.ensures.room in
    let room : fits_peer i.flows.flows ≡ true = sym room_is in
    record {
      makes = λ config count wants item items link reads_it.
          subst (λ (s : SlirpState). Brings (g.W.World.tells c.args.world.now) (g.W.World.tells c.accept.new.self) (Holds config (standing count wants (item ∷ items)) s (flowing false s.flows) link)
          (λ past. Holds config (standing count wants items) s (flowing false s.flows) link past × (is_left_to_read config past (AListener c.args.listener) ≡ false))) c.self.view_is
          (passed_by _ _ config count wants item items c.args.listener reads_it slirp link room c.in-Some.forward
          (sym c.with_socket.ensures ∙ c.in-Some.is) c.in-Tcp.is c.accept.result c.in-NotYet.is c.accept.ensures);
      asks = λ awaited. makes_one _ _ _ _ (subst (λ (s : SlirpState). Answers (g.W.World.tells c.args.world.now) (g.W.World.tells c.accept.new.self)
          (Accept c.args.listener s.number c.accept.result)) c.self.view_is c.accept.ensures) (λ allowed. (c.accept.result, false, refl));
      counts = grown _ _ _ c.accept.ensures.counted;
      number = omega arith;
      turn = refl;
      marks = marks_same c.args.self.now.number c.args.self.now.flows;
      others = refl;
    }

-- a peer came, and was treated so
abbrev HasTreated : Config → Endpoint → Endpoint → (old new : SlirpState) → List Entry → Type 0
HasTreated k guest peer old new made =
    (config : Config) (now : ℕ) (aged : Bool) (past : List Entry) → CoreHolds config now aged None old.flows.flows past → k ≡ as_given config → Treats
    (is_refused config guest peer (book config past)) guest peer old new made

pub returns-in-From-clause-makes : goal.returns-in-From-clause-makes
returns-in-From-clause-makes g c config count wants item items link reads_it =
    let slirp = c.args.self.now in
    let room_is = c.if-not-has_room_for_peer.ensures.room in
    let room : fits_peer c.self.inside.flows.flows ≡ true = sym room_is in
    let forward = c.in-Some.forward in
    let peer = c.in-From.peer in
    let new = c.welcome.new.self in
    let came : Entry = Accept c.args.listener slirp.number (From peer) in
    brings_allowed
    (makes_then _ _ _ (λ made. made ≡ came ∷ []) _
    (λ es. (made : List Entry) × (es ≡ made ++ came ∷ []) × HasTreated slirp.config forward.guest peer slirp new made)
    (makes_one _ _ _ _ (subst (λ (s : SlirpState). Answers (g.W.World.tells c.args.world.now) (g.W.World.tells c.accept.new.self)
    (Accept c.args.listener s.number (From peer))) c.self.view_is c.in-From.ensures) (λ allowed. refl)) c.welcome.ensures.treats
    (λ made more one treats. (more, ap (λ l. more ++ l) one, treats)))
    (λ es (made, is, treats) allowed past holds.
    let then_is : Holds config (standing count wants items) new (flowing false new.flows) link (es ++ past) =
    subst (λ l. Holds config (standing count wants items) new (flowing false new.flows) link (l ++ past)) (sym is)
    (treated config count wants item items c.args.listener reads_it slirp link past holds
    (subst (λ (s : SlirpState). fits_peer s.flows.flows ≡ true) c.self.view_is room)
    forward (subst (λ (s : SlirpState). forward_with c.args.listener s.forwards ≡ Some forward) c.self.view_is
    (sym c.with_socket.ensures ∙ c.in-Some.is)) c.in-Tcp.is peer new made (subst AreAllowed is allowed) c.welcome.ensures.others
    (treats config slirp.moment false past holds.flows.holds holds.guests.settings)) in (
      then_is,
      peer_is_read config count wants item items slirp new (flowing false slirp.flows) (flowing false new.flows) link link past es holds then_is c.args.listener slirp.number (From peer) made is,
    ))

pub returns-in-From-clause-counts : goal.returns-in-From-clause-counts
returns-in-From-clause-counts g c =
    let first = grown _ _ _ c.in-From.ensures.counted in
    let then_is = grown _ _ _ c.welcome.ensures.treats.counted in
    (omega (arith, first.0, then_is.0), omega (arith, first.1, then_is.1), omega (arith, first.2, then_is.2))

pub returns-in-Udp-clause-makes : goal.returns-in-Udp-clause-makes
returns-in-Udp-clause-makes g c config count wants item items link reads_it =
    let some = subst (λ (s : SlirpState). forward_with c.args.listener s.forwards ≡ Some c.in-Some.forward) c.self.view_is (sym c.with_socket.ensures ∙ c.in-Some.is) in
    brings_none (λ past holds. (
      passes_over config count wants item items c.args.self.now (flowing false c.args.self.now.flows) link past holds,
      unawaited_is_unread config (standing count wants (item ∷ items)) c.args.self.now (flowing false c.args.self.now.flows) link past holds refl c.args.listener
          (none_there (fits_peer c.args.self.now.flows.flows)
          (option_map_or is_for_peers (forward_with c.args.listener c.args.self.now.forwards) false) (ap (λ o. option_map_or is_for_peers o false) some ∙ ap (same_proto Tcp) c.in-Udp.is)),
    ))

pub returns-then-not-has_room_for_peer-clause-asks : goal.returns-then-not-has_room_for_peer-clause-asks
returns-then-not-has_room_for_peer-clause-asks g c awaited =
    let full = c.if-not-has_room_for_peer.ensures.room in
    let never : false ≡ true = sym (no_room (fits_peer c.args.self.now.flows.flows)
    (option_map_or is_for_peers (forward_with c.args.listener c.args.self.now.forwards) false)
    (subst (λ (s : SlirpState). fits_peer s.flows.flows ≡ false) c.self.view_is (sym full))) ∙ awaited in
    absurd cc

pub returns-in_default-clause-asks : goal.returns-in_default-clause-asks
returns-in_default-clause-asks g c awaited =
    let none = subst (λ (s : SlirpState). forward_with c.args.listener s.forwards ≡ None) c.self.view_is (sym c.with_socket.ensures ∙ c.in_default.is) in
    let never : false ≡ true = sym (none_there (fits_peer c.args.self.now.flows.flows)
    (option_map_or is_for_peers (forward_with c.args.listener c.args.self.now.forwards) false)
    (ap (λ o. option_map_or is_for_peers o false) none)) ∙ awaited in
    absurd cc

pub returns-in-Udp-clause-asks : goal.returns-in-Udp-clause-asks
returns-in-Udp-clause-asks g c awaited =
    let some = subst (λ (s : SlirpState). forward_with c.args.listener s.forwards ≡ Some c.in-Some.forward) c.self.view_is (sym c.with_socket.ensures ∙ c.in-Some.is) in
    let never : false ≡ true = sym (none_there (fits_peer c.args.self.now.flows.flows)
    (option_map_or is_for_peers (forward_with c.args.listener c.args.self.now.forwards) false)
    (ap (λ o. option_map_or is_for_peers o false) some ∙ ap (same_proto Tcp) c.in-Udp.is)) ∙ awaited in
    absurd cc

pub returns-in-From-clause-asks : goal.returns-in-From-clause-asks
returns-in-From-clause-asks g c awaited =
    let slirp = c.args.self.now in
    makes_then _ _ _ (λ made. made ≡ Accept c.args.listener slirp.number (From c.in-From.peer) ∷ []) (ClosesOne slirp.number) (AsksForPeer c.args.listener slirp.number)
    (makes_one _ _ _ _ (subst (λ (s : SlirpState). Answers (g.W.World.tells c.args.world.now) (g.W.World.tells c.accept.new.self)
    (Accept c.args.listener s.number (From c.in-From.peer))) c.self.view_is c.in-From.ensures) (λ allowed. refl)) c.welcome.ensures.closes
    (λ one more is (closed, closes). (From c.in-From.peer, closed, λ i. closes i ++ is i))

pub returns-then-not-has_room_for_peer-clause-marks : goal.returns-then-not-has_room_for_peer-clause-marks
returns-then-not-has_room_for_peer-clause-marks g c = marks_same c.args.self.now.number c.args.self.now.flows

pub returns-in_default-clause-marks : goal.returns-in_default-clause-marks
returns-in_default-clause-marks g c = marks_same c.args.self.now.number c.args.self.now.flows

pub returns-in-Udp-clause-marks : goal.returns-in-Udp-clause-marks
returns-in-Udp-clause-marks g c = marks_same c.args.self.now.number c.args.self.now.flows
