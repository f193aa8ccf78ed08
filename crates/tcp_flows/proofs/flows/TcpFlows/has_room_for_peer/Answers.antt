use Rattle.std.proofs.Common.{◌≡◌, ◌&&◌, length, map, nat_lt, ap, sym, subst, ◌∙◌}
use Rattle.std.proofs.lemmas.List.{length-map}
use Rattle.rules_flow.specs.Choices.{most_for_peers}
use Rattle.sim_flows.specs.Peers.{fits_peer, peer_slots}
use Rattle.sim_flows.specs.Seats.{in_use_slots}
use Rattle.sim_flows.proofs.Peers.{room_recorded}
use Rattle.tcp_flows.specs.Kept.{Kept, part_of, slot_of}
use Rattle.tcp_flows.specs.declared.rows.Used.{Used}
use Rattle.tcp_flows.proofs.Looking.{peers_counted}
use Rattle.tcp_flows.proofs.flows.TcpFlows.has_room_for_peer.Goals as goal

pub returns-then-has_room-clause-room : goal.returns-then-has_room-clause-room
returns-then-has_room-clause-room c =
    let parts = c.self.inside.slots.items in
    let are = c.self.invariant.0 in
    let slots = c.self.inside.rows.table.slots in
    let peers : c.self.inside.rows.used.peers ≡ peer_slots slots (map part_of parts) =
    ap (λ (u : Used). u.peers) are.used_are ∙ sym (ap (λ l. peer_slots l (map part_of parts)) are.slots_are ∙ peers_counted parts) in
    let long : c.len.result ≡ length slots = c.len.ensures ∙ c.self.inside.slots.ok.0 ∙ sym (ap length are.slots_are ∙ length-map parts slot_of) in
    let most : c.most_for_peers-most.result ≡ most_for_peers (length slots) = c.most_for_peers-most.ensures ∙ ap most_for_peers long in
    ap (λ b. b && nat_lt c.self.inside.rows.used.peers c.most_for_peers-most.result) c.if-has_room.ensures
    ∙ subst (λ (s : Kept). (nat_lt (in_use_slots s.flows.table.slots) (length s.flows.table.slots) && nat_lt c.self.inside.rows.used.peers c.most_for_peers-most.result) ≡ fits_peer s.flows)
    c.self.view_is
    (λ i. nat_lt (in_use_slots slots) (length slots) && nat_lt (peers i) (most i))

pub returns-then-has_room-clause-recorded : goal.returns-then-has_room-clause-recorded
returns-then-has_room-clause-recorded c config now aged task past holds asked =
    returns-then-has_room-clause-room c ∙ sym (room_recorded config now aged task c.args.self.now.flows past holds asked)
