use Rattle.std.proofs.Common.{◌≡◌, ◌+◌, ◌-◌, ◌<◌, [], inl, inr, length, ap, sym, ◌∙◌, subst}
use Rattle.sim_flows.specs.Seats.{in_use_slots}
use Rattle.sock_buffers.specs.Downward.{downward}
use Rattle.sock_buffers.specs.Upward.{empty}
use Rattle.tcp_connection.specs.Connection.{HasBuffers, to_guest}
use Rattle.spec_flow.specs.Flow.{first_number}
use Rattle.slirp_settings.specs.Addresses.{Config}
use Rattle.tcp_flows.specs.Kept.{IsFor, Kept}
use Rattle.tcp_flows.specs.Runs.{Welcomes}
use Rattle.tcp_flows.proofs.Joining.{welcomes_again, welcomes_of}
use Rattle.tcp_flows.proofs.flows.TcpFlows.accept.Goals as goal

pub seat-requires-clause-room : goal.seat-requires-clause-room
seat-requires-clause-room c = subst (λ n. n < length c.make_way.new.self.flows.table.slots) (sym c.make_way.ensures.room)
    (subst (λ n. in_use_slots c.args.self.now.flows.table.slots < n) (sym c.make_way.ensures.slots) c.requires.room)

pub seat-requires-clause-above : goal.seat-requires-clause-above
seat-requires-clause-above c k p here =
    let was = c.make_way.ensures.stays.numbers k p here in
    subst (λ n. n < c.args.number) (sym was.2) (c.requires.above k was.0 was.1)

pub seat-requires-clause-count : goal.seat-requires-clause-count
seat-requires-clause-count c = subst (λ n. n + 1 < 18446744073709551616) (sym c.make_way.ensures.stays.opened) c.requires.count

pub seat-requires-clause-new : goal.seat-requires-clause-new
seat-requires-clause-new c =
    subst (λ n. HasBuffers c.called-conn.result (empty n) (downward [] 0 n)) (ap (λ (s : Kept). s.ring) c.self.view_is ∙ sym (ap (λ (s : Kept). s.ring) c.make_way.ensures.same))
    c.called-conn.ensures.buffers

pub returns-clause-welcomes : goal.returns-clause-welcomes
returns-clause-welcomes c =
    let old : Kept = c.args.self.now in
    let mid : Kept = c.make_way.new.self in
    let conn_is : (config : Config) → IsFor config mid → c.called-conn.result ≡ to_guest (first_number c.args.now mid.flows.opened) (config.mtu - 40) config.ring config.congestion =
    λ config for_it.
    let ring = ap (λ (s : Kept). s.ring) c.self.view_is ∙ sym (ap (λ (s : Kept). s.ring) c.make_way.ensures.same) ∙ sym for_it.ring in
    let mtu = ap (λ (s : Kept). s.mtu) c.self.view_is ∙ sym (ap (λ (s : Kept). s.mtu) c.make_way.ensures.same) ∙ sym for_it.mtu in
    let congestion = ap (λ (s : Kept). s.congestion) c.self.view_is ∙ sym (ap (λ (s : Kept). s.congestion) c.make_way.ensures.same) ∙ sym for_it.congestion in
    let opened = ap (λ (s : Kept). s.flows.opened) c.self.view_is ∙ sym c.make_way.ensures.stays.opened in
    c.called-conn.ensures.exact ∙ (λ i. to_guest (first_number c.args.now (opened i)) (mtu i - 40) (ring i) (congestion i)) in
    elim c.make_way.ensures.way [
      | inl stays ↦
          subst (λ (s : Kept). Welcomes c.args.now c.args.number s c.seat.new.self c.args.ends.now c.args.mac) stays.0
          (welcomes_of c.args.now c.args.number mid c.seat.new.self c.args.ends.now c.args.mac c.called-conn.result c.seat.ensures.seat c.seat.ensures.same c.make_way.ensures.none conn_is)
      | inr leaves ↦
          welcomes_again c.args.now c.args.number old mid c.seat.new.self c.args.ends.now c.args.mac c.called-conn.result c.seat.ensures.seat c.seat.ensures.same c.make_way.ensures.same
          leaves.0 leaves.1 leaves.2 leaves.3 leaves.4 leaves.5 leaves.6 conn_is
    ]

pub returns-clause-turn : goal.returns-clause-turn
returns-clause-turn c = ap (λ (s : Kept). s.turn) c.seat.ensures.same ∙ ap (λ (s : Kept). s.turn) c.make_way.ensures.same

pub returns-clause-served : goal.returns-clause-served
returns-clause-served c = ap (λ (s : Kept). s.served) c.seat.ensures.same ∙ ap (λ (s : Kept). s.served) c.make_way.ensures.same

pub returns-clause-opened : goal.returns-clause-opened
returns-clause-opened c = c.seat.ensures.opened ∙ ap (λ n. n + 1) c.make_way.ensures.stays.opened

pub returns-clause-slots : goal.returns-clause-slots
returns-clause-slots c = c.seat.ensures.slots ∙ c.make_way.ensures.stays.slots

pub returns-clause-numbers : goal.returns-clause-numbers
returns-clause-numbers c k p here = elim (c.seat.ensures.numbers k p here) [
  | inl new ↦ inl new
  | inr had ↦ let was = c.make_way.ensures.stays.numbers k had.0 had.1 in inr (was.0, was.1, had.2 ∙ was.2)
]
