use Rattle.std.proofs.Common.{ℕ, ◌-◌, ◌≤◌, ◌^◌, length, min, nat_lt, if◌then◌else◌, arith, rules, ap, subst, sym, ◌∙◌}
use Rattle.std.proofs.lemmas.Grind.{common_steps}
use Rattle.flow_splice.proofs.StaysInTimeWait.{read_rests, rests_on}
use Rattle.world_face.specs.Journal.{TcpRead}
use Rattle.world_face.specs.Tells.{Answers}
use Rattle.world_face.specs.declared.Io.{Io}
use Rattle.flow_splice.specs.Hosts.{gives_octets, read_by}
use Rattle.flow_splice.specs.Splice.{Splice}
use Rattle.flow_splice.proofs.InTime.{either_moment, given_is}
use Rattle.flow_splice.proofs.Spliced.ask_octets.Goals as goal

pub invariant_of-self : goal.invariant_of-self
invariant_of-self g c =
    let i = c.self.inside in
    let read = c.read_into-answer.ensures.read in
    let moments = c.self.invariant.1 in (
      search rules,
      record {
        since = moments.since;
        last = subst (λ (n : ℕ). n ≤ 2 ^ 62) (sym c.later_if-self-inside.ensures) (either_moment _ c.args.now i.last c.requires.now moments.last);
        called = moments.called;
      },
      rests_on i.place i.conn.stage _ c.self.invariant.2 (λ in_time_wait at. read_rests _ i.conn i.down read.0 c.args.now _ _ read.3 ∙ at),
    )

pub returns-clause-read : goal.returns-clause-read
returns-clause-read g c =
    let i = c.self.inside in
    let now : ℕ = c.args.now in
    let answer : Io = c.read_into-answer.result in
    let read = c.read_into-answer.ensures.read in
    let old : Splice = record {
      place = i.place;
      shut = i.shut;
      face = record { guest = i.guest; other = i.other; number = i.number; vhost = i.vhost };
      mac = i.mac;
      since = i.since;
      accepted = i.accepted;
      told_end = i.told_end;
      asked = i.asked;
      ask_at = i.ask_at;
      asks = i.asks;
      conn = i.conn;
      up = i.up;
      down = i.down;
      mru = i.mru;
      last = i.last;
      called = i.called;
    } in
    let last = c.later_if-self-inside.ensures
    ∙ ap (λ (n : ℕ). if nat_lt n c.held.result then now else i.last) c.held-held.ensures.held
    ∙ ap (λ (n : ℕ). if nat_lt (length i.down.octets) n then now else i.last) c.held.ensures.held in (
      read.0,
      subst (λ (s : Splice). Answers (g.W.World.tells c.args.world.now) (g.W.World.tells c.read_into-answer.new.world)
          (TcpRead s.face.number (min 16384 (s.down.size - length s.down.octets)) answer read.0)) c.self.view_is read.1,
      subst (λ (s : Splice). length read.0 ≤ min 16384 (s.down.size - length s.down.octets)) c.self.view_is read.2,
      given_is (gives_octets answer) old c.read_into-answer.new.conn c.read_into-answer.new.down read.0 now c.later_if-self-inside.result read.3 last
          ∙ ap (λ (s : Splice). read_by (gives_octets answer) s read.0 now) c.self.view_is,
    )
