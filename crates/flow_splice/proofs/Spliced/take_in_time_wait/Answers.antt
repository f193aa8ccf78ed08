use Rattle.std.proofs.Common.{◌≡◌, true, ap, subst, sym, ◌∙◌}
use Rattle.tcp_segment.specs.Tcp.{tcp_of}
use Rattle.flow_splice.specs.Splice.{Splice, is_time_wait_by}
use Rattle.flow_splice.specs.declared.Place.{Place}
use Rattle.flow_splice.proofs.Coming.{heard_written}
use Rattle.flow_splice.proofs.Spliced.take_in_time_wait.Goals as goal

pub take_in-requires-clause-time_waits : goal.take_in-requires-clause-time_waits
take_in-requires-clause-time_waits c = λ in_time_wait. sym c.ends_time_wait.ensures ∙ c.if-ends_time_wait.false

pub rest-requires : goal.rest-requires
rest-requires c =
    let place_is = ap (λ (x : Splice). x.place) c.take_in.ensures.heard ∙ c.requires.time_waits in
    subst (λ (p : Place). is_time_wait_by p c.take_in.new.self.conn.stage ≡ true) place_is c.take_in.ensures.time_waits

pub returns-else-ends_time_wait-clause-up : goal.returns-else-ends_time_wait-clause-up
returns-else-ends_time_wait-clause-up c =
    ap (λ (x : Splice). x.up.written) c.rest.ensures ∙ ap (λ (x : Splice). x.up.written) c.take_in.ensures.heard ∙ heard_written c.args.self.now (tcp_of c.args.seg.now) c.args.now
