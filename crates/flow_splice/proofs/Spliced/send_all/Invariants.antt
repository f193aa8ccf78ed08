use Rattle.std.proofs.Common.{◌≡◌, [], false, true}
use Rattle.world_face.specs.Tells.{Makes}
use Rattle.stream_netdev.specs.State.{under_way}
use Rattle.flow_splice.specs.Ahead.{IsEarly}
use Rattle.flow_splice.specs.Left.{left}
use Rattle.flow_splice.specs.Sends.{Acknowledges, SendsOn}
use Rattle.flow_splice.specs.Shapes.{are_sending}
use Rattle.flow_splice.specs.Splice.{is_in_time_wait, is_open}
use Rattle.flow_splice.specs.Stays.{Stays}
use Rattle.flow_splice.specs.Wants.{HasTime}
use Rattle.flow_splice.proofs.Spliced.send_all.Given as goal

abbrev pub invariant-loop-what : goal.invariant-loop-what
invariant-loop-what g l = record {
  makes : Makes (g.W.World.tells l.fn.world) (g.W.World.tells l.world) (λ made. SendsOn l.fn.self l.self l.fn.link l.link l.fn.ident l.ident l.now made × (are_sending made ≡ true));
  tail : l.link.tail ≡ [];
  free : l.link.blocked ≡ false;
  stays : Stays l.fn.self l.self;
  same : under_way l.link ≡ under_way l.fn.link;
  closed : is_open l.fn.self ≡ false → is_open l.self ≡ false;
  time_waits : is_in_time_wait l.fn.self.place ≡ true → Acknowledges l.fn.self l.self l.now;
  early : IsEarly l.now l.fn.self.conn → IsEarly l.now l.self.conn;
  in_time : HasTime l.fn.self l.now → HasTime l.self l.now;
}

abbrev pub decreases-loop-what : goal.decreases-loop-what
decreases-loop-what g l = left l.self
