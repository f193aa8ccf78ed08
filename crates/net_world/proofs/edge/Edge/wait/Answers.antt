use Rattle.std.proofs.Common.{arith, subst, sym}
use Rattle.poll_list.proofs.Picking.{picked_wants, picked_differ}
use Rattle.mio.specs.declared.net.stream.TcpStream.{TcpStream}
use Rattle.net_world.specs.Tables.{Table}
use Rattle.net_world.specs.Telling.{AreReady, link_known}
use Rattle.net_world.proofs.edge.Edge.wait.Goals as goal

pub returns-then-is_answered-clause-answer : goal.returns-then-is_answered-clause-answer
returns-then-is_answered-clause-answer g c = (
  picked_wants _ _ c.answer-is_answered.ensures.picked c.requires.some,
  picked_differ _ _ c.answer-is_answered.ensures.picked,
  omega (arith, c.answer-is_answered.ensures.few, c.requires.few),
)

pub returns-then-is_answered-clause-ready : goal.returns-then-is_answered-clause-ready
returns-then-is_answered-clause-ready g c =
    subst (λ (t : Table TcpStream). AreReady (link_known c.answer-is_answered.new.self.link) t.slots c.answer-is_answered.new.ready.items) (sym c.go_on.ensures.change)
    c.answer-is_answered.ensures.ready
