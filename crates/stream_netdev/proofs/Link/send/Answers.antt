use Rattle.std.proofs.Common.{◌-◌, ◌≤◌, List, length, take, drop, sym, subst, nat_lt, ◌∙◌, ap, arith}
use Rattle.world_face.specs.Journal.{count_of, LinkWrite}
use Rattle.world_face.specs.Tells.{Answers}
use Rattle.stream_netdev.proofs.Writing.{write_most, drop_part, length-rest}
use Rattle.stream_netdev.proofs.Link.send.Goals as goal

pub returns-clause-sent : goal.returns-clause-sent
returns-clause-sent g c =
    let inside = c.self.inside in
    let rest = c.args.self.now.tail in
    let answer = c.link_write-answer.result in
    let tail_is = ap (λ q. q.tail) c.self.view_is in
    let answers = subst (λ l. Answers (g.W.World.tells c.args.world.now) (g.W.World.tells c.link_write-answer.new.self) (LinkWrite l answer))
    (ap (λ l. take (inside.to - inside.from) (drop inside.from l)) c.deref.ensures.value ∙ tail_is) c.link_write-answer.ensures in
    let room = length-rest inside.from inside.to inside.out.items c.self.invariant.0 c.self.invariant.1 c.self.invariant.2 in
    let most : count_of answer ≤ inside.to - inside.from = omega (arith, write_most (length rest) answer answers.allowed.0, room, ap length tail_is) in
    let fits : c.count-count.result ≤ inside.to - inside.from = omega (arith, c.count-count.ensures) in (
      answer,
      answers,
      c.offered_of.ensures,
      drop_part inside.out.items inside.from inside.to c.count-count.result fits ∙ ap
          (λ n. drop n (take (inside.to - inside.from) (drop inside.from inside.out.items))) c.count-count.ensures ∙ ap (drop (count_of answer)) tail_is,
      ap (λ n. nat_lt n c.tail.result) c.count-count.ensures ∙ ap (λ n. nat_lt (count_of answer) n) c.tail.ensures,
    )
