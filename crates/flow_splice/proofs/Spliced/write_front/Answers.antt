use Rattle.std.proofs.Common.{◌≡◌, ℕ, List, length, take, min, ◌∙◌, ap, subst, arith}
use Rattle.world_face.specs.Journal.{TcpWrite}
use Rattle.world_face.specs.Tells.{Answers}
use Rattle.flow_splice.specs.Splice.{Splice}
use Rattle.flow_splice.proofs.Spliced.write_front.Goals as goal

pub returns-in-Some-clause-offers : goal.returns-in-Some-clause-offers
returns-in-Some-clause-offers g c =
    let i = c.self.inside in
    let most : c.min-most.result ≡ min 16384 (length i.up.held) = omega (arith, c.min-most.ensures, c.held.ensures.held) in
    let octets : c.in-Some.octets.now ≡ take (min 16384 (length i.up.held)) i.up.held = c.in-Some.ensures.oldest ∙ ap (λ (n : ℕ). take n i.up.held) most in
    subst (λ (f : Splice). Answers (g.W.World.tells c.args.world.now) (g.W.World.tells c.tcp_write.new.self)
    (TcpWrite f.face.number (take (min 16384 (length f.up.held)) f.up.held) c.tcp_write.result)) c.self.view_is
    (subst (λ (l : List ℕ). Answers (g.W.World.tells c.args.world.now) (g.W.World.tells c.tcp_write.new.self) (TcpWrite i.number l c.tcp_write.result)) octets c.tcp_write.ensures)
