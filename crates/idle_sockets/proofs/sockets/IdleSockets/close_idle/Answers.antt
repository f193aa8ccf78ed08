use Rattle.std.proofs.Common.{List, Bool, ◌++◌, refl, sym, subst}
use Rattle.world_face.specs.Journal.{Entry}
use Rattle.world_face.specs.Tells.{Makes}
use Rattle.world_face.proofs.Telling.{makes_none, makes_then}
use Rattle.idle_sockets.specs.Sockets.{is_over, number_of}
use Rattle.idle_sockets.specs.Closing.{ClosesAll, ClosesLeast}
use Rattle.idle_sockets.specs.declared.IdleSocket.{IdleSocket}
use Rattle.idle_sockets.proofs.sockets.IdleSockets.close_idle.Goals as goal

pub loop-init : goal.loop-init
loop-init g c = record { makes = makes_none _ _ refl; among = λ test all. all }

pub loop-smaller : goal.loop-smaller
loop-smaller g c = c.close_next_idle.ensures.fewer c.loop-test.true

pub loop-preserved : goal.loop-preserved
loop-preserved g c =
    let over = is_over c.args.life c.args.now in
    let new = c.close_next_idle.new.self in
    let closed = subst (λ (b : Bool). Makes (g.W.World.tells c.loop.world) (g.W.World.tells c.close_next_idle.new.world) (ClosesLeast number_of over b c.loop.self new)) c.loop-test.true
    c.close_next_idle.ensures.closes in
    record {
      makes = makes_then _ _ _ _ _ _ c.loop.invariant.makes closed (λ first second before closes.
          subst (λ (m : List Entry). ClosesAll number_of over c.args.self.now new (m ++ first)) (sym closes.1) (c.loop.self, before, closes.2, closes.3));
      among = λ test all. c.close_next_idle.ensures.among test (c.loop.invariant.among test all);
    }

pub returns-clause-closes : goal.returns-clause-closes
returns-clause-closes g c =
    let over = is_over c.args.life c.args.now in
    let new = c.close_next_idle.new.self in
    let closed = subst (λ (b : Bool). Makes (g.W.World.tells c.loop.world) (g.W.World.tells c.close_next_idle.new.world) (ClosesLeast number_of over b c.loop.self new)) c.loop-test.false
    c.close_next_idle.ensures.closes in
    makes_then _ _ _ _ _ _ c.loop.invariant.makes closed (λ first second before closes.
    subst (λ (m : List Entry). ClosesAll number_of over c.args.self.now new (m ++ first)) (sym closes.0)
    (subst (λ (l : List IdleSocket). ClosesAll number_of over c.args.self.now l first) (sym closes.2) before))

pub returns-clause-among : goal.returns-clause-among
returns-clause-among g c test all = c.close_next_idle.ensures.among test (c.loop.invariant.among test all)
