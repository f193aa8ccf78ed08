use Rattle.std.proofs.Common.{◌≡◌, Bool, true, All, length}
use Rattle.world_face.specs.Tells.{Makes}
use Rattle.idle_sockets.specs.Sockets.{is_over, number_of}
use Rattle.idle_sockets.specs.Closing.{ClosesAll}
use Rattle.idle_sockets.specs.declared.IdleSocket.{IdleSocket}
use Rattle.idle_sockets.proofs.sockets.IdleSockets.close_idle.Given as goal

abbrev pub invariant-loop : goal.invariant-loop
invariant-loop g l = record {
  makes : Makes (g.W.World.tells l.fn.world) (g.W.World.tells l.world) (ClosesAll number_of (is_over l.life l.now) l.fn.self l.self);
  among : (test : IdleSocket → Bool) → All (λ s. test s ≡ true) l.fn.self → All (λ s. test s ≡ true) l.self;
}

abbrev pub decreases-loop : goal.decreases-loop
decreases-loop g l = length l.self
