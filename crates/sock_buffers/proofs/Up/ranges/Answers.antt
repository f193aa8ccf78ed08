use Rattle.std.proofs.Common.{◌≡◌, IsSome, ◌↔◌, true, subst}
use Rattle.sock_buffers.specs.Kept.{covers, octet_at}
use Rattle.sock_buffers.specs.Upward.{Upward}
use Rattle.sock_buffers.proofs.Keeping.{kept_iff}
use Rattle.sock_buffers.proofs.Up.ranges.Goals as goal

pub returns-clause-kept : goal.returns-clause-kept
returns-clause-kept c place =
    subst (λ (u : Upward). IsSome (octet_at u.kept place) ↔ (covers u.ranges place ≡ true)) c.self.view_is
    (kept_iff c.self.inside.ranges.items c.self.inside.held c.self.inside.ring.items c.self.invariant.0 place)
