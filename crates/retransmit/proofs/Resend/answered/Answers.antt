use Rattle.std.proofs.Common.{refl}
use Rattle.retransmit.proofs.Waiting.{doubled_less, fewer}
use Rattle.retransmit.proofs.Resend.answered.Goals as goal

pub invariant_of-self : goal.invariant_of-self
invariant_of-self c =
    let steady = c.self.invariant in
    record {
      few = fewer c.self.inside.timer c.self.inside.resent steady.few;
      rests = λ _. refl;
      doubled = doubled_less c.self.inside.timer c.self.inside.resent c.self.inside.rto.wait steady.doubled;
      longest = steady.longest;
      range = steady.range;
    }
