use Rattle.std.proofs.Common.{sym, subst}
use Rattle.retransmit.specs.Resending.{HasWaitedSince, IsNotBefore, Resending, WaitsSince}
use Rattle.retransmit.specs.declared.Timer.{Timer}
use Rattle.retransmit.specs.declared.Timer.TheVariants.{Since}
use Rattle.retransmit.proofs.Waiting.{sent_again, sent_new}
use Rattle.retransmit.proofs.Resend.sent.Goals as goal

pub returns-then-again-clause-waited : goal.returns-then-again-clause-waited
returns-then-again-clause-waited c first early after waits =
    let inside = c.self.inside in
    let after_inside = subst (λ (r : Resending). IsNotBefore r.timer c.args.now) (sym c.self.view_is) after in
    let waits_inside = subst (λ (r : Resending). HasWaitedSince first r) (sym c.self.view_is) waits in
    subst (λ n. WaitsSince first (Since c.args.now) n) (sym c.counted-self-inside.ensures)
    (sent_again first c.args.now inside.timer inside.resent c.self.invariant.rests early after_inside waits_inside)

pub returns-else-again-clause-waited : goal.returns-else-again-clause-waited
returns-else-again-clause-waited c first early after waits =
    let inside = c.self.inside in
    let after_inside = subst (λ (r : Resending). IsNotBefore r.timer c.args.now) (sym c.self.view_is) after in
    let waits_inside = subst (λ (r : Resending). HasWaitedSince first r) (sym c.self.view_is) waits in
    subst (λ (t : Timer). WaitsSince first t inside.resent) (sym c.running-self-inside.ensures)
    (sent_new first c.args.now inside.timer inside.resent c.self.invariant.rests early after_inside waits_inside)
