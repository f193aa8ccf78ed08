use Rattle.std.proofs.Common.{◌≤◌, ◌+◌, arith, subst, sym}
use Rattle.std.proofs.lemmas.Grind.{common_steps}
use Rattle.tcp_transmit.specs.Pieces.{end_of}
use Rattle.tcp_transmit.specs.Transmission.{Feeds, Transmission, octets_read}
use Rattle.tcp_transmit.proofs.Feeding.{owed_ends, sent_feeds}
use Rattle.tcp_transmit.proofs.Transmit.sent.Goals as goal
use Rattle.tcp_transmit.proofs.Transmit.sent.Goals.{then-p, else-p}

pub overflow_add-end : goal.overflow_add-end
overflow_add-end c =
    let ends : end_of c.args.p.now ≤ octets_read c.requires.owed.0 + 1 = owed_ends c.args.self.now c.requires.owed.0 c.args.p.now c.requires.owed.1 c.requires.owed.2 in
    let few = c.requires.owed.1.few in
    omega arith

pub invariant_of-self : goal.invariant_of-self
invariant_of-self c =
    let ends : end_of c.args.p.now ≤ octets_read c.requires.owed.0 + 1 = owed_ends c.args.self.now c.requires.owed.0 c.args.p.now c.requires.owed.1 c.requires.owed.2 in
    let few = c.requires.owed.1.few in
    elim c.if-p.branch [
      | then-p w ↦ rw w.self-inside-is (
        c.self.invariant.0,
        c.self.invariant.1,
        omega (arith, c.self.invariant.2, c.max-self-inside.ensures),
        omega
            (arith, c.self.invariant.3, c.max-self-inside.ensures, c.numbers.ensures, ends, few),
        c.self.invariant.4,
      )
      | else-p w ↦ rw w.self-inside-is (
        c.self.invariant.0,
        c.self.invariant.1,
        omega (arith, c.self.invariant.2, c.max-self-inside.ensures),
        omega
            (arith, c.self.invariant.3, c.max-self-inside.ensures, c.numbers.ensures, ends, few),
        c.self.invariant.4,
      )
    ]

pub returns-clause-sent : goal.returns-clause-sent
returns-clause-sent c = grind (arith, common_steps)

pub returns-clause-feeds : goal.returns-clause-feeds
returns-clause-feeds c down feeds owed =
    subst (λ (x : Transmission). Feeds x down) (sym (returns-clause-sent c)) (sent_feeds c.args.self.now down c.args.p.now c.args.now c.requires.now feeds owed)
