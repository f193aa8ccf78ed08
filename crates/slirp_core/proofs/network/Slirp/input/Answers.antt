use Rattle.std.proofs.Common.{false, [], sym, subst}
use Rattle.ether_frame.specs.Ether.{ether_of}
use Rattle.world_face.proofs.Telling.{brings_none}
use Rattle.slirp_core.specs.Holds.{Holds, flowing, standing}
use Rattle.slirp_core.specs.State.{SlirpState}
use Rattle.slirp_core.proofs.Brought.{arp_came, octets_came, other_came, unread_came}
use Rattle.slirp_core.proofs.Counted.{grown}
use Rattle.slirp_core.proofs.Telling.{from_more}
use Rattle.slirp_core.proofs.network.Slirp.input.Goals as goal

pub returns-in_default-clause-makes : goal.returns-in_default-clause-makes
returns-in_default-clause-makes g c config count wants item items link reads_it =
    brings_none (λ past came. unread_came config count wants item items reads_it c.args.self.now link c.args.frame.now c.requires.none past came c.in_default.ensures.fields)

pub returns-then-ether-eq-ARP_KIND-clause-makes : goal.returns-then-ether-eq-ARP_KIND-clause-makes
returns-then-ether-eq-ARP_KIND-clause-makes g c config count wants item items link reads_it =
    brings_none (λ past came. subst (λ (s : SlirpState). Holds config (standing count wants items) s (flowing false s.flows) link past) (sym c.take_arp.ensures)
    (arp_came config count wants item items reads_it c.args.self.now link c.args.frame.now c.requires.none past came (ether_of c.in-Ok.ether) c.in-Ok.ensures.fields
    c.if-ether-eq-ARP_KIND.true))

pub returns-then-ether-eq-IPV4_KIND-clause-makes : goal.returns-then-ether-eq-IPV4_KIND-clause-makes
returns-then-ether-eq-IPV4_KIND-clause-makes g c config count wants item items link reads_it =
    from_more _ _ _ _ _ (λ past came. octets_came config count wants item items reads_it c.args.self.now link c.args.frame.now c.requires.none past came (ether_of c.in-Ok.ether)
    c.in-Ok.ensures.fields c.if-ether-eq-IPV4_KIND.true)
    (c.take_ip.ensures.makes config (standing count wants items) link)

pub returns-else-ether-eq-IPV4_KIND-clause-makes : goal.returns-else-ether-eq-IPV4_KIND-clause-makes
returns-else-ether-eq-IPV4_KIND-clause-makes g c config count wants item items link reads_it =
    brings_none (λ past came. other_came config count wants item items reads_it c.args.self.now link c.args.frame.now c.requires.none past came (ether_of c.in-Ok.ether)
    c.in-Ok.ensures.fields c.if-ether-eq-ARP_KIND.false c.if-ether-eq-IPV4_KIND.false)

pub returns-then-ether-eq-IPV4_KIND-clause-counts : goal.returns-then-ether-eq-IPV4_KIND-clause-counts
returns-then-ether-eq-IPV4_KIND-clause-counts g c = grown _ _ _ (c.take_ip.ensures.makes c.args.self.now.config (standing 0 [] [])
    (record { octets = []; whole = false; tail = []; blocked = false })).counted
