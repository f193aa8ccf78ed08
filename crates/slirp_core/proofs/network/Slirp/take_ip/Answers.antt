use Rattle.std.proofs.Common.{◌≡◌, ℕ, not, Bool, true, false, Some, None, refl, sym, ◌∙◌, ap, subst}
use Rattle.world_face.proofs.Telling.{brings_none}
use Rattle.ipv4_head.specs.Ip.{Ip, ip_of, is_unbroken}
use Rattle.ipv4_head.specs.Sets.{part_of}
use Rattle.spec_trace.specs.Fragments.{part_by}
use Rattle.slirp_core.specs.Came.{DatagramCame}
use Rattle.slirp_core.specs.Datagrams.{Lies}
use Rattle.slirp_core.specs.Fragments.{Gathers, IsHeld}
use Rattle.slirp_core.specs.Holds.{Holds, flowing}
use Rattle.slirp_core.specs.State.{SlirpState}
use Rattle.slirp_core.proofs.Arriving.{joined_comes, learnt, none_comes, part_waits, whole_comes}
use Rattle.slirp_core.proofs.Datagramming.{front_lies}
use Rattle.slirp_core.proofs.Telling.{from_more}
use Rattle.slirp_core.proofs.network.Slirp.take_ip.Goals as goal

not_true : (b : Bool) → not b ≡ true → b ≡ false
not_true true is = cc
not_true false is = refl

not_false : (b : Bool) → not b ≡ false → b ≡ true
not_false true is = refl
not_false false is = cc

pub returns-in_default-clause-makes : goal.returns-in_default-clause-makes
returns-in_default-clause-makes g c config at link =
    brings_none (λ past came. none_comes config at link past c.args.self.now c.args.mac.0 c.args.body.now came c.in_default.ensures.fields c.requires.none)

-- a whole one
pub returns-else-is_part-clause-makes : goal.returns-else-is_part-clause-makes
returns-else-is_part-clause-makes g c config at link =
    let old = c.args.self.now in
    let ip = ip_of c.in-Ok.packet in
    let whole : is_unbroken ip ≡ true = not_false (is_unbroken ip) (sym c.is_part.ensures ∙ c.if-is_part.false) in
    from_more _ _ _ _ _ (λ past came.
    subst (λ (s : SlirpState). DatagramCame config at s link c.args.mac.0 ip past) (sym c.learn.ensures)
    (whole_comes config at link past old c.args.mac.0 c.args.body.now came ip c.in-Ok.ensures.fields whole))
    (c.take_datagram-else-is_part.ensures.makes config at link)

-- a part, by which one is whole
pub take_datagram-requires-clause-lies : goal.take_datagram-requires-clause-lies
take_datagram-requires-clause-lies g c =
    let a = c.in-Some.assembled in
    let octets = c.gather.new.room in
    subst (λ (ip : Ip). Lies octets ip.head ip.body) (sym c.datagram_at-datagram.ensures.datagram) (front_lies octets a.head a.body c.in-Some.ensures.fits.0 c.in-Some.ensures.fits.1)

pub returns-in-Some-clause-makes : goal.returns-in-Some-clause-makes
returns-in-Some-clause-makes g c config at link =
    let old = c.args.self.now in
    let mac = c.args.mac.0 in
    let packet = c.in-Ok.packet in
    let ip = ip_of packet in
    let room = c.gather.new.room in
    let parts = c.gather.new.self.fragments in
    let a = c.in-Some.assembled in
    let broken : is_unbroken ip ≡ false = not_true (is_unbroken ip) (sym c.is_part.ensures ∙ c.if-is_part.true) in
    let p_is : part_of packet ≡ part_by c.args.body.now ip = ap (λ (n : ℕ). record (part_of packet) { life = n }) c.in-Ok.ensures.life in
    from_more _ _ _ _ _ (λ past came.
    let then_is : c.gather.new.self ≡ learnt config at link past old mac c.args.body.now came ip c.in-Ok.ensures.fields parts =
    c.in-Some.ensures.same ∙ ap (λ (s : SlirpState). record s { fragments = parts }) c.learn.ensures in
    subst (λ (s : SlirpState). DatagramCame config at s link mac (ip_of c.datagram_at-datagram.result) past) (sym then_is)
    (subst (λ (v : Ip). DatagramCame config at (learnt config at link past old mac c.args.body.now came ip c.in-Ok.ensures.fields parts) link mac v past) (sym c.datagram_at-datagram.ensures.datagram)
    (joined_comes config at link past old mac c.args.body.now came ip c.in-Ok.ensures.fields room parts (part_of packet) a broken p_is
    (λ held h. subst (λ (s : SlirpState). Gathers s held ip (part_of packet) parts (Some a) room) c.learn.ensures
    (c.in-Some.ensures.gathers held (subst (λ (s : SlirpState). IsHeld s.fragments held) (sym c.learn.ensures) h))))))
    (c.take_datagram.ensures.makes config at link)

-- a part, by which none is
pub returns-in_default-gather-clause-makes : goal.returns-in_default-gather-clause-makes
returns-in_default-gather-clause-makes g c config at link =
    let old = c.args.self.now in
    let mac = c.args.mac.0 in
    let packet = c.in-Ok.packet in
    let ip = ip_of packet in
    let room = c.gather.new.room in
    let parts = c.gather.new.self.fragments in
    let broken : is_unbroken ip ≡ false = not_true (is_unbroken ip) (sym c.is_part.ensures ∙ c.if-is_part.true) in
    let p_is : part_of packet ≡ part_by c.args.body.now ip = ap (λ (n : ℕ). record (part_of packet) { life = n }) c.in-Ok.ensures.life in
    brings_none (λ past came.
    let then_is : c.gather.new.self ≡ learnt config at link past old mac c.args.body.now came ip c.in-Ok.ensures.fields parts =
    c.in_default-gather.ensures.same ∙ ap (λ (s : SlirpState). record s { fragments = parts }) c.learn.ensures in
    subst (λ (s : SlirpState). Holds config at s (flowing false s.flows) link past) (sym then_is)
    (part_waits config at link past old mac c.args.body.now came ip c.in-Ok.ensures.fields room parts (part_of packet) broken p_is c.requires.none
    (λ held h. subst (λ (s : SlirpState). Gathers s held ip (part_of packet) parts None room) c.learn.ensures
    (c.in_default-gather.ensures.gathers held (subst (λ (s : SlirpState). IsHeld s.fragments held) (sym c.learn.ensures) h)))))
