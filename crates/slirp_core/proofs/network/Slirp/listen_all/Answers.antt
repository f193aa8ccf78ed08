use Rattle.std.proofs.Common.{◌≡◌, ◌+◌, Bool, length, ◌∙◌, ap, subst, slice_get, slice_index_or, Some, arith}
use Rattle.world_face.specs.Tells.{Brings, Makes}
use Rattle.world_face.proofs.Telling.{brings_none, brings_then}
use Rattle.world_face.proofs.Counting.{rose_after}
use Rattle.slirp_core.proofs.Telling.{brings_allowed}
use Rattle.slirp_settings.specs.Addresses.{Config}
use Rattle.slirp_settings.specs.declared.Forward.{Forward}
use Rattle.slirp_settings.specs.declared.Proto.TheVariants.{Tcp}
use Rattle.slirp_core.specs.Forwards.{Listens}
use Rattle.slirp_core.specs.Holds.{Opens}
use Rattle.slirp_core.specs.State.{SlirpState}
use Rattle.slirp_core.proofs.Counted.{grown}
use Rattle.slirp_core.proofs.Listening.{few_forwards, listen_refused, listened, may_open_next, one_more_open}
use Rattle.slirp_core.proofs.network.Slirp.listen_all.Goals as goal

abbrev default_forward : Forward
default_forward = record { proto = Tcp; host = record { addr = record { 0 = 0 }; port = 0 }; guest = record { addr = record { 0 = 0 }; port = 0 } }

pub loop-place-init : goal.loop-place-init
loop-place-init g c = record {
  makes = λ config link is. brings_none (λ past opens. opens);
  counts = (omega arith, omega arith, omega arith);
  forwards = c.requires.none;
  others = ap (λ n. record c.args.self.now { number = n }) c.requires.number;
}

pub listen_next-requires-clause-few : goal.listen_next-requires-clause-few
listen_next-requires-clause-few g c =
    let may = may_open_next c.args.forwards.now c.args.self.now c.loop-place.self c.loop-place.place default_forward c.requires.forwards c.requires.sound c.loop-place-test.true
    c.loop-place.invariant.forwards c.loop-place.invariant.others in
    let few = may.few in
    let number = ap (λ (s : SlirpState). s.number) c.loop-place.invariant.others in
    omega (arith, few, number)

pub listen_next-requires-clause-host_port : goal.listen_next-requires-clause-host_port
listen_next-requires-clause-host_port g c = (may_open_next c.args.forwards.now c.args.self.now c.loop-place.self c.loop-place.place default_forward c.requires.forwards
    c.requires.sound c.loop-place-test.true c.loop-place.invariant.forwards c.loop-place.invariant.others).host_port

pub listen_next-requires-clause-guest_port : goal.listen_next-requires-clause-guest_port
listen_next-requires-clause-guest_port g c = (may_open_next c.args.forwards.now c.args.self.now c.loop-place.self c.loop-place.place default_forward c.requires.forwards
    c.requires.sound c.loop-place-test.true c.loop-place.invariant.forwards c.loop-place.invariant.others).guest_port

pub listen_next-requires-clause-unasked : goal.listen_next-requires-clause-unasked
listen_next-requires-clause-unasked g c = (may_open_next c.args.forwards.now c.args.self.now c.loop-place.self c.loop-place.place default_forward c.requires.forwards
    c.requires.sound c.loop-place-test.true c.loop-place.invariant.forwards c.loop-place.invariant.others).unasked

pub returns-then-not-listen_next-clause-makes : goal.returns-then-not-listen_next-clause-makes
returns-then-not-listen_next-clause-makes g c config link is =
    let old = c.loop-place.self in
    let new = c.listen_next.new.self in
    let place = c.loop-place.place in
    let f = slice_index_or c.args.forwards.now place default_forward in
    let at = subst (λ (c2 : Config). slice_get c2.forwards place ≡ Some f) (ap (λ (s : SlirpState). s.config) c.loop-place.invariant.others ∙ is)
    (may_open_next c.args.forwards.now c.args.self.now c.loop-place.self c.loop-place.place default_forward c.requires.forwards c.requires.sound c.loop-place-test.true
    c.loop-place.invariant.forwards c.loop-place.invariant.others).at in
    brings_then (c.loop-place.invariant.makes config link is)
    (brings_allowed (subst (λ (b : Bool). Makes (g.W.World.tells c.loop-place.world) (g.W.World.tells c.listen_next.new.world) (Listens b f old.number old.forwards new.forwards))
    c.if-not-listen_next.true c.listen_next.ensures.adds)
    (λ made listens allowed past opens. listen_refused config place f old new link made past at listens c.listen_next.ensures.others allowed opens))

pub returns-then-not-listen_next-clause-counted : goal.returns-then-not-listen_next-clause-counted
returns-then-not-listen_next-clause-counted g c =
    let before = c.loop-place.invariant.counts in
    rose_after (g.W.World.tells c.args.world.now).faults.socket _ _ before.2 (c.listen_next.ensures.counted c.if-not-listen_next.true)

pub returns-then-not-listen_next-clause-number : goal.returns-then-not-listen_next-clause-number
returns-then-not-listen_next-clause-number g c =
    let few = (may_open_next c.args.forwards.now c.args.self.now c.loop-place.self c.loop-place.place default_forward c.requires.forwards c.requires.sound c.loop-place-test.true
    c.loop-place.invariant.forwards c.loop-place.invariant.others).few in
    let old = ap (λ (s : SlirpState). s.number) c.loop-place.invariant.others in
    let new = ap (λ (s : SlirpState). s.number) c.listen_next.ensures.others in
    omega (arith, few, old, new)

pub loop-place-preserved : goal.loop-place-preserved
loop-place-preserved g c =
    let old = c.loop-place.self in
    let new = c.listen_next.new.self in
    let place = c.loop-place.place in
    let f = slice_index_or c.args.forwards.now place default_forward in
    let own = subst (λ (c2 : Config). slice_get c2.forwards place ≡ Some f) (ap (λ (s : SlirpState). s.config) c.loop-place.invariant.others)
    (may_open_next c.args.forwards.now c.args.self.now c.loop-place.self c.loop-place.place default_forward c.requires.forwards c.requires.sound c.loop-place-test.true
    c.loop-place.invariant.forwards c.loop-place.invariant.others).at in
    let adds = subst (λ (b : Bool). Makes (g.W.World.tells c.loop-place.world) (g.W.World.tells c.listen_next.new.world) (Listens b f old.number old.forwards new.forwards))
    c.if-not-listen_next.false c.listen_next.ensures.adds in
    let before = c.loop-place.invariant.counts in
    let then_is = grown _ _ _ adds.counted in
    record {
      makes = λ config link is. brings_then (c.loop-place.invariant.makes config link is)
          (brings_allowed adds (λ made listens allowed past opens. listened config place f old new link made past
          (subst (λ (c2 : Config). slice_get c2.forwards place ≡ Some f) is own) listens c.listen_next.ensures.others allowed opens));
      counts = (omega (arith, before.0, then_is.0), omega (arith, before.1, then_is.1), omega (arith, before.2, then_is.2));
      forwards = one_more_open c.args.self.now.config place f old.forwards new.forwards old.number own c.loop-place.invariant.forwards
          (ap (λ (s : SlirpState). s.number) c.loop-place.invariant.others) adds.holds.0;
      others = c.listen_next.ensures.others ∙ ap (λ (s : SlirpState). record s { number = s.number + 1; forwards = new.forwards }) c.loop-place.invariant.others;
    }

pub returns-clause-makes : goal.returns-clause-makes
returns-clause-makes g c config link is =
    let most = c.loop-place.auto.place-end in
    let least = c.loop-place-test.false in
    let all : c.loop-place.place ≡ length c.args.forwards.now = omega (arith, most, least) in
    subst (λ n. Brings (g.W.World.tells c.args.world.now) (g.W.World.tells c.loop-place.world) (Opens config 0 c.args.self.now link) (Opens config n c.loop-place.self link))
    (all ∙ ap length (c.requires.forwards ∙ ap (λ (s : Config). s.forwards) is))
    (c.loop-place.invariant.makes config link is)

pub returns-clause-number : goal.returns-clause-number
returns-clause-number g c =
    let most = c.loop-place.auto.place-end in
    let few = few_forwards c.args.self.now.config c.requires.sound in
    let many = ap length c.requires.forwards in
    let number = ap (λ (s : SlirpState). s.number) c.loop-place.invariant.others in
    omega (arith, most, few, many, number)
