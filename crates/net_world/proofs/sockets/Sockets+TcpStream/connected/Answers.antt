use Rattle.std.proofs.Common.{◌∙◌, sym}
use Rattle.net_world.proofs.Changing.{changed_still, starved_still}
use Rattle.net_world.proofs.sockets.Sockets+TcpStream.connected.Goals as goal

pub invariant_of-self-2 : goal.invariant_of-self-2
invariant_of-self-2 c =
    let s = c.self.inside in
    let was = c.in-Some-get_mut.slot.now in
    let is = c.joined.new.slot in
    let here = sym c.in-Some-get_mut.ensures.value in
    let whole = changed_still s.slots.slots s.slots.capacity s.readable.items s.places.items c.in-Some.key was is c.self.invariant.0 c.self.invariant.1 here c.joined.ensures.of c.joined.ensures.stays in (
      whole.0,
      whole.1,
      starved_still s.slots.slots c.in-Some.key was is s.starved s.starved c.self.invariant.2 here
          (λ starved. c.self.invariant.2 c.in-Some.key was here (sym c.joined.ensures.starved ∙ starved)) (λ starved. starved),
      c.self.invariant.3,
      c.self.invariant.4,
      c.self.invariant.5,
    )
