use Rattle.std.proofs.Common.{◌∷◌, ap, subst, sym}
use Rattle.poll_list.specs.Listing.{same_who}
use Rattle.poll_list.specs.declared.Who.TheVariants.{Link as TheLink}
use Rattle.world_face.specs.Tells.{Brings}
use Rattle.serve_loop.specs.Turns.{AfterItem, ServesNow}
use Rattle.serve_loop.proofs.Turning.{still_by_socket}
use Rattle.serve_loop.proofs.service.Service.attend.Goals as goal

pub returns-in-Link-clause-makes : goal.returns-in-Link-clause-makes
returns-in-Link-clause-makes g c config count items wanted = c.attend_link.ensures.makes config count items wanted

pub returns-in-Udp-clause-makes : goal.returns-in-Udp-clause-makes
returns-in-Udp-clause-makes g c config count items wanted =
    subst (λ to_read. Brings (g.W.World.tells c.args.world.now) (g.W.World.tells c.attend_port.new.world)
    (ServesNow config count c.args.self.now.wants (c.args.item.now ∷ items) c.args.to_read c.args.self.now.slirp c.args.self.now.link)
    (AfterItem c.attend_port.result config count c.args.self.now.wants items to_read c.attend_port.new.self.slirp c.attend_port.new.self.link))
    (sym (still_by_socket c.args.to_read c.args.item.now (ap (same_who TheLink) c.in-Udp.is)))
    (c.attend_port.ensures.makes config count items c.args.to_read)

pub returns-in-Tcp-clause-makes : goal.returns-in-Tcp-clause-makes
returns-in-Tcp-clause-makes g c config count items wanted =
    subst (λ to_read. Brings (g.W.World.tells c.args.world.now) (g.W.World.tells c.attend_flow.new.world)
    (ServesNow config count c.args.self.now.wants (c.args.item.now ∷ items) c.args.to_read c.args.self.now.slirp c.args.self.now.link)
    (AfterItem c.attend_flow.result config count c.args.self.now.wants items to_read c.attend_flow.new.self.slirp c.attend_flow.new.self.link))
    (sym (still_by_socket c.args.to_read c.args.item.now (ap (same_who TheLink) c.in-Tcp.is)))
    (c.attend_flow.ensures.makes config count items c.args.to_read)

pub returns-in-Listener-clause-makes : goal.returns-in-Listener-clause-makes
returns-in-Listener-clause-makes g c config count items wanted =
    subst (λ to_read. Brings (g.W.World.tells c.args.world.now) (g.W.World.tells c.attend_listener.new.world)
    (ServesNow config count c.args.self.now.wants (c.args.item.now ∷ items) c.args.to_read c.args.self.now.slirp c.args.self.now.link)
    (AfterItem c.attend_listener.result config count c.args.self.now.wants items to_read c.attend_listener.new.self.slirp c.attend_listener.new.self.link))
    (sym (still_by_socket c.args.to_read c.args.item.now (ap (same_who TheLink) c.in-Listener.is)))
    (c.attend_listener.ensures.makes config count items c.args.to_read)

pub returns-in-Link-clause-calm : goal.returns-in-Link-clause-calm
returns-in-Link-clause-calm g c items before again = c.attend_link.ensures.calm items before again

pub returns-in-Udp-clause-calm : goal.returns-in-Udp-clause-calm
returns-in-Udp-clause-calm g c items before again = c.attend_port.ensures.calm items before again

pub returns-in-Tcp-clause-calm : goal.returns-in-Tcp-clause-calm
returns-in-Tcp-clause-calm g c items before again = c.attend_flow.ensures.calm items before again

pub returns-in-Listener-clause-calm : goal.returns-in-Listener-clause-calm
returns-in-Listener-clause-calm g c items before again = c.attend_listener.ensures.calm items before again
