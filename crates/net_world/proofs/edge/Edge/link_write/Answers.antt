use Rattle.std.proofs.Common.{◌≡◌, ◌⊎◌, [], inl, inr, refl, ap}
use Rattle.world_face.specs.declared.Io.{Io}
use Rattle.world_face.specs.declared.Io.TheVariants.{Done, End, NotYet, Failed}
use Rattle.world_face.specs.Journal.{filled}
use Rattle.guest_link.specs.declared.link.Outlet.{Outlet}
use Rattle.guest_link.specs.Linking.{is_open}
use Rattle.guest_link.specs.Passing.{passing_untold}
use Rattle.guest_link.proofs.Passing.{passes_after}
use Rattle.net_world.proofs.edge.Edge.link_write.Goals as goal

pub returns-clause-passes : goal.returns-clause-passes
returns-clause-passes g c =
    passes_after (filled c.write.result c.args.from.now) [] (passing_untold c.args.self.now.link) (passing_untold c.take_peer.new.self) (passing_untold c.write.new.self)
    c.take_peer.ensures.passes c.write.ensures.passes (goes c.write.result refl)
  where
    goes : (r : Io) → c.write.result ≡ r → (is_open c.take_peer.new.self.outlet ≡ is_open c.args.self.now.link.outlet) ⊎ (filled r c.args.from.now ≡ [])
    goes (Done count) is = inl (ap (λ (o : Outlet). is_open o) (c.take_peer.ensures.outlet (c.write.ensures.guest count is)))
    goes End is = inr refl
    goes NotYet is = inr refl
    goes Failed is = inr refl
