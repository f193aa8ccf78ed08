use Rattle.std.proofs.Common.{◌≡◌, List, ◌++◌, ℕ, take, subst, arith}
use Rattle.world_face.specs.Frames.{encoding}
use Rattle.world_face.specs.Journal.{Entry}
use Rattle.world_face.specs.Tells.{Makes}
use Rattle.net_octets.specs.declared.Endpoint.{Endpoint}
use Rattle.net_octets.specs.declared.Ip4.{Ip4}
use Rattle.stream_netdev.specs.Keeps.{Keeps, Writes}
use Rattle.stream_netdev.proofs.Writing.{encoded_is}
use Rattle.flow_splice.proofs.pump.offer_arp.Goals as goal

-- some endpoint, since the frame is the same with each
nowhere : Endpoint
nowhere = record { addr = record { 0 = 0 }; port = 0 }

pub offer-requires-clause-encoded : goal.offer-requires-clause-encoded
offer-requires-clause-encoded g c =
    let written = c.write_request-length in (
      _,
      encoded_is _ c.args.buffer.now written.new.into _ _ written.result c.encode-size.ensures.encoded (omega (arith, c.requires.room))
          (omega (arith, written.ensures.short, written.ensures.room, c.requires.room)) (written.ensures.frame nowhere nowhere 0),
    )

pub returns-clause-makes : goal.returns-clause-makes
returns-clause-makes g c other at number =
    let written = c.write_request-length in
    subst (λ (octets : List ℕ). Makes (g.W.World.tells c.args.world.now) (g.W.World.tells c.offer.new.world) (λ made. Writes c.offer.result octets made ×
    ((past : List Entry) → Keeps c.args.link.now past → Keeps c.offer.new.self (made ++ past))))
    (encoded_is _ c.args.buffer.now written.new.into _ _ written.result c.encode-size.ensures.encoded (omega (arith, c.requires.room))
    (omega (arith, written.ensures.short, written.ensures.room, c.requires.room)) (written.ensures.frame other at number))
    c.offer.ensures.makes
