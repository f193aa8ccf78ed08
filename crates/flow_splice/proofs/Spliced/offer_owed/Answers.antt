use Rattle.std.proofs.Common.{List, ◌++◌, ap, subst, ◌∙◌}
use Rattle.world_face.specs.Frames.{encoding}
use Rattle.world_face.specs.Journal.{Entry}
use Rattle.world_face.specs.Tells.{Makes}
use Rattle.stream_netdev.specs.Keeps.{Keeps, Writes}
use Rattle.tcp_connection.specs.Connection.{HasBuffers}
use Rattle.tcp_connection.specs.Owing.{owed_of}
use Rattle.tcp_connection.specs.declared.Owed.{Owed}
use Rattle.tcp_connection.specs.declared.Head.{Head}
use Rattle.sim_connection.specs.Sending.{segment_out, with_head}
use Rattle.flow_splice.specs.Frames.{IsSized, segment_frame}
use Rattle.flow_splice.specs.Splice.{Splice}
use Rattle.flow_splice.proofs.Sending.{fits_of, held_of}
use Rattle.flow_splice.proofs.Spliced.offer_owed.Goals as goal

pub offer_frame-requires-clause-held : goal.offer_frame-requires-clause-held
offer_frame-requires-clause-held g c =
    let i = c.self.inside in
    held_of c.args.what.now i.conn i.up i.down c.self.invariant.0.buffers (ap (λ (f : Splice). owed_of f.conn f.up f.down) c.self.view_is ∙ c.requires.owed)

pub offer_frame-requires-clause-mru : goal.offer_frame-requires-clause-mru
offer_frame-requires-clause-mru g c = c.self.invariant.0.segments

pub offer_frame-requires-clause-fits : goal.offer_frame-requires-clause-fits
offer_frame-requires-clause-fits g c =
    let i = c.self.inside in
    let held = held_of c.args.what.now i.conn i.up i.down c.self.invariant.0.buffers (ap (λ (f : Splice). owed_of f.conn f.up f.down) c.self.view_is ∙ c.requires.owed) in
    rw (c.head-head.ensures) (fits_of c.args.what.now i.conn i.up i.down i.mru held)

pub returns-clause-makes : goal.returns-clause-makes
returns-clause-makes g c =
    let i = c.self.inside in
    let what : Owed = c.args.what.now in
    subst (λ (f : Splice). Makes (g.W.World.tells c.args.world.now) (g.W.World.tells c.offer_frame.new.world) (λ made.
    Writes c.offer_frame.result (encoding (segment_frame f.face c.args.mac c.args.ident (segment_out f.mru f.conn f.up f.down what))) made ×
    ((past : List Entry) → Keeps c.args.link.now past → Keeps c.offer_frame.new.link (made ++ past))))
    c.self.view_is
    (subst (λ (h : Head). Makes (g.W.World.tells c.args.world.now) (g.W.World.tells c.offer_frame.new.world) (λ made.
    Writes c.offer_frame.result (encoding (segment_frame (record { guest = i.guest; other = i.other; number = i.number; vhost = i.vhost }) c.args.mac c.args.ident
    (with_head h i.mru i.down what))) made
    × ((past : List Entry) → Keeps c.args.link.now past → Keeps c.offer_frame.new.link (made ++ past))))
    c.head-head.ensures (c.offer_frame.ensures.makes i.number))

pub returns-clause-buffers : goal.returns-clause-buffers
returns-clause-buffers g c = subst (λ (f : Splice). HasBuffers f.conn f.up f.down) c.self.view_is c.self.invariant.0.buffers

pub returns-clause-sized : goal.returns-clause-sized
returns-clause-sized g c =
    let i = c.self.inside in
    let what : Owed = c.args.what.now in
    subst (λ (f : Splice). IsSized f.face c.args.mac c.args.ident (segment_out f.mru f.conn f.up f.down what)) c.self.view_is
    (subst (λ (h : Head). IsSized (record { guest = i.guest; other = i.other; number = i.number; vhost = i.vhost }) c.args.mac c.args.ident (with_head h i.mru i.down what))
    c.head-head.ensures (c.offer_frame.ensures.sized i.number))
