use Rattle.std.proofs.Common.{[], ◌∷◌, false, subst, sym, refl}
use Rattle.world_face.specs.Journal.{Close, Connected}
use Rattle.world_face.specs.Tells.{Answers}
use Rattle.world_face.specs.declared.Joined.TheVariants.{Yes, NotYet, Failed}
use Rattle.world_face.proofs.Telling.{makes_one}
use Rattle.tcp_connection.specs.Connection.{HasBuffers}
use Rattle.flow_splice.specs.Serves.{GoesOn}
use Rattle.flow_splice.specs.Splice.{Splice}
use Rattle.flow_splice.proofs.Calls.{two_calls}
use Rattle.flow_splice.proofs.Hosting.{host_connected, host_not_yet, host_refused}
use Rattle.flow_splice.proofs.Spliced.connect.Goals as goal

pub returns-in-Yes-clause-makes : goal.returns-in-Yes-clause-makes
returns-in-Yes-clause-makes g c =
    let f = c.args.self.now in
    let change = c.join.ensures.change in
    let told = subst (λ (x : Splice). Answers (g.W.World.tells c.args.world.now) (g.W.World.tells c.connected.new.self) (Connected x.face.number Yes)) c.self.view_is c.in-Yes.ensures in
    makes_one _ _ (Connected f.face.number Yes) _ told
    (λ allowed. (
      subst (λ (x : Splice). GoesOn f x false c.args.now (Connected f.face.number Yes ∷ [])) (sym change)
          (host_connected f c.args.now c.requires.open_yet c.requires.connects (subst (λ (x : Splice). HasBuffers x.conn x.up x.down) change c.join.ensures.buffers)),
      refl,
      refl,
    ))

pub returns-in-NotYet-clause-makes : goal.returns-in-NotYet-clause-makes
returns-in-NotYet-clause-makes g c =
    let f = c.args.self.now in
    let told = subst (λ (x : Splice). Answers (g.W.World.tells c.args.world.now) (g.W.World.tells c.connected.new.self) (Connected x.face.number NotYet)) c.self.view_is c.in-NotYet.ensures in
    makes_one _ _ (Connected f.face.number NotYet) _ told (λ allowed. (host_not_yet f c.args.now c.requires.open_yet c.requires.connects, refl, refl))

pub returns-in-Failed-clause-makes : goal.returns-in-Failed-clause-makes
returns-in-Failed-clause-makes g c =
    let f = c.args.self.now in
    let told = subst (λ (x : Splice). Answers (g.W.World.tells c.args.world.now) (g.W.World.tells c.connected.new.self) (Connected x.face.number Failed)) c.self.view_is c.in-Failed.ensures in
    two_calls _ _ _ (Connected f.face.number Failed) (Close f.face.number) _ told c.fail.ensures.closes
    (λ one two. (
      subst (λ (x : Splice). GoesOn f x false c.args.now (Close f.face.number ∷ Connected f.face.number Failed ∷ [])) (sym c.fail.ensures.change)
          (host_refused f c.args.now c.requires.open_yet c.requires.connects),
      refl,
      refl,
    ))
