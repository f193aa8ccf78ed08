use Rattle.std.proofs.Common.{◌≡◌, ◌∷◌, [], ℕ, true, false, refl, ap, subst, sym}
use Rattle.world_face.specs.Journal.{Close, TcpEnd}
use Rattle.world_face.specs.Tells.{Answers}
use Rattle.world_face.specs.declared.Made.TheVariants.{Done, Failed}
use Rattle.tcp_connection.specs.Connection.{HasBuffers}
use Rattle.tcp_connection.specs.Hosts.{write_ended}
use Rattle.tcp_connection.specs.Segments.{settled}
use Rattle.flow_splice.specs.Hosts.{Sees, ends, serves_write}
use Rattle.flow_splice.specs.Serves.{GoesOn}
use Rattle.flow_splice.specs.Splice.{Splice}
use Rattle.flow_splice.specs.Wants.{reads}
use Rattle.flow_splice.proofs.Calls.{calls_after, or_last, still_is, two_calls}
use Rattle.flow_splice.proofs.Hosting.{host_end_fails, host_ends, told_reads}
use Rattle.flow_splice.proofs.Shaping.{sees_ending}
use Rattle.flow_splice.proofs.Spliced.end.Goals as goal

pub returns-in-Failed-clause-makes : goal.returns-in-Failed-clause-makes
returns-in-Failed-clause-makes g c =
    let f : Splice = c.args.self.now in
    let now : ℕ = c.args.now in
    let told = subst (λ (x : Splice). Answers (g.W.World.tells c.args.world.now) (g.W.World.tells c.tcp_end.new.self) (TcpEnd x.face.number Failed)) c.self.view_is c.in-Failed.ensures in
    two_calls _ _ _ (TcpEnd f.face.number Failed) (Close f.face.number) _ told c.fail.ensures.closes
    (λ one two. (
      subst (λ (x : Splice). GoesOn f x false now (Close f.face.number ∷ TcpEnd f.face.number Failed ∷ [])) (sym c.fail.ensures.change)
          (host_end_fails f now c.requires.open_yet c.requires.all c.requires.ends c.requires.connected),
      refl,
      refl,
      λ reading. or_last (reads c.fail.new.self) true refl,
    ))

pub returns-in-Done-clause-makes : goal.returns-in-Done-clause-makes
returns-in-Done-clause-makes g c =
    let f : Splice = c.args.self.now in
    let now : ℕ = c.args.now in
    let marked = c.mark_ended-change in
    let ended : Splice = record f { conn = settled (write_ended f.conn); told_end = true; last = now } in
    let is : marked.new.self ≡ ended = marked.ensures.ended in
    let told = subst (λ (x : Splice). Answers (g.W.World.tells c.args.world.now) (g.W.World.tells c.tcp_end.new.self) (TcpEnd x.face.number Done)) c.self.view_is c.in-Done.ensures in
    calls_after _ _ _ (TcpEnd f.face.number Done) (Sees (ends marked.result) marked.new.self c.see.new.self now) _ told c.see.ensures
    (λ made sees. (
      host_ends f now c.requires.open_yet c.requires.all c.requires.ends c.requires.connected (subst (λ (x : Splice). HasBuffers x.conn x.up x.down) is marked.ensures.buffers)
          (ends marked.result) (sym (ap ends marked.ensures.change)) c.see.new.self made (subst (λ (x : Splice). Sees (ends marked.result) x c.see.new.self now made) is sees),
      sees_ending (ends marked.result) marked.new.self c.see.new.self now made f.face.number Done sees,
      still_is (serves_write false) made (TcpEnd f.face.number Done ∷ []) refl,
      told_reads (ends marked.result) f marked.new.self c.see.new.self now made f.face.number Done marked.ensures.ended (ap ends marked.ensures.change) sees,
    ))
