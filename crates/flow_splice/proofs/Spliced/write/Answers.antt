use Rattle.std.proofs.Common.{◌≡◌, ◌∷◌, [], ℕ, length, take, min, false, refl, arith, ap, subst, sym, ◌∙◌, inl, inr, ◌⊎◌, true}
use Rattle.world_face.specs.Journal.{Close, Entry, TcpWrite, count_of}
use Rattle.world_face.specs.Tells.{Answers}
use Rattle.world_face.specs.declared.Io.{Io}
use Rattle.world_face.specs.declared.Io.TheVariants.{Done, End, NotYet, Failed}
use Rattle.tcp_connection.specs.Connection.{HasBuffers}
use Rattle.tcp_connection.specs.Hosts.{reset}
use Rattle.sim_connection.specs.Holding.{without}
use Rattle.sock_buffers.specs.Upward.{Upward}
use Rattle.flow_splice.specs.Serves.{GoesOn}
use Rattle.flow_splice.specs.Splice.{Splice, closed}
use Rattle.flow_splice.proofs.Calls.{calls_after, or_already, or_last, still_is, two_calls}
use Rattle.flow_splice.proofs.Events.{goes_then}
use Rattle.flow_splice.proofs.Hosting.{host_takes, host_takes_none, taken_by}
use Rattle.flow_splice.proofs.Shaping.{gives_ending}
use Rattle.flow_splice.specs.Hosts.{reads_or_shuts, serves_write}
use Rattle.flow_splice.specs.Wants.{reads}
use Rattle.flow_splice.proofs.Spliced.write.Goals as goal

none_taken : (up : Upward) → without up 0 ≡ up
none_taken up = ap (λ (n : ℕ). record up { written = n }) (omega arith)

pub returns-in-Failed-clause-makes : goal.returns-in-Failed-clause-makes
returns-in-Failed-clause-makes g c =
    let f : Splice = c.args.self.now in
    let now : ℕ = c.args.now in
    let front = take (min 16384 (length f.up.held)) f.up.held in
    let same : c.offer.new.self ≡ f = c.offer.ensures.change ∙ ap (λ (n : ℕ). taken_by f n now) (ap count_of c.in-Failed.is) ∙ ap
    (λ (up : Upward). record f { up = up }) (none_taken f.up) in
    let shut : c.fail.new.self ≡ closed (record f { conn = reset f.conn }) now = c.fail.ensures.change ∙ ap (λ (x : Splice). closed (record x { conn = reset x.conn }) now) same in
    let offers = subst (λ (answer : Io). Answers (g.W.World.tells c.args.world.now) (g.W.World.tells c.offer.new.world) (TcpWrite f.face.number front answer)) c.in-Failed.is c.offer.ensures.offers in
    let closes = subst (λ (x : Splice). Answers (g.W.World.tells c.offer.new.world) (g.W.World.tells c.fail.new.world) (Close x.face.number)) same c.fail.ensures.closes in
    two_calls _ _ _ (TcpWrite f.face.number front Failed) (Close f.face.number) _ offers closes
    (λ one two. (
      subst (λ (x : Splice). GoesOn f x false now (Close f.face.number ∷ TcpWrite f.face.number front Failed ∷ [])) (sym shut)
          (host_takes_none f now c.requires.open_yet c.requires.owes c.requires.connected),
      refl,
      refl,
      λ reading. or_last (reads c.fail.new.self) true refl,
    ))

not_failed : (answer : Io) → ((n : ℕ) × (answer ≡ Done n)) ⊎ ((answer ≡ End) ⊎ (answer ≡ NotYet)) → answer ≡ Failed → ⊥
not_failed answer (inl is) failed = let not_it = sym is.1 ∙ failed in cc
not_failed answer (inr (inl is)) failed = let not_it = sym is ∙ failed in cc
not_failed answer (inr (inr is)) failed = let not_it = sym is ∙ failed in cc

pub returns-in-Done-clause-makes : goal.returns-in-Done-clause-makes
returns-in-Done-clause-makes g c =
    let f : Splice = c.args.self.now in
    let now : ℕ = c.args.now in
    let mid : Splice = c.offer.new.self in
    let new : Splice = c.end_after_octets.new.self in
    let answer = c.offer.result in
    let change = c.offer.ensures.change in
    let offered : Entry = TcpWrite f.face.number (take (min 16384 (length f.up.held)) f.up.held) answer in
    let first : GoesOn f mid false now (offered ∷ []) = subst (λ (x : Splice). GoesOn f x false now (offered ∷ [])) (sym change)
    (host_takes f now c.requires.open_yet c.requires.owes c.requires.connected answer c.offer.ensures.few
    (subst (λ (x : Splice). HasBuffers x.conn x.up x.down) change c.offer.ensures.buffers) (not_failed answer c.in-Done.is)) in
    calls_after _ _ _ offered _ _ c.offer.ensures.offers c.end_after_octets.ensures.makes
    (λ made more. (
      goes_then f mid new false now (offered ∷ []) made c.end_after_octets.ensures.stays.same.face c.end_after_octets.ensures.stays.same.mac first more.0,
      gives_ending made f.face.number (take (min 16384 (length f.up.held)) f.up.held) answer more.1,
      still_is (serves_write false) made (offered ∷ []) refl,
      λ reading. or_already (reads new) reads_or_shuts made (offered ∷ []) (more.2 (ap reads change ∙ reading)),
    ))
