use Rattle.std.proofs.Common.{◌≡◌, ◌∷◌, [], ◌-◌, ℕ, List, Bool, true, false, length, min, refl, ap, subst, sym, ◌∙◌, inl, inr, ◌⊎◌}
use Rattle.world_face.specs.Journal.{Close, TcpRead}
use Rattle.world_face.specs.Tells.{Answers}
use Rattle.world_face.specs.declared.Io.{Io}
use Rattle.world_face.specs.declared.Io.TheVariants.{Done, End, NotYet, Failed}
use Rattle.world_face.proofs.Telling.{makes_one}
use Rattle.tcp_connection.specs.Connection.{HasBuffers}
use Rattle.tcp_connection.specs.Hosts.{host_ended, reset}
use Rattle.flow_splice.specs.Hosts.{given, gives_octets, read_by}
use Rattle.flow_splice.specs.Serves.{GoesOn}
use Rattle.flow_splice.specs.Splice.{Splice, closed}
use Rattle.flow_splice.proofs.Calls.{two_calls}
use Rattle.flow_splice.proofs.Hosting.{host_gives, host_gives_end, host_gives_none}
use Rattle.flow_splice.proofs.Spliced.read.Goals as goal

pub returns-in-End-clause-makes : goal.returns-in-End-clause-makes
returns-in-End-clause-makes g c =
    let f : Splice = c.args.self.now in
    let now : ℕ = c.args.now in
    let asked : ℕ = min 16384 (f.down.size - length f.down.octets) in
    let read = c.ask_octets.ensures.read in
    let octets : List ℕ = read.0 in
    let same : c.ask_octets.new.self ≡ f = read.3 ∙ ap (λ (answer : Io). read_by (gives_octets answer) f octets now) c.in-End.is in
    let change : c.end_reading.new.self ≡ record f { conn = host_ended f.conn now; last = now } = c.end_reading.ensures.change ∙ ap (λ (x : Splice). record x { conn = host_ended x.conn now; last = now }) same in
    let answers = subst (λ (answer : Io). Answers (g.W.World.tells c.args.world.now) (g.W.World.tells c.ask_octets.new.world) (TcpRead f.face.number asked answer octets)) c.in-End.is read.1 in
    makes_one _ _ (TcpRead f.face.number asked End octets) _ answers
    (λ allowed. (
      subst (λ (x : Splice). GoesOn f x false now (TcpRead f.face.number asked End octets ∷ [])) (sym change)
          (host_gives_end f now c.requires.open_yet c.requires.may octets c.ask_octets.ensures.size (subst (λ (x : Splice). HasBuffers x.conn x.up x.down) change c.end_reading.ensures.buffers)),
      refl,
      refl,
    ))

pub returns-in-Failed-clause-makes : goal.returns-in-Failed-clause-makes
returns-in-Failed-clause-makes g c =
    let f : Splice = c.args.self.now in
    let now : ℕ = c.args.now in
    let asked : ℕ = min 16384 (f.down.size - length f.down.octets) in
    let read = c.ask_octets.ensures.read in
    let octets : List ℕ = read.0 in
    let same : c.ask_octets.new.self ≡ f = read.3 ∙ ap (λ (answer : Io). read_by (gives_octets answer) f octets now) c.in-Failed.is in
    let shut : c.fail.new.self ≡ closed (record f { conn = reset f.conn }) now = c.fail.ensures.change ∙ ap (λ (x : Splice). closed (record x { conn = reset x.conn }) now) same in
    let answers = subst (λ (answer : Io). Answers (g.W.World.tells c.args.world.now) (g.W.World.tells c.ask_octets.new.world) (TcpRead f.face.number asked answer octets)) c.in-Failed.is read.1 in
    let closes = subst (λ (x : Splice). Answers (g.W.World.tells c.ask_octets.new.world) (g.W.World.tells c.fail.new.world) (Close x.face.number)) same c.fail.ensures.closes in
    two_calls _ _ _ (TcpRead f.face.number asked Failed octets) (Close f.face.number) _ answers closes
    (λ one two. (
      subst (λ (x : Splice). GoesOn f x false now (Close f.face.number ∷ TcpRead f.face.number asked Failed octets ∷ [])) (sym shut)
          (host_gives_none f now c.requires.open_yet c.requires.may octets c.ask_octets.ensures.size),
      refl,
      refl,
    ))

gives : (answer : Io) → ((n : ℕ) × (answer ≡ Done n)) ⊎ (answer ≡ NotYet) → gives_octets answer ≡ true
gives answer (inl is) = ap gives_octets is.1
gives answer (inr is) = ap gives_octets is

pub returns-in-Done-clause-makes : goal.returns-in-Done-clause-makes
returns-in-Done-clause-makes g c =
    let f : Splice = c.args.self.now in
    let now : ℕ = c.args.now in
    let asked : ℕ = min 16384 (f.down.size - length f.down.octets) in
    let read = c.ask_octets.ensures.read in
    let octets : List ℕ = read.0 in
    let answer : Io = c.ask_octets.result in
    let gave : gives_octets answer ≡ true = gives answer c.in-Done.is in
    let change : c.ask_octets.new.self ≡ given f octets now = read.3 ∙ ap (λ (b : Bool). read_by b f octets now) gave in
    makes_one _ _ (TcpRead f.face.number asked answer octets) _ read.1
    (λ allowed. (
      subst (λ (x : Splice). GoesOn f x false now (TcpRead f.face.number asked answer octets ∷ [])) (sym change)
          (host_gives f now c.requires.open_yet c.requires.may answer octets gave c.ask_octets.ensures.size read.2
          (subst (λ (x : Splice). HasBuffers x.conn x.up x.down) change c.ask_octets.ensures.buffers)),
      refl,
      refl,
    ))
