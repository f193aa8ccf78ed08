use Rattle.std.proofs.Common.{◌∷◌, [], ℕ, refl, ap, subst, sym, ◌∙◌}
use Rattle.world_face.specs.Journal.{Close}
use Rattle.world_face.proofs.Telling.{makes_none, makes_one}
use Rattle.tcp_connection.specs.Hosts.{reset}
use Rattle.flow_splice.specs.Serves.{TicksOn}
use Rattle.flow_splice.specs.Splice.{Splice, is_open}
use Rattle.flow_splice.proofs.Shutting.{shut_is}
use Rattle.flow_splice.proofs.Timing.{asks_on, guest_missing}
use Rattle.flow_splice.proofs.Spliced.await_guest.Goals as goal

pub returns-then-has_asked_enough-clause-makes : goal.returns-then-has_asked_enough-clause-makes
returns-then-has_asked_enough-clause-makes g c =
    let f : Splice = c.args.self.now in
    let now : ℕ = c.args.now in
    makes_one _ _ (Close f.face.number) _ c.fail.ensures.closes
    (λ allowed. (
      subst (λ (x : Splice). TicksOn f x now (Close f.face.number ∷ [])) (sym c.fail.ensures.change)
          (guest_missing f now c.requires.open_yet c.requires.resolves (sym c.has_asked_enough.ensures.enough ∙ c.if-has_asked_enough.true)),
      refl,
    ))

pub returns-else-has_asked_enough-clause-makes : goal.returns-else-has_asked_enough-clause-makes
returns-else-has_asked_enough-clause-makes g c = makes_none _ _ (
  subst (λ (x : Splice). TicksOn c.args.self.now x c.args.now []) (sym c.ask_again.ensures)
      (asks_on c.args.self.now c.args.now c.requires.open_yet (sym c.has_asked_enough.ensures.enough ∙ c.if-has_asked_enough.false) c.has_asked_enough.ensures.few),
  refl,
)

pub returns-then-has_asked_enough-clause-stage : goal.returns-then-has_asked_enough-clause-stage
returns-then-has_asked_enough-clause-stage g c yet = let f : Splice = c.args.self.now in absurd (shut_is (record f { conn = reset f.conn }) c.args.now (ap is_open (sym c.fail.ensures.change) ∙ yet))

pub returns-then-has_asked_enough-clause-waits : goal.returns-then-has_asked_enough-clause-waits
returns-then-has_asked_enough-clause-waits g c yet = let f : Splice = c.args.self.now in absurd (shut_is (record f { conn = reset f.conn }) c.args.now (ap is_open (sym c.fail.ensures.change) ∙ yet))
