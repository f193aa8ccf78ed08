use Rattle.std.proofs.Common.{◌≡◌, [], ◌∷◌, ℕ, false, refl, ap, subst, sym, ◌∙◌, ◌⊎◌, inl, inr}
use Rattle.tcp_connection.specs.Connection.{Connection}
use Rattle.tcp_connection.specs.Hosts.{reset}
use Rattle.world_face.proofs.Telling.{makes_as, makes_none, makes_one}
use Rattle.flow_splice.specs.Splice.{Splice, closed, is_open}
use Rattle.flow_splice.specs.Ahead.{HasPatience, IsAhead}
use Rattle.flow_splice.proofs.Ahead.{connects_ahead, dead_ahead, resolving_ahead, tick_ahead}
use Rattle.flow_splice.proofs.Patience.{as_old_resolves, asks_patient, connects_known, no_seeker}
use Rattle.flow_splice.proofs.Events.{none_yet, ticks_as}
use Rattle.flow_splice.proofs.Opened.{open_is}
use Rattle.flow_splice.proofs.Shutting.{reset_dead}
use Rattle.flow_splice.proofs.InTime.{open_time, ticked_time}
use Rattle.flow_splice.proofs.Timing.{left_late}
use Rattle.flow_splice.specs.Wants.{HasTime}
use Rattle.flow_splice.specs.Serves.{TicksOn}
use Rattle.world_face.specs.Journal.{Close}
use Rattle.flow_splice.proofs.Spliced.tick.Goals as goal

pub returns-then-not-is_open-clause-makes : goal.returns-then-not-is_open-clause-makes
returns-then-not-is_open-clause-makes g c = makes_none _ _ (ticks_as c.args.self.now c.args.self.now c.args.now [] (none_yet c.args.self.now c.args.now), refl)

pub returns-then-connects-clause-makes : goal.returns-then-connects-clause-makes
returns-then-connects-clause-makes g c =
    let old : Splice = c.args.self.now in
    let new : Splice = c.await_host.new.self in
    makes_as _ _ _ _ c.await_host.ensures.makes (λ made goes. (ticks_as old new c.args.now made goes.0, goes.1))

pub returns-else-resolves-clause-makes : goal.returns-else-resolves-clause-makes
returns-else-resolves-clause-makes g c =
    let old : Splice = c.args.self.now in
    let new : Splice = c.expire.new.self in
    makes_as _ _ _ _ c.expire.ensures.makes (λ made goes. (ticks_as old new c.args.now made goes.0, goes.1))

or_reset : (old new : Connection) (now : ℕ) → IsAhead old now → (new ≡ old) ⊎ (new ≡ reset old) → IsAhead new now
or_reset old new now ahead (inl is) = subst (λ (c : Connection). IsAhead c now) (sym is) ahead
or_reset old new now ahead (inr is) = subst (λ (c : Connection). IsAhead c now) (sym is) (dead_ahead (reset old) now (reset_dead old))

pub returns-then-resolves-clause-ahead : goal.returns-then-resolves-clause-ahead
returns-then-resolves-clause-ahead g c s past before h unowed yet =
    let f : Splice = c.args.self.now in (
      or_reset f.conn c.await_guest.new.self.conn c.args.now
          (resolving_ahead s f past before c.args.now (open_is s f past before (sym c.is_open.ensures ∙ c.if-not-is_open.false) h) (sym c.resolves.ensures ∙ c.if-resolves.true))
          c.await_guest.ensures.conn,
      subst (λ (x : Splice). HasPatience x c.args.now) (sym (c.await_guest.ensures.waits yet)) (asks_patient f c.args.now),
    )

pub returns-else-resolves-clause-ahead : goal.returns-else-resolves-clause-ahead
returns-else-resolves-clause-ahead g c s past before h unowed yet =
    let f : Splice = c.args.self.now in (
      subst (λ (x : Connection). IsAhead x c.args.now) (sym c.expire.ensures.conn) (tick_ahead f.conn c.args.now unowed),
      no_seeker c.expire.new.self c.args.now (as_old_resolves f c.expire.new.self c.expire.ensures.stays.same ∙ sym c.resolves.ensures ∙ c.if-resolves.false),
    )

pub returns-then-not-is_open-clause-ahead : goal.returns-then-not-is_open-clause-ahead
returns-then-not-is_open-clause-ahead g c s past before h unowed yet =
    let shut : is_open c.args.self.now ≡ false = sym c.is_open.ensures ∙ c.if-not-is_open.true in let not_it = sym shut ∙ yet in absurd cc

pub returns-then-connects-clause-ahead : goal.returns-then-connects-clause-ahead
returns-then-connects-clause-ahead g c s past before h unowed yet =
    let f : Splice = c.args.self.now in
    let connects = sym c.connects.ensures ∙ c.if-connects.true in (
      or_reset f.conn c.await_host.new.self.conn c.args.now (connects_ahead f.conn c.args.now connects) c.await_host.ensures.conn,
      no_seeker c.await_host.new.self c.args.now (as_old_resolves f c.await_host.new.self c.await_host.ensures.stays.same
          ∙ connects_known s f past before (open_is s f past before (sym c.is_open.ensures ∙ c.if-not-is_open.false) h) connects),
    )

pub returns-then-is_left-clause-makes : goal.returns-then-is_left-clause-makes
returns-then-is_left-clause-makes g c =
    let f : Splice = c.args.self.now in
    let now : ℕ = c.args.now in
    let shut : Splice = closed (record f { conn = reset f.conn }) now in
    makes_one _ _ (Close f.face.number) _ c.fail.ensures.closes
    (λ allowed. (
      subst (λ (x : Splice). TicksOn f x now (Close f.face.number ∷ [])) (sym c.fail.ensures.change)
          (ticks_as f shut now (Close f.face.number ∷ []) (left_late f now (sym c.is_open.ensures ∙ c.if-not-is_open.false) (sym c.is_left.ensures ∙ c.if-is_left.true))),
      refl,
    ))

pub returns-else-resolves-clause-in_time : goal.returns-else-resolves-clause-in_time
returns-else-resolves-clause-in_time g c =
    let f : Splice = c.args.self.now in
    let now : ℕ = c.args.now in
    open_time c.expire.new.self now
    (λ yet.
    subst (λ (x : Splice). HasTime x now) (sym (c.expire.ensures.again yet))
    (ticked_time f now (sym c.connects.ensures ∙ c.if-connects.false) (sym (ap (λ (x : Connection). x.stage) c.expire.ensures.conn) ∙ c.expire.ensures.stage yet)
    (sym c.is_left.ensures ∙ c.if-is_left.false)))
