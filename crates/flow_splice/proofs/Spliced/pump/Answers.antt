use Rattle.std.proofs.Common.{◌≡◌, ℕ, [], Option, None, Some, refl, arith, subst, sym, ap, inl, ◌∙◌}
use Rattle.world_face.proofs.Telling.{makes_as, makes_none}
use Rattle.stream_netdev.specs.State.{LinkState}
use Rattle.flow_splice.specs.Asks.{AsksOnce}
use Rattle.net_octets.specs.declared.Mac.{Mac}
use Rattle.flow_splice.specs.Sends.{Acknowledges, IsClearBy, SendsOn}
use Rattle.flow_splice.specs.Splice.{Splice, is_in_time_wait, is_open}
use Rattle.tcp_connection.specs.Connection.{Connection}
use Rattle.flow_splice.specs.Ahead.{HasPatience, IsAhead, IsEarly}
use Rattle.flow_splice.proofs.Ahead.{follows_waits}
use Rattle.flow_splice.proofs.Asking.{known_asks, learn_asks, learn_then, unknown_asks}
use Rattle.flow_splice.proofs.Marking.{sends_none}
use Rattle.flow_splice.proofs.Patience.{known_patient, learnt_patient}
use Rattle.flow_splice.proofs.InTime.{learnt_time}
use Rattle.flow_splice.specs.Wants.{HasTime}
use Rattle.flow_splice.proofs.Spliced.pump.Goals as goal

pub returns-then-blocked-clause-makes : goal.returns-then-blocked-clause-makes
returns-then-blocked-clause-makes g c =
    let f : Splice = c.args.self.now in
    let mid : Splice = c.learn.new.self in
    let link : LinkState = c.args.link.now in
    makes_none _ _ (
      learn_then f mid c.args.mac link link c.args.ident.now c.args.ident.now c.args.now []
          (subst (λ (x : Splice). SendsOn x mid link link c.args.ident.now c.args.ident.now c.args.now []) c.learn.ensures (sends_none mid link c.args.ident.now c.args.now (omega arith))),
      refl,
      learn_asks f mid c.args.mac c.args.now c.learn.ensures,
    )

pub returns-in-Some-clause-makes : goal.returns-in-Some-clause-makes
returns-in-Some-clause-makes g c =
    let f : Splice = c.args.self.now in
    let new : Splice = c.send_all.new.self in
    let link : LinkState = c.args.link.now in
    let next : LinkState = c.send_all.new.link in
    let first : ℕ = c.args.ident.now in
    let last : ℕ = c.send_all.new.ident in
    makes_as _ _ _ _ c.send_all.ensures.makes
    (λ made sends. (
      learn_then f new c.args.mac link next first last c.args.now made (subst (λ (x : Splice). SendsOn x new link next first last c.args.now made) c.learn.ensures sends.0),
      sends.1,
      known_asks f new c.args.mac c.args.now made (ap (λ (x : Splice). x.mac) (sym c.learn.ensures) ∙ sym c.mac.ensures ∙ c.in-Some.is)
          (c.send_all.ensures.stays.same.asked ∙ ap (λ (x : Splice). x.asked) c.learn.ensures),
    ))

pub returns-in-None-clause-makes : goal.returns-in-None-clause-makes
returns-in-None-clause-makes g c =
    let f : Splice = c.args.self.now in
    let new : Splice = c.resolve.new.self in
    let link : LinkState = c.args.link.now in
    let next : LinkState = c.resolve.new.link in
    let first : ℕ = c.args.ident.now in
    makes_as _ _ _ _ c.resolve.ensures.makes
    (λ made sends. (
      learn_then f new c.args.mac link next first first c.args.now made (subst (λ (x : Splice). SendsOn x new link next first first c.args.now made) c.learn.ensures (sends.0 first (omega arith))),
      sends.1,
      unknown_asks f new c.args.mac c.args.now made (ap (λ (x : Splice). x.mac) (sym c.learn.ensures) ∙ sym c.mac.ensures ∙ c.in-None.is)
          (subst (λ (x : Splice). AsksOnce None x new c.args.now made) c.learn.ensures sends.2),
    ))

pub returns-in-Some-clause-ahead : goal.returns-in-Some-clause-ahead
returns-in-Some-clause-ahead g c s past before h ahead =
    let f : Splice = c.args.self.now in
    let same : c.learn.new.self.conn ≡ f.conn = ap (λ (x : Splice). x.conn) c.learn.ensures in
    let known : c.send_all.new.self.mac ≡ Some c.in-Some.mac = c.send_all.ensures.stays.same.mac ∙ sym c.mac.ensures ∙ c.in-Some.is in (
      (c.send_all.ensures.early (subst (IsEarly c.args.now) (sym same) (ahead.0, follows_waits s f past before h))).0,
      known_patient c.send_all.new.self c.args.now c.in-Some.mac known,
    )

pub returns-in-None-clause-ahead : goal.returns-in-None-clause-ahead
returns-in-None-clause-ahead g c s past before h ahead =
    let f : Splice = c.args.self.now in
    let same : c.learn.new.self.conn ≡ f.conn = ap (λ (x : Splice). x.conn) c.learn.ensures in (
      subst (λ (x : Connection). IsAhead x c.args.now) (sym (c.resolve.ensures.conn ∙ same)) ahead.0,
      c.resolve.ensures.waits (subst (λ (x : Splice). HasPatience x c.args.now) (sym c.learn.ensures) (learnt_patient f c.args.mac c.args.now ahead.1)),
    )

pub returns-then-blocked-clause-ahead : goal.returns-then-blocked-clause-ahead
returns-then-blocked-clause-ahead g c s past before h ahead =
    let f : Splice = c.args.self.now in
    let same : c.learn.new.self.conn ≡ f.conn = ap (λ (x : Splice). x.conn) c.learn.ensures in (
      subst (λ (x : Connection). IsAhead x c.args.now) (sym same) ahead.0,
      subst (λ (x : Splice). HasPatience x c.args.now) (sym c.learn.ensures) (learnt_patient f c.args.mac c.args.now ahead.1),
    )

pub returns-in-Some-clause-closed : goal.returns-in-Some-clause-closed
returns-in-Some-clause-closed g c shut = c.send_all.ensures.closed (ap is_open c.learn.ensures ∙ shut)

pub returns-in-None-clause-closed : goal.returns-in-None-clause-closed
returns-in-None-clause-closed g c shut = c.resolve.ensures.closed (ap is_open c.learn.ensures ∙ shut)

pub returns-then-blocked-clause-closed : goal.returns-then-blocked-clause-closed
returns-then-blocked-clause-closed g c shut = ap is_open c.learn.ensures ∙ shut

pub returns-in-Some-clause-time_waits : goal.returns-in-Some-clause-time_waits
returns-in-Some-clause-time_waits g c in_time_wait =
    subst (λ (x : Splice). Acknowledges x c.send_all.new.self c.args.now) c.learn.ensures (c.send_all.ensures.time_waits (ap (λ (x : Splice). is_in_time_wait x.place) c.learn.ensures ∙ in_time_wait))

pub returns-in-None-clause-time_waits : goal.returns-in-None-clause-time_waits
returns-in-None-clause-time_waits g c in_time_wait = inl (c.resolve.ensures.time_waits (ap (λ (x : Splice). is_in_time_wait x.place) c.learn.ensures ∙ in_time_wait) ∙ c.learn.ensures)

pub returns-then-blocked-clause-time_waits : goal.returns-then-blocked-clause-time_waits
returns-then-blocked-clause-time_waits g c in_time_wait = inl c.learn.ensures

pub returns-in-Some-clause-in_time : goal.returns-in-Some-clause-in_time
returns-in-Some-clause-in_time g c time =
    c.send_all.ensures.in_time (subst (λ (x : Splice). HasTime x c.args.now) (sym c.learn.ensures) (learnt_time c.args.self.now c.args.mac c.args.now time))

pub returns-in-None-clause-in_time : goal.returns-in-None-clause-in_time
returns-in-None-clause-in_time g c time =
    c.resolve.ensures.in_time (subst (λ (x : Splice). HasTime x c.args.now) (sym c.learn.ensures) (learnt_time c.args.self.now c.args.mac c.args.now time))

pub returns-then-blocked-clause-in_time : goal.returns-then-blocked-clause-in_time
returns-then-blocked-clause-in_time g c time = subst (λ (x : Splice). HasTime x c.args.now) (sym c.learn.ensures) (learnt_time c.args.self.now c.args.mac c.args.now time)

pub returns-in-Some-clause-clear : goal.returns-in-Some-clause-clear
returns-in-Some-clause-clear g c clear =
    let new : Splice = c.send_all.new.self in
    let known : new.mac ≡ Some c.in-Some.mac = c.send_all.ensures.stays.same.mac ∙ sym c.mac.ensures ∙ c.in-Some.is in
    subst (λ (m : Option Mac). IsClearBy m new) (sym known) (c.send_all.ensures.clear clear)
