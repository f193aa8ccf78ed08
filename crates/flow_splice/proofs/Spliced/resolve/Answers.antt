use Rattle.std.proofs.Common.{◌≡◌, ◌<◌, ◌^◌, ℕ, true, [], ◌∷◌, ◌++◌, List, inl, inr, refl, subst, sym, ap, ◌∙◌}
use Rattle.world_face.specs.Frames.{encoding}
use Rattle.world_face.specs.Journal.{AreAllowed, Entry, LinkWrite}
use Rattle.world_face.proofs.Telling.{makes_as, makes_none}
use Rattle.stream_netdev.specs.Keeps.{Keeps, Writes}
use Rattle.stream_netdev.specs.Offers.{offered}
use Rattle.stream_netdev.specs.State.{LinkState}
use Rattle.stream_netdev.specs.declared.Offered.{Offered}
use Rattle.flow_splice.specs.Frames.{request_frame}
use Rattle.flow_splice.specs.Sends.{Sends, SendsOn, asked, asks_now}
use Rattle.flow_splice.specs.Ahead.{HasPatience}
use Rattle.flow_splice.specs.Shapes.{IsPumpWork}
use Rattle.flow_splice.specs.Splice.{Splice}
use Rattle.stream_netdev.specs.declared.Pumped.{Pumped}
use Rattle.flow_splice.proofs.StaysInTimeWait.{asks_none}
use Rattle.flow_splice.proofs.Asking.{requests}
use Rattle.flow_splice.proofs.Marking.{makes_allowed, sends_none}
use Rattle.flow_splice.proofs.Patience.{asked_patient}
use Rattle.flow_splice.proofs.Shaping.{request_works}
use Rattle.flow_splice.proofs.InTime.{asked_time}
use Rattle.flow_splice.specs.Wants.{HasTime}
use Rattle.flow_splice.proofs.Spliced.resolve.Goals as goal

pub returns-then-not-asks_now-clause-makes : goal.returns-then-not-asks_now-clause-makes
returns-then-not-asks_now-clause-makes g c = makes_none _ _ ((λ first small. sends_none c.args.self.now c.args.link.now first c.args.now small), refl, inl (refl, refl))

pub returns-clause-makes : goal.returns-clause-makes
returns-clause-makes g c =
    let f : Splice = c.args.self.now in
    let now : ℕ = c.args.now in
    let offer = c.offer_request-offered in
    let new : Splice = c.mark_asked.new.self in
    let old_link : LinkState = c.args.link.now in
    let new_link : LinkState = offer.new.link in
    let is : new ≡ asked offer.result f now = c.mark_asked.ensures ∙ ap (λ (x : Splice). asked offer.result x now) offer.ensures.change in
    makes_as _ _ (λ made. (Writes offer.result (encoding (request_frame f.face)) made × ((past : List Entry) → Keeps old_link past → Keeps new_link (made ++ past))) × AreAllowed made)
    _ (makes_allowed _ _ _ offer.ensures.makes)
    (λ made wrote.
    let writes = wrote.0.0 in
    let allowed = subst AreAllowed writes.1 wrote.1 in
    let flow : (first : ℕ) → first < 2 ^ 16 → SendsOn f new old_link new_link first first now made = λ first small. (
      subst (λ (es : List Entry). Sends f new first first now es) (sym writes.1)
          (requests f now c.requires.unknown (sym c.asks_now.ensures ∙ c.if-not-asks_now.false) offer.result writes.0 writes.2 allowed.0 new is first small),
      wrote.0.1,
    ) in
    let works = request_works offer.result writes.0 c.blocked.result (encoding (request_frame f.face)) writes.2 in
    let due : asks_now f ≡ true = sym c.asks_now.ensures ∙ c.if-not-asks_now.false in
    let change : new ≡ asked (offered writes.0) f now = is ∙ ap (λ (r : Offered). asked r f now) writes.2 in (
      flow,
      subst (λ (es : List Entry). IsPumpWork c.outcome.result es) (sym writes.1) (subst (λ (p : Pumped). IsPumpWork p (LinkWrite (encoding (request_frame f.face)) writes.0 ∷ []))
          (sym c.outcome.ensures) works),
      inr (record { due = due; answer = writes.0; one = writes.1; change = change; fits = offer.ensures.fits }),
    ))

pub returns-clause-waits : goal.returns-clause-waits
returns-clause-waits g c patient =
    let f : Splice = c.args.self.now in
    let offer = c.offer_request-offered in
    let is : c.mark_asked.new.self ≡ asked offer.result f c.args.now = c.mark_asked.ensures ∙ ap (λ (x : Splice). asked offer.result x c.args.now) offer.ensures.change in
    subst (λ (x : Splice). HasPatience x c.args.now) (sym is) (asked_patient f offer.result c.args.now patient)

pub returns-clause-time_waits : goal.returns-clause-time_waits
returns-clause-time_waits g c in_time_wait = absurd (asks_none c.args.self.now in_time_wait (sym c.asks_now.ensures ∙ c.if-not-asks_now.false))

pub returns-clause-in_time : goal.returns-clause-in_time
returns-clause-in_time g c time =
    let f : Splice = c.args.self.now in
    let offer = c.offer_request-offered in
    let is : c.mark_asked.new.self ≡ asked offer.result f c.args.now = c.mark_asked.ensures ∙ ap (λ (x : Splice). asked offer.result x c.args.now) offer.ensures.change in
    subst (λ (x : Splice). HasTime x c.args.now) (sym is) (asked_time f offer.result c.args.now time)
