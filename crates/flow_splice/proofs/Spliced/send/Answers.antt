use Rattle.std.proofs.Common.{◌≡◌, ℕ, [], ◌∷◌, ◌++◌, List, Bool, Option, Some, if◌then◌else◌, refl, arith, append_assoc, ap, subst, sym, ◌∙◌}
use Rattle.world_face.specs.Frames.{encoding}
use Rattle.world_face.specs.Journal.{AreAllowed, Entry, LinkWrite}
use Rattle.world_face.proofs.Telling.{makes_then}
use Rattle.stream_netdev.specs.Keeps.{Keeps, Settles, Writes}
use Rattle.stream_netdev.specs.State.{LinkState}
use Rattle.stream_netdev.specs.declared.Offered.{Offered}
use Rattle.stream_netdev.specs.declared.Offered.TheVariants.{Taken, Blocked, Failed as OfferFailed}
use Rattle.tcp_connection.specs.Owing.{owed_of}
use Rattle.tcp_connection.specs.declared.Owed.{Owed}
use Rattle.sim_connection.specs.Sending.{segment_out}
use Rattle.flow_splice.specs.Frames.{segment_frame}
use Rattle.flow_splice.specs.Sends.{Marks, Sends, takes_part_at}
use Rattle.stream_netdev.specs.Offers.{pumped_of}
use Rattle.flow_splice.specs.Shapes.{IsPumpWork}
use Rattle.flow_splice.specs.Splice.{Splice}
use Rattle.flow_splice.specs.declared.Place.{Place}
use Rattle.flow_splice.specs.declared.Place.TheVariants.{Empty, InUse, InTimeWait}
use Rattle.stream_netdev.specs.declared.Pumped.{Pumped}
use Rattle.stream_netdev.specs.declared.Pumped.TheVariants.{Clear, Blocked as PumpBlocked}
use Rattle.flow_splice.proofs.StaysInTimeWait.{marks_acknowledge}
use Rattle.flow_splice.proofs.Ahead.{marks_early}
use Rattle.flow_splice.proofs.Going.{sends}
use Rattle.flow_splice.proofs.Marking.{closes_keep, makes_allowed, marks_less, marks_stay}
use Rattle.flow_splice.proofs.Shaping.{marks_work}
use Rattle.flow_splice.proofs.InTime.{marks_time}
use Rattle.flow_splice.proofs.Spliced.send.Goals as goal

used_is : (p : Place) (o : Option Owed) (what : Owed) → takes_part_at p o ≡ Some what → (p ≡ Empty → ⊥) × (o ≡ Some what)
used_is Empty o what is = absurd cc
used_is InUse o what is = (λ at. cc, is)
used_is (InTimeWait since) o what is = (λ at. cc, is)

pub returns-clause-makes : goal.returns-clause-makes
returns-clause-makes g c =
    let f : Splice = c.args.self.now in
    let now : ℕ = c.args.now in
    let what : Owed = c.args.what.now in
    let offer = c.offer_owed-offered in
    let result : Offered = offer.result in
    let new : Splice = c.mark.new.self in
    let first : ℕ = c.args.ident.now in
    let old_link : LinkState = c.args.link.now in
    let new_link : LinkState = offer.new.link in
    let frame : List ℕ = encoding (segment_frame f.face c.args.mac first (segment_out f.mru f.conn f.up f.down what)) in
    let two = used_is f.place (owed_of f.conn f.up f.down) what c.requires.owed in
    makes_then _ _ _ (λ made. (Writes result frame made × ((past : List Entry) → Keeps old_link past → Keeps new_link (made ++ past))) × AreAllowed made) (Marks result what offer.new.self new now) _
    (makes_allowed _ _ _ offer.ensures.makes) c.mark.ensures.makes
    (λ some made wrote marked.
    let writes = wrote.0.0 in
    let marks = subst (λ (x : Splice). Marks result what x new now made) offer.ensures.change marked in
    let allowed = subst AreAllowed writes.1 wrote.1 in
    let flow = sends f now first what c.args.mac c.requires.mac c.requires.now (omega arith) offer.ensures.buffers two.1 two.0 offer.ensures.sized result writes.0 writes.2 allowed.0 new made marks in
    let stays = marks_stay result what f new now made marks in
    let works : IsPumpWork (pumped_of result c.blocked.result) (made ++ some) = subst (λ (es : List Entry). IsPumpWork (pumped_of result c.blocked.result) (made ++ es))
    (sym writes.1) (marks_work result writes.0 c.blocked.result frame what f new now made writes.2 marks) in (
      (
        subst (λ (es : List Entry). Sends f new first c.mark.new.ident now (made ++ es)) (sym writes.1)
            (subst (λ (n : ℕ). Sends f new first n now (made ++ (LinkWrite frame writes.0 ∷ []))) (sym c.mark.ensures.ident) flow),
        λ past k. subst (λ (es : List Entry). Keeps new_link es) (sym (append_assoc made some past)) (closes_keep new_link (some ++ past) made stays.closes (wrote.0.1 past k)),
      ),
      subst (λ (p : Pumped). IsPumpWork p (made ++ some)) (sym c.outcome.ensures) works,
    ))

taken_only : (o : Offered) (link : LinkState) → Settles o link → pumped_of o link.blocked ≡ Clear → o ≡ Taken
taken_only Taken link settles is = refl
taken_only Blocked link settles is = let not_it = sym (ap (λ (b : Bool). if b then PumpBlocked else Clear) settles) ∙ is in absurd cc
taken_only OfferFailed link settles is = absurd cc

pub returns-clause-less : goal.returns-clause-less
returns-clause-less g c is =
    let f : Splice = c.args.self.now in
    let what : Owed = c.args.what.now in
    let offer = c.offer_owed-offered in
    let two = used_is f.place (owed_of f.conn f.up f.down) what c.requires.owed in
    let taken = taken_only offer.result offer.new.link offer.ensures.settles (sym (c.outcome.ensures ∙ ap (pumped_of offer.result) c.blocked.ensures) ∙ is) in
    let marks = subst (λ (o : Offered). Marks o what f c.mark.new.self c.args.now c.mark.ensures.makes.made) taken
    (subst (λ (x : Splice). Marks offer.result what x c.mark.new.self c.args.now c.mark.ensures.makes.made) offer.ensures.change c.mark.ensures.makes.holds) in
    marks_less what f c.mark.new.self c.args.now c.mark.ensures.makes.made offer.ensures.buffers two.1 marks

pub returns-clause-stays : goal.returns-clause-stays
returns-clause-stays g c =
    let offer = c.offer_owed-offered in
    (marks_stay offer.result c.args.what.now c.args.self.now c.mark.new.self c.args.now c.mark.ensures.makes.made
    (subst (λ (x : Splice). Marks offer.result c.args.what.now x c.mark.new.self c.args.now c.mark.ensures.makes.made) offer.ensures.change c.mark.ensures.makes.holds)).stays

pub returns-clause-early : goal.returns-clause-early
returns-clause-early g c early =
    let offer = c.offer_owed-offered in
    marks_early offer.result c.args.what.now c.args.self.now c.mark.new.self c.args.now c.mark.ensures.makes.made offer.ensures.buffers
    (subst (λ (x : Splice). Marks offer.result c.args.what.now x c.mark.new.self c.args.now c.mark.ensures.makes.made) offer.ensures.change c.mark.ensures.makes.holds) early

pub returns-clause-closed : goal.returns-clause-closed
returns-clause-closed g c =
    let offer = c.offer_owed-offered in
    (marks_stay offer.result c.args.what.now c.args.self.now c.mark.new.self c.args.now c.mark.ensures.makes.made
    (subst (λ (x : Splice). Marks offer.result c.args.what.now x c.mark.new.self c.args.now c.mark.ensures.makes.made) offer.ensures.change c.mark.ensures.makes.holds)).shut

pub returns-clause-time_waits : goal.returns-clause-time_waits
returns-clause-time_waits g c =
    let offer = c.offer_owed-offered in
    marks_acknowledge offer.result c.args.what.now c.args.self.now c.mark.new.self c.args.now c.mark.ensures.makes.made c.requires.time_waits c.requires.owed
    (subst (λ (x : Splice). Marks offer.result c.args.what.now x c.mark.new.self c.args.now c.mark.ensures.makes.made) offer.ensures.change c.mark.ensures.makes.holds)

pub returns-clause-in_time : goal.returns-clause-in_time
returns-clause-in_time g c time =
    let offer = c.offer_owed-offered in
    marks_time offer.result c.args.what.now c.args.self.now c.mark.new.self c.args.now c.mark.ensures.makes.made
    (subst (λ (x : Splice). Marks offer.result c.args.what.now x c.mark.new.self c.args.now c.mark.ensures.makes.made) offer.ensures.change c.mark.ensures.makes.holds) time
