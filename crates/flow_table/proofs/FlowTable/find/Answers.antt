use Rattle.std.proofs.Common.{subst, sym, ◌∙◌, ◌≡◌, ℕ, List, IfSome, IfNone}
use Rattle.flow_table.specs.declared.Entry.{Entry}
use Rattle.flow_table.specs.Slots.{Flows, HasTuple, NoneHas}
use Rattle.flow_table.specs.Rows.{IsPlaceOf, IsSlotIn}
use Rattle.flow_table.proofs.Tables.{slot_has, slot_alone, none_has}
use Rattle.flow_table.proofs.FlowTable.find.Goals as goal

pub slot_found-requires : goal.slot_found-requires
slot_found-requires c = (c.args.t.now, subst (λ (es : List Entry). IsPlaceOf es c.args.t.now c.place_of-found.result) (c.deref.ensures.value ∙ sym c.deref-2.ensures.value) c.place_of-found.ensures)

pub returns-clause-found : goal.returns-clause-found
returns-clause-found c = subst (λ (f : Flows). IfSome c.slot_found.result (λ slot. HasTuple f.slots slot c.args.t.now)) c.self.view_is
    (slot_has _ _ c.args.t.now c.slot_found.result c.self.invariant.by_tuple
    (let p = subst (λ (es : List Entry). IsPlaceOf es c.args.t.now c.place_of-found.result) c.deref.ensures.value c.place_of-found.ensures in let q = subst
    (λ (es : List Entry). IsPlaceOf es c.args.t.now c.place_of-found.result → IsSlotIn es c.args.t.now c.slot_found.result) c.deref-2.ensures.value (c.slot_found.ensures c.args.t.now) in q p))

pub returns-clause-alone : goal.returns-clause-alone
returns-clause-alone c = subst (λ (f : Flows). IfSome c.slot_found.result (λ slot. (other : ℕ) → HasTuple f.slots other c.args.t.now → other ≡ slot)) c.self.view_is
    (slot_alone _ _ _ c.args.t.now c.slot_found.result c.self.invariant.kept c.self.invariant.by_tuple
    (let p = subst (λ (es : List Entry). IsPlaceOf es c.args.t.now c.place_of-found.result) c.deref.ensures.value c.place_of-found.ensures in let q = subst
    (λ (es : List Entry). IsPlaceOf es c.args.t.now c.place_of-found.result → IsSlotIn es c.args.t.now c.slot_found.result) c.deref-2.ensures.value (c.slot_found.ensures c.args.t.now) in q p))

pub returns-clause-none : goal.returns-clause-none
returns-clause-none c = subst (λ (f : Flows). IfNone c.slot_found.result (NoneHas f.slots c.args.t.now)) c.self.view_is
    (none_has _ _ c.args.t.now c.slot_found.result c.self.invariant.by_tuple
    (let p = subst (λ (es : List Entry). IsPlaceOf es c.args.t.now c.place_of-found.result) c.deref.ensures.value c.place_of-found.ensures in let q = subst
    (λ (es : List Entry). IsPlaceOf es c.args.t.now c.place_of-found.result → IsSlotIn es c.args.t.now c.slot_found.result) c.deref-2.ensures.value (c.slot_found.ensures c.args.t.now) in q p))
