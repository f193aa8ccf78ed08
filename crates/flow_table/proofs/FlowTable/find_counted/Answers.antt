use Rattle.std.proofs.Common.{subst, sym, ◌∙◌, ◌≡◌, ◌+◌, ◌<◌, ◌≤◌, ◌^◌, ℕ, List, length, IfSome, IfNone}
use Rattle.flow_table.specs.declared.Entry.{Entry}
use Rattle.flow_table.specs.Slots.{Flows, HasTuple, NoneHas}
use Rattle.flow_table.specs.Rows.{IsPlaceOf, IsSlotIn}
use Rattle.flow_table.proofs.Tables.{slot_has, slot_alone, none_has, few_steps}
use Rattle.flow_table.proofs.FlowTable.find_counted.Goals as goal

pub slot_found-requires : goal.slot_found-requires
slot_found-requires g c = (
  c.args.t.now,
  subst (λ (es : List Entry). IsPlaceOf es c.args.t.now c.search-found.result)
      (c.deref.ensures.value ∙ sym c.deref-2.ensures.value) c.search-found.ensures.place,
)

pub returns-clause-found : goal.returns-clause-found
returns-clause-found g c = subst (λ (f : Flows). IfSome c.slot_found.result (λ slot. HasTuple f.slots slot c.args.t.now)) c.self.view_is
    (slot_has _ _ c.args.t.now c.slot_found.result c.self.invariant.by_tuple
    (let p = subst (λ (es : List Entry). IsPlaceOf es c.args.t.now c.search-found.result) c.deref.ensures.value c.search-found.ensures.place in let q = subst
    (λ (es : List Entry). IsPlaceOf es c.args.t.now c.search-found.result → IsSlotIn es c.args.t.now c.slot_found.result) c.deref-2.ensures.value (c.slot_found.ensures c.args.t.now) in q p))

pub returns-clause-alone : goal.returns-clause-alone
returns-clause-alone g c = subst (λ (f : Flows). IfSome c.slot_found.result (λ slot. (other : ℕ) → HasTuple f.slots other c.args.t.now → other ≡ slot)) c.self.view_is
    (slot_alone _ _ _ c.args.t.now c.slot_found.result c.self.invariant.kept c.self.invariant.by_tuple
    (let p = subst (λ (es : List Entry). IsPlaceOf es c.args.t.now c.search-found.result) c.deref.ensures.value c.search-found.ensures.place in let q = subst
    (λ (es : List Entry). IsPlaceOf es c.args.t.now c.search-found.result → IsSlotIn es c.args.t.now c.slot_found.result) c.deref-2.ensures.value (c.slot_found.ensures c.args.t.now) in q p))

pub returns-clause-none : goal.returns-clause-none
returns-clause-none g c = subst (λ (f : Flows). IfNone c.slot_found.result (NoneHas f.slots c.args.t.now)) c.self.view_is
    (none_has _ _ c.args.t.now c.slot_found.result c.self.invariant.by_tuple
    (let p = subst (λ (es : List Entry). IsPlaceOf es c.args.t.now c.search-found.result) c.deref.ensures.value c.search-found.ensures.place in let q = subst
    (λ (es : List Entry). IsPlaceOf es c.args.t.now c.search-found.result → IsSlotIn es c.args.t.now c.slot_found.result) c.deref-2.ensures.value (c.slot_found.ensures c.args.t.now) in q p))

pub returns-clause-few : goal.returns-clause-few
returns-clause-few g c = subst (λ (f : Flows). (k : ℕ) → length f.slots ≤ 2 ^ k → c.search-found.new.steps ≤ c.args.steps.now + k + 1) c.self.view_is
    (few_steps c.self.inside.entries.items c.self.inside.free.items c.self.inside.slots.items _ _ c.self.invariant.count
    (subst (λ (es : List Entry). (k : ℕ) → length es < 2 ^ k → c.search-found.new.steps ≤ c.args.steps.now + k) c.deref.ensures.value c.search-found.ensures.few))
