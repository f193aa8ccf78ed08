use Rattle.std.proofs.Common.{length, ℕ, [], ◌∷◌, Option, is_some, unwrap_or, option_map, refl, sym, ◌∙◌, ap, true≢false, arith}
use Rattle.std.proofs.lemmas.List.{length-map}
use Rattle.world_face.specs.Journal.{Close}
use Rattle.world_face.proofs.Telling.{makes_one}
use Rattle.port_forward.specs.Entries.{opened_of}
use Rattle.port_forward.specs.declared.ports.Lead.{Lead}
use Rattle.port_forward.proofs.Removing.{all_left, others_left, whose}
use Rattle.port_forward.proofs.Forwards.remove_hostfwd.Goals as goal

pub returns-in_default-clause-list : goal.returns-in_default-clause-list
returns-in_default-clause-list g c =
    all_left c.args.proto c.args.host c.port_of-port.result c.self.inside.ports.entries c.args.self.now c.port_of-port.ensures c.self.view_is (sym c.in_default.ensures.value)

pub returns-in_default-clause-there : goal.returns-in_default-clause-there
returns-in_default-clause-there g c number there =
    let whose_is = whose c.args.proto c.args.host c.port_of-port.result c.self.inside.ports.entries c.args.self.now c.port_of-port.ensures c.self.view_is in
    let none = whose_is ∙ ap (option_map (λ (lead : Lead). lead.number)) (sym c.in_default.ensures.value) in
    absurd (true≢false (ap is_some (sym there ∙ none)))

pub invariant_of-self : goal.invariant_of-self
invariant_of-self g c = (omega (arith, c.self.invariant.0, c.remove.ensures.fewer), omega (arith, c.self.invariant.1, c.remove.ensures.room))

pub returns-clause-list : goal.returns-clause-list
returns-clause-list g c =
    others_left c.args.proto c.args.host c.port_of-port.result c.self.inside.ports.entries c.args.self.now c.port_of-port.ensures c.self.view_is c.remove.new.ports.entries c.remove.ensures.entries

pub returns-clause-one : goal.returns-clause-one
returns-clause-one g c is =
    let there = sym (ap is_some c.in-Some.ensures.value) in
    let fewer = c.remove.ensures.one there in
    let before = length-map c.self.inside.ports.entries opened_of in
    let after = length-map c.remove.new.ports.entries opened_of in
    omega (arith, fewer, before, after, ap length c.self.view_is)

pub returns-clause-there : goal.returns-clause-there
returns-clause-there g c number there =
    let whose_is = whose c.args.proto c.args.host c.port_of-port.result c.self.inside.ports.entries c.args.self.now c.port_of-port.ensures c.self.view_is in
    let closed = whose_is ∙ ap (option_map (λ (lead : Lead). lead.number)) (sym c.in-Some.ensures.value) in
    let same = ap (λ (o : Option ℕ). unwrap_or o 0) (sym closed ∙ there) in
    (refl, makes_one _ _ (Close c.in-Some.lead.now.number) _ c.close.ensures (λ allowed. ap (λ n. Close n ∷ []) same))

pub returns-clause-not_there : goal.returns-clause-not_there
returns-clause-not_there g c none =
    let whose_is = whose c.args.proto c.args.host c.port_of-port.result c.self.inside.ports.entries c.args.self.now c.port_of-port.ensures c.self.view_is in
    let closed = whose_is ∙ ap (option_map (λ (lead : Lead). lead.number)) (sym c.in-Some.ensures.value) in
    absurd (true≢false (ap is_some (sym closed ∙ none)))
