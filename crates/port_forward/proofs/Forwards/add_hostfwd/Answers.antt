use Rattle.std.proofs.Common.{List, [], ◌∷◌, ◌++◌, map, Some, None, refl, sym, ◌∙◌, ap, subst, arith}
use Rattle.std.proofs.lemmas.List.{map-append}
use Rattle.world_face.specs.Tells.{Answers}
use Rattle.world_face.specs.declared.Made.{Made}
use Rattle.world_face.specs.declared.Made.TheVariants.{Done, Failed}
use Rattle.rules_forward.specs.Adding.{opening_of}
use Rattle.port_forward.specs.Entries.{opened_of}
use Rattle.rules_forward.specs.Opened.{Opened}
use Rattle.rules_forward.specs.declared.FwdFault.TheVariants.{Taken, BadGuest, Full, Refused}
use Rattle.port_forward.specs.declared.ports.Lead.{Lead}
use Rattle.port_forward.specs.declared.ports.Port.{Port}
use Rattle.port_forward.proofs.Adding.{full_last, is_taken_first, no_cause, not_guest_next, opens, refuses}
use Rattle.port_forward.proofs.Listing.{as_many, entry_of, key_is_taken}
use Rattle.port_forward.proofs.Forwards.add_hostfwd.Goals as goal

pub returns-then-contains_key-clause-adds : goal.returns-then-contains_key-clause-adds
returns-then-contains_key-clause-adds g c =
    let taken = key_is_taken c.args.forward.proto c.args.forward.host c.port_of-port.result c.self.inside.ports.entries c.args.self.now c.contains_key.result c.contains_key.ensures
    c.port_of-port.ensures c.self.view_is in
    refuses c.args.policy.now c.args.forward c.args.self.now c.args.number Taken (g.W.World.tells c.args.world.now)
    (is_taken_first c.args.policy.now c.args.forward c.args.self.now (sym taken ∙ c.if-contains_key.true))

pub returns-then-not-is_guest-clause-adds : goal.returns-then-not-is_guest-clause-adds
returns-then-not-is_guest-clause-adds g c =
    let taken = key_is_taken c.args.forward.proto c.args.forward.host c.port_of-port.result c.self.inside.ports.entries c.args.self.now c.contains_key.result c.contains_key.ensures
    c.port_of-port.ensures c.self.view_is in
    refuses c.args.policy.now c.args.forward c.args.self.now c.args.number BadGuest (g.W.World.tells c.args.world.now)
    (not_guest_next c.args.policy.now c.args.forward c.args.self.now (sym taken ∙ c.if-contains_key.false) (sym c.is_guest.ensures ∙ c.if-not-is_guest.true))

pub returns-then-len-ge-MOST_FORWARDS-clause-adds : goal.returns-then-len-ge-MOST_FORWARDS-clause-adds
returns-then-len-ge-MOST_FORWARDS-clause-adds g c =
    let taken = key_is_taken c.args.forward.proto c.args.forward.host c.port_of-port.result c.self.inside.ports.entries c.args.self.now c.contains_key.result c.contains_key.ensures
    c.port_of-port.ensures c.self.view_is in
    let many = as_many c.self.inside.ports.entries c.args.self.now c.len.result c.len.ensures.len c.self.view_is in
    refuses c.args.policy.now c.args.forward c.args.self.now c.args.number Full (g.W.World.tells c.args.world.now)
    (full_last c.args.policy.now c.args.forward c.args.self.now (sym taken ∙ c.if-contains_key.false) (sym c.is_guest.ensures ∙ c.if-not-is_guest.false)
    (omega (arith, many, c.if-len-ge-MOST_FORWARDS.true)))

pub returns-in-Done-clause-adds : goal.returns-in-Done-clause-adds
returns-in-Done-clause-adds g c =
    let taken = key_is_taken c.args.forward.proto c.args.forward.host c.port_of-port.result c.self.inside.ports.entries c.args.self.now c.contains_key.result c.contains_key.ensures
    c.port_of-port.ensures c.self.view_is in
    let many = as_many c.self.inside.ports.entries c.args.self.now c.len.result c.len.ensures.len c.self.view_is in
    let forward = c.args.forward in
    let lead : Lead = record { guest = forward.guest; number = c.args.number } in
    let entries = c.self.inside.ports.entries in
    let old = g.W.World.tells c.args.world.now in
    let new = g.W.World.tells c.open_port.new.world in
    let last = ap (λ (p : Port). opened_of (p, lead)) c.port_of-port.ensures ∙ entry_of forward lead refl in
    let list =
    ap (map opened_of) c.put.ensures.entries ∙ map-append opened_of entries ((c.port_of-port.result, lead) ∷ [])
    ∙ ap (λ (l : List Opened). l ++ (opened_of (c.port_of-port.result, lead) ∷ [])) c.self.view_is
    ∙ ap (λ (o : Opened). c.args.self.now ++ (o ∷ [])) last in
    let cause = no_cause c.args.policy.now forward c.args.self.now (sym taken ∙ c.if-contains_key.false) (sym c.is_guest.ensures ∙ c.if-not-is_guest.false)
    (omega (arith, many, c.if-len-ge-MOST_FORWARDS.false)) in
    opens c.args.policy.now forward c.args.self.now c.args.number Done (map opened_of c.put.new.ports.entries) None old new cause
    (subst (λ (answer : Made). Answers old new (opening_of forward.proto c.args.number forward.host answer)) c.in-Done.is c.open_port.ensures) (refl, list)

pub returns-in-Failed-clause-adds : goal.returns-in-Failed-clause-adds
returns-in-Failed-clause-adds g c =
    let taken = key_is_taken c.args.forward.proto c.args.forward.host c.port_of-port.result c.self.inside.ports.entries c.args.self.now c.contains_key.result c.contains_key.ensures
    c.port_of-port.ensures c.self.view_is in
    let many = as_many c.self.inside.ports.entries c.args.self.now c.len.result c.len.ensures.len c.self.view_is in
    let forward = c.args.forward in
    let old = g.W.World.tells c.args.world.now in
    let new = g.W.World.tells c.open_port.new.world in
    let cause = no_cause c.args.policy.now forward c.args.self.now (sym taken ∙ c.if-contains_key.false) (sym c.is_guest.ensures ∙ c.if-not-is_guest.false)
    (omega (arith, many, c.if-len-ge-MOST_FORWARDS.false)) in
    opens c.args.policy.now forward c.args.self.now c.args.number Failed c.args.self.now (Some Refused) old new cause
    (subst (λ (answer : Made). Answers old new (opening_of forward.proto c.args.number forward.host answer)) c.in-Failed.is c.open_port.ensures) (refl, refl)
