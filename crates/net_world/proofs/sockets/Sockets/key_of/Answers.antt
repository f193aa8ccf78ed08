use Rattle.std.proofs.Common.{◌<◌, ◌≤◌, List, length, Some, None, Ok, Err, sym, subst}
use Rattle.std.specs.List.Sorted.{IsBinarySearchResult}
use Rattle.std.specs.Ordering.{nat_cmp}
use Rattle.net_world.specs.declared.sockets.Place.{Place}
use Rattle.net_world.specs.Tables.{Finds, Table}
use Rattle.net_world.proofs.Changing.{finds_some, finds_none}
use Rattle.net_world.proofs.sockets.Sockets.key_of.Goals as goal

pub returns-in-Ok : goal.returns-in-Ok
returns-in-Ok g c =
    let found = subst (λ (ps : List Place). IsBinarySearchResult (λ (p : Place). nat_cmp p.number c.args.number) ps (Ok c.in-Ok.at)) c.deref.ensures.value c.in-Ok.ensures.position in
    let below = subst (λ (ps : List Place). c.in-Ok.at < length ps) c.deref.ensures.value c.in-Ok.ensures.range in
    let is = finds_some c.self.inside.slots.slots c.self.inside.places.items c.args.number c.in-Ok.at c.index.result.now c.self.invariant.1 below found in
    let here = subst (λ (p : Place). Finds c.self.inside.slots.slots c.args.number (Some p.key)) (sym c.index.ensures) is in
    subst (λ (t : Table g.row.S.Denot). Finds t.slots c.args.number (Some c.index.result.now.key)) c.self.view_is here

pub returns-in-Err : goal.returns-in-Err
returns-in-Err g c =
    let found = subst (λ (ps : List Place). IsBinarySearchResult (λ (p : Place). nat_cmp p.number c.args.number) ps (Err c.in-Err.field-0)) c.deref.ensures.value c.in-Err.ensures.position in
    let fits = subst (λ (ps : List Place). c.in-Err.field-0 ≤ length ps) c.deref.ensures.value c.in-Err.ensures.range in
    let none = finds_none c.self.inside.slots.slots c.self.inside.places.items c.args.number c.in-Err.field-0 c.self.invariant.1 fits found in
    subst (λ (t : Table g.row.S.Denot). Finds t.slots c.args.number None) c.self.view_is none
