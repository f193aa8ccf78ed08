use Rattle.std.proofs.Common.{rules, ◌≡◌, ℕ, Option, IfSome, IfNone, None, sym, subst}
use Rattle.std.proofs.lemmas.List.Sorted.{answers_always}
use Rattle.tcp_flows.specs.declared.sockets.Numbered.{Numbered}
use Rattle.tcp_flows.specs.SocketPlaces.{HasNumber}
use Rattle.tcp_flows.specs.Sockets.{slot_of}
use Rattle.tcp_flows.proofs.Finding.{searched}
use Rattle.tcp_flows.proofs.sockets.place_of.Goals as goal

pub returns-clause-found : goal.returns-clause-found
returns-clause-found c =
    let found = c.binary_search_by_key.ensures in
    let by_number = found.position (λ (r : Numbered). r.number) (answers_always _ _ _ (λ f a r g called. search rules)) in
    let s = searched c.args.number c.args.rows.now c.requires c.binary_search_by_key.result found.bound by_number in
    subst (λ (o : Option ℕ). IfSome o (HasNumber c.args.number c.args.rows.now)) (sym c.ok.ensures.value) s.0

pub returns-clause-none : goal.returns-clause-none
returns-clause-none c =
    let found = c.binary_search_by_key.ensures in
    let by_number = found.position (λ (r : Numbered). r.number) (answers_always _ _ _ (λ f a r g called. search rules)) in
    let s = searched c.args.number c.args.rows.now c.requires c.binary_search_by_key.result found.bound by_number in
    subst (λ (o : Option ℕ). IfNone o (slot_of c.args.number c.args.rows.now ≡ None)) (sym c.ok.ensures.value) s.1
