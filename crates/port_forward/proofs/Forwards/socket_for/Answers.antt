use Rattle.std.proofs.Common.{◌≡◌, None, option_map, sym, ◌∙◌, ap, rules, tests}
use Rattle.std.proofs.lemmas.Iterator.Consumers.{YieldsList-from_rest}
use Rattle.std.proofs.lemmas.Iterator.Search.{find_from_yields_List}
use Rattle.std.specs.Map.Iter.{deref_pair}
use Rattle.port_forward.specs.Entries.{opened_of}
use Rattle.rules_forward.specs.Opened.{leads_to}
use Rattle.port_forward.specs.declared.ports.Lead.{Lead}
use Rattle.port_forward.specs.declared.ports.Port.{Port}
use Rattle.port_forward.proofs.Listing.{first_socket, number_of}
use Rattle.port_forward.proofs.Forwards.socket_for.Goals as goal

pub returns-in_err-lead : goal.returns-in_err-lead
returns-in_err-lead c =
    let entries = c.self.inside.ports.entries in
    let found = find_from_yields_List (λ (e : Port × Lead). leads_to c.args.guest (opened_of e)) _ _ c.find.result c.find.ensures.ran
    (YieldsList-from_rest entries c.iter.ensures.rest) (λ x b q k. search (rules, tests)) in
    let none : c.from_residual.result ≡ None = search rules in
    none ∙ ap (λ r. option_map number_of (option_map deref_pair r)) (sym c.in_err-lead.was) ∙ first_socket c.args.guest entries c.args.self.now
    (option_map deref_pair c.find.result) found c.self.view_is

pub returns : goal.returns
returns c =
    let entries = c.self.inside.ports.entries in
    let found = find_from_yields_List (λ (e : Port × Lead). leads_to c.args.guest (opened_of e)) _ _ c.find.result c.find.ensures.ran
    (YieldsList-from_rest entries c.iter.ensures.rest) (λ x b q k. search (rules, tests)) in
    ap (λ r. option_map number_of (option_map deref_pair r)) (sym c.in_ok-lead.was) ∙ first_socket c.args.guest entries c.args.self.now (option_map deref_pair c.find.result) found c.self.view_is
