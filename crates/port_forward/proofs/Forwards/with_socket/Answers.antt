use Rattle.std.proofs.Common.{◌≡◌, None, Some, option_map, sym, ◌∙◌, ap, rules, tests}
use Rattle.std.proofs.lemmas.Iterator.Consumers.{YieldsList-from_rest}
use Rattle.std.proofs.lemmas.Iterator.Search.{find_from_yields_List}
use Rattle.std.specs.Map.Iter.{deref_pair}
use Rattle.port_forward.specs.Entries.{opened_of}
use Rattle.rules_forward.specs.Opened.{is_on}
use Rattle.port_forward.specs.declared.ports.Lead.{Lead}
use Rattle.port_forward.specs.declared.ports.Port.{Port}
use Rattle.port_forward.proofs.Listing.{forward_found, forward_in}
use Rattle.port_forward.proofs.Forwards.with_socket.Goals as goal

pub returns-in_err-port : goal.returns-in_err-port
returns-in_err-port c =
    let entries = c.self.inside.ports.entries in
    let found = find_from_yields_List (λ (e : Port × Lead). is_on c.args.number (opened_of e)) _ _ c.find.result c.find.ensures.ran
    (YieldsList-from_rest entries c.iter.ensures.rest) (λ x b q k. search (rules, tests)) in
    let none : c.from_residual.result ≡ None = search rules in
    none ∙ ap (λ r. option_map forward_in (option_map deref_pair r)) (sym c.in_err-port.was) ∙ forward_found c.args.number entries c.args.self.now
    (option_map deref_pair c.find.result) found c.self.view_is

pub returns : goal.returns
returns c =
    let entries = c.self.inside.ports.entries in
    let found = find_from_yields_List (λ (e : Port × Lead). is_on c.args.number (opened_of e)) _ _ c.find.result c.find.ensures.ran
    (YieldsList-from_rest entries c.iter.ensures.rest) (λ x b q k. search (rules, tests)) in
    ap Some c.forward_of.ensures ∙ ap (λ r. option_map forward_in (option_map deref_pair r)) (sym c.in_ok-port.was) ∙ forward_found c.args.number entries c.args.self.now (option_map deref_pair c.find.result) found c.self.view_is
