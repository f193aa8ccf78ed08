use Rattle.std.proofs.Common.{List, Some, slice_get, option_map, sym, ◌∙◌, ap}
use Rattle.std.proofs.lemmas.Option.{slice_get-map}
use Rattle.slirp_settings.specs.declared.Forward.{Forward}
use Rattle.port_forward.specs.Entries.{opened_of}
use Rattle.rules_forward.specs.Opened.{Opened}
use Rattle.port_forward.proofs.Forwards.at.Goals as goal

pub returns : goal.returns
returns c =
    let entries = c.self.inside.ports.entries in
    ap (λ (f : Forward). Some (f, c.in_ok-port.lead.now.number)) c.forward_of.ensures
    ∙ ap (option_map opened_of) c.in_ok-port.ensures.entry
    ∙ sym (slice_get-map opened_of entries c.args.place)
    ∙ ap (λ (list : List Opened). slice_get list c.args.place) c.self.view_is
