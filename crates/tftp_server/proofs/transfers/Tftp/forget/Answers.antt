-- Those that are left.
use Rattle.std.proofs.Common.{◌≡◌, not, List, find, map, filter, sym, ◌∙◌, ap, subst, rules, arith}
use Rattle.std.specs.Option.{option_map}
use Rattle.std.proofs.lemmas.Fn.{filter_same}
use Rattle.slirp_settings.specs.Classes.{same_endpoint}
use Rattle.rules_tftp.specs.Transfers.{Transfer, is_for, without}
use Rattle.tftp_server.specs.Serving.{Serving}
use Rattle.tftp_server.specs.Rows.{transfer_of, transfers_of}
use Rattle.rules_tftp.specs.Soundness.{AreApart}
use Rattle.tftp_server.specs.declared.row.Row.{Row}
use Rattle.rules_tftp.proofs.Listing.{apart_filter, filter_map_is, none_without}
use Rattle.tftp_server.proofs.transfers.Tftp.forget.Goals as goal

-- the rows that are left, as transfers
left : (c : goal.After-retain) → transfers_of (option_map (λ f. f.bytes) c.self.inside.folder) c.retain.new.self.items ≡ without c.args.guest
    (transfers_of (option_map (λ f. f.bytes) c.self.inside.folder) c.self.inside.rows.items)
left c =
    let folder = option_map (λ f. f.bytes) c.self.inside.folder in
    let stays : c.retain.new.self.items ≡ filter (λ (r : Row). not (same_endpoint r.guest c.args.guest)) c.self.inside.rows.items =
    filter_same _ (λ (r : Row). not (same_endpoint r.guest c.args.guest)) _ (λ x b f' k. search rules) _ _ c.retain.ensures.filtered in
    ap (map (transfer_of folder)) stays ∙ sym (filter_map_is (transfer_of folder) (λ t. not (is_for c.args.guest t)) c.self.inside.rows.items)

pub invariant_of-self : goal.invariant_of-self
invariant_of-self c = (
  omega (arith, c.retain.ensures.bound, c.self.invariant.0),
  omega (arith, c.retain.ensures.capacity, c.self.invariant.1),
  subst AreApart (sym (left c)) (apart_filter (λ t. not (is_for c.args.guest t)) (transfers_of (option_map (λ f. f.bytes) c.self.inside.folder) c.self.inside.rows.items) c.self.invariant.2),
)

pub returns-clause-list : goal.returns-clause-list
returns-clause-list c =
    let vhost = c.self.inside.vhost.0 in
    let folder = option_map (λ f. f.bytes) c.self.inside.folder in
    ap (λ (ts : List Transfer). let s : Serving = record { vhost = vhost; folder = folder; transfers = ts } in s) (left c)
    ∙ ap (λ (s : Serving). let t : Serving = record s { transfers = without c.args.guest s.transfers } in t) c.self.view_is

pub returns-clause-none : goal.returns-clause-none
returns-clause-none c = ap (find (is_for c.args.guest)) (left c) ∙ none_without c.args.guest (transfers_of (option_map (λ f. f.bytes) c.self.inside.folder) c.self.inside.rows.items)
