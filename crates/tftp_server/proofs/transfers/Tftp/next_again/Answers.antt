-- One packet goes again, or none is due.
use Rattle.std.proofs.Common.{◌≡◌, ℕ, ◌<◌, ◌++◌, List, length, find, position, take, drop, get_or, set, Some, true, sym, ◌∙◌, ap, subst, arith}
use Rattle.std.specs.Option.{option_map}
use Rattle.std.proofs.lemmas.List.{get_or-map, get_or-set_same, length-map}
use Rattle.rules_tftp.specs.Transfers.{Said, Transfer, are_left, goes_again, said_again, sent_again, ticked}
use Rattle.tftp_server.specs.Serving.{Serving}
use Rattle.tftp_server.specs.Rows.{transfer_of, transfers_of}
use Rattle.rules_tftp.specs.Soundness.{AreApart}
use Rattle.tftp_server.specs.declared.row.Row.{Row}
use Rattle.tftp_server.proofs.Keeping.{due_none, due_some, is_due_row}
use Rattle.rules_tftp.proofs.Listing.{position_some}
use Rattle.tftp_server.proofs.Timing.{whole_new}
use Rattle.rules_tftp.proofs.Ticking.{apart_set, says_none, says_some, tick_none, tick_some}
use Rattle.tftp_server.proofs.transfers.Tftp.next_again.Goals as goal

pub returns-in_default-clause-list : goal.returns-in_default-clause-list
returns-in_default-clause-list c =
    let old = c.args.self.now in
    let folder = option_map (λ f. f.bytes) c.self.inside.folder in
    let rows = c.self.inside.rows.items in
    let left : transfers_of folder rows ≡ are_left c.args.now old.transfers = ap (λ (s : Serving). s.transfers) (c.self.view_is ∙ c.end_over.ensures.list) in
    let none = sym (ap (find (goes_again c.args.now)) left) ∙ due_none c.args.now folder rows (sym (ap (position (is_due_row c.args.now)) c.as_slice.ensures.value) ∙ sym c.in_default.ensures) in
    c.end_over.ensures.list ∙ ap (λ (ts : List Transfer). let s : Serving = record old { transfers = ts } in s) (tick_none c.args.now old.transfers none)

pub returns-in_default-clause-says : goal.returns-in_default-clause-says
returns-in_default-clause-says c =
    let old = c.args.self.now in
    let folder = option_map (λ f. f.bytes) c.self.inside.folder in
    let rows = c.self.inside.rows.items in
    let left : transfers_of folder rows ≡ are_left c.args.now old.transfers = ap (λ (s : Serving). s.transfers) (c.self.view_is ∙ c.end_over.ensures.list) in
    let none = sym (ap (find (goes_again c.args.now)) left) ∙ due_none c.args.now folder rows (sym (ap (position (is_due_row c.args.now)) c.as_slice.ensures.value) ∙ sym c.in_default.ensures) in
    says_none c.args.now old.transfers none

-- what the rows are then
new_rows : (c : goal.After-slice_known-2-1) → take c.self.inside.rows.len (c.count_again.new.rows ++ drop (length c.count_again.new.rows) c.self.inside.rows.items) ≡ c.count_again.new.rows
new_rows c = whole_new c.self.inside.rows.items c.count_again.new.rows c.self.inside.rows.len (c.count_again.auto.rows ∙ ap length c.deref_mut.ensures.value) c.self.inside.rows.ok.0

-- and the transfers
new_transfers : (c : goal.After-slice_known-2-1) (d : Transfer) → transfers_of (option_map (λ f. f.bytes) c.self.inside.folder) c.count_again.new.rows
    ≡ set (transfers_of (option_map (λ f. f.bytes) c.self.inside.folder) c.self.inside.rows.items) c.in-Some.place
    (sent_again c.args.now (get_or (transfers_of (option_map (λ f. f.bytes) c.self.inside.folder) c.self.inside.rows.items) c.in-Some.place d))
new_transfers c d =
    let folder = option_map (λ f. f.bytes) c.self.inside.folder in
    c.count_again.ensures folder d
    ∙ ap (λ (rows : List Row). set (transfers_of folder rows) c.in-Some.place (sent_again c.args.now (get_or (transfers_of folder rows) c.in-Some.place d))) c.deref_mut.ensures.value

pub invariant_of-self : goal.invariant_of-self
invariant_of-self c =
    let folder = option_map (λ f. f.bytes) c.self.inside.folder in
    let rows = c.self.inside.rows.items in
    let row = c.index-row.result.now in
    let place = sym (ap (position (is_due_row c.args.now)) c.as_slice.ensures.value) ∙ sym c.in-Some.ensures in
    let within : c.in-Some.place < length rows = (position_some (is_due_row c.args.now) rows c.in-Some.place place).within in
    let low : c.in-Some.place < length (transfers_of folder rows) = omega (arith, within, length-map rows (transfer_of folder)) in (
      c.self.invariant.0,
      c.self.invariant.1,
      subst (λ (l : List Row). AreApart (transfers_of folder l)) (sym (new_rows c))
          (subst AreApart (sym (new_transfers c (transfer_of folder row))) (apart_set c.args.now (transfers_of folder rows) c.in-Some.place (transfer_of folder row) low c.self.invariant.2)),
    )

pub returns-clause-list : goal.returns-clause-list
returns-clause-list c =
    let old = c.args.self.now in
    let vhost = c.self.inside.vhost.0 in
    let folder = option_map (λ f. f.bytes) c.self.inside.folder in
    let rows = c.self.inside.rows.items in
    let row = c.index-row.result.now in
    let place = sym (ap (position (is_due_row c.args.now)) c.as_slice.ensures.value) ∙ sym c.in-Some.ensures in
    let within : c.in-Some.place < length rows = (position_some (is_due_row c.args.now) rows c.in-Some.place place).within in
    let low : c.in-Some.place < length (transfers_of folder rows) = omega (arith, within, length-map rows (transfer_of folder)) in
    let left : transfers_of folder rows ≡ are_left c.args.now old.transfers = ap (λ (s : Serving). s.transfers) (c.self.view_is ∙ c.end_over.ensures.list) in
    let list = ap (transfers_of folder) (new_rows c) ∙ new_transfers c (transfer_of folder row)
    ∙ tick_some c.args.now old.transfers (transfers_of folder rows) c.in-Some.place (transfer_of folder row) left low c.self.invariant.2 (due_some c.args.now folder rows c.in-Some.place row place) in
    ap (λ (ts : List Transfer). let s : Serving = record { vhost = vhost; folder = folder; transfers = ts } in s) list
    ∙ ap (λ (s : Serving). let v : Serving = record s { transfers = ticked c.args.now true old.transfers } in v) (c.self.view_is ∙ c.end_over.ensures.list)

pub returns-clause-says : goal.returns-clause-says
returns-clause-says c =
    let old = c.args.self.now in
    let now = c.args.now in
    let folder = option_map (λ f. f.bytes) c.self.inside.folder in
    let rows = c.self.inside.rows.items in
    let row = c.index-row.result.now in
    let i = c.in-Some.place in
    let d = transfer_of folder row in
    let list = transfers_of folder rows in
    let place = sym (ap (position (is_due_row now)) c.as_slice.ensures.value) ∙ sym c.in-Some.ensures in
    let within : i < length rows = (position_some (is_due_row now) rows i place).within in
    let low : i < length list = omega (arith, within, length-map rows (transfer_of folder)) in
    let left : list ≡ are_left now old.transfers = ap (λ (s : Serving). s.transfers) (c.self.view_is ∙ c.end_over.ensures.list) in
    let same : length c.count_again.new.rows ≡ length rows = c.count_again.auto.rows ∙ ap length c.deref_mut.ensures.value in
    let there : i < length c.count_again.new.rows = omega (arith, within, same) in
    let at : row ≡ get_or c.count_again.new.rows i row = c.index-row.ensures ∙ ap (λ (l : List Row). get_or l i row) (new_rows c) in
    let again : transfer_of folder row ≡ sent_again now (get_or list i d) =
    ap (transfer_of folder) at ∙ sym (get_or-map (transfer_of folder) c.count_again.new.rows i row d there) ∙ ap (λ (l : List Transfer). get_or l i d) (new_transfers c d)
    ∙ get_or-set_same list i (sent_again now (get_or list i d)) d low in
    c.tell.ensures.says
    ∙ ap (λ (xs : List ℕ). Some (let s : Said = record { mac = row.mac.0; guest = row.guest; octets = xs } in s)) c.as_slice-2.ensures.value
    ∙ ap (λ (t : Transfer). Some (said_again t)) again
    ∙ says_some now old.transfers list (get_or list i d) left (due_some now folder rows i row place)
