-- The row of a port, and the number of its last block.
use Rattle.std.proofs.Common.{◌≡◌, ℕ, ◌%◌, ◌<◌, not, Bool, List, length, find, get_or, position, Option, Some, None, refl, sym, ◌∙◌, ap, subst, arith}
use Rattle.std.specs.Option.{option_map}
use Rattle.std.proofs.lemmas.List.{length-map}
use Rattle.rules_tftp.specs.Transfers.{Transfer, acknowledged, is_for, leaves, without}
use Rattle.tftp_server.specs.Serving.{Serving}
use Rattle.tftp_server.specs.Rows.{IsTakenOut, TakesAcknowledged, transfer_of, transfers_of}
use Rattle.rules_tftp.specs.Soundness.{AreApart}
use Rattle.tftp_server.specs.declared.row.Row.{Row}
use Rattle.rules_tftp.proofs.Listing.{any_past, apart_filter, none_without, position_some}
use Rattle.tftp_server.proofs.Keeping.{awaited, guest_of, is_row_of, not_awaited, rows_none, rows_some, taken_out}
use Rattle.tftp_server.proofs.transfers.Tftp.take_acknowledged.Goals as goal

pub returns-in_err-place : goal.returns-in_err-place
returns-in_err-place c =
    let guest = c.args.guest in
    let block = c.args.block in
    let folder = option_map (λ f. f.bytes) c.self.inside.folder in
    let rows = c.self.inside.rows.items in
    let none = rows_none guest folder rows (sym (ap (position (is_row_of guest)) c.as_slice.ensures.value) ∙ sym c.in_err-place.ensures) in
    let here : (now : ℕ) → acknowledged now block (find (is_for guest) (transfers_of folder rows)) (transfers_of folder rows) ≡ leaves (transfers_of folder rows) =
    λ now. ap (λ (o : Option Transfer). acknowledged now block o (transfers_of folder rows)) none in
    subst (TakesAcknowledged guest block c.args.self.now c.args.self.now) (sym c.from_residual.ensures)
    (subst (λ (s : Serving). TakesAcknowledged guest block s s None) c.self.view_is (refl, here))

pub returns-then-index-block : goal.returns-then-index-block
returns-then-index-block c =
    let guest = c.args.guest in
    let block = c.args.block in
    let folder = option_map (λ f. f.bytes) c.self.inside.folder in
    let rows = c.self.inside.rows.items in
    let ts = transfers_of folder rows in
    let row = c.index.result.now in
    let there = sym (ap (position (is_row_of guest)) c.as_slice.ensures.value) ∙ sym c.in_ok-place.ensures in
    let found : find (is_for guest) ts ≡ Some (transfer_of folder row) =
    rows_some guest folder rows c.in_ok-place.place row there ∙ ap (λ (r : Row). Some (transfer_of folder r)) (sym c.index.ensures) in
    let here : (now : ℕ) → acknowledged now block (find (is_for guest) ts) ts ≡ leaves ts =
    λ now. ap (λ (o : Option Transfer). acknowledged now block o ts) found ∙ not_awaited now block (transfer_of folder row) ts c.if-index-block.true in
    subst (λ (s : Serving). TakesAcknowledged guest block s s None) c.self.view_is (refl, here)

-- what is left
left : (c : goal.After-remove) → transfers_of (option_map (λ f. f.bytes) c.self.inside.folder) c.remove.new.self.items ≡ without c.args.guest
    (transfers_of (option_map (λ f. f.bytes) c.self.inside.folder) c.self.inside.rows.items)
left c =
    let folder = option_map (λ f. f.bytes) c.self.inside.folder in
    ap (transfers_of folder) c.remove.ensures.items ∙ taken_out c.args.guest folder c.self.inside.rows.items c.in_ok-place.place c.remove.result
    (sym (ap (position (is_row_of c.args.guest)) c.as_slice.ensures.value) ∙ sym c.in_ok-place.ensures) c.self.invariant.2

pub invariant_of-self : goal.invariant_of-self
invariant_of-self c =
    let folder = option_map (λ f. f.bytes) c.self.inside.folder in
    let test : Transfer → Bool = λ t. not (is_for c.args.guest t) in (
      omega (arith, c.remove.ensures.len, c.self.invariant.0),
      omega (arith, c.remove.ensures.capacity, c.self.invariant.1),
      subst AreApart (sym (left c)) (apart_filter test (transfers_of folder c.self.inside.rows.items) c.self.invariant.2),
    )

pub returns : goal.returns
returns c =
    let guest = c.args.guest in
    let block = c.args.block in
    let vhost = c.self.inside.vhost.0 in
    let folder = option_map (λ f. f.bytes) c.self.inside.folder in
    let rows = c.self.inside.rows.items in
    let ts = transfers_of folder rows in
    let row = c.remove.result in
    let place = c.in_ok-place.place in
    let there = sym (ap (position (is_row_of guest)) c.as_slice.ensures.value) ∙ sym c.in_ok-place.ensures in
    let at : row ≡ get_or rows place row = c.remove.ensures.value in
    let seen : c.index.result.now ≡ row = c.index.ensures ∙ any_past rows place c.index.result.now row (position_some (is_row_of guest) rows place there).within ∙ sym at in
    let number : row.block % 65536 ≡ block = ap (λ (r : Row). r.block % 65536) (sym seen) ∙ c.if-index-block.false in
    let for : row.guest ≡ guest = ap (λ (r : Row). r.guest) at ∙ guest_of guest rows place row there in
    let found : find (is_for guest) ts ≡ Some (transfer_of folder row) = rows_some guest folder rows place row there ∙ ap (λ (r : Row). Some (transfer_of folder r)) (sym at) in
    let new : Serving = record { vhost = vhost; folder = folder; transfers = transfers_of folder c.remove.new.self.items } in
    let few : length (transfers_of folder c.remove.new.self.items) < 20 = omega (
      arith,
      length-map c.remove.new.self.items (transfer_of folder),
      c.remove.ensures.len,
      c.self.invariant.0,
      c.remove.new.self.ok.0,
    ) in
    subst (λ (s : Serving). IsTakenOut guest block s new row) c.self.view_is
    (record {
      list = ap (λ (l : List Transfer). let s : Serving = record { vhost = vhost; folder = folder; transfers = l } in s) (left c);
      comes = λ now. ap (λ (o : Option Transfer). acknowledged now block o ts) found ∙ awaited now block guest (transfer_of folder row) ts number for;
      guest_is = for;
      none = ap (find (is_for guest)) (left c) ∙ none_without guest ts;
      room = few;
    })
