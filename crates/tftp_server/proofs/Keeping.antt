-- Rows, and the transfers that they stand for.
use Rattle.std.proofs.Common.{◌≡◌, ℕ, zero, suc, ◌%◌, ◌<◌, ◌&&◌, nat_eq, nat_le, nat_lt, Bool, true, false, cond, List, [], ◌∷◌, ◌++◌, length, map, find, position, take, drop, get_or, set}
use Rattle.std.proofs.Common.{Option, Some, None, option_map, refl, sym, ◌∙◌, ap, subst, arith}
use Rattle.std.proofs.lemmas.Bool.Decides.{nat_tests}
use Rattle.std.proofs.lemmas.List.{get_or-map, length-map, map-append, map-set, take-map}
use Rattle.std.proofs.lemmas.List.Quantifiers.{position-Some}
use Rattle.net_octets.specs.declared.Endpoint.{Endpoint}
use Rattle.slirp_settings.specs.Classes.{same_endpoint}
use Rattle.rules_tftp.specs.Transfers.{Transfer, acknowledged, goes_again, is_for, leaves, seeks_next, sent_again, without}
use Rattle.tftp_server.specs.Rows.{transfer_of, transfers_of}
use Rattle.rules_tftp.specs.Soundness.{AreApart}
use Rattle.tftp_server.specs.declared.row.Row.{Row}
use Rattle.rules_tftp.proofs.Listing.{apart_push, find_map, position_none, position_some, removed, same_is}
use Rattle.rules_tftp.proofs.Naming.{both}

abbrev pub is_row_of : Endpoint → Row → Bool
is_row_of guest r = same_endpoint r.guest guest

abbrev pub is_due_row : ℕ → Row → Bool
is_due_row now r = nat_le r.due now && nat_lt r.again 5

pub rows_none : (guest : Endpoint) (folder : Option (List ℕ)) (rows : List Row) → position (is_row_of guest) rows ≡ None → find (is_for guest) (transfers_of folder rows) ≡ None
rows_none guest folder rows is = find_map (transfer_of folder) (is_for guest) rows ∙ ap (option_map (transfer_of folder)) (position_none (is_row_of guest) rows is)

pub rows_some : (guest : Endpoint) (folder : Option (List ℕ)) (rows : List Row) (i : ℕ) (d : Row) → position (is_row_of guest) rows ≡ Some i
    → find (is_for guest) (transfers_of folder rows) ≡ Some (transfer_of folder (get_or rows i d))
rows_some guest folder rows i d is = find_map (transfer_of folder) (is_for guest) rows ∙ ap (option_map (transfer_of folder)) ((position_some (is_row_of guest) rows i is).first d)

-- ---- acknowledgements

pub not_awaited : (now block : ℕ) (t : Transfer) (ts : List Transfer) → (t.block % 65536 ≡ block → ⊥) → acknowledged now block (Some t) ts ≡ leaves ts
not_awaited now block t ts other =
    let test : nat_eq block (t.block % 65536) ≡ false = differs (t.block % 65536) other in
    ap (λ b. cond b (cond t.is_last (leaves (without t.guest ts)) (seeks_next now t (without t.guest ts))) (leaves ts)) test
  where
    differs : (n : ℕ) → (n ≡ block → ⊥) → nat_eq block n ≡ false
    differs n other = grind (arith, nat_tests)

pub awaited : (now block : ℕ) (guest : Endpoint) (t : Transfer) (ts : List Transfer) → t.block % 65536 ≡ block → t.guest ≡ guest
    → acknowledged now block (Some t) ts ≡ cond t.is_last (leaves (without guest ts)) (seeks_next now t (without guest ts))
awaited now block guest t ts is for =
    let test : nat_eq block (t.block % 65536) ≡ true = same (t.block % 65536) is in
    ap (λ b. cond b (cond t.is_last (leaves (without t.guest ts)) (seeks_next now t (without t.guest ts))) (leaves ts)) test
    ∙ ap (λ (g : Endpoint). cond t.is_last (leaves (without g ts)) (seeks_next now t (without g ts))) for
  where
    same : (n : ℕ) → n ≡ block → nat_eq block n ≡ true
    same n is = grind (arith, nat_tests)

drop_map : (f : Row → Transfer) (n : ℕ) (rows : List Row) → drop n (map f rows) ≡ map f (drop n rows)
drop_map f zero rows = refl
drop_map f (suc n) [] = refl
drop_map f (suc n) (r ∷ rows) = drop_map f n rows

pub guest_of : (guest : Endpoint) (rows : List Row) (i : ℕ) (d : Row) → position (is_row_of guest) rows ≡ Some i → (get_or rows i d).guest ≡ guest
guest_of guest rows i d is = same_is (get_or rows i d).guest guest (position-Some (is_row_of guest) rows i d is).1

-- a row is taken out
pub taken_out : (guest : Endpoint) (folder : Option (List ℕ)) (rows : List Row) (i : ℕ) (d : Row) → position (is_row_of guest) rows ≡ Some i → AreApart (transfers_of folder rows)
    → transfers_of folder (take i rows ++ drop (suc i) rows) ≡ without guest (transfers_of folder rows)
taken_out guest folder rows i d is apart =
    let f = transfer_of folder in
    let there = position-Some (is_row_of guest) rows i d is in
    let within : i < length rows = there.0 in
    let low : i < length (map f rows) = omega (arith, within, length-map rows f) in
    let here : is_for guest (get_or (map f rows) i (f d)) ≡ true = ap (is_for guest) (get_or-map f rows i d (f d) within) ∙ there.1 in
    map-append f (take i rows) (drop (suc i) rows)
    ∙ ap (λ (ts : List Transfer). ts ++ map f (drop (suc i) rows)) (sym (take-map f i rows))
    ∙ ap (λ (ts : List Transfer). take i (map f rows) ++ ts) (sym (drop_map f (suc i) rows))
    ∙ removed guest (map f rows) i (f d) low here apart

-- ---- what goes again

pub is_due_at : (now : ℕ) (rows : List Row) (i : ℕ) (d : Row) → position (is_due_row now) rows ≡ Some i → (get_or rows i d).again < 5
is_due_at now rows i d is = few (get_or rows i d).again (both (nat_le (get_or rows i d).due now) (nat_lt (get_or rows i d).again 5) (position-Some (is_due_row now) rows i d is).1).1
  where
    few : (n : ℕ) → nat_lt n 5 ≡ true → n < 5
    few n is = grind (arith, nat_tests)

pub again_is : (now : ℕ) (folder : Option (List ℕ)) (rows : List Row) (i : ℕ) (d : Row) (e : Transfer) (r : Row) → i < length rows → transfer_of folder r ≡ sent_again now
    (transfer_of folder (get_or rows i d))
    → transfers_of folder (set rows i r) ≡ set (transfers_of folder rows) i (sent_again now (get_or (transfers_of folder rows) i e))
again_is now folder rows i d e r within is =
    map-set (transfer_of folder) rows i r ∙ ap (set (transfers_of folder rows) i) (is ∙ ap (sent_again now) (sym (get_or-map (transfer_of folder) rows i d e within)))

-- ---- one more row

pub apart_pushed : (folder : Option (List ℕ)) (rows more : List Row) (r : Row) (b : Bool) → more ≡ cond b (rows ++ (r ∷ [])) rows → b ≡ true → AreApart (transfers_of folder rows)
    → find (is_for r.guest) (transfers_of folder rows) ≡ None → AreApart (transfers_of folder more)
apart_pushed folder rows more r true is done apart fresh =
    let same : transfers_of folder more ≡ transfers_of folder rows ++ (transfer_of folder r ∷ []) = ap (transfers_of folder) is ∙ map-append (transfer_of folder) rows (r ∷ []) in
    subst AreApart (sym same) (apart_push (transfers_of folder rows) (transfer_of folder r) apart fresh)
apart_pushed folder rows more r false is done apart fresh = cc

pub due_none : (now : ℕ) (folder : Option (List ℕ)) (rows : List Row) → position (is_due_row now) rows ≡ None → find (goes_again now) (transfers_of folder rows) ≡ None
due_none now folder rows is = find_map (transfer_of folder) (goes_again now) rows ∙ ap (option_map (transfer_of folder)) (position_none (is_due_row now) rows is)

pub due_some : (now : ℕ) (folder : Option (List ℕ)) (rows : List Row) (i : ℕ) (d : Row) → position (is_due_row now) rows ≡ Some i
    → find (goes_again now) (transfers_of folder rows) ≡ Some (get_or (transfers_of folder rows) i (transfer_of folder d))
due_some now folder rows i d is =
    let at = position_some (is_due_row now) rows i is in
    find_map (transfer_of folder) (goes_again now) rows ∙ ap (option_map (transfer_of folder)) (at.first d)
    ∙ ap (λ (t : Transfer). Some t) (sym (get_or-map (transfer_of folder) rows i d (transfer_of folder d) at.within))
