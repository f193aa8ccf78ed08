-- What a use, an opening and a closing make of the rows.
use Rattle.std.proofs.Common.{◌≡◌, ℕ, ◌+◌, ◌<◌, ◌≤◌, ◌==◌, zero, suc, Bool, true, false, All, List, [], ◌∷◌, ◌++◌, length, get_or, set, min, refl, sym, ◌∙◌, ap, subst, arith}
use Rattle.std.specs.List.{insert, remove}
use Rattle.std.proofs.lemmas.List.{get_or-set_same, map-append}
use Rattle.std.proofs.lemmas.List.Sorted.{All-permutation}
use Rattle.idle_sockets.specs.Sockets.{moved_last, number_of, numbers}
use Rattle.idle_sockets.specs.Closing.{without}
use Rattle.idle_sockets.specs.Numbers.{one, times, gone, Rise, IsRoomFor, IsTakenOut}
use Rattle.idle_sockets.specs.Rows.{row, in_order, key_of, keys_of, AreRows, AreKeys, IsSmall}
use Rattle.idle_sockets.specs.declared.IdleSocket.{IdleSocket}
use Rattle.idle_sockets.proofs.Ordering.{equal, others, placed, once, where_it_is, same_place, remove_gone, rise_gone, rise_last, rise_insert, none_yet, times_gone, times_last, times-insert}
use Rattle.idle_sockets.proofs.Ordering.{gone_alike, moved_alike, as_often}
use Rattle.idle_sockets.proofs.Keeping.{row_number, row_at, row_set_other, row_more, row_more_other, row_removed, numbers_in_order, numbers_set, numbers_removed, length_numbers, since_set}
use Rattle.idle_sockets.proofs.Keeping.{since_more, since_removed, same_order, in_order-append, without_in_order, moved_in_order, as_many}
use Rattle.idle_sockets.proofs.Finding.{key_at, key_there, length_keys, keys_insert, keys_remove, same_keys_of, small_more, small_removed, small_row, small_set}

-- the socket with a number, at its place
module _ (rows : List IdleSocket) (rising order keys owners : List ℕ) (since : ℕ) (are : AreRows rows rising order since) (keyed : AreKeys rows keys owners)
    (number place : ℕ) (d : IdleSocket) (few : place < length rising) (here : get_or rising place 0 ≡ number) where
  rise_so : Rise (numbers rows)
  rise_so = subst Rise are.numbers_are are.rise

  pub few_rows : place < length rows
  few_rows = let many = as_many rows rising order since are in omega (arith, many.1, few)

  here_so : get_or (numbers rows) place 0 ≡ number
  here_so = sym (ap (λ l. get_or l place 0) are.numbers_are) ∙ here

  pub its_row : get_or rows place d ≡ row number rows
  its_row = row_at rows place number d rise_so few_rows here_so

  number_is : (get_or rows place d).number ≡ number
  number_is = ap (λ (a : IdleSocket). a.number) its_row ∙ row_number number rows

  rising_once : times number rising ≡ 1
  rising_once = let some = placed number rising place few here in let most = once number rising are.rise in omega (arith, some, most)

  pub ordered_once : times number order ≡ 1
  ordered_once = are.same number ∙ rising_once

  among_owners : 0 < times number owners
  among_owners = let o = keyed.same number in let n = ap (times number) are.numbers_are in omega (arith, o, n, rising_once)

  -- it was used: its row is another one
  module _ (change : IdleSocket → IdleSocket) (b : IdleSocket) (now : ℕ) (is : b ≡ change (get_or rows place d)) (same_number : b.number ≡ (get_or rows place d).number)
      (same_key : key_of b ≡ key_of (get_or rows place d)) (still_small : IsSmall (get_or rows place d) → IsSmall b) (used : b.used ≡ now) where
    abbrev pub new : List IdleSocket
    new = set rows place b

    numbers_stay : numbers new ≡ numbers rows
    numbers_stay = numbers_set rows place b d few_rows (sym same_number)

    row_else : (n : ℕ) → (number ≡ n → ⊥) → row n new ≡ row n rows
    row_else n other = row_set_other rows place n b d few_rows (sym same_number) (λ it. other (sym number_is ∙ sym same_number ∙ it))

    row_now : row number new ≡ b
    row_now =
        let long = sym (length_numbers new) ∙ ap length numbers_stay ∙ length_numbers rows in
        sym (row_at new place number d (subst Rise (sym numbers_stay) rise_so) (omega (arith, long, few_rows)) (ap (λ l. get_or l place 0) numbers_stay ∙ here_so))
        ∙ get_or-set_same rows place b d few_rows

    used_rows : AreRows new rising (gone number order ++ (number ∷ [])) (min since now)
    used_rows = record {
      numbers_are = are.numbers_are ∙ sym numbers_stay;
      rise = are.rise;
      same = λ n. moved_alike number order ordered_once n ∙ are.same n;
      since_then = since_set since now rows place b are.since_then used;
    }

    key_stays : (n : ℕ) → key_of (row n new) ≡ key_of (row n rows)
    key_stays n = by (number == n) refl
      where
        by : (t : Bool) → (number == n) ≡ t → key_of (row n new) ≡ key_of (row n rows)
        by true at = subst (λ m. key_of (row m new) ≡ key_of (row m rows)) (equal number n at) (ap key_of row_now ∙ same_key ∙ ap key_of its_row)
        by false at = ap key_of (row_else n (others number n at))

    used_ports : AreKeys new keys owners
    used_ports = record {
      keys_are = keyed.keys_are ∙ sym (same_keys_of rows new owners (λ n some. key_stays n));
      rise = keyed.rise;
      same = λ n. keyed.same n ∙ ap (times n) (sym numbers_stay);
      small = small_set rows place b
          (still_small (subst IsSmall (sym its_row)
          (small_row number rows (let o = keyed.same number in omega (arith, among_owners, o)) keyed.small))) keyed.small;
    }

    pub used_keeps : (new_rows : List IdleSocket) (new_order : List ℕ) (new_since : ℕ) → new_rows ≡ new → new_order ≡ gone number order ++ (number ∷ []) → new_since ≡ min since now
        → AreRows new_rows rising new_order new_since × AreKeys new_rows keys owners
    used_keeps new_rows new_order new_since rows_are order_is since_is =
        subst (λ s. AreRows new_rows rising new_order s × AreKeys new_rows keys owners) (sym since_is)
        (subst (λ o. AreRows new_rows rising o (min since now) × AreKeys new_rows keys owners) (sym order_is)
        (subst (λ r. AreRows r rising (gone number order ++ (number ∷ [])) (min since now) × AreKeys r keys owners) (sym rows_are) (used_rows, used_ports)))

    pub used_last : (new_rows : List IdleSocket) (new_order : List ℕ) → new_rows ≡ new → new_order ≡ gone number order ++ (number ∷ []) →
        in_order new_rows new_order ≡ moved_last change number (in_order rows order)
    used_last new_rows new_order rows_are order_is =
        ap (λ r. in_order r new_order) rows_are ∙ ap (in_order new) order_is ∙ in_order-append new (gone number order) number
        ∙ ap (λ l. l ++ (row number new ∷ [])) (same_order rows new (gone number order)
        (λ n some. row_else n (λ it. let none = ap (λ m. times m (gone number order)) (sym it) ∙ times_gone number order in omega (arith, some, none))))
        ∙ ap (λ (a : IdleSocket). in_order rows (gone number order) ++ (a ∷ [])) (row_now ∙ is ∙ ap change its_row)
        ∙ sym (moved_in_order change number rows order ordered_once)

  -- it was closed
  pub its_key : 0 < times (key_of (get_or rows place d)) keys
  its_key =
      let there = key_there number rows owners among_owners in
      let same = ap (λ (a : IdleSocket). times (key_of a) keys) its_row in
      let so = ap (times (key_of (row number rows))) keyed.keys_are in
      omega (arith, there, same, so)

  module _ (new_keys new_owners : List ℕ) (taken : IsTakenOut (key_of (get_or rows place d)) keys owners new_keys new_owners) where
    abbrev pub left : List IdleSocket
    left = remove rows place

    numbers_left : numbers left ≡ gone number rising
    numbers_left = numbers_removed rows place few_rows ∙ ap (λ l. remove l place) (sym are.numbers_are) ∙ remove_gone number rising place few here (omega (arith, rising_once))

    row_left : (n : ℕ) → (number ≡ n → ⊥) → row n left ≡ row n rows
    row_left n other = row_removed rows place n few_rows (λ it. other (sym here_so ∙ it))

    closed_rows : AreRows left (remove rising place) (gone number order) since
    closed_rows =
        let out = remove_gone number rising place few here (omega (arith, rising_once)) in
        record {
          numbers_are = out ∙ sym numbers_left;
          rise = subst Rise (sym out) (rise_gone number rising are.rise);
          same = λ n. gone_alike number order rising are.same n ∙ ap (times n) (sym out);
          since_then = since_removed since rows place few_rows are.since_then;
        }

    abbrev pub q : ℕ
    q = taken.place

    few_owners : q < length owners
    few_owners = let long = ap length keyed.keys_are ∙ length_keys rows owners in omega (arith, long, taken.few)

    -- its number stands beside its endpoint
    owner_is : get_or owners q 0 ≡ number
    owner_is =
        let at = where_it_is number owners among_owners in
        let long = ap length keyed.keys_are ∙ length_keys rows owners in
        let its = ap (λ l. get_or l at.0 0) keyed.keys_are ∙ key_at rows owners at.0 number at.1 ∙ ap (λ k. key_of (row k rows)) at.2 in
        let same_at = same_place keys at.0 q keyed.rise (omega (arith, long, at.1)) taken.few (its ∙ sym (taken.here ∙ ap key_of its_row)) in
        defaults owners q 0 number few_owners ∙ ap (λ p. get_or owners p number) (sym same_at) ∙ at.2
      where
        defaults : (xs : List ℕ) (p e f : ℕ) → p < length xs → get_or xs p e ≡ get_or xs p f
        defaults [] p e f in_it = absurd (omega (arith, in_it))
        defaults (m ∷ xs) zero e f in_it = refl
        defaults (m ∷ xs) (suc p) e f in_it = defaults xs p e f (omega (arith, in_it))

    owners_once : times number owners ≤ 1
    owners_once = let o = keyed.same number in let n = ap (times number) are.numbers_are in omega (arith, o, n, rising_once)

    owners_left : new_owners ≡ gone number owners
    owners_left = taken.owners_left ∙ remove_gone number owners q few_owners owner_is owners_once

    keys_left : new_keys ≡ gone (key_of (get_or rows place d)) keys
    keys_left = taken.keys_left ∙ remove_gone (key_of (get_or rows place d)) keys q taken.few taken.here (once (key_of (get_or rows place d)) keys keyed.rise)

    closed_ports : AreKeys left new_keys new_owners
    closed_ports = record {
      keys_are =
          taken.keys_left ∙ ap (λ l. remove l q) keyed.keys_are ∙ sym (keys_remove rows owners q few_owners) ∙ ap (keys_of rows) (sym taken.owners_left)
          ∙ sym (same_keys_of rows left new_owners (λ n some. ap key_of (row_left n (λ it.
          let none = ap (times n) owners_left ∙ ap (λ m. times m (gone number owners)) (sym it) ∙ times_gone number owners in omega (arith, some, none)))));
      rise = subst Rise (sym keys_left) (rise_gone (key_of (get_or rows place d)) keys keyed.rise);
      same = λ n. ap (times n) owners_left ∙ gone_alike number owners rising (λ m. keyed.same m ∙ ap (times m) (sym are.numbers_are)) n ∙ ap (times n) (sym numbers_left);
      small = small_removed rows place few_rows keyed.small;
    }

    pub closed_keeps : (new_rows : List IdleSocket) (new_rising new_order : List ℕ) → new_rows ≡ left → new_rising ≡ remove rising place → new_order ≡ gone number order
        → AreRows new_rows new_rising new_order since × AreKeys new_rows new_keys new_owners
    closed_keeps new_rows new_rising new_order rows_are rising_is order_is =
        subst (λ o. AreRows new_rows new_rising o since × AreKeys new_rows new_keys new_owners) (sym order_is)
        (subst (λ r. AreRows new_rows r (gone number order) since × AreKeys new_rows new_keys new_owners) (sym rising_is)
        (subst (λ r. AreRows r (remove rising place) (gone number order) since × AreKeys r new_keys new_owners) (sym rows_are) (closed_rows, closed_ports)))

    pub closed_without : (new_rows : List IdleSocket) (new_order : List ℕ) → new_rows ≡ left → new_order ≡ gone number order → in_order new_rows new_order ≡ without number_of number (in_order rows order)
    closed_without new_rows new_order rows_are order_is =
        ap (λ r. in_order r new_order) rows_are ∙ ap (in_order left) order_is
        ∙ same_order rows left (gone number order) (λ n some. row_left n (λ it. let none = ap (λ m. times m (gone number order)) (sym it) ∙ times_gone number order in omega (arith, some, none)))
        ∙ sym (without_in_order number rows order)

-- one more
module _ (rows : List IdleSocket) (rising order keys owners : List ℕ) (since : ℕ) (are : AreRows rows rising order since) (keyed : AreKeys rows keys owners)
    (a : IdleSocket) (above : All (λ n. n < a.number) (numbers (in_order rows order))) (small : IsSmall a) where
  abbrev pub more : List IdleSocket
  more = rows ++ (a ∷ [])

  order_above : All (λ n. n < a.number) order
  order_above = subst (λ (l : List ℕ). All (λ n. n < a.number) l) (numbers_in_order rows order) above

  rising_above_all : All (λ n. n < a.number) rising
  rising_above_all = All-permutation (λ (n : ℕ). n < a.number) order rising (as_often order rising are.same) order_above

  numbers_more : numbers more ≡ rising ++ (a.number ∷ [])
  numbers_more = map-append (λ (x : IdleSocket). x.number) rows (a ∷ []) ∙ ap (λ l. l ++ (a.number ∷ [])) (sym are.numbers_are)

  none_rows : times a.number (numbers rows) ≡ 0
  none_rows = ap (times a.number) (sym are.numbers_are) ∙ none_yet a.number rising rising_above_all

  opened_rows : AreRows more (rising ++ (a.number ∷ [])) (order ++ (a.number ∷ [])) (min since a.used)
  opened_rows = record {
    numbers_are = sym numbers_more;
    rise = rise_last a.number rising are.rise rising_above_all;
    same = λ n. times_last n a.number order ∙ ap (λ t. t + one (a.number == n)) (are.same n) ∙ sym (times_last n a.number rising);
    since_then = since_more since rows a are.since_then;
  }

  row_old : (n : ℕ) → (a.number ≡ n → ⊥) → row n more ≡ row n rows
  row_old n other = row_more_other rows a n other

  none_owners : times a.number owners ≡ 0
  none_owners = keyed.same a.number ∙ none_rows

  opened_ports : (p : ℕ) → IsRoomFor (key_of a) keys p → AreKeys more (insert keys p (key_of a)) (insert owners p a.number)
  opened_ports p room = record {
    keys_are = sym (
        keys_insert more owners p a.number
        ∙ ap (λ (x : IdleSocket). insert (keys_of more owners) p (key_of x)) (row_more rows a none_rows)
        ∙ ap (λ l. insert l p (key_of a)) (same_keys_of rows more owners
        (λ n some. ap key_of (row_old n (λ it. let none = ap (λ m. times m owners) (sym it) ∙ none_owners in omega (arith, some, none)))))
        ∙ ap (λ l. insert l p (key_of a)) (sym keyed.keys_are));
    rise = rise_insert keys p (key_of a) room.fits keyed.rise room.below room.above;
    same = λ n.
        let at = times-insert n a.number owners p in
        let behind = ap (times n) numbers_more ∙ times_last n a.number rising in
        let old = keyed.same n ∙ ap (times n) (sym are.numbers_are) in
        omega (arith, at, behind, old);
    small = small_more rows a keyed.small small;
  }

  pub opened_keeps : (p : ℕ) → IsRoomFor (key_of a) keys p → (new_rows : List IdleSocket) (new_rising new_order new_keys new_owners : List ℕ) (new_since : ℕ)
      → new_rows ≡ more → new_rising ≡ rising ++ (a.number ∷ []) → new_order ≡ order ++ (a.number ∷ []) → new_keys ≡ insert keys p (key_of a) →
      new_owners ≡ insert owners p a.number → new_since ≡ min since a.used
      → AreRows new_rows new_rising new_order new_since × AreKeys new_rows new_keys new_owners
  opened_keeps p room new_rows new_rising new_order new_keys new_owners new_since rows_are rising_is order_is keys_are owners_are since_is = (
    subst (λ s. AreRows new_rows new_rising new_order s) (sym since_is)
        (subst (λ o. AreRows new_rows new_rising o (min since a.used)) (sym order_is)
        (subst (λ r. AreRows new_rows r (order ++ (a.number ∷ [])) (min since a.used)) (sym rising_is)
        (subst (λ r. AreRows r (rising ++ (a.number ∷ [])) (order ++ (a.number ∷ [])) (min since a.used)) (sym rows_are) opened_rows))),
    subst (λ o. AreKeys new_rows new_keys o) (sym owners_are)
        (subst (λ k. AreKeys new_rows k (insert owners p a.number)) (sym keys_are)
        (subst (λ r. AreKeys r (insert keys p (key_of a)) (insert owners p a.number)) (sym rows_are) (opened_ports p room))),
  )

  pub opened_last : (new_rows : List IdleSocket) (new_order : List ℕ) → new_rows ≡ more → new_order ≡ order ++ (a.number ∷ []) → in_order new_rows new_order ≡ in_order rows order ++ (a ∷ [])
  opened_last new_rows new_order rows_are order_is =
      ap (λ r. in_order r new_order) rows_are ∙ ap (in_order more) order_is ∙ in_order-append more order a.number
      ∙ ap (λ l. l ++ (row a.number more ∷ [])) (same_order rows more order
      (λ n some. row_old n (λ it. let none = ap (λ m. times m order) (sym it) ∙ none_yet a.number order order_above in omega (arith, some, none))))
      ∙ ap (λ (x : IdleSocket). in_order rows order ++ (x ∷ [])) (row_more rows a none_rows)
