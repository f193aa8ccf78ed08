-- A socket was used, as the list finds it among the numbers that rise and puts its row anew.
use Rattle.std.proofs.Common.{◌≡◌, ◌<◌, ℕ, List, [], ◌∷◌, ◌++◌, Some, None, length, get_or, set, min, refl, sym, ◌∙◌, ap, subst}
use Rattle.idle_sockets.specs.Sockets.{moved_last}
use Rattle.idle_sockets.specs.Numbers.{gone, times, IsPlace}
use Rattle.idle_sockets.specs.Rows.{in_order, key_of, AreRows, AreKeys, IsSmall}
use Rattle.idle_sockets.specs.declared.IdleSocket.{IdleSocket}
use Rattle.idle_sockets.proofs.Changing.{ordered_once, used_keeps, used_last}
use Rattle.idle_sockets.proofs.Keeping.{nobody, unmoved}

module _ (rows : List IdleSocket) (rising order keys owners : List ℕ) (since : ℕ) (are : AreRows rows rising order since) (keyed : AreKeys rows keys owners)
    (number : ℕ) (seen : List ℕ) (is_seen : seen ≡ rising) where
  -- there is none of this number
  pub none_used : (change : IdleSocket → IdleSocket) (list : List IdleSocket) → in_order rows order ≡ list → IsPlace number seen None → list ≡ moved_last change number list
  none_used change list shown none =
      let nowhere = are.same number ∙ ap (times number) (sym is_seen) ∙ none in
      sym shown ∙ sym (unmoved change number rows order nowhere) ∙ ap (moved_last change number) shown

  -- there is one, at this place
  module _ (place : ℕ) (found : IsPlace number seen (Some place)) where
    few : place < length rising
    few = subst (λ l. place < length l) is_seen found.0

    here : get_or rising place 0 ≡ number
    here = sym (ap (λ l. get_or l place 0) is_seen) ∙ found.1

    pub may_be_last : times number order ≡ 1
    may_be_last = ordered_once rows rising order keys owners since are keyed number place nobody few here

    -- its row was changed and put back, and its number made the last
    module _ (change : IdleSocket → IdleSocket) (now : ℕ) (same_number : (a : IdleSocket) → (change a).number ≡ a.number) (same_key : (a : IdleSocket) → key_of (change a) ≡ key_of a)
        (still_small : (a : IdleSocket) → IsSmall a → IsSmall (change a))
        (used : (a : IdleSocket) → (change a).used ≡ now) (new_rows seen_rows : List IdleSocket) (rows_seen : seen_rows ≡ rows)
        (put : new_rows ≡ set rows place (change (get_or seen_rows place nobody)))
        (new_order : List ℕ) (last : new_order ≡ gone number order ++ (number ∷ [])) where
      abbrev was : IdleSocket
      was = get_or rows place nobody

      put_back : new_rows ≡ set rows place (change was)
      put_back = subst (λ l. new_rows ≡ set rows place (change (get_or l place nobody))) rows_seen put

      pub keeps_rows : (new_since : ℕ) → new_since ≡ min since now → AreRows new_rows rising new_order new_since × AreKeys new_rows keys owners
      keeps_rows new_since least =
          used_keeps rows rising order keys owners since are keyed number place nobody few here change (change was) now refl (same_number was) (same_key was) (still_small was)
          (used was) new_rows new_order new_since put_back last least

      pub is_last : (list : List IdleSocket) → in_order rows order ≡ list → in_order new_rows new_order ≡ moved_last change number list
      is_last list shown =
          used_last rows rising order keys owners since are keyed number place nobody few here change (change was) now refl (same_number was) (same_key was) (still_small was)
          (used was) new_rows new_order put_back last
          ∙ ap (moved_last change number) shown
