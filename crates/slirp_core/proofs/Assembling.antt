-- A part that is put to those of its datagram, and the datagram that it makes whole.
use Rattle.std.proofs.Common.{◌≡◌, ℕ, ◌%◌, ◌<◌, ◌==◌, ◌&&◌, ◌||◌, not, Bool, true, false, List, length, Option, Some, None, option_map, slice_get, refl, sym, ◌∙◌, ap, subst, arith}
use Rattle.std.proofs.lemmas.Bool.Decides.{nat_tests}
use Rattle.std.specs.List.{remove}
use Rattle.ipv4_head.specs.Ip.{Ip}
use Rattle.ipv4_head.specs.Sets.{Carrying, IsJoined, Key, OfSets, Outcome, UnevenPart, LongPart, Clashes, Waits, Joined, Part, PartSet, is_uneven, is_whole, joined, left_by, outcome}
use Rattle.ipv4_head.specs.Sets.{set_for, sets_after, sets_left, whole_by}
use Rattle.ipv4_head.proofs.Members.{of_after, of_left, of_there}
use Rattle.ipv4_reasm.specs.Answers.{IsWholeAt}
use Rattle.ipv4_reasm.specs.Areas.{Gathered, StandFor}
use Rattle.ipv4_reasm.proofs.Wholes.{joined_is}
use Rattle.slirp_core.specs.Fragments.{Took, assembled_ip}
use Rattle.slirp_core.specs.declared.fragments.Assembled.{Assembled}

-- a part that is even carries octets
even_carries : (p : Part) → is_uneven p ≡ false → 0 < length p.body
even_carries p even = by (length p.body == 0) refl even
  where
    by : (b : Bool) → (length p.body == 0) ≡ b → (b || (p.more && not (length p.body % 8 == 0))) ≡ false → 0 < length p.body
    by true is other = cc
    by false is other = grind (arith, nat_tests, is)

module _ (now : ℕ) (key : Key) (p : Part) (held : List PartSet) (carry : OfSets Carrying held) where
  carried_after : OfSets Carrying (sets_after now key p held)
  carried_after = of_after Carrying now key p held carry (even_carries p)

  carried_left : OfSets Carrying (sets_left now key p held)
  carried_left = of_left Carrying now key p held carry (even_carries p)

  -- where it makes none whole
  abbrev pub IsOther : Outcome → Type 0
  IsOther Joined = ⊥
  IsOther _ = Unit {0}

  stays_by : (o : Outcome) (sets : List PartSet) → IsOther o → left_by o key sets ≡ sets
  stays_by Joined sets other = absurd other
  stays_by UnevenPart sets other = refl
  stays_by LongPart sets other = refl
  stays_by Clashes sets other = refl
  stays_by Waits sets other = refl

  none_by : (o : Outcome) (s : Option PartSet) → IsOther o → None ≡ whole_by o s
  none_by Joined s other = absurd other
  none_by UnevenPart s other = refl
  none_by LongPart s other = refl
  none_by Clashes s other = refl
  none_by Waits s other = refl

  pub took_none : (o : Outcome) (areas : List Gathered) (octets : List ℕ) → o ≡ outcome now key p held → IsOther o → StandFor areas (sets_after now key p held) →
      Took now key p held areas None octets
  took_none o areas octets is other stand =
      let this : IsOther (outcome now key p held) = subst IsOther is other in
      record {
        held_by = record { stand = subst (StandFor areas) (sym (stays_by (outcome now key p held) (sets_after now key p held) this)) stand; carry = carried_left };
        whole = none_by (outcome now key p held) (set_for key (sets_after now key p held)) this;
      }

  -- where it makes one whole
  pub took_whole : (freed : List Gathered) (area : ℕ) (view : Ip) (life : ℕ) (a : Assembled) (octets : List ℕ) → Joined ≡ outcome now key p held → IsWholeAt (sets_after now key p held) key area
      → ((s : PartSet) → slice_get (sets_after now key p held) area ≡ Some s → is_whole s.parts ≡ true → IsJoined s view life) → StandFor freed (remove (sets_after now key p held) area)
      → assembled_ip a octets ≡ record view { more = false; place = 0 } → Took now key p held freed (Some a) octets
  took_whole freed area view life a octets is at joins stand copied =
      let sets = sets_after now key p held in
      let s = at.set.0 in
      let there = at.set.1.0 in
      let view_is : view ≡ joined s = joined_is s view life (joins s there at.set.1.2) (of_there Carrying sets area s there carried_after) in
      let found : set_for key sets ≡ Some s = ap (λ i. slice_get sets i) at.place ∙ there in
      let left_is : sets_left now key p held ≡ remove sets area = ap (λ o. left_by o key sets) (sym is) ∙ ap (λ i. remove sets i) at.place in
      record {
        held_by = record { stand = subst (StandFor freed) (sym left_is) stand; carry = carried_left };
        whole = ap Some (copied ∙ ap (λ (v : Ip). record v { more = false; place = 0 }) view_is) ∙ sym (ap (λ o. whole_by o (set_for key sets)) (sym is) ∙ ap (option_map joined) found);
      }
