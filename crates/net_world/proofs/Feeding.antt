-- Listeners that waited are ready again, one place after the other.
use Rattle.std.proofs.Common.{◌≡◌, ℕ, zero, suc, ◌<◌, ◌+◌, ◌||◌, Bool, true, false, List, [], ◌∷◌, length, get_or, Option, Some, None, inl, inr, refl, sym, ap, ◌∙◌, arith, ◌⊎◌}
use Rattle.std.proofs.lemmas.Bool.{cases_eq}
use Rattle.net_world.specs.declared.slot.Slot.{Slot}
use Rattle.net_world.specs.declared.sockets.Place.{Place}
use Rattle.net_world.specs.Tables.{number_of, slot_at, fed, fed_at, place_at, ArePlaced, IsKnownStarved, OthersStay}

same_default : {X : Type 0} (xs : List X) (i : ℕ) (d e : X) → i < length xs → get_or xs i d ≡ get_or xs i e
same_default [] i d e below = absurd (omega arith)
same_default (x ∷ xs) zero d e below = refl
same_default (x ∷ xs) (suc i) d e below = same_default xs i d e (omega arith)

or_false : (b : Bool) → (b || false) ≡ b
or_false true = refl
or_false false = refl

module _ {S : Type 0} where
  fed_twice : (slot : Option (Slot S)) → fed_at (fed_at slot) ≡ fed_at slot
  fed_twice None = refl
  fed_twice (Some slot) =
      ap (λ (read : Bool). Some (record slot { ready = record slot.ready { read = read }; starved = false })) (or_false (slot.ready.read || slot.starved))

  -- those at the first places are, and the others stay
  abbrev pub IsFedTo : (start now : List (Option (Slot S))) → List Place → ℕ → Type 0
  IsFedTo start now places index = (key : ℕ) → (slot_at now key ≡ fed_at (slot_at start key))
      ⊎ ((slot_at now key ≡ slot_at start key) × ((k : ℕ) (d : Place) → k < index → (get_or places k d).key ≡ key → ⊥))

  pub fed_none : (start : List (Option (Slot S))) (places : List Place) → IsFedTo start start places 0
  fed_none start places key = inr (refl, λ k d low same. absurd (omega arith))

  pub fed_more : (start now new : List (Option (Slot S))) (places : List Place) (index : ℕ) (p : Place) → IsFedTo start now places index → index < length places
      → p ≡ get_or places index p → slot_at new p.key ≡ fed_at (slot_at now p.key) → OthersStay now new p.key → IsFedTo start new places (index + 1)
  fed_more start now new places index p before below here does others key = elim (cases_eq key p.key) [
    | inl same ↦
        let at : slot_at new key ≡ fed_at (slot_at now key) = ap (λ (k : ℕ). slot_at new k) same ∙ does ∙ ap (λ (k : ℕ). fed_at (slot_at now k)) (sym same) in
        elim (before key) [
          | inl done ↦ inl (at ∙ ap fed_at done ∙ fed_twice (slot_at start key))
          | inr not ↦ inl (at ∙ ap fed_at not.0)
        ]
    | inr other ↦
        elim (before key) [
          | inl done ↦ inl (others key other ∙ done)
          | inr not ↦
              inr (
                others key other ∙ not.0,
                λ k d low same. elim (cases_eq k index) [
                  | inl is ↦
                      other (sym same ∙ ap (λ (q : Place). q.key) (ap (λ (i : ℕ). get_or places i d) is ∙ same_default places index d p below ∙ sym here))
                  | inr less ↦ not.1 k d (omega (arith, low, less)) same
                ],
              )
        ]
  ]

  fed_all_at : (start now : List (Option (Slot S))) (places : List Place) (key : ℕ) (slot : Option (Slot S)) → slot_at start key ≡ slot → ArePlaced start places
      → (slot_at now key ≡ slot_at start key) × ((k : ℕ) (d : Place) → k < length places → (get_or places k d).key ≡ key → ⊥) → slot_at now key ≡ fed_at (slot_at start key)
  fed_all_at start now places key None is placed not = not.0 ∙ is ∙ ap fed_at (sym is)
  fed_all_at start now places key (Some slot) is placed not =
      let c = placed.placed key slot is in
      absurd (not.1 c.0 (place_at (number_of slot.of) key) c.1 (ap (λ (p : Place). p.key) c.2))

  pub fed_all : (start now : List (Option (Slot S))) (places : List Place) → ArePlaced start places → IsFedTo start now places (length places)
      → (key : ℕ) → slot_at now key ≡ fed_at (slot_at start key)
  fed_all start now places placed all key = elim (all key) [ inl done ↦ done | inr not ↦ fed_all_at start now places key (slot_at start key) refl placed not ]

  pub fed_more_at : (start now new : List (Option (Slot S))) (places : List Place) (index : ℕ) (d : Place) → IsFedTo start now places index → index < length places
      → slot_at new (get_or places index d).key ≡ fed_at (slot_at now (get_or places index d).key) → OthersStay now new (get_or places index d).key → IsFedTo start new places (index + 1)
  fed_more_at start now new places index d before below does others =
      fed_more start now new places index (get_or places index d) before below (same_default places index d (get_or places index d) below) does others

  pub unfed : (slot : Slot S) → slot.starved ≡ false → fed slot ≡ slot
  unfed slot not =
      ap (λ (b : Bool). record slot { ready = record slot.ready { read = slot.ready.read || b }; starved = false }) not
      ∙ ap (λ (read : Bool). record slot { ready = record slot.ready { read = read }; starved = false }) (or_false slot.ready.read)
      ∙ ap (λ (b : Bool). record slot { starved = b }) (sym not)

  was_fed_at : (was : Option (Slot S)) (slot : Slot S) → fed_at was ≡ Some slot → (its : Slot S) × (was ≡ Some its) × (fed its ≡ slot)
  was_fed_at None slot is = cc
  was_fed_at (Some its) slot is = (its, refl, cc)

  -- what was fed was there before, of the same, and waits no more
  pub was_fed : (old new : List (Option (Slot S))) → ((key : ℕ) → slot_at new key ≡ fed_at (slot_at old key)) → (key : ℕ) (slot : Slot S) → slot_at new key ≡ Some slot
      → (its : Slot S) × (slot_at old key ≡ Some its) × (slot.of ≡ its.of) × (slot.starved ≡ false)
  was_fed old new all key slot here =
      let w = was_fed_at (slot_at old key) slot (sym (all key) ∙ here) in
      (w.0, w.1, ap (λ (s : Slot S). s.of) (sym w.2), ap (λ (s : Slot S). s.starved) (sym w.2))

  unfed_at : (slots : List (Option (Slot S))) (key : ℕ) (slot : Option (Slot S)) → slot_at slots key ≡ slot → IsKnownStarved slots false → slot ≡ fed_at slot
  unfed_at slots key None is known = refl
  unfed_at slots key (Some slot) is known = sym (ap (λ (s : Slot S). Some s) (unfed slot (not_true slot.starved (λ starved. known key slot is starved))))
    where
      not_true : (b : Bool) → (b ≡ true → false ≡ true) → b ≡ false
      not_true true clash = sym (clash refl)
      not_true false clash = refl

  -- where none waits all stays
  pub none_fed : (slots : List (Option (Slot S))) (flag : Bool) → IsKnownStarved slots flag → flag ≡ false → (key : ℕ) → slot_at slots key ≡ fed_at (slot_at slots key)
  none_fed slots flag known not key = unfed_at slots key (slot_at slots key) refl (λ k slot here starved. sym not ∙ known k slot here starved)
