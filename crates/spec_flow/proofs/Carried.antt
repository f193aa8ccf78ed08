-- Whatever the guest does: each octet that was written came at its number.
use Rattle.std.proofs.Common.{refl, ◌≡◌, ℕ, zero, suc, ◌+◌, ◌^◌, ◌%◌, List, [], ◌∷◌, ◌++◌, take, Option, None, Some, is_some, slice_get, ◌⊎◌, inl, inr, sym, ap, ◌∙◌, Bool, true, false, if◌then◌else◌}
use Rattle.std.specs.Option.{option_or, option_map}
use Rattle.seq_space.specs.Places.{number_of}
use Rattle.spec_flow.specs.Settings.{Settings}
use Rattle.spec_flow.specs.Event.{Segment, Connects, Arrives, Departs, Writes, WriteFails, EndsHost, EndFails, At, Story, IsStory}
use Rattle.spec_flow.specs.Guest.{Up, Known, Came, Acked, Wrote, Ended, Brought, first_of, written}
use Rattle.spec_flow.specs.Flow.{guest, their_syn, their_number, is_closed, is_plain, is_heeded, greets, acknowledges, push}
use Rattle.spec_flow.specs.Lawful.{AtPlaces, IsLawful}
use Rattle.spec_flow.specs.Said.{CameAt}
use Rattle.spec_flow.proofs.Lists.{slice_get_take}
use Rattle.spec_flow.proofs.GuestLaws.{arrived, departed}
use Rattle.spec_flow.proofs.Sides.{their_first}
use Rattle.spec_flow.proofs.Grows.{their_number_stays}
use Rattle.spec_flow.proofs.Scaled.{OpensOnce, opens_once}

-- ---- on the guest's stream

abbrev pub WroteWhatWasBrought : List Up → Type 0
WroteWhatWasBrought [] = Unit {0}
WroteWhatWasBrought (Wrote xs n ∷ past) = AtPlaces (Brought past) (written past ++ xs) × WroteWhatWasBrought past
WroteWhatWasBrought (_ ∷ past) = WroteWhatWasBrought past

wrote : (s : Settings) (story : Story) → IsLawful s story → WroteWhatWasBrought (guest story)
wrote s [] l = tt
wrote s (At m (Connects ours syn) ∷ past) l = wrote s past l.1
wrote s (At m (Arrives seg) ∷ past) l = arrived WroteWhatWasBrought m past seg (wrote s past l.1) (wrote s past l.1) (wrote s past l.1)
wrote s (At m (Departs seg) ∷ past) l = departed WroteWhatWasBrought (guest past) seg.acknowledgement _ (wrote s past l.1) (λ is. wrote s past l.1)
wrote s (At m (Writes xs n) ∷ past) l = (l.0.writes_what_came, wrote s past l.1)
wrote s (At m (WriteFails xs) ∷ past) l = (l.0.writes_what_came, wrote s past l.1)
wrote s (At m _ ∷ past) l = wrote s past l.1

-- what is in a list and the first of another is in both
taken_reads : (ws xs : List ℕ) (n i x : ℕ) → slice_get (ws ++ take n xs) i ≡ Some x → slice_get (ws ++ xs) i ≡ Some x
taken_reads [] xs n i x at = slice_get_take n xs i x at
taken_reads (a ∷ ws) xs n zero x at = at
taken_reads (a ∷ ws) xs n (suc i) x at = taken_reads ws xs n i x at

written_brought : (past : List Up) → WroteWhatWasBrought past → AtPlaces (Brought past) (written past)
written_brought [] w i x at = absurd cc
written_brought (Wrote xs n ∷ past) w i x at = w.0 i x (taken_reads (written past) xs n i x at)
written_brought (Came n xs fin heeded ∷ past) w i x at = inr (written_brought past w i x at)
written_brought (Known f ∷ past) w i x at = written_brought past w i x at
written_brought (Acked n ∷ past) w i x at = written_brought past w i x at
written_brought (Ended ∷ past) w i x at = written_brought past w i x at

-- Each octet that was written came at the number that stands for its place.
pub written_was_brought : (s : Settings) (story : Story) → IsLawful s story → AtPlaces (Brought (guest story)) (written (guest story))
written_was_brought s story l = written_brought (guest story) (wrote s story l)

-- ---- on the story

-- an arrival brings the octet, when the guest's number is known, or it came before
brought_by : (n i x : ℕ) (xs : List ℕ) (fin heeded c k d g : Bool) (past : List Up)
    → Brought (push (if c then None else (if k then (if d then Some (Came n xs fin heeded) else None) else (if g then Some (Known n) else None))) past) i x
    → ((k ≡ true) × ((j : ℕ) × (slice_get xs j ≡ Some x) × ((n + j) % 2 ^ 32 ≡ number_of (first_of past) i))) ⊎ Brought past i x
brought_by n i x xs fin heeded true k d g past b = inr b
brought_by n i x xs fin heeded false true true g past (inl here) = inl (refl, here)
brought_by n i x xs fin heeded false true true g past (inr b) = inr b
brought_by n i x xs fin heeded false true false g past b = inr b
brought_by n i x xs fin heeded false false d true past b = inr b
brought_by n i x xs fin heeded false false d false past b = inr b

departs_by : (n i x : ℕ) (b : Bool) (past : List Up) → Brought (push (if b then Some (Acked n) else None) past) i x → Brought past i x
departs_by n i x true past b = b
departs_by n i x false past b = b

arrival : (m : ℕ) (past : Story) (seg : Segment) (i x : ℕ) → Brought (guest (At m (Arrives seg) ∷ past)) i x
    → ((is_some (their_number past) ≡ true) × ((j : ℕ) × (slice_get seg.octets j ≡ Some x) × ((seg.number + j) % 2 ^ 32 ≡ number_of (first_of (guest past)) i))) ⊎ Brought (guest past) i x
arrival m past seg i x b = brought_by seg.number i x seg.octets seg.fin (is_heeded past seg) (is_closed past) (is_some (their_number past)) (is_plain seg) (greets past seg) (guest past) b

not_known : (o p : Option Segment) → is_some (option_map (λ (seg : Segment). seg.number) (option_or o p)) ≡ false → is_some (option_map (λ (seg : Segment). seg.number) o) ≡ false
not_known None p is = refl
not_known (Some seg) p is = absurd cc

not_both : {C : Type 0} (b : Bool) → b ≡ true → b ≡ false → C
not_both true is isnt = absurd cc
not_both false is isnt = absurd cc

-- before the guest's number is known nothing is brought
unknown_brings : (story : Story) (i x : ℕ) → is_some (their_number story) ≡ false → Brought (guest story) i x → ⊥
unknown_brings [] i x is b = b
unknown_brings (At m (Connects ours syn) ∷ past) i x is b = absurd cc
unknown_brings (At m (Arrives seg) ∷ past) i x is b =
    let before : is_some (their_number past) ≡ false = not_known (their_syn past) (if greets past seg then Some seg else None) is in
    elim (arrival m past seg i x b) [ inl here ↦ not_both (is_some (their_number past)) here.0 before | inr older ↦ unknown_brings past i x before older ]
unknown_brings (At m (Departs seg) ∷ past) i x is b = unknown_brings past i x is (departs_by seg.acknowledgement i x (acknowledges past seg) (guest past) b)
unknown_brings (At m (Writes xs n) ∷ past) i x is b = unknown_brings past i x is b
unknown_brings (At m (WriteFails xs) ∷ past) i x is b = unknown_brings past i x is b
unknown_brings (At m EndsHost ∷ past) i x is b = unknown_brings past i x is b
unknown_brings (At m EndFails ∷ past) i x is b = unknown_brings past i x is b
unknown_brings (At m _ ∷ past) i x is b = unknown_brings past i x is b

known_is : (o : Option ℕ) → is_some o ≡ true → (f : ℕ) × (o ≡ Some f)
known_is None is = absurd cc
known_is (Some f) is = (f, refl)

same_some : (a b : ℕ) (o : Option ℕ) → o ≡ Some a → o ≡ Some b → a ≡ b
same_some a b o p q = let is : Some a ≡ Some b = sym p ∙ q in cc

nothing : (past : Story) (i x : ℕ) → past ≡ [] → Brought (guest past) i x → ⊥
nothing [] i x is b = b
nothing (_ ∷ past) i x is b = absurd cc

by_known : {C : Type 0} (o : Option ℕ) → ((f : ℕ) → o ≡ Some f → C) → (is_some o ≡ false → C) → C
by_known None f g = g refl
by_known (Some n) f g = f n refl

came_at : (story : Story) (f i x : ℕ) → OpensOnce story → their_number story ≡ Some f → Brought (guest story) i x → CameAt story (number_of f i) x
came_at [] f i x once is b = absurd b
came_at (At m (Connects ours syn) ∷ past) f i x once is b = absurd (nothing past i x once b)
came_at (At m (Arrives seg) ∷ past) f i x once is b =
    elim (arrival m past seg i x b) [
      | inl (known, here) ↦
          let k = known_is (their_number past) known in
          let same = same_some k.0 f (their_number (At m (Arrives seg) ∷ past)) (their_number_stays m seg past k.0 k.1) is in
          let first : first_of (guest past) ≡ f = their_first past k.0 k.1 ∙ same in
          inl (here.0, here.1, here.2 ∙ ap (λ (g : ℕ). number_of g i) first)
      | inr older ↦ inr (by_known (their_number past)
          (λ g before. came_at past f i x once (before ∙ ap (λ (n : ℕ). Some n) (same_some g f (their_number (At m (Arrives seg) ∷ past)) (their_number_stays m seg past g before) is)) older)
          (λ none. absurd (unknown_brings past i x none older)))
    ]
came_at (At m (Departs seg) ∷ past) f i x once is b = came_at past f i x once is (departs_by seg.acknowledgement i x (acknowledges past seg) (guest past) b)
came_at (At m (Writes xs n) ∷ past) f i x once is b = came_at past f i x once is b
came_at (At m (WriteFails xs) ∷ past) f i x once is b = came_at past f i x once is b
came_at (At m EndsHost ∷ past) f i x once is b = came_at past f i x once is b
came_at (At m EndFails ∷ past) f i x once is b = came_at past f i x once is b
came_at (At m _ ∷ past) f i x once is b = came_at past f i x once is b

written_known : (s : Settings) (story : Story) (i x : ℕ) → IsLawful s story → slice_get (written (guest story)) i ≡ Some x → (f : ℕ) × (their_number story ≡ Some f)
written_known s story i x l at =
    by_known (their_number story) (λ f is. (f, is)) (λ none. absurd (unknown_brings story i x none (written_was_brought s story l i x at)))

-- A written octet came in a segment of the flow, at the number that stands for its place after the guest's SYN.
pub written_came : (s : Settings) (story : Story) → IsStory story → IsLawful s story → (i x : ℕ) → slice_get (written (guest story)) i ≡ Some x
    → (f : ℕ) × (their_number story ≡ Some f) × CameAt story (number_of f i) x
written_came s story is l i x at =
    let k = written_known s story i x l at in
    (k.0, k.1, came_at story k.0 i x (opens_once story is) k.1 (written_was_brought s story l i x at))
