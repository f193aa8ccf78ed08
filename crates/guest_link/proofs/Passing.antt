-- What a call on the link keeps together.
use Rattle.std.proofs.Common.{◌≡◌, ℕ, Bool, true, false, cond, List, [], ◌++◌, Option, None, Some, ◌⊎◌, inl, inr, refl, ap, sym, subst, ◌∙◌}
use Rattle.std.proofs.lemmas.List.{append-nil}
use Rattle.std.specs.Io.KnownBytes.{Keeps}
use Rattle.guest_link.specs.Linking.{Linked, is_open}
use Rattle.guest_link.specs.declared.link.Outlet.{Outlet}
use Rattle.host_io.specs.Buffered.{Buffered}
use Rattle.guest_link.specs.Places.{of_guest}
use Rattle.guest_link.specs.declared.place.Place.{Place}
use Rattle.guest_link.specs.declared.place.Place.TheVariants.{Closed, ListensUnix, ListensTcp, Guest}
use Rattle.guest_link.specs.Keeping.{HandsOn, SendsOn}
use Rattle.guest_link.specs.Passing.{Passing, Passes, passing, passing_untold, told_nothing}
use Rattle.guest_link.proofs.Keeping.{sends_kept}
use Rattle.guest_link.proofs.Joining.{sends_both, hands_both, sends_nothing, hands_nothing}

nothing_put : (b : Bool) (old new : Option (List ℕ)) (waited waits : List ℕ) → SendsOn old new waited waits [] → SendsOn old new waited waits (cond b [] [])
nothing_put true old new waited waits sends = sends
nothing_put false old new waited waits sends = sends

-- A call after one that put nothing and handed out nothing: what is written goes out as before, or nothing is put.
pub passes_after : (put out : List ℕ) (first next last : Passing) → Passes [] [] first next → Passes put out next last → (next.goes_out ≡ first.goes_out) ⊎ (put ≡ []) → Passes put out first last
passes_after put out first next last one two goes = record {
  sends = subst (λ (l : List ℕ). SendsOn first.taken last.taken first.waits last.waits l) (same goes)
      (sends_both first.taken next.taken last.taken first.waits next.waits last.waits (cond first.goes_out [] []) (cond next.goes_out put []) one.sends two.sends);
  hands = hands_both first.left next.left last.left first.ahead next.ahead last.ahead [] out one.hands two.hands;
  shut = λ goes-out. one.shut (two.shut goes-out);
}
  where
    none : (b : Bool) → cond {A = List ℕ} b [] [] ≡ []
    none true = refl
    none false = refl

    same : (next.goes_out ≡ first.goes_out) ⊎ (put ≡ []) → cond first.goes_out [] [] ++ cond next.goes_out put [] ≡ cond first.goes_out put []
    same (inl is) = ap (λ (l : List ℕ). l ++ cond next.goes_out put []) (none first.goes_out) ∙ ap (λ (b : Bool). cond b put []) is
    same (inr is) = ap (λ (l : List ℕ). l ++ cond next.goes_out put []) (none first.goes_out) ∙ ap (λ (p : List ℕ). cond next.goes_out p []) is ∙ none next.goes_out
        ∙ sym (ap (λ (p : List ℕ). cond first.goes_out p []) is ∙ none first.goes_out)

-- the same where a call put nothing
pub passes_on : (first next last : Passing) → Passes [] [] first next → Passes [] [] next last → Passes [] [] first last
passes_on first next last one two = passes_after [] [] first next last one two (inr refl)

pub passes_still : (first last : Passing) → last ≡ first → Passes [] [] first last
passes_still first last same = rw same (record {
  sends = nothing_put first.goes_out first.taken first.taken first.waits first.waits (sends_nothing first.taken first.waits);
  hands = hands_nothing first.left first.ahead;
  shut = λ goes-out. goes-out;
})
