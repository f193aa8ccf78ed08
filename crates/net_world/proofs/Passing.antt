-- What the calls of a trace keep together.
use Rattle.std.proofs.Common.{◌≡◌, ℕ, Bool, true, false, cond, List, [], ◌∷◌, ◌++◌, Option, None, Some, refl, ap, sym, subst, ◌∙◌, append_assoc}
use Rattle.world_face.specs.Journal.{Entry}
use Rattle.guest_link.specs.Keeping.{HandsOn, SendsOn}
use Rattle.guest_link.specs.Passing.{Passing}
use Rattle.net_world.specs.Recording.{written, written_by, handed, handed_by, AllPass}
use Rattle.guest_link.proofs.Joining.{sends_both, hands_both, sends_nothing, hands_nothing}

-- Once what is written doesn't go out nothing does that is put.
closed : (entries : List Entry) (first last : Passing) → AllPass first entries last → first.goes_out ≡ false
    → SendsOn first.taken last.taken first.waits last.waits [] × (last.goes_out ≡ false)
closed [] first last same shut = rw same (sends_nothing first.taken first.waits, shut)
closed (entry ∷ entries) first last (next, passes, rest) shut =
    let still : next.goes_out ≡ false = stays next.goes_out first.goes_out passes.shut shut in
    let one : SendsOn first.taken next.taken first.waits next.waits [] = subst (λ (b : Bool). SendsOn first.taken next.taken first.waits next.waits (cond b (written_by entry) [])) shut passes.sends in
    let all = closed entries next last rest still in
    (sends_both first.taken next.taken last.taken first.waits next.waits last.waits [] [] one all.0, all.1)
  where
    stays : (new old : Bool) → (new ≡ true → old ≡ true) → old ≡ false → new ≡ false
    stays true old was not = cc (was refl)
    stays false old was not = refl

-- What the stream got, and behind it what waits, is what the first calls put; all of them, where what is written goes out at the end.
abbrev pub GoesOut : List Entry → Passing → Passing → Type 0
GoesOut entries first last = (before after : List Entry) × (entries ≡ before ++ after) × SendsOn first.taken last.taken first.waits last.waits (written before)
    × (last.goes_out ≡ true → after ≡ [])

pub all_go_out : (entries : List Entry) (first last : Passing) → AllPass first entries last → GoesOut entries first last
all_go_out [] first last same = rw same ([], [], refl, sends_nothing first.taken first.waits, λ goes. refl)
all_go_out (entry ∷ entries) first last (next, passes, rest) = by first.goes_out refl (all_go_out entries next last rest)
  where
    by : (b : Bool) → first.goes_out ≡ b → GoesOut entries next last → GoesOut (entry ∷ entries) first last
    by true goes (before, after, parts, sends, whole) = (
      entry ∷ before,
      after,
      ap (λ (l : List Entry). entry ∷ l) parts,
      sends_both first.taken next.taken last.taken first.waits next.waits last.waits (written_by entry) (written before)
          (subst (λ (b : Bool). SendsOn first.taken next.taken first.waits next.waits (cond b (written_by entry) [])) goes passes.sends) sends,
      whole,
    )
    by false shut rest_goes =
        let all = closed (entry ∷ entries) first last (next, passes, rest) shut in
        ([], entry ∷ entries, refl, all.0, λ goes. cc all.1)

pub all_come_in : (entries : List Entry) (first last : Passing) → AllPass first entries last → HandsOn first.left last.left first.ahead last.ahead (handed entries)
all_come_in [] first last same = rw same (hands_nothing first.left first.ahead)
all_come_in (entry ∷ entries) first last (next, passes, rest) =
    hands_both first.left next.left last.left first.ahead next.ahead last.ahead (handed_by entry) (handed entries) passes.hands (all_come_in entries next last rest)

-- from the beginning, where nothing waits and nothing is ahead
pub record_goes_out : (entries : List Entry) (first last : Passing) → first.taken ≡ Some [] → first.waits ≡ [] → AllPass first entries last
    → (got : List ℕ) × (before after : List Entry) × (last.taken ≡ Some got) × (entries ≡ before ++ after) × (got ++ last.waits ≡ written before) × (last.goes_out ≡ true → after ≡ [])
record_goes_out entries first last none empty all = by last.taken refl (all_go_out entries first last all)
  where
    by : (t : Option (List ℕ)) → last.taken ≡ t → GoesOut entries first last
        → (got : List ℕ) × (before after : List Entry) × (last.taken ≡ Some got) × (entries ≡ before ++ after) × (got ++ last.waits ≡ written before) × (last.goes_out ≡ true → after ≡ [])
    by None is (before, after, parts, sends, whole) =
        let on : SendsOn (Some []) None [] last.waits (written before) = subst (λ (t : Option (List ℕ)). SendsOn (Some []) t [] last.waits (written before)) is
        (subst (λ (t : Option (List ℕ)). SendsOn t last.taken [] last.waits (written before)) none (subst (λ (w : List ℕ). SendsOn first.taken last.taken w last.waits (written before)) empty sends)) in
        elim on.1 [ ]
    by (Some got) is (before, after, parts, sends, whole) =
        let on : SendsOn (Some []) (Some got) [] last.waits (written before) = subst (λ (t : Option (List ℕ)). SendsOn (Some []) t [] last.waits (written before)) is
        (subst (λ (t : Option (List ℕ)). SendsOn t last.taken [] last.waits (written before)) none (subst (λ (w : List ℕ). SendsOn first.taken last.taken w last.waits (written before)) empty sends)) in
        (got, before, after, is, parts, ap (λ (l : List ℕ). l ++ last.waits) on.1 ∙ on.2, whole)

pub record_comes_in : (entries : List Entry) (first last : Passing) (gives : List ℕ) → first.left ≡ Some gives → first.ahead ≡ [] → AllPass first entries last
    → (rest : List ℕ) × (last.left ≡ Some rest) × (handed entries ++ (last.ahead ++ rest) ≡ gives)
record_comes_in entries first last gives some empty all = by last.left refl (all_come_in entries first last all)
  where
    by : (t : Option (List ℕ)) → last.left ≡ t → HandsOn first.left last.left first.ahead last.ahead (handed entries)
        → (rest : List ℕ) × (last.left ≡ Some rest) × (handed entries ++ (last.ahead ++ rest) ≡ gives)
    by None is hands =
        let on : HandsOn (Some gives) None [] last.ahead (handed entries) = subst (λ (t : Option (List ℕ)). HandsOn (Some gives) t [] last.ahead (handed entries)) is
        (subst (λ (t : Option (List ℕ)). HandsOn t last.left [] last.ahead (handed entries)) some (subst (λ (w : List ℕ). HandsOn first.left last.left w last.ahead (handed entries)) empty hands)) in
        elim on.1 [ ]
    by (Some rest) is hands =
        let on : HandsOn (Some gives) (Some rest) [] last.ahead (handed entries) = subst (λ (t : Option (List ℕ)). HandsOn (Some gives) t [] last.ahead (handed entries)) is
        (subst (λ (t : Option (List ℕ)). HandsOn t last.left [] last.ahead (handed entries)) some (subst (λ (w : List ℕ). HandsOn first.left last.left w last.ahead (handed entries)) empty hands)) in
        (rest, is, sym (append_assoc (handed entries) last.ahead rest) ∙ ap (λ (l : List ℕ). l ++ rest) on.2 ∙ sym on.1)
