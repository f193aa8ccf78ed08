-- The first option of a code, in what is read.
use Rattle.std.proofs.Common.{◌≡◌, ◌⊎◌, inl, inr, ℕ, zero, suc, ◌+◌, ◌-◌, ◌≤◌, ◌==◌, nat_lt, Bool, true, false, ◌||◌, cond, List, [], ◌∷◌, ◌++◌, length, take, drop, get_or, Option, Some}
use Rattle.std.proofs.Common.{None, find, option_map, Result, Ok, Err, is_ok, refl, sym, ◌∙◌, ap, subst, arith, append_assoc, append-nil}
use Rattle.std.proofs.lemmas.Bool.{false≢true}
use Rattle.std.proofs.lemmas.Bool.Decides.{nat_tests}
use Rattle.tlv_table.specs.declared.Form.{Form}
use Rattle.tlv_table.specs.declared.Row.{Row}
use Rattle.tlv_table.specs.declared.TlvFault.{TlvFault}
use Rattle.tlv_table.specs.declared.TlvFault.TheVariants.{Cut, BadLength, NoEnd}
use Rattle.tlv_table.specs.Tables.{row_of}
use Rattle.tlv_table.specs.Reading.{Found, Step, Ends, Goes, head_counted, body_in, judged, ends_or_goes, taken, option_step, step, follow, read_on, found_in, has_code, first_body}
use Rattle.tlv_table.proofs.Walks.{goes_on, fails_in_row}
use Rattle.tlv_table.proofs.Marks.{has_code-push}

pub ok_is : (r : Result (List Found) TlvFault) → is_ok r ≡ true → r ≡ Ok (found_in r)
ok_is (Ok found) is = refl
ok_is (Err fault) is = absurd (false≢true is)

pub not_err : (r : Result (List Found) TlvFault) (fault : TlvFault) → is_ok r ≡ true → r ≡ Err fault → ⊥
not_err r fault is wrong = false≢true (sym (ap is_ok wrong) ∙ is)

or_cases : (a b : Bool) → (a || b) ≡ false → (a ≡ false) × (b ≡ false)
or_cases true b is = cc
or_cases false b is = (refl, is)

-- no option of the code is there
pub none_first : (code : ℕ) (found : List Found) → has_code code found ≡ false → first_body code found ≡ None
none_first code found none = ap (option_map (λ (f : Found). f.body)) (none_found found none)
  where
    none_found : (found : List Found) → has_code code found ≡ false → find (λ (f : Found). f.code == code) found ≡ None
    none_found [] none = refl
    none_found (f ∷ found) none =
        let parts = or_cases (f.code == code) (has_code code found) none in
        ap (λ b. cond b (Some f) (find (λ (f : Found). f.code == code) found)) parts.0 ∙ none_found found parts.1

-- the first one is this
pub this_first : (code : ℕ) (found later : List Found) (new : Found) → has_code code found ≡ false → new.code ≡ code → first_body code ((found ++ new ∷ []) ++ later) ≡ Some new.body
this_first code found later new none is = ap (option_map (λ (f : Found). f.body)) (this_found found none)
  where
    same_eqb : (a b : ℕ) → a ≡ b → (a == b) ≡ true
    same_eqb a b is = grind (arith, nat_tests)

    this_found : (found : List Found) → has_code code found ≡ false → find (λ (f : Found). f.code == code) ((found ++ new ∷ []) ++ later) ≡ Some new
    this_found [] none = ap (λ b. cond b (Some new) (find (λ (f : Found). f.code == code) later)) (same_eqb new.code code is)
    this_found (f ∷ found) none =
        let parts = or_cases (f.code == code) (has_code code found) none in
        ap (λ b. cond b (Some f) (find (λ (f : Found). f.code == code) ((found ++ new ∷ []) ++ later))) parts.0 ∙ this_found found parts.1

-- what an option adds to what is found
pub data Adds (found : List Found) (new : Found) (s : Step) : Type 0 where
  fails : (fault : TlvFault) → s ≡ Ends (Err fault) → Adds found new s
  passes : s ≡ Goes found (1 + length new.body) → Adds found new s
  adds : s ≡ Goes (found ++ new ∷ []) (1 + length new.body) → Adds found new s

pub ends_or_goes_adds : (o : Option TlvFault) (found : List Found) (new : Found) → Adds found new (ends_or_goes o found new)
ends_or_goes_adds None found new = adds refl
ends_or_goes_adds (Some fault) found new = fails fault refl

pub taken_adds : (o : Option Row) (found : List Found) (new : Found) → Adds found new (taken o found new)
taken_adds None found new = passes refl
taken_adds (Some row) found new = ends_or_goes_adds (judged row (has_code new.code found) (length new.body) new.place) found new

-- a step keeps what is found
Keeps : List Found → Step → Type 0
Keeps found (Ends (Ok answer)) = answer ≡ found
Keeps found (Ends (Err fault)) = Unit {0}
Keeps found (Goes more skip) = (later : List Found) × (more ≡ found ++ later)

taken_keeps : (o : Option Row) (found : List Found) (new : Found) → Keeps found (taken o found new)
unfolding Keeps
taken_keeps o found new =
    elim (taken_adds o found new) [
      | fails fault is ↦ subst (Keeps found) (sym is) tt
      | passes is ↦ subst (Keeps found) (sym is) ([], sym (append-nil found))
      | adds is ↦ subst (Keeps found) (sym is) (new ∷ [], refl)
    ]

option_keeps : (rows : List Row) (found : List Found) (code place : ℕ) (b : Result (List ℕ) TlvFault) → Keeps found (option_step rows found code place b)
unfolding Keeps
option_keeps rows found code place (Ok body) = taken_keeps (row_of rows code) found (record { code = code; place = place; body = body })
option_keeps rows found code place (Err fault) = tt

cond_keeps : (b : Bool) (found : List Found) (s t : Step) → Keeps found s → Keeps found t → Keeps found (cond b s t)
cond_keeps true found s t hs ht = hs
cond_keeps false found s t hs ht = ht

step_keeps : (form : Form) (rows : List Row) (found : List Found) (place code : ℕ) (rest : List ℕ) → Keeps found (step form rows found place code rest)
unfolding Keeps
step_keeps form rows found place code rest =
    cond_keeps (code == form.end) found (Ends (Ok found)) (cond (code == form.pad) (Goes found 0) (option_step rows found code place (body_in form place rest))) refl
    (cond_keeps (code == form.pad) found (Goes found 0) (option_step rows found code place (body_in form place rest)) ([], sym (append-nil found))
    (option_keeps rows found code place (body_in form place rest)))

follow_keeps : (found pairs : List Found) (s : Step) (go_on : List Found → ℕ → Result (List Found) TlvFault) → Keeps found s
    → ((more : List Found) (skip : ℕ) → go_on more skip ≡ Ok pairs → (later : List Found) × (pairs ≡ more ++ later))
    → follow s go_on ≡ Ok pairs → (later : List Found) × (pairs ≡ found ++ later)
unfolding Keeps
follow_keeps found pairs (Ends (Ok answer)) go_on keeps then is = ([], sym (append-nil found ∙ sym keeps ∙ same answer pairs is))
  where
    same : (x y : List Found) → ◌≡◌ {A = Result (List Found) TlvFault} (Ok x) (Ok y) → x ≡ y
    same x y e = cc
follow_keeps found pairs (Ends (Err fault)) go_on keeps then is = absurd (wrong is)
  where
    wrong : ◌≡◌ {A = Result (List Found) TlvFault} (Err fault) (Ok pairs) → ⊥
    wrong e = cc
follow_keeps found pairs (Goes more skip) go_on keeps then is =
    let rest = then more skip is in
    (keeps.0 ++ rest.0, rest.1 ∙ ap (λ m. m ++ rest.0) keeps.1 ∙ append_assoc found keeps.0 rest.0)

-- reading on keeps what is found
pub reading_keeps : (form : Form) (rows : List Row) (found pairs : List Found) (place skip : ℕ) (octets : List ℕ) → read_on form rows found place skip octets ≡ Ok pairs →
    (later : List Found) × (pairs ≡ found ++ later)
unfolding read_on
reading_keeps form rows found pairs place skip [] is = ([], sym (append-nil found ∙ at_last form.end_needed is))
  where
    at_last : (b : Bool) → cond b (Err NoEnd) (Ok found) ≡ Ok pairs → found ≡ pairs
    at_last true e = cc
    at_last false e = cc
reading_keeps form rows found pairs place zero (code ∷ rest) is =
    follow_keeps found pairs (step form rows found place code rest) (λ more skip. read_on form rows more (place + 1) skip rest) (step_keeps form rows found place code rest)
    (λ more skip. reading_keeps form rows more pairs (place + 1) skip rest) is
reading_keeps form rows found pairs place (suc skip) (octet ∷ rest) is = reading_keeps form rows found pairs (place + 1) skip rest is

-- a code without a row isn't found
Lacks : ℕ → List Found → Step → Type 0
Lacks code found (Ends (Ok answer)) = has_code code answer ≡ false
Lacks code found (Ends (Err fault)) = Unit {0}
Lacks code found (Goes more skip) = has_code code more ≡ false

cond_lacks : (b : Bool) (code : ℕ) (found : List Found) (s t : Step) → Lacks code found s → Lacks code found t → Lacks code found (cond b s t)
cond_lacks true code found s t hs ht = hs
cond_lacks false code found s t hs ht = ht

taken_lacks : (rows : List Row) (code : ℕ) (found : List Found) (new : Found) → row_of rows code ≡ None → has_code code found ≡ false → Lacks code found (taken (row_of rows new.code) found new)
unfolding Lacks
taken_lacks rows code found new unknown none =
    elim (same_or_other new.code code) [
      | inl same ↦ subst (Lacks code found) (sym (ap (λ k. taken (row_of rows k) found new) same ∙ ap (λ o. taken o found new) unknown)) none
      | inr other ↦
          elim (taken_adds (row_of rows new.code) found new) [
            | fails fault is ↦ subst (Lacks code found) (sym is) tt
            | passes is ↦ subst (Lacks code found) (sym is) none
            | adds is ↦ subst (Lacks code found) (sym is) (has_code-push code found new ∙ both (has_code code found) (new.code == code) none other)
          ]
    ]
  where
    same_or_other : (a b : ℕ) → (a ≡ b) ⊎ ((a == b) ≡ false)
    same_or_other a b = grind (arith, nat_tests)

    both : (a b : Bool) → a ≡ false → b ≡ false → (a || b) ≡ false
    both true b no_a no_b = cc
    both false b no_a no_b = no_b

option_lacks : (rows : List Row) (code : ℕ) (found : List Found) (front place : ℕ) (b : Result (List ℕ) TlvFault) → row_of rows code ≡ None → has_code code found ≡ false →
    Lacks code found (option_step rows found front place b)
unfolding Lacks
option_lacks rows code found front place (Ok body) unknown none = taken_lacks rows code found (record { code = front; place = place; body = body }) unknown none
option_lacks rows code found front place (Err fault) unknown none = tt

follow_lacks : (code : ℕ) (found pairs : List Found) (s : Step) (go_on : List Found → ℕ → Result (List Found) TlvFault) → Lacks code found s
    → ((more : List Found) (skip : ℕ) → has_code code more ≡ false → go_on more skip ≡ Ok pairs → has_code code pairs ≡ false)
    → follow s go_on ≡ Ok pairs → has_code code pairs ≡ false
unfolding Lacks
follow_lacks code found pairs (Ends (Ok answer)) go_on lacks then is = sym (ap (has_code code) (same answer pairs is)) ∙ lacks
  where
    same : (x y : List Found) → ◌≡◌ {A = Result (List Found) TlvFault} (Ok x) (Ok y) → x ≡ y
    same x y e = cc
follow_lacks code found pairs (Ends (Err fault)) go_on lacks then is = absurd (wrong is)
  where
    wrong : ◌≡◌ {A = Result (List Found) TlvFault} (Err fault) (Ok pairs) → ⊥
    wrong e = cc
follow_lacks code found pairs (Goes more skip) go_on lacks then is = then more skip lacks is

pub reading_lacks : (form : Form) (rows : List Row) (code : ℕ) (found pairs : List Found) (place skip : ℕ) (octets : List ℕ) → row_of rows code ≡ None → has_code code found ≡ false
    → read_on form rows found place skip octets ≡ Ok pairs → has_code code pairs ≡ false
unfolding read_on Lacks
reading_lacks form rows code found pairs place skip [] unknown none is = sym (ap (has_code code) (at_last form.end_needed is)) ∙ none
  where
    at_last : (b : Bool) → cond b (Err NoEnd) (Ok found) ≡ Ok pairs → found ≡ pairs
    at_last true e = cc
    at_last false e = cc
reading_lacks form rows code found pairs place zero (front ∷ rest) unknown none is =
    follow_lacks code found pairs (step form rows found place front rest) (λ more skip. read_on form rows more (place + 1) skip rest)
    (cond_lacks (front == form.end) code found (Ends (Ok found)) (cond (front == form.pad) (Goes found 0) (option_step rows found front place (body_in form place rest))) none
    (cond_lacks (front == form.pad) code found (Goes found 0) (option_step rows found front place (body_in form place rest)) none
    (option_lacks rows code found front place (body_in form place rest) unknown none)))
    (λ more skip lacks. reading_lacks form rows code more pairs (place + 1) skip rest unknown lacks) is
reading_lacks form rows code found pairs place (suc skip) (octet ∷ rest) unknown none is = reading_lacks form rows code found pairs (place + 1) skip rest unknown none is

-- a body is the same at every place
pub body_anywhere : (form : Form) (p q : ℕ) (tail body : List ℕ) → body_in form p tail ≡ Ok body → body_in form q tail ≡ Ok body
body_anywhere form p q [] body is = cc
body_anywhere form p q (size ∷ rest) body is =
    moved (nat_lt size (head_counted form)) (nat_lt (length rest) (size - head_counted form)) (take (size - head_counted form) rest) is
  where
    moved : (few less : Bool) (part : List ℕ) → cond few (Err (BadLength p)) (cond less (Err (Cut p)) (Ok part)) ≡ Ok body → cond few (Err (BadLength q)) (cond less (Err (Cut q)) (Ok part)) ≡ Ok body
    moved true less part is = cc
    moved false true part is = cc
    moved false false part is = is

pub no_body_anywhere : (form : Form) (p q : ℕ) (tail : List ℕ) (fault : TlvFault) → body_in form p tail ≡ Err fault → (other : TlvFault) × (body_in form q tail ≡ Err other)
no_body_anywhere form p q [] fault is = (Cut q, refl)
no_body_anywhere form p q (size ∷ rest) fault is =
    moved (nat_lt size (head_counted form)) (nat_lt (length rest) (size - head_counted form)) (take (size - head_counted form) rest) is
  where
    moved : (few less : Bool) (part : List ℕ) → cond few (Err (BadLength p)) (cond less (Err (Cut p)) (Ok part)) ≡ Err fault → (other : TlvFault) ×
        (cond few (Err (BadLength q)) (cond less (Err (Cut q)) (Ok part)) ≡ Err other)
    moved true less part is = (BadLength q, refl)
    moved false true part is = (Cut q, refl)
    moved false false part is = cc

-- the option at the front of octets
abbrev front_option : (place : ℕ) (octets body : List ℕ) → Found
front_option place octets body = record { code = get_or octets 0 0; place = place; body = body }

-- the first option of a code
pub this_is_first : (form : Form) (rows : List Row) (found : List Found) (place : ℕ) (octets body : List ℕ) (code : ℕ) (row : Row) → 1 ≤ length octets
    → (get_or octets 0 0 ≡ form.end → ⊥) → (get_or octets 0 0 ≡ form.pad → ⊥) → body_in form place (drop 1 octets) ≡ Ok body → get_or octets 0 0 ≡ code →
    row_of rows code ≡ Some row → has_code code found ≡ false
    → (r : Result (List Found) TlvFault) → read_on form rows found place 0 octets ≡ r → is_ok r ≡ true → first_body code (found_in r) ≡ Some body
this_is_first form rows found place octets body code row some no_end no_pad is front known none r reads right =
    by_judge (judged row (has_code (get_or octets 0 0) found) (length body) place) refl
  where
    row_is : row_of rows (get_or octets 0 0) ≡ Some row
    row_is = ap (row_of rows) front ∙ known

    by_judge : (o : Option TlvFault) → judged row (has_code (get_or octets 0 0) found) (length body) place ≡ o → first_body code (found_in r) ≡ Some body
    by_judge None judged_is =
        let pairs = found_in r in
        let goes = goes_on form rows found (found ++ (front_option place octets body) ∷ []) place octets body some no_end no_pad is
        (ap (λ o. taken o found (front_option place octets body)) row_is ∙ ap (λ o. ends_or_goes o found (front_option place octets body)) judged_is) in
        let kept = reading_keeps form rows (found ++ (front_option place octets body) ∷ []) pairs (place + 2 + length body) 0 (drop (1 + length body) (drop 1 octets))
        (sym goes ∙ reads ∙ ok_is r right) in
        ap (first_body code) kept.1 ∙ this_first code found kept.0 (front_option place octets body) none front
    by_judge (Some fault) judged_is =
        absurd (not_err r fault right (sym reads ∙ fails_in_row form rows found place octets body fault some no_end no_pad is
        (ap (λ o. taken o found (front_option place octets body)) row_is ∙ ap (λ o. ends_or_goes o found (front_option place octets body)) judged_is)))

-- an option of another code
pub passes_on : (form : Form) (rows : List Row) (found : List Found) (place : ℕ) (octets body : List ℕ) (code : ℕ) → 1 ≤ length octets
    → (get_or octets 0 0 ≡ form.end → ⊥) → (get_or octets 0 0 ≡ form.pad → ⊥) → body_in form place (drop 1 octets) ≡ Ok body → (get_or octets 0 0 ≡ code → ⊥) → has_code code found ≡ false
    → is_ok (read_on form rows found place 0 octets) ≡ true
    → (more : List Found) × (has_code code more ≡ false) × (read_on form rows more (place + 2 + length body) 0 (drop (1 + length body) (drop 1 octets)) ≡ read_on form rows found place 0 octets)
passes_on form rows found place octets body code some no_end no_pad is other none right =
    elim (taken_adds (row_of rows (get_or octets 0 0)) found (front_option place octets body)) [
      | fails fault wrong ↦ absurd (not_err (read_on form rows found place 0 octets) fault right (fails_in_row form rows found place octets body fault some no_end no_pad is wrong))
      | passes goes ↦ (found, none, sym (goes_on form rows found found place octets body some no_end no_pad is goes))
      | adds goes ↦ (
        found ++ (front_option place octets body) ∷ [],
        has_code-push code found (front_option place octets body) ∙ both (has_code code found) (get_or octets 0 0 == code) none (other_eqb (get_or octets 0 0) code other),
        sym (goes_on form rows found (found ++ (front_option place octets body) ∷ []) place octets body some no_end no_pad is goes),
      )
    ]
  where
    other_eqb : (a b : ℕ) → (a ≡ b → ⊥) → (a == b) ≡ false
    other_eqb a b isnt = grind (arith, nat_tests)

    both : (a b : Bool) → a ≡ false → b ≡ false → (a || b) ≡ false
    both true b no_a no_b = cc
    both false b no_a no_b = no_b
