-- The earliest moment after another.
use Rattle.std.proofs.Common.{◌≡◌, ℕ, zero, suc, ◌+◌, ◌<◌, ◌≤◌, nat_le, Bool, true, false, cond, Any, List, [], ◌∷◌, ◌++◌, length, take, drop, get_or, Option}
use Rattle.std.proofs.Common.{Some, None, refl, sym, ◌∙◌, ap, arith}
use Rattle.std.proofs.lemmas.Bool.Decides.{nat_tests}
use Rattle.std.proofs.lemmas.List.{length-append, map-append, take-append-le, take_all, take_more}
use Rattle.std.proofs.lemmas.List.Elements.{All-push, All-weaker}
use Rattle.std.proofs.lemmas.List.Quantifiers.{Any-push}
use Rattle.rules_tftp.specs.Transfers.{Transfer}
use Rattle.tftp_server.specs.Serving.{IsNextDue, earlier}
use Rattle.tftp_server.specs.Rows.{transfer_of, transfers_of}
use Rattle.tftp_server.specs.declared.row.Row.{Row}

get_left : (xs ys : List Transfer) (k : ℕ) (d : Transfer) → k < length xs → get_or (xs ++ ys) k d ≡ get_or xs k d
get_left [] ys k d within = absurd (omega (arith, within))
get_left (x ∷ xs) ys zero d within = refl
get_left (x ∷ xs) ys (suc k) d within = get_left xs ys k d (omega (arith, within))

any_left : (P : Transfer → Type 0) (xs : List Transfer) (y : Transfer) → Any P xs → Any P (xs ++ (y ∷ []))
any_left P xs y some =
    let within : some.0 < length (xs ++ (y ∷ [])) = omega (arith, some.2, length-append xs (y ∷ [])) in
    (some.0, some.1, within, get_left xs (y ∷ []) some.0 some.1 some.2 ∙ some.3, some.4)

pub next_more : (now : ℕ) (ts : List Transfer) (t : Transfer) (next : Option ℕ) → IsNextDue now ts next → IsNextDue now (ts ++ (t ∷ [])) (earlier now t.due next)
next_more now ts t None is = by (nat_le t.due now) refl
  where
    by : (b : Bool) → nat_le t.due now ≡ b → IsNextDue now (ts ++ (t ∷ [])) (cond b None (Some t.due))
    by true e = All-push (λ (u : Transfer). u.due ≤ now) ts t is (grind (arith, nat_tests, e))
    by false e =
        let later : now < t.due = grind (arith, nat_tests, e) in (
          later,
          Any-push (λ (u : Transfer). u.due ≡ t.due) ts t refl,
          All-push (λ (u : Transfer). now < u.due → t.due ≤ u.due) ts t
              (All-weaker (λ (u : Transfer). u.due ≤ now) (λ (u : Transfer). now < u.due → t.due ≤ u.due) (λ u past after. absurd (omega (arith, past, after))) ts is) (λ after. omega arith),
        )
next_more now ts t (Some at) is = by (nat_le t.due now) refl
  where
    after_it : (b : Bool) → nat_le at t.due ≡ b → now < t.due → IsNextDue now (ts ++ (t ∷ [])) (cond b (Some at) (Some t.due))
    after_it true e later =
        let first : at ≤ t.due = grind (arith, nat_tests, e) in
        (is.0, any_left (λ (u : Transfer). u.due ≡ at) ts t is.1, All-push (λ (u : Transfer). now < u.due → at ≤ u.due) ts t is.2 (λ after. first))
    after_it false e later =
        let first : t.due < at = grind (arith, nat_tests, e) in (
          later,
          Any-push (λ (u : Transfer). u.due ≡ t.due) ts t refl,
          All-push (λ (u : Transfer). now < u.due → t.due ≤ u.due) ts t
              (All-weaker (λ (u : Transfer). now < u.due → at ≤ u.due) (λ (u : Transfer). now < u.due → t.due ≤ u.due) (λ u least after. let low : at ≤ u.due = least after in omega
              (arith, low, first)) ts is.2) (λ after. omega arith),
        )

    by : (b : Bool) → nat_le t.due now ≡ b → IsNextDue now (ts ++ (t ∷ [])) (cond b (Some at) (cond (nat_le at t.due) (Some at) (Some t.due)))
    by true e =
        let past : t.due ≤ now = grind (arith, nat_tests, e) in
        (is.0, any_left (λ (u : Transfer). u.due ≡ at) ts t is.1, All-push (λ (u : Transfer). now < u.due → at ≤ u.due) ts t is.2 (λ after. absurd (omega (arith, past, after))))
    by false e = after_it (nat_le at t.due) refl (grind (arith, nat_tests, e))

-- one row more
pub rows_more : (folder : Option (List ℕ)) (rows : List Row) (i : ℕ) (r : Row) → i < length rows → r ≡ get_or rows i r → transfers_of folder
    (take (i + 1) rows) ≡ transfers_of folder (take i rows) ++ (transfer_of folder r ∷ [])
rows_more folder rows i r within at =
    ap (transfers_of folder) (take_more rows i r within ∙ ap (λ (x : Row). take i rows ++ (x ∷ [])) (sym at)) ∙ map-append (transfer_of folder) (take i rows) (r ∷ [])

-- what a vector has after its slice was changed
pub whole_new : {X : Type 0} (xs ys : List X) (n : ℕ) → length ys ≡ length xs → n ≡ length xs → take n (ys ++ drop (length ys) xs) ≡ ys
whole_new xs ys n size count =
    let low : n ≤ length ys = omega (arith, size, count) in
    take-append-le n ys (drop (length ys) xs) low ∙ take_all n ys (omega (arith, size, count))
