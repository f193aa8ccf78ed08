-- Reading on, step by step.
use Rattle.std.proofs.Common.{◌≡◌, ℕ, zero, suc, ◌+◌, ◌-◌, ◌<◌, ◌≤◌, ◌==◌, nat_lt, Bool, true, false, cond, List, [], ◌∷◌, length, take, drop, get_or, Ok, Err, refl, sym, ◌∙◌, ap, arith}
use Rattle.std.proofs.Common.{length-take, length-drop}
use Rattle.std.proofs.lemmas.List.{take_all}
use Rattle.std.proofs.lemmas.Bool.Decides.{nat_tests}
use Rattle.tlv_table.specs.declared.Form.{Form}
use Rattle.tlv_table.specs.declared.Row.{Row}
use Rattle.tlv_table.specs.declared.TlvFault.{TlvFault}
use Rattle.tlv_table.specs.declared.TlvFault.TheVariants as faults
use Rattle.tlv_table.specs.Tables.{row_of}
use Rattle.tlv_table.specs.Reading.{Found, Ends, Goes, head_counted, body_in, taken, option_step, follow, read_on, reading}

same_eqb : (a b : ℕ) → a ≡ b → (a == b) ≡ true
same_eqb a b is = grind (arith, nat_tests)

other_eqb : (a b : ℕ) → (a ≡ b → ⊥) → (a == b) ≡ false
other_eqb a b isnt = grind (arith, nat_tests)

-- octets that are passed over
pub skipped : (form : Form) (rows : List Row) (found : List Found) (place skip : ℕ) (octets : List ℕ) → skip ≤ length octets
    → read_on form rows found place skip octets ≡ read_on form rows found (place + skip) 0 (drop skip octets)
unfolding read_on
skipped form rows found place zero octets fits = ap (λ p. read_on form rows found p 0 octets) (omega arith)
skipped form rows found place (suc skip) [] fits = absurd (omega arith)
skipped form rows found place (suc skip) (octet ∷ octets) fits =
    skipped form rows found (place + 1) skip octets (omega arith) ∙ ap (λ p. read_on form rows found p 0 (drop skip octets)) (omega arith)

-- all that follows the first octets
pub all_after : (k : ℕ) (octets : List ℕ) → take (length octets - k) (drop k octets) ≡ drop k octets
all_after k octets = take_all (length octets - k) (drop k octets) (omega (arith, length-drop k octets))

-- the end code
pub at_end : (form : Form) (rows : List Row) (found : List Found) (place : ℕ) (octets : List ℕ) → 1 ≤ length octets → get_or octets 0 0 ≡ form.end
    → read_on form rows found place 0 octets ≡ Ok found
unfolding read_on
at_end form rows found place [] some is = absurd (omega arith)
at_end form rows found place (code ∷ rest) some is =
    ap (λ t. follow (cond t (Ends (Ok found)) (cond (code == form.pad) (Goes found 0) (option_step rows found code place (body_in form place rest))))
    (λ more skip. read_on form rows more (place + 1) skip rest)) (same_eqb code form.end is)

-- a pad
pub at_pad : (form : Form) (rows : List Row) (found : List Found) (place : ℕ) (octets : List ℕ) → 1 ≤ length octets → (get_or octets 0 0 ≡ form.end → ⊥) → get_or octets 0 0 ≡ form.pad
    → read_on form rows found place 0 octets ≡ read_on form rows found (place + 1) 0 (drop 1 octets)
unfolding read_on
at_pad form rows found place [] some isnt is = absurd (omega arith)
at_pad form rows found place (code ∷ rest) some isnt is =
    ap (λ t. follow (cond t (Ends (Ok found)) (cond (code == form.pad) (Goes found 0) (option_step rows found code place (body_in form place rest))))
    (λ more skip. read_on form rows more (place + 1) skip rest)) (other_eqb code form.end isnt)
    ∙ ap (λ t. follow (cond t (Goes found 0) (option_step rows found code place (body_in form place rest))) (λ more skip. read_on form rows more (place + 1) skip rest)) (same_eqb code form.pad is)

-- an option
pub at_option : (form : Form) (rows : List Row) (found : List Found) (place : ℕ) (octets : List ℕ) → 1 ≤ length octets → (get_or octets 0 0 ≡ form.end → ⊥) → (get_or octets 0 0 ≡ form.pad → ⊥)
    → read_on form rows found place 0 octets ≡ follow (option_step rows found (get_or octets 0 0) place (body_in form place (drop 1 octets)))
    (λ more skip. read_on form rows more (place + 1) skip (drop 1 octets))
unfolding read_on
at_option form rows found place [] some no_end no_pad = absurd (omega arith)
at_option form rows found place (code ∷ rest) some no_end no_pad =
    ap (λ t. follow (cond t (Ends (Ok found)) (cond (code == form.pad) (Goes found 0) (option_step rows found code place (body_in form place rest))))
    (λ more skip. read_on form rows more (place + 1) skip rest)) (other_eqb code form.end no_end)
    ∙ ap (λ t. follow (cond t (Goes found 0) (option_step rows found code place (body_in form place rest))) (λ more skip. read_on form rows more (place + 1) skip rest))
    (other_eqb code form.pad no_pad)

body_cases : (few less : Bool) (size : ℕ) (rest body : List ℕ) (short cut : TlvFault)
    → cond few (Err short) (cond less (Err cut) (Ok (take size rest))) ≡ Ok body → (less ≡ false) × (take size rest ≡ body)
body_cases true less size rest body short cut is = cc
body_cases false true size rest body short cut is = cc
body_cases false false size rest body short cut is = (refl, cc)

-- a body is there, with the octet of its length before it
pub body_there : (form : Form) (place : ℕ) (tail body : List ℕ) → body_in form place tail ≡ Ok body → 1 + length body ≤ length tail
body_there form place [] body is = cc
body_there form place (size ∷ rest) body is =
    let is_taken = body_cases (nat_lt size (head_counted form)) (nat_lt (length rest) (size - head_counted form)) (size - head_counted form) rest body (faults.BadLength place) (faults.Cut place) is in
    omega (arith, length-take (size - head_counted form) rest, ap length is_taken.1)

-- an option that isn't there
pub fails_in_body : (form : Form) (rows : List Row) (found : List Found) (place : ℕ) (octets : List ℕ) (fault : TlvFault) → 1 ≤ length octets → (get_or octets 0 0 ≡ form.end → ⊥) →
    (get_or octets 0 0 ≡ form.pad → ⊥)
    → body_in form place (drop 1 octets) ≡ Err fault → read_on form rows found place 0 octets ≡ Err fault
fails_in_body form rows found place octets fault some no_end no_pad is =
    at_option form rows found place octets some no_end no_pad
    ∙ ap (λ b. follow (option_step rows found (get_or octets 0 0) place b) (λ more skip. read_on form rows more (place + 1) skip (drop 1 octets))) is

-- an option that is wrong
pub fails_in_row : (form : Form) (rows : List Row) (found : List Found) (place : ℕ) (octets body : List ℕ) (fault : TlvFault) → 1 ≤ length octets →
    (get_or octets 0 0 ≡ form.end → ⊥) → (get_or octets 0 0 ≡ form.pad → ⊥)
    → body_in form place (drop 1 octets) ≡ Ok body → taken (row_of rows (get_or octets 0 0)) found (record { code = get_or octets 0 0; place = place; body = body }) ≡ Ends (Err fault)
    → read_on form rows found place 0 octets ≡ Err fault
fails_in_row form rows found place octets body fault some no_end no_pad is wrong =
    at_option form rows found place octets some no_end no_pad
    ∙ ap (λ b. follow (option_step rows found (get_or octets 0 0) place b) (λ more skip. read_on form rows more (place + 1) skip (drop 1 octets))) is
    ∙ ap (λ s. follow s (λ more skip. read_on form rows more (place + 1) skip (drop 1 octets))) wrong

-- an option that is taken
pub goes_on : (form : Form) (rows : List Row) (found more : List Found) (place : ℕ) (octets body : List ℕ) → 1 ≤ length octets → (get_or octets 0 0 ≡ form.end → ⊥) → (get_or octets 0 0 ≡ form.pad → ⊥)
    → body_in form place (drop 1 octets) ≡ Ok body → taken (row_of rows (get_or octets 0 0)) found (record { code = get_or octets 0 0; place = place; body = body }) ≡ Goes more (1 + length body)
    → read_on form rows found place 0 octets ≡ read_on form rows more (place + 2 + length body) 0 (drop (1 + length body) (drop 1 octets))
goes_on form rows found more place octets body some no_end no_pad is goes =
    at_option form rows found place octets some no_end no_pad
    ∙ ap (λ b. follow (option_step rows found (get_or octets 0 0) place b) (λ more skip. read_on form rows more (place + 1) skip (drop 1 octets))) is
    ∙ ap (λ s. follow s (λ more skip. read_on form rows more (place + 1) skip (drop 1 octets))) goes
    ∙ skipped form rows more (place + 1) (1 + length body) (drop 1 octets) (body_there form place (drop 1 octets) body is)
    ∙ ap (λ p. read_on form rows more p 0 (drop (1 + length body) (drop 1 octets))) (omega arith)

-- the octets after a pad, in a walk over them all
pub after_pad : (form : Form) (rows : List Row) (found : List Found) (octets here tail : List ℕ) → length here ≤ length octets → 1 ≤ length here
    → (get_or here 0 0 ≡ form.end → ⊥) → get_or here 0 0 ≡ form.pad → read_on form rows found (length octets - length here) 0 here ≡ reading form rows octets → drop 1 here ≡ tail
    → (length tail ≤ length octets) × (read_on form rows found (length octets - length tail) 0 tail ≡ reading form rows octets)
after_pad form rows found octets here tail within some no_end pad so_far is =
    let size : length tail ≡ length here - 1 = sym (ap length is) ∙ length-drop 1 here in
    let place : length octets - length here + 1 ≡ length octets - length tail = omega arith in (
      omega arith,
      sym (ap (λ p. read_on form rows found p 0 tail) place) ∙ sym (ap (λ t. read_on form rows found (length octets - length here + 1) 0 t) is)
          ∙ sym (at_pad form rows found (length octets - length here) here some no_end pad) ∙ so_far,
    )

-- the octets after an option
pub after_option : (form : Form) (rows : List Row) (found more : List Found) (octets here body tail : List ℕ) → length here ≤ length octets → 1 ≤ length here
    → (get_or here 0 0 ≡ form.end → ⊥) → (get_or here 0 0 ≡ form.pad → ⊥) → read_on form rows found (length octets - length here) 0 here ≡ reading form rows octets
    → body_in form (length octets - length here) (drop 1 here) ≡ Ok body
    → taken (row_of rows (get_or here 0 0)) found (record { code = get_or here 0 0; place = length octets - length here; body = body }) ≡ Goes more (1 + length body)
    → drop (1 + length body) (drop 1 here) ≡ tail
    → (length tail ≤ length octets) × (read_on form rows more (length octets - length tail) 0 tail ≡ reading form rows octets)
after_option form rows found more octets here body tail within some no_end no_pad so_far is goes tail_is =
    let there : 1 + length body ≤ length (drop 1 here) = body_there form (length octets - length here) (drop 1 here) body is in
    let size : length tail ≡ length here - 1 - (1 + length body) = sym (ap length tail_is) ∙ length-drop (1 + length body) (drop 1 here) ∙ ap (λ n. n - (1 + length body)) (length-drop 1 here) in
    let room : length (drop 1 here) ≡ length here - 1 = length-drop 1 here in
    let place : length octets - length here + 2 + length body ≡ length octets - length tail = omega arith in (
      omega arith,
      sym (ap (λ p. read_on form rows more p 0 tail) place) ∙ sym (ap (λ t. read_on form rows more (length octets - length here + 2 + length body) 0 t) tail_is)
          ∙ sym (goes_on form rows found more (length octets - length here) here body some no_end no_pad is goes) ∙ so_far,
    )

-- no octets are left
pub at_none : (form : Form) (rows : List Row) (found : List Found) (place : ℕ) (octets : List ℕ) → length octets < 1
    → read_on form rows found place 0 octets ≡ cond form.end_needed (Err faults.NoEnd) (Ok found)
unfolding read_on
at_none form rows found place [] none = refl
at_none form rows found place (octet ∷ octets) none = absurd (omega arith)
