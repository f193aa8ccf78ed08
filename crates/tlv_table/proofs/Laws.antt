-- What the grammar says is what is read.
use Rattle.std.proofs.Common.{◌≡◌, ◌≢◌, ◌⊎◌, inl, inr, ℕ, zero, suc, ◌+◌, ◌-◌, ◌<◌, ◌≤◌, ◌==◌, nat_lt, nat_le, Bool, true, false, not, ◌&&◌, cond, List, [], ◌∷◌, ◌++◌, length, take, drop}
use Rattle.std.proofs.Common.{Option, Some, None, option_map, find, Result, Ok, Err, IfSome, IfOk, IfErr, refl, sym, ◌∙◌, ap, subst, arith, append_assoc, append-nil, length-append}
use Rattle.std.proofs.Common.{length-take, length-drop, min}
use Rattle.std.specs.List.{AllByRecursion}
use Rattle.std.proofs.lemmas.Bool.{cases_lt, false≢true}
use Rattle.std.proofs.lemmas.Bool.Decides.{nat_tests}
use Rattle.std.proofs.lemmas.List.{take-append-drop}
use Rattle.tlv_table.specs.declared.Form.{Form}
use Rattle.tlv_table.specs.declared.Row.{Row}
use Rattle.tlv_table.specs.declared.TlvFault.{TlvFault}
use Rattle.tlv_table.specs.declared.TlvFault.TheVariants as faults
use Rattle.tlv_table.specs.Tables.{row_of}
use Rattle.tlv_table.specs.Reading.{Found, Goes, has_code, first_body, head_counted, body_in, in_range, judged, ends_or_goes, taken, read_on, reading}
use Rattle.tlv_table.specs.Grammar.{Item, Pad, Field, octets_of, IsField, IsItem, with_known, found_of, IsOnce, BeginsWith, Ends, IsListOf, IsWrong, IsFault, IsNoList}
use Rattle.tlv_table.proofs.Walks.{at_end, at_pad, at_none, goes_on, fails_in_body, fails_in_row}

-- a body with its length before it is read as it is
body_written : (form : Form) (place : ℕ) (body rest : List ℕ) → body_in form place ((head_counted form + length body) ∷ (body ++ rest)) ≡ Ok body
body_written form place body rest =
    chosen (nat_lt (head_counted form + length body) (head_counted form)) (nat_lt (length (body ++ rest)) (head_counted form + length body - head_counted form))
    (take (head_counted form + length body - head_counted form) (body ++ rest))
    (grind (arith, nat_tests)) (fits (length (body ++ rest)) (head_counted form + length body - head_counted form) (omega (arith, length-append body rest)))
    (ap (λ n. take n (body ++ rest)) (all (head_counted form) (length body)) ∙ taken_all body)
  where
    chosen : (few less : Bool) (part : List ℕ) → few ≡ false → less ≡ false → part ≡ body → cond few (Err (faults.BadLength place)) (cond less (Err (faults.Cut place)) (Ok part)) ≡ Ok body
    chosen few less part no_few no_less is = rw (no_few, no_less, is) refl

    fits : (a b : ℕ) → b ≤ a → nat_lt a b ≡ false
    fits a b h = grind (arith, nat_tests)

    all : (h n : ℕ) → h + n - h ≡ n
    all h n = omega arith

    taken_all : (body : List ℕ) → take (length body) (body ++ rest) ≡ body
    taken_all [] = refl
    taken_all (x ∷ body) = ap (λ l. x ∷ l) (taken_all body)

dropped_all : (body rest : List ℕ) → drop (length body) (body ++ rest) ≡ rest
dropped_all [] rest = refl
dropped_all (x ∷ body) rest = dropped_all body rest

dropped_head : (x : ℕ) (body rest : List ℕ) → drop (1 + length body) (x ∷ (body ++ rest)) ≡ rest
dropped_head x body rest =
    let next : 1 + length body ≡ suc (length body) = omega arith in
    ap (λ n. drop n (x ∷ (body ++ rest))) next ∙ dropped_all body rest

-- an option of a known code that is right
right_row : (row : Row) (again : Bool) (size place : ℕ) → (row.least ≤ size) × (size ≤ row.greatest) → (row.repeats ≡ false → again ≡ false) → judged row again size place ≡ None
right_row row again size place range once =
    let ranged : in_range row size ≡ true = both (nat_le row.least size) (nat_le size row.greatest) (within row.least size range.0) (within size row.greatest range.1) in
    ap (λ b. cond b (cond (again && not row.repeats) (Some (faults.Repeated place)) None) (Some (faults.BadLength place))) ranged
    ∙ ap (λ b. cond b (Some (faults.Repeated place)) None) (fresh again row.repeats once)
  where
    within : (a b : ℕ) → a ≤ b → nat_le a b ≡ true
    within a b h = grind (arith, nat_tests)

    both : (a b : Bool) → a ≡ true → b ≡ true → (a && b) ≡ true
    both true b is_a is_b = is_b
    both false b is_a is_b = cc

    fresh : (again repeats : Bool) → (repeats ≡ false → again ≡ false) → (again && not repeats) ≡ false
    fresh false repeats once = refl
    fresh true true once = refl
    fresh true false once = once refl

-- one option is taken, as the grammar finds it
taken_right : (rows : List Row) (o : Option Row) (before after : List Found) (new : Found) → row_of rows new.code ≡ o → IfSome o
    (λ row. (row.least ≤ length new.body) × (length new.body ≤ row.greatest))
    → IsOnce rows before (with_known o new after)
    → (more : List Found) × (taken o before new ≡ Goes more (1 + length new.body)) × IsOnce rows more after × (before ++ with_known o new after ≡ more ++ after)
taken_right rows None before after new is range once = (before, refl, once, refl)
taken_right rows (Some row) before after new is range once =
    let fresh : row.repeats ≡ false → has_code new.code before ≡ false = subst (λ o. IfSome o (λ row. row.repeats ≡ false → has_code new.code before ≡ false)) is once.0 in
    (before ++ new ∷ [], ap (λ o. ends_or_goes o before new) (right_row row (has_code new.code before) (length new.body) new.place range fresh), once.1, sym (append_assoc before (new ∷ []) after))

-- reading goes on after items that are right
after_items : (form : Form) (rows : List Row) (before : List Found) (place : ℕ) (items : List Item) (rest : List ℕ) → AllByRecursion (IsItem form rows) items → IsOnce rows before
    (found_of rows place items)
    → read_on form rows before place 0 (octets_of form items ++ rest) ≡ read_on form rows (before ++ found_of rows place items) (place + length (octets_of form items)) 0 rest
after_items form rows before place [] rest each once =
    ap (λ f. read_on form rows f place 0 rest) (sym (append-nil before)) ∙ ap (λ p. read_on form rows (before ++ []) p 0 rest) (omega arith)
after_items form rows before place (Pad ∷ items) rest each once =
    at_pad form rows before place (form.pad ∷ (octets_of form items ++ rest)) (omega arith) each.0 refl
    ∙ after_items form rows before (place + 1) items rest each.1 once
    ∙ ap (λ p. read_on form rows (before ++ found_of rows (place + 1) items) p 0 rest) (omega arith)
after_items form rows before place (Field code body ∷ items) rest each once =
    let tail = octets_of form items ++ rest in
    let octets_are : octets_of form (Field code body ∷ items) ++ rest ≡ code ∷ (head_counted form + length body) ∷ (body ++ tail) = ap
    (λ l. code ∷ (head_counted form + length body) ∷ l) (append_assoc body (octets_of form items) rest) in
    let step = taken_right rows (row_of rows code) before (found_of rows (place + 2 + length body) items) (record { code = code; place = place; body = body }) refl each.0.range once in
    ap (read_on form rows before place 0) octets_are
    ∙ goes_on form rows before step.0 place (code ∷ (head_counted form + length body) ∷ (body ++ tail)) body (omega arith) each.0.no_end each.0.no_pad (body_written form place body tail) step.1
    ∙ ap (read_on form rows step.0 (place + 2 + length body) 0) (dropped_head (head_counted form + length body) body tail)
    ∙ after_items form rows step.0 (place + 2 + length body) items rest each.1 step.2
    ∙ ap (λ f. read_on form rows f (place + 2 + length body + length (octets_of form items)) 0 rest) (sym step.3)
    ∙ ap (λ p. read_on form rows (before ++ found_of rows place (Field code body ∷ items)) p 0 rest) (omega (arith, length-append body (octets_of form items)))

from_front : (form : Form) (rows : List Row) (octets : List ℕ) (items : List Item) (rest : List ℕ) → BeginsWith form rows octets items rest
    → reading form rows octets ≡ read_on form rows (found_of rows 0 items) (length (octets_of form items)) 0 rest
from_front form rows octets items rest begins =
    ap (reading form rows) begins.is ∙ after_items form rows [] 0 items rest begins.each begins.once
    ∙ ap (λ p. read_on form rows (found_of rows 0 items) p 0 rest) (omega arith)

ends_read : (form : Form) (rows : List Row) (found : List Found) (place : ℕ) (rest : List ℕ) → Ends form rest → read_on form rows found place 0 rest ≡ Ok found
ends_read form rows found place [] ends = at_none form rows found place [] (omega arith) ∙ ap (λ b. cond b (Err faults.NoEnd) (Ok found)) ends
ends_read form rows found place (code ∷ rest) ends = at_end form rows found place (code ∷ rest) (omega arith) ends

-- what is a list of options is read as it is
pub list_read : (form : Form) (rows : List Row) (octets : List ℕ) (found : List Found) → IsListOf form rows octets found → reading form rows octets ≡ Ok found
list_read form rows octets found g =
    from_front form rows octets g.items g.rest g.begins ∙ ends_read form rows (found_of rows 0 g.items) (length (octets_of form g.items)) g.rest g.ends ∙ ap Ok (sym g.found_is)

-- an option of a known code that is wrong
wrong_row : (row : Row) (found : List Found) (code place size : ℕ) (fault : TlvFault) → IsWrong row found code place size fault → judged row (has_code code found) size place ≡ Some fault
wrong_row row found code place size fault wrong =
    elim wrong [
      | inl outside ↦
          ap (λ b. cond b (cond (has_code code found && not row.repeats) (Some (faults.Repeated place)) None) (Some (faults.BadLength place))) (not_in outside.0) ∙ ap Some (sym outside.1)
      | inr again ↦
          ap (λ b. cond b (cond (has_code code found && not row.repeats) (Some (faults.Repeated place)) None) (Some (faults.BadLength place))) (inside again.0 again.1)
          ∙ ap (λ b. cond b (Some (faults.Repeated place)) None) (comes_again (has_code code found) row.repeats again.3 again.2) ∙ ap Some (sym again.4)
    ]
  where
    comes_again : (again repeats : Bool) → again ≡ true → repeats ≡ false → (again && not repeats) ≡ true
    comes_again true false is isnt = refl
    comes_again true true is isnt = cc
    comes_again false repeats is isnt = cc

    not_in : (size < row.least) ⊎ (row.greatest < size) → in_range row size ≡ false
    not_in outside = elim outside [
      | inl low ↦ first (nat_le row.least size) (nat_le size row.greatest) (over row.least size low)
      | inr high ↦ second (nat_le row.least size)
          (nat_le size row.greatest) (over size row.greatest high)
    ]
      where
        over : (a b : ℕ) → b < a → nat_le a b ≡ false
        over a b h = grind (arith, nat_tests)

        first : (a b : Bool) → a ≡ false → (a && b) ≡ false
        first true b is = cc
        first false b is = refl

        second : (a b : Bool) → b ≡ false → (a && b) ≡ false
        second true b is = is
        second false b is = refl

    inside : row.least ≤ size → size ≤ row.greatest → in_range row size ≡ true
    inside low high = both (nat_le row.least size) (nat_le size row.greatest) (within row.least size low) (within size row.greatest high)
      where
        within : (a b : ℕ) → a ≤ b → nat_le a b ≡ true
        within a b h = grind (arith, nat_tests)

        both : (a b : Bool) → a ≡ true → b ≡ true → (a && b) ≡ true
        both true b is_a is_b = is_b
        both false b is_a is_b = cc

few_octets : (form : Form) (place size : ℕ) (rest : List ℕ) → size < head_counted form → body_in form place (size ∷ rest) ≡ Err (faults.BadLength place)
few_octets form place size rest few =
    ap (λ b. cond b (Err (faults.BadLength place)) (cond (nat_lt (length rest) (size - head_counted form)) (Err (faults.Cut place)) (Ok (take (size - head_counted form) rest))))
    (less size (head_counted form) few)
  where
    less : (a b : ℕ) → a < b → nat_lt a b ≡ true
    less a b h = grind (arith, nat_tests)

cut_short : (form : Form) (place size : ℕ) (rest : List ℕ) → head_counted form + length rest < size → body_in form place (size ∷ rest) ≡ Err (faults.Cut place)
cut_short form place size rest cut =
    ap (λ b. cond b (Err (faults.BadLength place)) (cond (nat_lt (length rest) (size - head_counted form)) (Err (faults.Cut place)) (Ok (take (size - head_counted form) rest))))
    (more size (head_counted form) (omega arith))
    ∙ ap (λ b. cond b (Err (faults.Cut place)) (Ok (take (size - head_counted form) rest))) (less (length rest) (size - head_counted form) (omega arith))
  where
    less : (a b : ℕ) → a < b → nat_lt a b ≡ true
    less a b h = grind (arith, nat_tests)

    more : (a b : ℕ) → b ≤ a → nat_lt a b ≡ false
    more a b h = grind (arith, nat_tests)

body_whole : (form : Form) (place size count : ℕ) (rest : List ℕ) → count ≤ length rest → size ≡ head_counted form + count → body_in form place (size ∷ rest) ≡ Ok (take count rest)
body_whole form place size count rest there is =
    ap (λ b. cond b (Err (faults.BadLength place)) (cond (nat_lt (length rest) (size - head_counted form)) (Err (faults.Cut place)) (Ok (take (size - head_counted form) rest))))
    (more size (head_counted form) (omega arith))
    ∙ ap (λ b. cond b (Err (faults.Cut place)) (Ok (take (size - head_counted form) rest))) (more (length rest) (size - head_counted form) (omega arith))
    ∙ ap (λ n. Ok (take n rest)) (left size (head_counted form) count is)
  where
    more : (a b : ℕ) → b ≤ a → nat_lt a b ≡ false
    more a b h = grind (arith, nat_tests)

    left : (a h n : ℕ) → a ≡ h + n → a - h ≡ n
    left a h n e = omega arith

-- the fault that the grammar says
fault_here : (form : Form) (rows : List Row) (found : List Found) (place : ℕ) (rest : List ℕ) (fault : TlvFault) → IsFault form rows found place rest fault →
    read_on form rows found place 0 rest ≡ Err fault
fault_here form rows found place [] fault is =
    at_none form rows found place [] (omega arith) ∙ ap (λ b. cond b (Err faults.NoEnd) (Ok found)) is.0 ∙ ap Err (sym is.1)
fault_here form rows found place (code ∷ []) fault is =
    fails_in_body form rows found place (code ∷ []) fault (omega arith) is.0 is.1 (ap Err (sym is.2))
fault_here form rows found place (code ∷ size ∷ rest) fault is =
    elim is.2 [
      | inl cut ↦ fails_in_body form rows found place (code ∷ size ∷ rest) fault (omega arith) is.0 is.1 (cut_short form place size rest cut.0 ∙ ap Err (sym cut.1))
      | inr whole ↦ elim whole [
        | inl few ↦ fails_in_body form rows found place (code ∷ size ∷ rest) fault (omega arith) is.0 is.1 (few_octets form place size rest few.0 ∙ ap Err (sym few.1))
        | inr wrong ↦
            fails_in_row form rows found place (code ∷ size ∷ rest) (take wrong.0 rest) fault (omega arith) is.0 is.1 (body_whole form place size wrong.0 rest wrong.1 wrong.2)
            (ap (λ o. taken o found (record { code = code; place = place; body = take wrong.0 rest })) wrong.4
            ∙ ap (λ o. ends_or_goes o found (record { code = code; place = place; body = take wrong.0 rest }))
            (ap (λ n. judged wrong.3 (has_code code found) n place) (length-take wrong.0 rest ∙ least wrong.0 (length rest) wrong.1) ∙ wrong_row wrong.3 found code place wrong.0 fault wrong.5))
      ]
    ]
  where
    least : (a b : ℕ) → a ≤ b → min a b ≡ a
    least a b h = omega arith

-- what is no list of options is refused as it is
pub no_list_read : (form : Form) (rows : List Row) (octets : List ℕ) (fault : TlvFault) → IsNoList form rows octets fault → reading form rows octets ≡ Err fault
no_list_read form rows octets fault g =
    from_front form rows octets g.items g.rest g.begins ∙ fault_here form rows (found_of rows 0 g.items) (length (octets_of form g.items)) g.rest fault g.fault_is

-- octets are items that are right, and then the end or a fault
record Parsed (form : Form) (rows : List Row) (before : List Found) (place : ℕ) (octets : List ℕ) : Type 0 where
  items : List Item
  rest : List ℕ
  is : octets ≡ octets_of form items ++ rest
  each : AllByRecursion (IsItem form rows) items
  once : IsOnce rows before (found_of rows place items)
  stops : Ends form rest ⊎ ((fault : TlvFault) × IsFault form rows (before ++ found_of rows place items) (place + length (octets_of form items)) rest fault)

-- nothing is right any more
stopped : (form : Form) (rows : List Row) (before : List Found) (place : ℕ) (octets : List ℕ) → Ends form octets ⊎
    ((fault : TlvFault) × IsFault form rows before place octets fault) → Parsed form rows before place octets
stopped form rows before place octets stops = record {
  items = [];
  rest = octets;
  is = refl;
  each = tt;
  once = tt;
  stops = elim stops [
    | inl ends ↦ inl ends
    | inr faulty ↦ inr (
      faulty.0,
      subst (λ f. IsFault form rows f (place + 0) octets faulty.0) (sym (append-nil before)) (subst (λ p. IsFault form rows before p octets faulty.0)
          (start place) faulty.1),
    )
  ];
}
  where
    start : (n : ℕ) → n ≡ n + 0
    start n = omega arith

parsed_pad : (form : Form) (rows : List Row) (before : List Found) (place code : ℕ) (tail : List ℕ) → code ≢ form.end → code ≡ form.pad → Parsed form rows before (place + 1) tail →
    Parsed form rows before place (code ∷ tail)
parsed_pad form rows before place code tail no_end is p = record {
  items = Pad ∷ p.items;
  rest = p.rest;
  is = ap (λ c. c ∷ tail) is ∙ ap (λ l. form.pad ∷ l) p.is;
  each = (subst (λ c. c ≢ form.end) is no_end, p.each);
  once = p.once;
  stops = elim p.stops [
    | inl ends ↦ inl ends
    | inr faulty ↦ inr (faulty.0, subst (λ n. IsFault form rows (before ++ found_of rows (place + 1) p.items) n p.rest faulty.0) (next place (length (octets_of form p.items))) faulty.1)
  ];
}
  where
    next : (a b : ℕ) → a + 1 + b ≡ a + suc b
    next a b = omega arith

-- an option that is right, before what is parsed
parsed_field : (form : Form) (rows : List Row) (o : Option Row) (before more : List Found) (place code : ℕ) (body tail : List ℕ) → row_of rows code ≡ o → code ≢ form.end → code ≢ form.pad
    → IfSome o (λ row. (row.least ≤ length body) × (length body ≤ row.greatest))
    → ((after : List Found) → IsOnce rows more after → IsOnce rows before (with_known o (record { code = code; place = place; body = body }) after))
    → ((after : List Found) → more ++ after ≡ before ++ with_known o (record { code = code; place = place; body = body }) after)
    → Parsed form rows more (place + 2 + length body) tail → Parsed form rows before place (code ∷ (head_counted form + length body) ∷ (body ++ tail))
parsed_field form rows o before more place code body tail row_is no_end no_pad range once found p = record {
  items = Field code body ∷ p.items;
  rest = p.rest;
  is = ap (λ l. code ∷ (head_counted form + length body) ∷ l) (ap (λ l. body ++ l) p.is ∙ sym (append_assoc body (octets_of form p.items) p.rest));
  each = (record { no_end = no_end; no_pad = no_pad; range = subst (λ q. IfSome q (λ row. (row.least ≤ length body) × (length body ≤ row.greatest))) (sym row_is) range }, p.each);
  once = subst (λ q. IsOnce rows before (with_known q (record { code = code; place = place; body = body }) (found_of rows (place + 2 + length body) p.items))) (sym row_is)
      (once (found_of rows (place + 2 + length body) p.items) p.once);
  stops = elim p.stops [
    | inl ends ↦ inl ends
    | inr faulty ↦ inr (
      faulty.0,
      subst (λ f. IsFault form rows f (place + length (octets_of form (Field code body ∷ p.items))) p.rest faulty.0)
          (found (found_of rows (place + 2 + length body) p.items) ∙ ap (λ q. before ++ with_known q (record { code = code; place = place; body = body })
          (found_of rows (place + 2 + length body) p.items)) (sym row_is))
          (subst (λ n. IsFault form rows (more ++ found_of rows (place + 2 + length body) p.items) n p.rest faulty.0) (next place (length body) (length (octets_of form p.items))
          ∙ ap (λ n. place + suc (suc n)) (sym (length-append body (octets_of form p.items)))) faulty.1),
    )
  ];
}
  where
    next : (a b c : ℕ) → a + 2 + b + c ≡ a + suc (suc (b + c))
    next a b c = omega arith

row_cases : (row : Row) (found : List Found) (code place size : ℕ)
    → ((fault : TlvFault) × IsWrong row found code place size fault) ⊎ ((row.least ≤ size) × (size ≤ row.greatest) × (row.repeats ≡ false → has_code code found ≡ false))
row_cases row found code place size =
    elim (cases_lt size row.least) [
      | inl low ↦ inl (faults.BadLength place, inl (inl low, refl))
      | inr enough ↦ elim (cases_lt row.greatest size) [
        | inl high ↦ inl (faults.BadLength place, inl (inr high, refl))
        | inr fits ↦ by_again row.repeats (has_code code found) refl refl enough fits
      ]
    ]
  where
    by_again : (repeats again : Bool) → row.repeats ≡ repeats → has_code code found ≡ again → row.least ≤ size → size ≤ row.greatest
        → ((fault : TlvFault) × IsWrong row found code place size fault) ⊎ ((row.least ≤ size) × (size ≤ row.greatest) × (row.repeats ≡ false → has_code code found ≡ false))
    by_again false true r a enough fits = inl (faults.Repeated place, inr (enough, fits, r, a, refl))
    by_again true again r a enough fits = inr (enough, fits, λ e. absurd (false≢true (sym e ∙ r)))
    by_again false false r a enough fits = inr (enough, fits, λ e. a)

least : (a b : ℕ) → a ≤ b → min a b ≡ a
least a b h = omega arith

-- an option's octets, with its body apart
same_octets : (form : Form) (code count : ℕ) (rest : List ℕ) → count ≤ length rest
    → ◌≡◌ {A = List ℕ} (code ∷ (head_counted form + length (take count rest)) ∷ (take count rest ++ drop count rest)) (code ∷ (head_counted form + count) ∷ rest)
same_octets form code count rest there =
    ap (λ n. code ∷ (head_counted form + n) ∷ (take count rest ++ drop count rest)) (length-take count rest ∙ least count (length rest) there)
    ∙ ap (λ l. code ∷ (head_counted form + count) ∷ l) (take-append-drop count rest)

parsed_body : (form : Form) (rows : List Row) (o : Option Row) (before : List Found) (place code count : ℕ) (rest : List ℕ) → row_of rows code ≡ o → code ≢ form.end →
    code ≢ form.pad → count ≤ length rest
    → ((more : List Found) → Parsed form rows more (place + 2 + length (take count rest)) (drop count rest)) → Parsed form rows before place (code ∷ (head_counted form + count) ∷ rest)
parsed_body form rows None before place code count rest row_is no_end no_pad there go_on =
    subst (λ l. Parsed form rows before place l) (same_octets form code count rest there)
    (parsed_field form rows None before before place code (take count rest) (drop count rest) row_is no_end no_pad tt (λ after h. h) (λ after. refl) (go_on before))
parsed_body form rows (Some row) before place code count rest row_is no_end no_pad there go_on =
    elim (row_cases row before code place count) [
      | inl wrong ↦ stopped form rows before place (code ∷ (head_counted form + count) ∷ rest) (inr (wrong.0, (no_end, no_pad, inr (inr (count, there, refl, row, row_is, wrong.1)))))
      | inr right ↦
          let new : Found = record { code = code; place = place; body = take count rest } in
          let size : length (take count rest) ≡ count = length-take count rest ∙ least count (length rest) there in
          subst (λ l. Parsed form rows before place l) (same_octets form code count rest there)
          (parsed_field form rows (Some row) before (before ++ new ∷ []) place code (take count rest) (drop count rest) row_is no_end no_pad
          (subst (λ n. (row.least ≤ n) × (n ≤ row.greatest)) (sym size) (right.0, right.1))
          (λ after h. (subst (λ q. IfSome q (λ r. r.repeats ≡ false → has_code code before ≡ false)) (sym row_is) right.2, h))
          (λ after. append_assoc before (new ∷ []) after) (go_on (before ++ new ∷ [])))
    ]

-- what begins with a code, where all that is shorter parses
parsed_code : (form : Form) (rows : List Row) (before : List Found) (place code : ℕ) (rest : List ℕ) → code ≢ form.end → code ≢ form.pad
    → ((more : List Found) (at : ℕ) (tail : List ℕ) → length tail ≤ length rest → Parsed form rows more at tail) → Parsed form rows before place (code ∷ rest)
parsed_code form rows before place code [] no_end no_pad go_on = stopped form rows before place (code ∷ []) (inr (faults.Cut place, (no_end, no_pad, refl)))
parsed_code form rows before place code (size ∷ tail) no_end no_pad go_on =
    elim (cases_lt (head_counted form + length tail) size) [
      | inl cut ↦ stopped form rows before place (code ∷ size ∷ tail) (inr (faults.Cut place, (no_end, no_pad, inl (cut, refl))))
      | inr whole ↦ elim (cases_lt size (head_counted form)) [
        | inl few ↦ stopped form rows before place (code ∷ size ∷ tail) (inr (faults.BadLength place, (no_end, no_pad, inr (inl (few, refl)))))
        | inr enough ↦
            let count : ℕ = size - head_counted form in
            let size_is : head_counted form + count ≡ size = omega arith in
            subst (λ s. Parsed form rows before place (code ∷ s ∷ tail)) size_is
            (parsed_body form rows (row_of rows code) before place code count tail refl no_end no_pad (omega arith)
            (λ more. go_on more (place + 2 + length (take count tail)) (drop count tail) (omega (arith, length-drop count tail))))
      ]
    ]

parsed : (n : ℕ) (form : Form) (rows : List Row) (before : List Found) (place : ℕ) (octets : List ℕ) → length octets ≤ n → Parsed form rows before place octets
parsed n form rows before place [] short = stopped form rows before place [] (by_need form.end_needed refl)
  where
    by_need : (b : Bool) → form.end_needed ≡ b → (form.end_needed ≡ false) ⊎ ((fault : TlvFault) × ((form.end_needed ≡ true) × (fault ≡ faults.NoEnd)))
    by_need true e = inr (faults.NoEnd, (e, refl))
    by_need false e = inl e
parsed zero form rows before place (code ∷ rest) short = absurd (omega arith)
parsed (suc n) form rows before place (code ∷ rest) short =
    elim (same_or_not code form.end) [
      | inl ended ↦ stopped form rows before place (code ∷ rest) (inl ended)
      | inr no_end ↦ elim (same_or_not code form.pad) [
        | inl padded ↦ parsed_pad form rows before place code rest no_end padded (parsed n form rows before (place + 1) rest (omega arith))
        | inr no_pad ↦ parsed_code form rows before place code rest no_end no_pad (λ more at tail shorter. parsed n form rows more at tail (omega arith))
      ]
    ]
  where
    same_or_not : (a b : ℕ) → (a ≡ b) ⊎ (a ≢ b)
    same_or_not a b = grind (arith, nat_tests)

from_start : (form : Form) (rows : List Row) (found : List Found) (place : ℕ) (rest : List ℕ) (fault : TlvFault) → IsFault form rows ([] ++ found) (0 + place) rest fault →
    IsFault form rows found place rest fault
from_start form rows found place rest fault is = subst (λ p. IsFault form rows found p rest fault) (zero_first place) is
  where
    zero_first : (n : ℕ) → 0 + n ≡ n
    zero_first n = omega arith

whole_parsed : (form : Form) (rows : List Row) (octets : List ℕ) → Parsed form rows [] 0 octets
whole_parsed form rows octets = parsed (length octets) form rows [] 0 octets (omega arith)

-- what is read is a list of options
pub read_list : (form : Form) (rows : List Row) (octets : List ℕ) (found : List Found) → reading form rows octets ≡ Ok found → IsListOf form rows octets found
read_list form rows octets found reads =
    let p = whole_parsed form rows octets in
    let begins : BeginsWith form rows octets p.items p.rest = record { each = p.each; once = p.once; is = p.is } in
    elim p.stops [
      | inl ends ↦
          let g : IsListOf form rows octets (found_of rows 0 p.items) = record { items = p.items; rest = p.rest; begins = begins; ends = ends; found_is = refl } in
          record { items = p.items; rest = p.rest; begins = begins; ends = ends; found_is = same found (found_of rows 0 p.items) (sym reads ∙ list_read form rows octets (found_of rows 0 p.items) g) }
      | inr faulty ↦
          absurd (apart found faulty.0 (sym reads ∙ no_list_read form rows octets faulty.0
          (record { items = p.items; rest = p.rest; begins = begins; fault_is = from_start form rows (found_of rows 0 p.items) (length (octets_of form p.items)) p.rest faulty.0 faulty.1 })))
    ]
  where
    same : (x y : List Found) → ◌≡◌ {A = Result (List Found) TlvFault} (Ok x) (Ok y) → x ≡ y
    same x y e = cc

    apart : (x : List Found) (fault : TlvFault) → ◌≡◌ {A = Result (List Found) TlvFault} (Ok x) (Err fault) → ⊥
    apart x fault e = cc

-- what is refused is no list of options
pub read_no_list : (form : Form) (rows : List Row) (octets : List ℕ) (fault : TlvFault) → reading form rows octets ≡ Err fault → IsNoList form rows octets fault
read_no_list form rows octets fault reads =
    let p = whole_parsed form rows octets in
    let begins : BeginsWith form rows octets p.items p.rest = record { each = p.each; once = p.once; is = p.is } in
    elim p.stops [
      | inl ends ↦
          absurd (apart (found_of rows 0 p.items) fault (sym (list_read form rows octets (found_of rows 0 p.items)
          (record { items = p.items; rest = p.rest; begins = begins; ends = ends; found_is = refl })) ∙ reads))
      | inr faulty ↦
          let g : IsNoList form rows octets faulty.0 = record {
            items = p.items;
            rest = p.rest;
            begins = begins;
            fault_is = from_start form rows (found_of rows 0 p.items)
                (length (octets_of form p.items)) p.rest faulty.0 faulty.1;
          } in
          record {
            items = p.items;
            rest = p.rest;
            begins = begins;
            fault_is = subst (λ f. IsFault form rows (found_of rows 0 p.items) (length (octets_of form p.items)) p.rest f)
                (same faulty.0 fault (sym (no_list_read form rows octets faulty.0 g) ∙ reads)) (from_start form rows (found_of rows 0 p.items)
                (length (octets_of form p.items)) p.rest faulty.0 faulty.1);
          }
    ]
  where
    same : (x y : TlvFault) → ◌≡◌ {A = Result (List Found) TlvFault} (Err x) (Err y) → x ≡ y
    same x y e = cc

    apart : (x : List Found) (fault : TlvFault) → ◌≡◌ {A = Result (List Found) TlvFault} (Ok x) (Err fault) → ⊥
    apart x fault e = cc

-- the same of an answer
pub found_listed : (form : Form) (rows : List Row) (octets : List ℕ) (r : Result (List Found) TlvFault) → r ≡ reading form rows octets → IfOk r (λ found. IsListOf form rows octets found)
found_listed form rows octets (Ok found) is = read_list form rows octets found (sym is)
found_listed form rows octets (Err fault) is = tt

pub fault_shown : (form : Form) (rows : List Row) (octets : List ℕ) (r : Result (List Found) TlvFault) → r ≡ reading form rows octets → IfErr r (λ fault. IsNoList form rows octets fault)
fault_shown form rows octets (Ok found) is = tt
fault_shown form rows octets (Err fault) is = read_no_list form rows octets fault (sym is)

-- an option of the code, or a later one
first_of : (code : ℕ) (new : Found) (after : List Found) (body : List ℕ) → first_body code (new ∷ after) ≡ Some body → ((new.code ≡ code) × (new.body ≡ body)) ⊎ (first_body code after ≡ Some body)
first_of code new after body is = by_test (new.code == code) refl is
  where
    eqb_is : (a b : ℕ) → (a == b) ≡ true → a ≡ b
    eqb_is a b h = grind (arith, nat_tests)

    by_test : (b : Bool) → (new.code == code) ≡ b → option_map (λ (f : Found). f.body) (cond b (Some new) (find (λ (f : Found). f.code == code) after)) ≡ Some body
        → ((new.code ≡ code) × (new.body ≡ body)) ⊎ (first_body code after ≡ Some body)
    by_test true t h = inl (eqb_is new.code code t, same new.body body h)
      where
        same : (x y : List ℕ) → ◌≡◌ {A = Option (List ℕ)} (Some x) (Some y) → x ≡ y
        same x y e = cc
    by_test false t h = inr h

ranged : (form : Form) (rows : List Row) (code : ℕ) (row : Row) (c : ℕ) (b body : List ℕ) → row_of rows code ≡ Some row → c ≡ code → b ≡ body → IsField form rows c b →
    (row.least ≤ length body) × (length body ≤ row.greatest)
ranged form rows code row c b body row_is same is field =
    subst (λ l. (row.least ≤ length l) × (length l ≤ row.greatest)) is
    (subst (λ o. IfSome o (λ r. (r.least ≤ length b) × (length b ≤ r.greatest))) (ap (row_of rows) same ∙ row_is) field.range)

first_of_known : (form : Form) (rows : List Row) (code : ℕ) (row : Row) (body : List ℕ) → row_of rows code ≡ Some row → (o : Option Row) (new : Found) (after : List Found) →
    IsField form rows new.code new.body
    → (first_body code after ≡ Some body → (row.least ≤ length body) × (length body ≤ row.greatest))
    → first_body code (with_known o new after) ≡ Some body → (row.least ≤ length body) × (length body ≤ row.greatest)
first_of_known form rows code row body row_is None new after field later is = later is
first_of_known form rows code row body row_is (Some r) new after field later is =
    elim (first_of code new after body is) [
      | inl here ↦ ranged form rows code row new.code new.body body row_is here.0 here.1 field
      | inr there ↦ later there
    ]

first_of_items : (form : Form) (rows : List Row) (code : ℕ) (row : Row) (body : List ℕ) → row_of rows code ≡ Some row → (place : ℕ) (items : List Item) → AllByRecursion (IsItem form rows) items
    → first_body code (found_of rows place items) ≡ Some body → (row.least ≤ length body) × (length body ≤ row.greatest)
first_of_items form rows code row body row_is place [] each is = absurd (nothing is)
  where
    nothing : ◌≡◌ {A = Option (List ℕ)} None (Some body) → ⊥
    nothing e = cc
first_of_items form rows code row body row_is place (Pad ∷ items) each is = first_of_items form rows code row body row_is (place + 1) items each.1 is
first_of_items form rows code row body row_is place (Field c b ∷ items) each is =
    first_of_known form rows code row body row_is (row_of rows c) (record { code = c; place = place; body = b }) (found_of rows (place + 2 + length b) items) each.0
    (first_of_items form rows code row body row_is (place + 2 + length b) items each.1) is

-- the first body of a code is in the range of the code's row
pub first_in_range : (form : Form) (rows : List Row) (octets : List ℕ) (found : List Found) (code : ℕ) (row : Row) (body : List ℕ) → IsListOf form rows octets found →
    row_of rows code ≡ Some row → first_body code found ≡ Some body
    → (row.least ≤ length body) × (length body ≤ row.greatest)
first_in_range form rows octets found code row body g row_is first =
    first_of_items form rows code row body row_is 0 g.items g.begins.each (sym (ap (first_body code) g.found_is) ∙ first)
