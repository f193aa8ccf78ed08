-- A schedule has one first line that has no reading, or none.
use Rattle.std.proofs.Common.{◌≡◌, ◌≢◌, ◌⊎◌, inl, inr, Result, Err, ℕ, ◌+◌, ◌<◌, suc, true, List, [], ◌∷◌, ◌++◌, length, refl, sym, ◌∙◌, ap, subst, arith, append_assoc}
use Rattle.std.specs.List.{list_all}
use Rattle.std.proofs.lemmas.Bool.Decides.{nat_tests}
use Rattle.std.proofs.lemmas.List.{length-map}
use Rattle.replay.specs.Lines.{row_of, rows_of}
use Rattle.replay.specs.Rows.{Row, IsReadable, AreReadable, row_text, schedule_text}
use Rattle.address_text.specs.Texts.{is_other}
use Rattle.address_text.proofs.Parting.{fit_weaker, parts_once, no_part}
use Rattle.replay.specs.Unread.{IsFirstUnread}
use Rattle.replay.specs.declared.row.Row.{Row as ARow}
use Rattle.replay.specs.declared.ScriptFault.{ScriptFault}
use Rattle.replay.specs.declared.ScriptFault.TheVariants.{Line as AtLine, NoMemory, TooLarge}
use Rattle.replay.proofs.Parting.{is_line}
use Rattle.replay.proofs.Bodies.{row_body, row_form, row_line, row_then, some_row}

readable_push : (rows : List ARow) (row : ARow) → AreReadable (rows_of rows) → IsReadable (row_of row) → AreReadable (rows_of (rows ++ row ∷ []))
readable_push [] row hs h = (h, tt)
readable_push (r ∷ rows) row hs h = (hs.0, readable_push rows row hs.1 h)

pub readable_more : (rows more : List ARow) (row : ARow) → AreReadable (rows_of rows) → IsReadable (row_of row) → more ≡ rows ++ row ∷ [] → AreReadable (rows_of more)
readable_more rows more row hs h pushed = subst (λ (rs : List ARow). AreReadable (rows_of rs)) (sym pushed) (readable_push rows row hs h)

line_no_feed : (c : ℕ) → is_line c ≡ true → is_other 10 c ≡ true
line_no_feed c h = grind (arith, nat_tests)

pub no_feed : (e : Row) → IsReadable e → list_all (is_other 10) (row_body e) ≡ true
no_feed e h = fit_weaker is_line (is_other 10) line_no_feed (row_body e) (row_line e h)

-- without a line feed there is no line
pub no_line : (rest : List ℕ) → list_all (is_other 10) rest ≡ true → (e : Row) (more : List ℕ) → IsReadable e → rest ≢ row_text e ++ more
no_line rest lacks e more h is = no_part 10 rest (row_body e) more lacks (is ∙ row_then e more)

pub line_refused : (rest text after : List ℕ) → rest ≡ text ++ 10 ∷ after → list_all (is_other 10) text ≡ true → ((e : Row) → IsReadable e → text ++ 10 ∷ [] ≢ row_text e) →
    (e : Row) (more : List ℕ) → IsReadable e → rest ≢ row_text e ++ more
line_refused rest text after split lacks refused e more h is =
    let first = (parts_once 10 (is_other 10) refl text (row_body e) after more lacks (no_feed e h) (sym split ∙ is ∙ row_then e more)).0 in
    refused e h (ap (λ t. t ++ 10 ∷ []) first ∙ sym (row_form e))

some_left : (rest : List ℕ) → 0 < length rest → rest ≢ []
some_left rest some is = omega (arith, some, ap length is)

pub first_unread : (octets rest : List ℕ) (rows : List ARow) (n : ℕ) → octets ≡ schedule_text (rows_of rows) ++ rest → AreReadable (rows_of rows) → n ≡ length rows + 1 →
    0 < length rest → ((e : Row) (more : List ℕ) → IsReadable e → rest ≢ row_text e ++ more) → IsFirstUnread octets n
first_unread octets rest rows n is readable number some refused = record {
  before = rows_of rows;
  readable = readable;
  rest = rest;
  text = is;
  number = omega (arith, number, length-map rows row_of);
  left = some_left rest some;
  none = refused;
}

-- the lines of two schedules after the first ones
pub after_line : (e f : Row) (r s : List ℕ) → IsReadable e → IsReadable f → row_text e ++ r ≡ row_text f ++ s → r ≡ s
after_line e f r s he hf is = (parts_once 10 (is_other 10) refl (row_body e) (row_body f) r s (no_feed e he) (no_feed f hf) (sym (row_then e r) ∙ is ∙ row_then f s)).1

abbrev BeginsNone : List ℕ → Type 0
BeginsNone rest = (e : Row) (more : List ℕ) → IsReadable e → rest ≢ row_text e ++ more

same_count : (es fs : List Row) (r s : List ℕ) → AreReadable es → AreReadable fs → BeginsNone r → BeginsNone s → schedule_text es ++ r ≡ schedule_text fs ++ s → length es ≡ length fs
same_count [] [] r s he hf nr ns is = refl
same_count [] (f ∷ fs) r s he hf nr ns is = absurd (nr f (schedule_text fs ++ s) hf.0 (is ∙ append_assoc (row_text f) (schedule_text fs) s))
same_count (e ∷ es) [] r s he hf nr ns is = absurd (ns e (schedule_text es ++ r) he.0 (sym is ∙ append_assoc (row_text e) (schedule_text es) r))
same_count (e ∷ es) (f ∷ fs) r s he hf nr ns is =
    let after = after_line e f (schedule_text es ++ r) (schedule_text fs ++ s) he.0 hf.0 (sym (append_assoc (row_text e) (schedule_text es) r) ∙ is ∙ append_assoc (row_text f) (schedule_text fs) s) in
    ap suc (same_count es fs r s he.1 hf.1 nr ns after)

-- no two lines are the first
pub one_first : (schedule : List ℕ) (n m : ℕ) → IsFirstUnread schedule n → IsFirstUnread schedule m → n ≡ m
one_first schedule n m a b =
    let count = same_count a.before b.before a.rest b.rest a.readable b.readable a.none b.none (sym a.text ∙ b.text) in
    omega (arith, a.number, b.number, count)

all_said : (es fs : List Row) (s : List ℕ) → AreReadable es → AreReadable fs → BeginsNone s → s ≢ [] → schedule_text es ≡ schedule_text fs ++ s → ⊥
all_said [] [] s he hf ns some is = some (sym is)
all_said [] (f ∷ fs) s he hf ns some is = some_row f (schedule_text fs ++ s) (is ∙ append_assoc (row_text f) (schedule_text fs) s)
all_said (e ∷ es) [] s he hf ns some is = ns e (schedule_text es) he.0 (sym is)
all_said (e ∷ es) (f ∷ fs) s he hf ns some is = all_said es fs s he.1 hf.1 ns some (after_line e f (schedule_text es) (schedule_text fs ++ s) he.0 hf.0
    (is ∙ append_assoc (row_text f) (schedule_text fs) s))

-- where each line has a reading none is the first that has none
pub all_read : (schedule : List ℕ) (es : List Row) (n : ℕ) → schedule_text es ≡ schedule → AreReadable es → IsFirstUnread schedule n → ⊥
all_read schedule es n is readable first = all_said es first.before first.rest readable first.readable first.none first.left (is ∙ first.text)

-- a fault that names the first such line names it
pub named_line : {X Y : Type 0} (schedule : List ℕ) (fault : ScriptFault) → ◌≢◌ {A = Result X ScriptFault} (Err fault) (Err TooLarge) →
    ((m : ℕ) → ◌≡◌ {A = Result X ScriptFault} (Err fault) (Err (AtLine m)) → IsFirstUnread schedule m) → (n : ℕ) → IsFirstUnread schedule n → ◌≡◌ {A = Result Y ScriptFault}
    (Err fault) (Err (AtLine n)) ⊎ ◌≡◌ {A = Result Y ScriptFault} (Err fault) (Err NoMemory)
named_line schedule (AtLine m) other names n first = inl (ap (λ k. Err (AtLine k)) (one_first schedule m n (names m refl) first))
named_line schedule TooLarge other names n first = absurd (other refl)
named_line schedule NoMemory other names n first = inr refl
