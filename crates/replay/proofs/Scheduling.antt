-- A schedule with one more line.
use Rattle.std.proofs.Common.{◌≡◌, ℕ, zero, suc, ◌+◌, take, get_or, add-one, ◌<◌, List, [], ◌∷◌, ◌++◌, length, refl, sym, ◌∙◌, ap, arith, append_assoc, append-nil}
use Rattle.std.proofs.Math.Seq.{take-suc}
use Rattle.world_face.specs.Journal.{Entry}
use Rattle.replay.specs.Lines.{entry_of, row_of, rows_of}
use Rattle.replay.specs.Pieces.{lines_text}
use Rattle.replay.specs.Rows.{Row, entries_of, row_text, schedule_text}
use Rattle.replay.specs.Script.{newest_onto}
use Rattle.replay.specs.Text.{line_text, text}
use Rattle.replay.specs.declared.row.Row.{Row as ARow}

schedule_push : (rows : List ARow) (row : ARow) → schedule_text (rows_of (rows ++ row ∷ [])) ≡ schedule_text (rows_of rows) ++ row_text (row_of row)
schedule_push [] row = simp append-nil
schedule_push (r ∷ rows) row = ap (λ t. row_text (row_of r) ++ t) (schedule_push rows row) ∙ sym (append_assoc (row_text (row_of r)) (schedule_text (rows_of rows)) (row_text (row_of row)))

regroup : (before text after : List ℕ) → before ++ (text ++ 10 ∷ after) ≡ (before ++ (text ++ 10 ∷ [])) ++ after
regroup before text after = simp append_assoc

pub row_more : (octets rest text after : List ℕ) (rows more : List ARow) (row : ARow) → octets ≡ schedule_text (rows_of rows) ++ rest → rest ≡ text ++ 10 ∷ after → text ++ 10
    ∷ [] ≡ row_text (row_of row) → more ≡ rows ++ row ∷ [] → octets ≡ schedule_text (rows_of more) ++ after
row_more octets rest text after rows more row so_far split read pushed =
    so_far ∙ ap (λ t. schedule_text (rows_of rows) ++ t) split ∙ regroup (schedule_text (rows_of rows)) text after ∙ ap (λ t. (schedule_text (rows_of rows) ++ t) ++ after) read
    ∙ ap (λ t. t ++ after) (sym (schedule_push rows row) ∙ ap (λ rs. schedule_text (rows_of rs)) (sym pushed))

pub all_rows : (octets rest : List ℕ) (rows : List ARow) → octets ≡ schedule_text (rows_of rows) ++ rest → length rest ≡ 0 → schedule_text (rows_of rows) ≡ octets
all_rows octets [] rows is none = sym (is ∙ append-nil (schedule_text (rows_of rows)))
all_rows octets (x ∷ xs) rows is none = absurd (omega arith)

-- lines that are printed
lines_push : (rows : List ARow) (row : ARow) → lines_text (entries_of (rows_of (rows ++ row ∷ []))) ≡ lines_text (entries_of (rows_of rows)) ++ line_text (entry_of row.line)
lines_push [] row = simp append-nil
lines_push (r ∷ rows) row = ap (λ t. line_text (entry_of r.line) ++ t) (lines_push rows row) ∙ sym
    (append_assoc (line_text (entry_of r.line)) (lines_text (entries_of (rows_of rows))) (line_text (entry_of row.line)))

pub lines_more : (rows : List ARow) (i : ℕ) (row : ARow) → i < length rows → row ≡ get_or rows i row → lines_text (entries_of (rows_of (take i rows))) ++ line_text
    (entry_of row.line) ≡ lines_text (entries_of (rows_of (take (i + 1) rows)))
lines_more rows i row lt is = sym (lines_push (take i rows) row) ∙ ap (λ rs. lines_text (entries_of (rows_of rs)))
    (sym (rw add-one (take-suc rows i row lt) ∙ ap (λ r. take i rows ++ r ∷ []) (sym is)))

text_onto : (n : ℕ) (rows : List Row) (older : List Entry) → text older ++ lines_text (entries_of (take n rows)) ≡ text (newest_onto n (entries_of rows) older)
text_onto zero rows older = append-nil (text older)
text_onto (suc n) [] older = append-nil (text older)
text_onto (suc n) (r ∷ rows) older = sym (append_assoc (text older) (line_text r.entry) (lines_text (entries_of (take n rows)))) ∙ text_onto n rows (r.entry ∷ older)

pub taken : (n : ℕ) (rows : List ARow) → rows_of (take n rows) ≡ take n (rows_of rows)
taken zero rows = refl
taken (suc n) [] = refl
taken (suc n) (r ∷ rows) = ap (λ rs. row_of r ∷ rs) (taken n rows)

-- the lines that are used up, in the order of the calls
pub used_text : (n : ℕ) (rows used : List Row) → used ≡ take n rows → lines_text (entries_of used) ≡ text (newest_onto n (entries_of rows) [])
used_text n rows used is = ap (λ rs. lines_text (entries_of rs)) is ∙ text_onto n rows []
