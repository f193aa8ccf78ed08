-- The next line, completed.
use Rattle.std.proofs.Common.{◌≡◌, ℕ, ◌<◌, Bool, List, [], length, get_or, slice_get, slice_set, Option, Some, refl, sym, ◌∙◌, ap, subst, arith}
use Rattle.std.proofs.lemmas.List.{length-map}
use Rattle.std.proofs.lemmas.Option.{same_Some}
use Rattle.world_face.specs.Journal.{Entry, Call, call_of}
use Rattle.world_face.specs.Tells.{Counts}
use Rattle.replay.specs.declared.row.Row.{Row as ARow}
use Rattle.replay.specs.Fitting.{FitsNext, FitsRow, IsCompleted, IsOf, answered}
use Rattle.replay.specs.Lines.{entry_of, row_of, rows_of}
use Rattle.replay.specs.Room.{AreRoomy, IsRoomy}
use Rattle.replay.specs.Rows.{Row, AreReadable, IsReadable, entries_of, row_text, schedule_text}
use Rattle.replay.specs.Script.{Script, newest_onto}
use Rattle.replay.proofs.Rowing.{row_at, set_at, set_kept, set_length, set_readable, set_rows, set_text, readable_at, readable_kept, text_kept, roomy_at}

-- the rows, how many are used up, and the next one as it stood
module _ (rows : List ARow) (used : ℕ) (old : ARow) (value : old ≡ get_or rows used old) (e : Entry) (call : Call)
    (live : Bool) (stop : Option Call) (faults : Counts)
    (next : FitsNext (record { lines = rows_of rows; used = used; live = live; stop = stop; faults = faults }) e) (is : call_of e ≡ call) where
  pub within : used < length rows
  within = omega (arith, next.within, length-map rows row_of)

  at : slice_get (rows_of rows) used ≡ Some (row_of old)
  at = row_at rows used old within value

  fits : FitsRow (row_of old) e
  fits = next.fits (row_of old) at

  pub of_call : IsOf (row_of old) call
  of_call = subst (IsOf (row_of old)) is fits.of

  pub readable : AreReadable (rows_of rows) → IsReadable (row_of old)
  readable h = readable_at (rows_of rows) used (row_of old) h at

  pub roomy : AreRoomy rows → IsRoomy old
  roomy h = roomy_at rows used old within h value

  entry_is : answered (row_of old) call ≡ e
  entry_is = subst (λ c. answered (row_of old) c ≡ e) is fits.is

  -- and as it stands now
  module _ (new : ARow) (done : row_of new ≡ record (row_of old) { entry = answered (row_of old) call }) where
    now_is : row_of new ≡ record (row_of old) { entry = e }
    now_is = done ∙ ap (λ x. record (row_of old) { entry = x }) entry_is

    pub all_kept : newest_onto used (entries_of (rows_of (slice_set rows used new))) [] ≡ newest_onto used (entries_of (rows_of rows)) []
    all_kept = ap (λ rs. newest_onto used (entries_of rs) []) (set_rows rows used new) ∙ set_kept (rows_of rows) used (row_of new) []

    pub all_readable : AreReadable (rows_of rows) → AreReadable (rows_of (slice_set rows used new))
    all_readable h = subst AreReadable (sym (set_rows rows used new)) (set_readable (rows_of rows) used (row_of new) h (subst IsReadable (sym now_is) (readable_kept (row_of old) e fits (readable h))))

    same_text : schedule_text (rows_of (slice_set rows used new)) ≡ schedule_text (rows_of rows)
    same_text = ap schedule_text (set_rows rows used new) ∙ set_text (rows_of rows) used (row_of old) (row_of new) at (ap row_text now_is ∙ text_kept (row_of old) e fits)

    row_entry : (row : Row) → slice_get (rows_of (slice_set rows used new)) used ≡ Some row → row.entry ≡ e
    row_entry row there =
        let here : slice_get (rows_of (slice_set rows used new)) used ≡ Some (row_of new) = ap (λ rs. slice_get rs used) (set_rows rows used new) ∙ set_at (rows_of rows) used
        (row_of new) next.within in
        ap (λ (r : Row). r.entry) (sym (same_Some (row_of new) row (sym here ∙ there)) ∙ now_is)

    pub completed : IsCompleted (record { lines = rows_of rows; used = used; live = live; stop = stop; faults = faults })
        (record { lines = rows_of (slice_set rows used new); used = used; live = live; stop = stop; faults = faults }) e
    completed = record {
      next = row_entry;
      source = same_text;
      count = ap length (set_rows rows used new) ∙ set_length (rows_of rows) used (row_of new);
      kept = all_kept;
      used = refl;
      live = refl;
      stop = refl;
      faults = refl;
    }

-- The entry of the next line, after it was completed.
pub its_entry : (rows : List ARow) (used : ℕ) (row : ARow) (live : Bool) (stop : Option Call) (faults : Counts) (old mid : Script) (e : Entry) →
    record { lines = rows_of rows; used = used; live = live; stop = stop; faults = faults } ≡ mid → row ≡ get_or rows used row
    → FitsNext old e → IsCompleted old mid e → entry_of row.line ≡ e
its_entry rows used row live stop faults old mid e view value next done =
    let told : used < length (rows_of rows) = subst (λ (s : Script). s.used < length s.lines) (sym view) (omega (arith, next.within, done.count, done.used)) in
    let at = row_at rows used row (omega (arith, told, length-map rows row_of)) value in
    let there = subst (λ (s : Script). slice_get s.lines s.used ≡ Some (row_of row)) view at in
    done.next (row_of row) (ap (λ n. slice_get mid.lines n) (sym done.used) ∙ there)
