-- The moment of lines, and a World that answers.
use Rattle.std.proofs.Common.{◌≡◌, ℕ, ◌+◌, ◌<◌, List, [], ◌∷◌, length, get_or, true, Option, Some, None, sym, ◌∙◌, ap, slice_get, add-one}
use Rattle.std.specs.Option.{option_map, is_none}
use Rattle.std.proofs.lemmas.Option.{slice_get-map}
use Rattle.poll_list.specs.declared.Want.{Want}
use Rattle.world_face.specs.Journal.{Call}
use Rattle.replay.specs.declared.line.Stop.{Stop}
use Rattle.replay.specs.declared.row.Row.{Row as ARow}
use Rattle.replay.specs.Lines.{entry_of, rows_of, stop_of}
use Rattle.replay.specs.Rows.{Row, entries_of}
use Rattle.replay.specs.Script.{newest_onto}
use Rattle.replay.specs.Fitting.{moment_after, last_moment}
use Rattle.replay.proofs.Following.{one_more}
use Rattle.replay.proofs.Rowing.{row_at}

-- the moment after one more line
pub moment_more : (rows : List ARow) (n moment : ℕ) (row : ARow) → n < length rows → row ≡ get_or rows n row → moment ≡ last_moment (newest_onto n (entries_of (rows_of rows)) []) →
    moment_after (entry_of row.line) moment ≡ last_moment (newest_onto (n + 1) (entries_of (rows_of rows)) [])
moment_more rows n moment row lt is so_far =
    let here : slice_get (entries_of (rows_of rows)) n ≡ Some (entry_of row.line) = slice_get-map (λ (r : Row). r.entry) (rows_of rows) n ∙ ap (option_map (λ (r : Row). r.entry))
    (row_at rows n row lt is) in
    let more : newest_onto (n + 1) (entries_of (rows_of rows)) [] ≡ entry_of row.line ∷ newest_onto n (entries_of (rows_of rows)) [] = rw add-one
    (one_more n (entries_of (rows_of rows)) [] (entry_of row.line) here) in
    ap (moment_after (entry_of row.line)) so_far ∙ ap last_moment (sym more)

-- a World that answers has not stopped
pub not_stopped : (stop : Option Stop) (octets : List ℕ) (wants : List Want) (call : Call) → is_none stop ≡ true → stop_of stop octets wants ≡ Some call → ⊥
not_stopped None octets wants call live is = absurd (cc is)
not_stopped (Some stop) octets wants call live is = absurd (cc live)
