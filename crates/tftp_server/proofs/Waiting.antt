-- What holds of the transfers at every moment.
use Rattle.std.proofs.Common.{ℕ, ◌≤◌, List, [], ◌∷◌, length, Option, arith}
use Rattle.std.proofs.lemmas.List.{length-map}
use Rattle.std.proofs.lemmas.List.Elements.{All-cons, All-nil}
use Rattle.tftp_server.specs.Rows.{transfer_of, transfers_of}
use Rattle.rules_tftp.specs.Soundness.{AreApart, AreSound, AreTimed, WaitsWell}
use Rattle.rules_tftp.specs.Transfers.{Transfer}
use Rattle.tftp_server.specs.declared.row.Row.{Row}

rows_timed : (folder : Option (List ℕ)) (rows : List Row) → AreTimed (transfers_of folder rows)
rows_timed folder [] = All-nil (λ (t : Transfer). WaitsWell t.timeout)
rows_timed folder (r ∷ rows) = All-cons (λ (t : Transfer). WaitsWell t.timeout) (transfer_of folder r) (transfers_of folder rows) (r.waits, r.waits_most) (rows_timed folder rows)

pub rows_sound : (folder : Option (List ℕ)) (rows : List Row) → length rows ≤ 20 → AreApart (transfers_of folder rows) → AreSound (transfers_of folder rows)
rows_sound folder rows few apart = record { few = (let same = length-map rows (transfer_of folder) in omega (arith, few, same)); apart = apart; timed = rows_timed folder rows }
