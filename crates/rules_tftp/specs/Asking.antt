-- The calls on files that a packet asks for, one after another, and what their answers make of it.
use Rattle.std.specs.Prelude.{◌≡◌, ℕ, ◌+◌, ◌-◌, List, [], ◌∷◌, length, Option, Some, None}
use Rattle.world_face.specs.Journal.{Call, Entry, FileLen, FileRead, CallFileLen, CallFileRead, call_of}
use Rattle.rules_tftp.specs.Transfers.{Files, Outcome, Quest, Said, Settled, SeeksLength, SeeksOctets, Transfer, length_came, octets_came, octets_of, place_of}

-- the length of a file is asked for; or the octets of a block that are missing, all of them
abbrev pub call_for : Quest → Option Call
call_for Settled = None
call_for (SeeksLength s) = Some (CallFileLen s.file)
call_for (SeeksOctets t there) = Some (CallFileRead t.file (place_of t + length there) (octets_of t - length there))

-- what an answer makes of what is kept; other calls have none
abbrev pub by_answer : ℕ → Entry → Files → Option Outcome
by_answer now (FileLen name answer) files = Some (length_came now answer files.quest files.transfers)
by_answer now (FileRead name place asked answer octets) files = Some (octets_came now answer octets files.quest files.transfers)
by_answer now _ files = None

abbrev pub or_outcome : Option Outcome → Outcome → Outcome
or_outcome None before = before
or_outcome (Some o) before = o

-- after these calls, the newest first
abbrev pub after_calls : ℕ → List Entry → Outcome → Outcome
after_calls now [] o = o
after_calls now (e ∷ made) o = or_outcome (by_answer now e (after_calls now made o).files) (after_calls now made o)

-- each of them was the one that was asked for
abbrev pub AreAskedFor : ℕ → Outcome → List Entry → Type 0
AreAskedFor now o [] = Unit {0}
AreAskedFor now o (e ∷ made) = (call_for (after_calls now made o).files.quest ≡ Some (call_of e)) × AreAskedFor now o made

-- A packet came to this outcome; the calls that it asks for were made, and no more is asked for.
pub record IsServed (now : ℕ) (o : Outcome) (new : List Transfer) (told : Option Said) (made : List Entry) : Type 0 where
  pub asked : AreAskedFor now o made
  pub settled : (after_calls now made o).files.quest ≡ Settled
  pub transfers : new ≡ (after_calls now made o).files.transfers
  pub tells : told ≡ (after_calls now made o).told
