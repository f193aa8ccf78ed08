-- Traces and octets as they are written in worked runs.
use Rattle.std.proofs.Common.{ℕ, ◌+◌, ◌-◌, ◌*◌, nat_lt, Bool, List, [], ◌∷◌, reverse, codes, if◌then◌else◌}
use Prim.Native.String.{String}
use Rattle.poll_list.specs.declared.Want.{Want}
use Rattle.poll_list.specs.declared.Who.{Who}
use Rattle.world_face.specs.Journal.{Entry}

abbrev pub digit : ℕ → ℕ
digit c = if nat_lt c 58 then c - 48 else c - 87

abbrev pub pairs : List ℕ → List ℕ
pairs [] = []
pairs (a ∷ []) = []
pairs (a ∷ b ∷ rest) = (16 * digit a + digit b) ∷ pairs rest

abbrev pub hex : String → List ℕ
hex text = pairs (codes text)

abbrev pub want : Who → Bool → Bool → Want
want who read write = record { of = who; read = read; write = write }

-- a trace, written oldest first
abbrev pub run : List Entry → List Entry
run entries = reverse entries
