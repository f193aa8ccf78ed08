-- What a whole trace of calls makes of the octets of the link, and of those of a connection.
use Rattle.std.specs.Prelude.{◌≡◌, ℕ, cond, List, [], ◌∷◌, ◌++◌, ◌==◌}
use Rattle.world_face.specs.Journal.{Entry, LinkRead, LinkWrite, TcpRead, TcpWrite, filled}
use Rattle.guest_link.specs.Passing.{Passing, Passes}
use Rattle.host_io.specs.Carrying.{Carrying, Carries}

-- what a call put that went out, by its answer, and what it handed out
abbrev pub written_by : Entry → List ℕ
written_by (LinkWrite octets answer) = filled answer octets
written_by _ = []

abbrev pub handed_by : Entry → List ℕ
handed_by (LinkRead asked answer octets) = octets
handed_by _ = []

-- the same of all calls of a trace, in their order
abbrev pub written : List Entry → List ℕ
written [] = []
written (entry ∷ entries) = written_by entry ++ written entries

abbrev pub handed : List Entry → List ℕ
handed [] = []
handed (entry ∷ entries) = handed_by entry ++ handed entries

-- One call after the other.
abbrev pub AllPass : Passing → List Entry → Passing → Type 0
AllPass first [] last = last ≡ first
AllPass first (entry ∷ entries) last = (next : Passing) × Passes (written_by entry) (handed_by entry) first next × AllPass next entries last

-- what a call put to a connection, by its answer, and what it read of it
abbrev pub written_to_by : ℕ → Entry → List ℕ
written_to_by connection (TcpWrite socket octets answer) = cond (socket == connection) (filled answer octets) []
written_to_by connection _ = []

abbrev pub read_from_by : ℕ → Entry → List ℕ
read_from_by connection (TcpRead socket asked answer octets) = cond (socket == connection) octets []
read_from_by connection _ = []

-- the same of all calls of a trace, in their order
abbrev pub written_to : ℕ → List Entry → List ℕ
written_to connection [] = []
written_to connection (entry ∷ entries) = written_to_by connection entry ++ written_to connection entries

abbrev pub read_from : ℕ → List Entry → List ℕ
read_from connection [] = []
read_from connection (entry ∷ entries) = read_from_by connection entry ++ read_from connection entries

-- One call after the other.
abbrev pub AllCarry : ℕ → Carrying → List Entry → Carrying → Type 0
AllCarry connection first [] last = last ≡ first
AllCarry connection first (entry ∷ entries) last =
    (next : Carrying) × Carries (written_to_by connection entry) (read_from_by connection entry) first next × AllCarry connection next entries last
