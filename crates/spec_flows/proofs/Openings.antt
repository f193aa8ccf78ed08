-- How written runs with TCP begin: a guest's first segments, what is answered, and what it says then.
use Rattle.std.proofs.Common.{ℕ, true, false, List, [], ◌∷◌, ◌++◌, Some, None}
use Rattle.poll_list.specs.declared.Who.TheVariants.{Link, Tcp}
use Rattle.world_face.specs.declared.Io.TheVariants.{Done}
use Rattle.world_face.specs.declared.Made.TheVariants.{Done as MadeDone}
use Rattle.world_face.specs.declared.Joined.TheVariants.{Yes}
use Rattle.world_face.specs.declared.Waited.TheVariants.{Ready}
use Rattle.world_face.specs.Journal.{Entry, Now, Wait, LinkRead, LinkWrite, Connect, Connected}
use Rattle.slirp_settings.specs.Addresses.{endpoint}
use Rattle.spec_flows.proofs.Writing.{hex, want}

-- a guest asks for port 80 of a host, and a connection to it is begun
abbrev pub asked : List Entry
asked =
    Now 0
    ∷ Wait (want Link true false ∷ []) None Ready (want Link true false ∷ [])
    ∷ Now 1000
    ∷ LinkRead 4 (Done 4) (hex "0000003a")
    ∷ LinkRead 58 (Done 58) (hex "52550a00020252540012345608004500002c000300004006acb30a00020fc00002070fa00050000003e8000000006002ffffb6380000020405b4")
    ∷ Connect 0 (endpoint 3221225991 80) MadeDone
    ∷ []

-- a wait reports the socket of the host
abbrev pub called : List Entry
called =
    asked
    ++ Wait (want Link true false ∷ want (Tcp 0) false true ∷ []) (Some 75000) Ready (want (Tcp 0) false true ∷ [])
    ∷ []

-- the host is connected at this moment, and the guest's SYN is answered
abbrev pub connected_at : ℕ → List Entry
connected_at moment =
    Now moment
    ∷ Connected 0 Yes
    ∷ LinkWrite (hex "0000003a52540012345652550a00020208004500002c000000004006acb6c00002070a00020f00500fa00003d090000003e96012ffffe5930000020405b4") (Done 62)
    ∷ []

-- The connection stands, with the usual ring, and a wait reports the link: what the guest says is read next.
abbrev pub opened : List Entry
opened =
    called
    ++ connected_at 1010
    ++ Wait (want Link true false ∷ want (Tcp 0) true false ∷ []) (Some 1000) Ready (want Link true false ∷ [])
    ∷ Now 1020
    ∷ []

-- the guest acknowledges the SYN, with the whole window
abbrev pub all_came : List Entry
all_came =
    LinkRead 4 (Done 4) (hex "00000036")
    ∷ LinkRead 54 (Done 54) (hex "52550a000202525400123456080045000028000900004006acb10a00020fc00002070fa00050000003e90003d0915010fffffd500000")
    ∷ []

-- ten octets of the guest
abbrev pub ten_came : List Entry
ten_came =
    LinkRead 4 (Done 4) (hex "00000040")
    ∷ LinkRead 64 (Done 64) (hex "52550a000202525400123456080045000032000900004006aca70a00020fc00002070fa00050000003e90003d0915010ffffe92d000000010203040506070809")
    ∷ []

-- ten octets of the guest, and what acknowledges them
abbrev pub ten_taken : List Entry
ten_taken =
    ten_came
    ++ LinkWrite (hex "0000003652540012345652550a000202080045000028000100004006acb9c00002070a00020f00500fa00003d091000003f35010fff5fd500000") (Done 58)
    ∷ []

-- a reset of the guest, at the next number
abbrev pub reset_came : List Entry
reset_came =
    LinkRead 4 (Done 4) (hex "00000036")
    ∷ LinkRead 54 (Done 54) (hex "52550a000202525400123456080045000028000900004006acb10a00020fc00002070fa00050000003e9000000005004ffffcdf10000")
    ∷ []
