-- Every octet is kept: of what came to the link, and of what goes out.
use Rattle.std.specs.Prelude.{◌≡◌, ℕ, List, [], ◌++◌, Option, Ok, cond}
use Rattle.std.specs.Io.KnownBytes.{Consumes, Appends, IsAtEnd}
use Rattle.host_io.specs.Streams.{Answer, Calls}
use Rattle.guest_link.specs.Linking.{is_open}
use Rattle.guest_link.specs.declared.link.Outlet.{Outlet}
use Rattle.world_face.specs.declared.Io.{Io}
use Rattle.world_face.specs.Journal.{filled}

-- What was handed on, and behind it what waits, is what waited, and behind it what the stream gave meanwhile.
abbrev pub HandsOn : (left-old left-new : Option (List ℕ)) (waited waits handed : List ℕ) → Type 0
HandsOn left-old left-new waited waits handed = (came : List ℕ) × Consumes left-old left-new came × (handed ++ waits ≡ waited ++ came)

-- What the stream took meanwhile, and behind it what waits, is what waited, and behind it what was put.
abbrev pub SendsOn : (taken-old taken-new : Option (List ℕ)) (waited waits put : List ℕ) → Type 0
SendsOn taken-old taken-new waited waits put = (sent : List ℕ) × Appends taken-old taken-new sent × (sent ++ waits ≡ waited ++ put)

-- One call was made: what it answered says what is told, and no octet only at the end of the stream.
abbrev pub TellsBy : (past now : Option (List Answer)) (left : Option (List ℕ)) (told : Answer → Io) (result : Io) → Type 0
TellsBy past now left told result = Calls past now (λ answer. (result ≡ told answer) × (answer ≡ Ok 0 → IsAtEnd left))

-- what of an offer is to go out: where the peer is gone it is lost
abbrev pub put_of : Outlet → Io → List ℕ → List ℕ
put_of outlet answer from = cond (is_open outlet) (filled answer from) []
