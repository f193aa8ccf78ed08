-- What a call on a socket for datagrams tells.
use Rattle.std.specs.Prelude.{◌≡◌, ◌⊎◌, ℕ, ⊤, List, [], ◌∷◌, ◌++◌, take, ◌==◌, cond, Option, None, Some, Ok, Err}
use Rattle.host_io.specs.Streams.{Answer}
use Rattle.host_io.specs.Streaming.{would_wait}
use Rattle.world_face.specs.declared.Sent.{Sent}
use Rattle.world_face.specs.declared.Sent.TheVariants.{Done, NotYet as NotSent, Failed as SendFailed}
use Rattle.world_face.specs.declared.Got.{Got}
use Rattle.world_face.specs.declared.Got.TheVariants.{From, NotYet as NoneCame, Failed as GetFailed}

-- what a send of so many octets tells, by what the socket answered: it is done where all of them were taken
abbrev pub send_tells : ℕ → Answer → Sent
send_tells size (Ok count) = cond (count == size) Done SendFailed
send_tells size (Err kind) = cond (would_wait kind) NotSent SendFailed

-- One datagram more was sent, which has these octets, none where it would have waited, and none that is whole where it failed.
abbrev pub SendsWhole : Option (List (List ℕ)) → Option (List (List ℕ)) → Sent → List ℕ → Type 0
SendsWhole None new result octets = ⊤
SendsWhole (Some old) None result octets = ⊥
SendsWhole (Some old) (Some new) Done octets = new ≡ old ++ octets ∷ []
SendsWhole (Some old) (Some new) NotSent octets = new ≡ old
SendsWhole (Some old) (Some new) SendFailed octets = (new ≡ old) ⊎ ((part : List ℕ) × (new ≡ old ++ part ∷ []))

-- The first that waited came: these octets are it, cut to the room that there was; none came where it would have waited, one at most where it failed.
abbrev pub ReceivesFirst : Option (List (List ℕ)) → Option (List (List ℕ)) → Got → (room : ℕ) (octets : List ℕ) → Type 0
ReceivesFirst None new result room octets = ⊤
ReceivesFirst (Some old) None result room octets = ⊥
ReceivesFirst (Some old) (Some new) (From peer count) room octets = (datagram : List ℕ) × (old ≡ datagram ∷ new) × (octets ≡ take room datagram)
ReceivesFirst (Some old) (Some new) NoneCame room octets = new ≡ old
ReceivesFirst (Some old) (Some new) GetFailed room octets = (new ≡ old) ⊎ ((datagram : List ℕ) × (old ≡ datagram ∷ new))

-- what a receive tells where none came, by what the socket answered
abbrev pub IsNoneTold : Got → Answer → Type 0
IsNoneTold result (Ok count) = ⊤
IsNoneTold result (Err kind) = result ≡ cond (would_wait kind) NoneCame GetFailed
