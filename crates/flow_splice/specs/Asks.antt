-- How a pump asks for the guest's hardware address.
use Rattle.std.specs.Prelude.{◌≡◌, ℕ, ◌^◌, ◌<◌, ◌⊎◌, true, List, [], ◌∷◌, Option, None, Some}
use Rattle.net_octets.specs.declared.Mac.{Mac}
use Rattle.world_face.specs.Frames.{encoding}
use Rattle.world_face.specs.Journal.{Entry, LinkWrite}
use Rattle.world_face.specs.declared.Io.{Io}
use Rattle.stream_netdev.specs.Offers.{offered}
use Rattle.flow_splice.specs.Frames.{request_frame}
use Rattle.flow_splice.specs.Sends.{asked, asks_now}
use Rattle.flow_splice.specs.Splice.{Splice}

-- One was owed, and was offered to the link, once. Where the link took something of it an answer is waited for. The guest's address has 32 bits.
pub record Requests (old new : Splice) (now : ℕ) (made : List Entry) : Type 0 where
  pub due : asks_now old ≡ true
  pub answer : Io
  pub one : made ≡ LinkWrite (encoding (request_frame old.face)) answer ∷ []
  pub change : new ≡ asked (offered answer) old now
  pub fits : old.face.guest.addr.0 < 2 ^ 32

-- A guest whose hardware address is known isn't asked for. Another one is at most once, or nothing is called and nothing changes.
abbrev pub AsksOnce : Option Mac → (old new : Splice) → (now : ℕ) → List Entry → Type 0
AsksOnce (Some mac) old new now made = new.asked ≡ old.asked
AsksOnce None old new now made = ((made ≡ []) × (new ≡ old)) ⊎ Requests old new now made
