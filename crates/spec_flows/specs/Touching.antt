-- Which flow an entry is about.
use Rattle.std.specs.Prelude.{◌≡◌, ℕ, ◌==◌, ◌&&◌, Bool, false, List, [], ◌∷◌, ◌++◌, Option, Some, None}
use Rattle.world_face.specs.Journal.{Entry}
use Rattle.slirp_settings.specs.Addresses.{Config, address}
use Rattle.spec_flow.specs.Flow.{is_accepted}
use Rattle.spec_flows.specs.Book.{book}
use Rattle.spec_flows.specs.Doings.{Doing, Nothing, Comes, Goes, Resolves, Pauses, Joins, Visits, Calls, Shuts, doing}
use Rattle.spec_flows.specs.Flows.{Flow, Book, owner, flow_of}

abbrev pub has_number : ℕ → Option Flow → Bool
has_number number None = false
has_number number (Some f) = f.number == number

abbrev pub is_accepted_for : ℕ → Option Flow → Bool
is_accepted_for guest None = false
is_accepted_for guest (Some f) = is_accepted f.story && (address f.tuple.guest == guest)

-- it opens the flow, or is a segment, a call, a close or a request of it
abbrev pub touches : ℕ → Book → Doing → Bool
touches number b Nothing = false
touches number b (Comes on) = has_number number (owner on.tuple b.flows)
touches number b (Goes on) = has_number number (owner on.tuple b.flows)
touches number b (Resolves guest) = is_accepted_for guest (flow_of number b.flows)
touches number b Pauses = false
touches number b (Joins socket) = socket == number
touches number b (Visits listener socket peer) = socket == number
touches number b (Calls socket event) = socket == number
touches number b (Shuts socket) = socket == number

-- none of the entries made is about the flow
abbrev pub AreApart : Config → ℕ → List Entry → List Entry → Type 0
AreApart config number past [] = Unit {0}
AreApart config number past (e ∷ made) = (touches number (book config (made ++ past)) (doing config (made ++ past) e) ≡ false) × AreApart config number past made
