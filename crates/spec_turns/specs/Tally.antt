-- How many calls a turn has made so far, and for what.
use Rattle.std.specs.Prelude.{ℕ, ◌+◌, ◌*◌, ◌==◌, List, [], ◌∷◌, length, Option, Some, None, if◌then◌else◌}
use Rattle.world_face.specs.Journal.{Entry, Wait, LinkRead, LinkWrite, Listen, UdpOpen, Close, FileRead}
use Rattle.world_face.specs.Frames.{goes_out}
use Rattle.slirp_settings.specs.Addresses.{Config}

-- Since the last wait: the calls; and the items that it reported, the sockets that were closed, the ports of the host that were given to guests, the octets that
-- came on the link or from files, and the frames that began to go out. Before the first wait the items are the ports that the settings open.
pub record Tally : Type 0 where
  pub calls : ℕ
  pub items : ℕ
  pub closes : ℕ
  pub given : ℕ
  pub octets : ℕ
  pub frames : ℕ

abbrev pub nothing_yet : ℕ → Tally
nothing_yet items = record { calls = 0; items = items; closes = 0; given = 0; octets = 0; frames = 0 }

-- a write begins one frame, or none
abbrev pub frames_in : Option (List ℕ) → ℕ
frames_in None = 0
frames_in (Some frame) = 1

-- a port of the host that is given to a guest is named; the others are of the host's choice
abbrev pub named : (port : ℕ) → ℕ
named port = if port == 0 then 0 else 1

abbrev pub counted : Entry → Option (List ℕ) → Tally → Tally
counted (Wait wants timeout answer ready) went t = nothing_yet (length ready)
counted (LinkRead asked answer octets) went t = record t { calls = t.calls + 1; octets = t.octets + length octets }
counted (LinkWrite octets answer) went t = record t { calls = t.calls + 1; frames = t.frames + frames_in went }
counted (Listen socket at answer) went t = record t { calls = t.calls + 1; given = t.given + 1 }
counted (UdpOpen socket at answer) went t = record t { calls = t.calls + 1; given = t.given + named at.port }
counted (Close socket) went t = record t { calls = t.calls + 1; closes = t.closes + 1 }
counted (FileRead name place asked answer octets) went t = record t { calls = t.calls + 1; octets = t.octets + length octets }
counted _ went t = record t { calls = t.calls + 1 }

abbrev pub tally : Config → List Entry → Tally
tally config [] = nothing_yet (length config.forwards)
tally config (e ∷ past) = counted e (goes_out e past) (tally config past)

-- Three for each item: octets of a host are read, others written to it, and it is told the end. One for each socket that is closed, port of the host
-- that is given to a guest, octet that comes, and frame that goes out. And three beside: the clock is asked, the rest of a frame goes out, and the link takes
-- nothing.
abbrev pub most_calls : Tally → ℕ
most_calls t = 3 * t.items + t.closes + t.given + t.octets + t.frames + 3
