-- What is read of a packet where it lies: texts that are cut off one after another.
use Rattle.std.specs.Prelude.{ℕ, ◌==◌, Bool, List, [], ◌∷◌, Option, Some, None, is_some, option_map, unwrap_or, if◌then◌else◌}
use Rattle.std.specs.Option.{option_and_then}
use Rattle.std.specs.Borrow.{Bor}
use Rattle.rules_tftp.specs.Packets.{Packet, Asks, AsksToWrite, Acknowledges, GivesUp, Unheard, Request, is_name, pairs_of, texts_in}
use Rattle.tftp_server.specs.declared.packets.PacketView.{PacketView}
use Rattle.tftp_server.specs.declared.packets.PacketView.TheVariants.{Asks as AsksBy, AsksToWrite as AsksToWriteIt, Acknowledges as AcknowledgesIt, GivesUp as GivesItUp, Unheard as IsUnheard}
use Rattle.tftp_server.specs.declared.packets.RequestView.{RequestView}
use Rattle.tftp_server.specs.declared.packets.PairView.{PairView}

-- octets that are cut in two, with one more in front
abbrev pub with_front : ℕ → List ℕ × List ℕ → List ℕ × List ℕ
with_front x parts = (x ∷ parts.0, parts.1)

-- what stands before the first such octet, and what behind it
abbrev pub cut : ℕ → List ℕ → Option (List ℕ × List ℕ)
cut octet [] = None
cut octet (x ∷ octets) = if x == octet then Some ([], octets) else option_map (with_front x) (cut octet octets)

-- the first two texts, and what stands behind them
abbrev pub pair_with : List ℕ → List ℕ × List ℕ → List ℕ × List ℕ × List ℕ
pair_with name parts = (name, parts.0, parts.1)

abbrev pub first_pair : List ℕ → Option (List ℕ × List ℕ × List ℕ)
first_pair octets = option_and_then (λ (parts : List ℕ × List ℕ). option_map (pair_with parts.0) (cut 0 parts.1)) (cut 0 octets)

-- the texts two and two
abbrev pub pairs_in : List ℕ → Option (List (List ℕ × List ℕ))
pairs_in octets = option_and_then pairs_of (texts_in octets)

abbrev pub are_pairs : List ℕ → Bool
are_pairs octets = is_some (pairs_in octets)

abbrev pub options_of : List ℕ → List (List ℕ × List ℕ)
options_of octets = unwrap_or (pairs_in octets) []

abbrev pub parts_of : Bor (List ℕ) × Bor (List ℕ) → List ℕ × List ℕ
parts_of parts = (parts.0.now, parts.1.now)

-- a packet, a request and a pair of texts by their octets
abbrev pub packet_of : PacketView → Packet
packet_of (AsksBy texts) = Asks texts.now
packet_of AsksToWriteIt = AsksToWrite
packet_of (AcknowledgesIt block) = Acknowledges block
packet_of GivesItUp = GivesUp
packet_of IsUnheard = Unheard

abbrev pub request_of_view : RequestView → Request
request_of_view r = record { name = r.name.now; mode = r.mode.now; options = options_of r.options.now }

abbrev pub pair_of : PairView → List ℕ × List ℕ × List ℕ
pair_of p = (p.name.now, p.value.now, p.rest.now)

-- a name that is taken
abbrev pub name_taken : List ℕ → Option (List ℕ)
name_taken octets = if is_name octets then Some octets else None
