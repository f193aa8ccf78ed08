-- What a message says (RFC 2131, 2; RFC 2132).
use Rattle.std.specs.Prelude.{ℕ, ◌==◌, nat_le, ◌&&◌, Bool, List, [], ◌∷◌, length, drop, Option, Some, None, Result, Ok, Err, true, false, if◌then◌else◌}
use Rattle.std.specs.Option.{option_map, option_and_then}
use Rattle.net_octets.specs.Octets.{one_at, four_at, part}
use Rattle.net_octets.specs.declared.Ip4.{Ip4}
use Rattle.tlv_table.specs.declared.Form.{Form}
use Rattle.tlv_table.specs.declared.Row.{Row}
use Rattle.tlv_table.specs.declared.TlvFault.{TlvFault}
use Rattle.tlv_table.specs.Reading.{Found, first_body, reading}
use Rattle.rules_dhcp.specs.declared.Message.{Message}

abbrev pub row : (code least greatest : ℕ) → Bool → Row
row code least greatest repeats = record { code = code; least = least; greatest = greatest; repeats = repeats }

-- options: 255 ends them and has to be there, 0 is a pad, and a length counts the body alone (RFC 2132, 2)
abbrev pub form : Form
form = record { end = 255; pad = 0; end_needed = true; counts_head = false }

-- What is read: the client's name, the address asked for, the kind of message, the server, the client's identifier. The identifier has to be of two octets or
-- more, and isn't used.
abbrev pub rows_read : List Row
rows_read = row 12 1 255 true ∷ row 50 4 4 false ∷ row 53 1 1 false ∷ row 54 4 4 false ∷ row 61 2 255 true ∷ []

-- what begins the options: 99, 130, 83, 99 (RFC 2131, 3)
abbrev pub cookie : ℕ
cookie = 0x63825363

-- a request over Ethernet with hardware addresses of 6 octets, which no relay passed on
abbrev pub is_request : List ℕ → Bool
is_request octets =
    nat_le 240 (length octets)
    && (one_at octets 0 == 1) && (one_at octets 1 == 1) && (one_at octets 2 == 6)
    && (four_at octets 24 == 0) && (four_at octets 236 == cookie)

abbrev pub options_in : List ℕ → Result (List Found) TlvFault
options_in octets = reading form rows_read (drop 240 octets)

abbrev pub one_in : List ℕ → Option ℕ
one_in body = if length body == 1 then Some (one_at body 0) else None

abbrev pub address_in : List ℕ → Option Ip4
address_in body = if length body == 4 then Some (record { 0 = four_at body 0 }) else None

abbrev pub message_with : List ℕ → List Found → ℕ → Message
message_with octets found kind = record {
  ident = part octets 4 4;
  flags = part octets 10 2;
  client = record { 0 = four_at octets 12 };
  mac = record { 0 = part octets 28 6 };
  kind = kind;
  asked = option_and_then address_in (first_body 50 found);
  server = option_and_then address_in (first_body 54 found);
}

abbrev pub message_of : List ℕ → Result (List Found) TlvFault → Option Message
message_of octets (Ok found) = option_map (message_with octets found) (option_and_then one_in (first_body 53 found))
message_of octets (Err fault) = None

-- what octets say that are a message; others say nothing
abbrev pub read_message : List ℕ → Option Message
read_message octets = if is_request octets then message_of octets (options_in octets) else None
