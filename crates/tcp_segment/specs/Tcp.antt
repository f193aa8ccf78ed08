-- Segments of TCP (RFC 9293, 3.1).
use Rattle.std.specs.Prelude.{◌≡◌, ℕ, ◌+◌, ◌-◌, ◌*◌, ◌/◌, ◌^◌, ◌<◌, ◌≤◌, ◌||◌, not, Bool, true, false, nat_lt, nat_eq, bit_and, List, [], ◌∷◌, ◌++◌, length, drop, Option, Some, None}
use Rattle.std.specs.Prelude.{option_map, unwrap_or, max, Result, Ok, Err, if◌then◌else◌}
use Rattle.std.specs.Result.{result_ok, result_err}
use Rattle.net_octets.specs.Kinds.{tcp_proto}
use Rattle.net_octets.specs.Octets.{one_at, two_at, four_at, part, two, four, word_sum, checksum, sum_ok, before_sum}
use Rattle.net_octets.specs.declared.Fault.{Fault}
use Rattle.net_octets.specs.declared.FaultKind.TheVariants.{Short, BadLength, BadSum}
use Rattle.tlv_table.specs.declared.Form.{Form}
use Rattle.tlv_table.specs.declared.Row.{Row}
use Rattle.tlv_table.specs.declared.TlvFault.{TlvFault}
use Rattle.tlv_table.specs.Reading.{Found, first_body, reading}
use Rattle.tlv_table.specs.Grammar.{IsListOf}
use Rattle.tcp_segment.specs.declared.Options.{Options}
use Rattle.tcp_segment.specs.declared.TcpView.{TcpView}
use Rattle.tcp_segment.specs.declared.TheConstants.{SYN, FIN}

-- what a segment says: ports, numbers, the eight flags, the window, the greatest segment size and the window scale where they are said, and the octets that it carries
pub record Tcp : Type 0 where
  pub from_port : ℕ
  pub to_port : ℕ
  pub seq : ℕ
  pub ack : ℕ
  pub flags : ℕ
  pub window : ℕ
  pub mss : Option ℕ
  pub scale : Option ℕ
  pub body : List ℕ

-- whether a flag is among the eight
abbrev pub has : (flag flags : ℕ) → Bool
has flag flags = not (nat_eq (bit_and flags flag) 0)

-- how many sequence numbers a segment takes: one for each octet, one for SYN and one for FIN (SEG.LEN)
abbrev pub numbers_of : Tcp → ℕ
numbers_of tcp = length tcp.body + (if has SYN tcp.flags then 1 else 0) + (if has FIN tcp.flags then 1 else 0)

-- the options (RFC 9293, 3.2): 0 ends them, 1 is a pad, and a length counts its code and itself; the code 2 says the greatest segment size, and the code 3 the window scale (RFC 7323, 2.2)
abbrev pub tcp_form : Form
tcp_form = record { end = 0; pad = 1; end_needed = false; counts_head = true }

abbrev pub mss_row : Row
mss_row = record { code = 2; least = 2; greatest = 2; repeats = true }

abbrev pub scale_row : Row
scale_row = record { code = 3; least = 1; greatest = 1; repeats = true }

abbrev pub tcp_rows : List Row
tcp_rows = mss_row ∷ scale_row ∷ []

-- the first greatest segment size among options, and the first window scale as it stands there
abbrev pub mss_in : List Found → Option ℕ
mss_in found = option_map (λ body. two_at body 0) (first_body 2 found)

abbrev pub scale_in : List Found → Option ℕ
scale_in found = option_map (λ body. one_at body 0) (first_body 3 found)

abbrev pub options_in : List Found → Options
options_in found = record { mss = mss_in found; scale = scale_in found }

-- the header and what it carries: words counts its words of four octets, the reserved bits and the urgent pointer say nothing here
abbrev pub segment_with : (words reserved sum urgent : ℕ) → List ℕ → Tcp → List ℕ
segment_with words reserved sum urgent options tcp =
    two tcp.from_port ++ two tcp.to_port ++ four tcp.seq ++ four tcp.ack
    ++ (16 * words + reserved) ∷ tcp.flags ∷ two tcp.window ++ two sum ++ two urgent ++ options ++ tcp.body

-- the ranges of the fields
pub record Fits (tcp : Tcp) : Type 0 where
  pub from_port : tcp.from_port < 2 ^ 16
  pub to_port : tcp.to_port < 2 ^ 16
  pub seq : tcp.seq < 2 ^ 32
  pub ack : tcp.ack < 2 ^ 32
  pub window : tcp.window < 2 ^ 16

-- the words that the checksum is over: the addresses, the protocol and the length stand before the segment
abbrev pub summed : (from to : ℕ) → List ℕ → ℕ
summed from to octets = before_sum from to tcp_proto (length octets) + word_sum octets

-- the grammar: the fields in their order, options to a whole number of words, a sum that holds, and all the rest is the body
pub record IsTcp (from to : ℕ) (octets : List ℕ) (tcp : Tcp) : Type 0 where
  pub words : ℕ
  pub words_fit : (5 ≤ words) × (words < 16)
  pub reserved : ℕ
  pub reserved_fits : reserved < 16
  pub sum : ℕ
  pub sum_fits : sum < 2 ^ 16
  pub urgent : ℕ
  pub urgent_fits : urgent < 2 ^ 16
  pub options : List ℕ
  pub options_size : 20 + length options ≡ 4 * words
  pub found : List Found
  pub lists : IsListOf tcp_form tcp_rows options found
  pub fits : Fits tcp
  pub mss : tcp.mss ≡ mss_in found
  pub scale : tcp.scale ≡ scale_in found
  pub is : octets ≡ segment_with words reserved sum urgent options tcp
  pub holds : sum_ok (summed from to octets) ≡ true

-- the length of the header, in octets
abbrev pub head_length : List ℕ → ℕ
head_length octets = 4 * (one_at octets 12 / 16)

-- it, or the first fault of the header and the sum
abbrev pub head_reading : (from to : ℕ) → List ℕ → Result ℕ Fault
head_reading from to octets =
    if nat_lt (length octets) 20 then Err (record { kind = Short; at = length octets })
    else (if nat_lt (head_length octets) 20 || nat_lt (length octets) (head_length octets) then Err (record { kind = BadLength; at = 12 })
    else (if not (sum_ok (summed from to octets)) then Err (record { kind = BadSum; at = 16 })
    else Ok (head_length octets)))

-- what options say, or their fault
abbrev pub options_found : Result (List Found) TlvFault → Result Options Fault
options_found (Ok found) = Ok (options_in found)
options_found (Err fault) = Err (record { kind = BadLength; at = 20 })

abbrev pub options_reading : List ℕ → Result Options Fault
options_reading options = options_found (reading tcp_form tcp_rows options)

-- the fields of a segment whose header has this length and whose options say this
abbrev pub fields_of : List ℕ → ℕ → Options → Tcp
fields_of octets head options = record {
  from_port = two_at octets 0;
  to_port = two_at octets 2;
  seq = four_at octets 4;
  ack = four_at octets 8;
  flags = one_at octets 13;
  window = two_at octets 14;
  mss = options.mss;
  scale = options.scale;
  body = drop head octets;
}

infixl 10 ◌>>=◌
abbrev pub ◌>>=◌ : {A B : Type 0} → Result A Fault → (A → Result B Fault) → Result B Fault
(Ok x) >>= go_on = go_on x
(Err fault) >>= go_on = Err fault

-- the fields that octets encode, or the first fault
abbrev pub tcp_reading : (from to : ℕ) → List ℕ → Result Tcp Fault
tcp_reading from to octets =
    head_reading from to octets >>= λ head. options_reading (part octets 20 (head - 20)) >>= λ options. Ok (fields_of octets head options)

abbrev pub read_tcp : (from to : ℕ) → List ℕ → Option Tcp
read_tcp from to octets = result_ok (tcp_reading from to octets)

abbrev pub tcp_fault : (from to : ℕ) → List ℕ → Option Fault
tcp_fault from to octets = result_err (tcp_reading from to octets)

-- the most octets of a piece that a SYN with this option says: 536 where it has none (RFC 9293, 3.7.1), and 64 at least
abbrev pub mss_of : Option ℕ → ℕ
mss_of mss = max 64 (unwrap_or mss 536)

-- the options that we write: the greatest segment size, where there is one, and after it a pad and the window scale, where there is one
abbrev pub mss_octets : Option ℕ → List ℕ
mss_octets None = []
mss_octets (Some mss) = 2 ∷ 4 ∷ two mss

abbrev pub scale_octets : Option ℕ → List ℕ
scale_octets None = []
scale_octets (Some shift) = 1 ∷ 3 ∷ 3 ∷ shift ∷ []

abbrev pub options_octets : Tcp → List ℕ
options_octets tcp = mss_octets tcp.mss ++ scale_octets tcp.scale

-- the words of four octets of the header that we write
abbrev pub words_of : Tcp → ℕ
words_of tcp = (20 + length (mss_octets tcp.mss) + length (scale_octets tcp.scale)) / 4

-- the header that we write, without options and with 0 in the place of the sum
abbrev pub head_octets : Tcp → List ℕ
head_octets tcp =
    two tcp.from_port ++ two tcp.to_port ++ four tcp.seq ++ four tcp.ack
    ++ (16 * words_of tcp + 0) ∷ tcp.flags ∷ two tcp.window ++ two 0 ++ two 0

-- the length of a segment that we write, in octets
abbrev pub tcp_length : Tcp → ℕ
tcp_length tcp = 20 + length (mss_octets tcp.mss) + length (scale_octets tcp.scale) + length tcp.body

-- a segment that we write, with this sum, and with the one that holds
abbrev pub tcp_with : ℕ → Tcp → List ℕ
tcp_with sum tcp = segment_with (words_of tcp) 0 sum 0 (options_octets tcp) tcp

abbrev pub tcp_octets : (from to : ℕ) → Tcp → List ℕ
tcp_octets from to tcp = tcp_with (checksum (summed from to (tcp_with 0 tcp))) tcp

-- a segment without where its octets lie in memory
abbrev pub tcp_of : TcpView → Tcp
tcp_of v = record { from_port = v.from_port; to_port = v.to_port; seq = v.seq.0; ack = v.ack.0; flags = v.flags; window = v.window; mss = v.mss; scale = v.scale; body = v.body.now }
