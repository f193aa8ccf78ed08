-- The segment that goes out for what a connection owes.
use Rattle.std.specs.Prelude.{ℕ, ◌-◌, Bool, true, false, List, [], take, drop, Option, Some, None}
use Rattle.sock_buffers.specs.Downward.{Downward}
use Rattle.sock_buffers.specs.Upward.{Upward}
use Rattle.tcp_transmit.specs.declared.Piece.{Piece}
use Rattle.tcp_connection.specs.Connection.{Connection}
use Rattle.tcp_connection.specs.Owing.{head_of}
use Rattle.tcp_connection.specs.declared.Head.{Head}
use Rattle.tcp_connection.specs.declared.Owed.{Owed}
use Rattle.tcp_connection.specs.declared.Owed.TheVariants.{Syn, SynAck, Data, Ack, Reset}
use Rattle.spec_flow.specs.Event.{Segment}

-- the octets of a piece, of those that are held
abbrev pub octets_of : Downward → Piece → List ℕ
octets_of down p = take p.length (drop (p.place - down.first) down.octets)

abbrev pub is_syn : Owed → Bool
is_syn Syn = true
is_syn SynAck = true
is_syn (Data p) = false
is_syn Ack = false
is_syn (Reset seq ack) = false

-- each but our SYN acknowledges
abbrev pub is_ack : Owed → Bool
is_ack Syn = false
is_ack SynAck = true
is_ack (Data p) = true
is_ack Ack = true
is_ack (Reset seq ack) = true

abbrev pub is_rst : Owed → Bool
is_rst Syn = false
is_rst SynAck = false
is_rst (Data p) = false
is_rst Ack = false
is_rst (Reset seq ack) = true

abbrev pub is_fin : Owed → Bool
is_fin Syn = false
is_fin SynAck = false
is_fin (Data p) = p.fin
is_fin Ack = false
is_fin (Reset seq ack) = false

abbrev pub carried : Downward → Owed → List ℕ
carried down Syn = []
carried down SynAck = []
carried down (Data p) = octets_of down p
carried down Ack = []
carried down (Reset seq ack) = []

-- our SYN says how many octets a segment may have that comes from the guest (RFC 9293, 3.7.1)
abbrev pub mss_in : ℕ → Owed → Option ℕ
mss_in mru Syn = Some (mru - 40)
mss_in mru SynAck = Some (mru - 40)
mss_in mru (Data p) = None
mss_in mru Ack = None
mss_in mru (Reset seq ack) = None

abbrev pub with_head : Head → (mru : ℕ) → Downward → Owed → Segment
with_head h mru down what = record {
  number = h.seq.0;
  acknowledgement = h.ack.0;
  ack = is_ack what;
  syn = is_syn what;
  rst = is_rst what;
  fin = is_fin what;
  window = h.window;
  mss = mss_in mru what;
  scale = h.scale;
  octets = carried down what;
}

-- with the most octets of a datagram that come from the guest
abbrev pub segment_out : (mru : ℕ) → Connection → Upward → Downward → Owed → Segment
segment_out mru c up down what = with_head (head_of c up what) mru down what
