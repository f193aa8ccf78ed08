-- What is kept of the control's connection, and what its calls make of it.
use Rattle.std.specs.Prelude.{ℕ, ◌+◌, ◌-◌, ◌^◌, ◌==◌, ◌&&◌, not, nat_le, Bool, true, false, is_some, List, [], ◌∷◌, ◌++◌, length, position, take, drop, Option, Some, None, if◌then◌else◌}
use Rattle.std.specs.Option.{option_map}
use Rattle.poll_list.specs.declared.Want.{Want}
use Rattle.poll_list.specs.declared.Who.TheVariants.{Listener, Tcp}
use Rattle.world_face.specs.Journal.{Entry, Close}
use Rattle.world_face.specs.declared.Accepted.{Accepted}
use Rattle.world_face.specs.declared.Accepted.TheVariants.{From, NotYet as NotYetAccepted, Failed as AcceptFailed}
use Rattle.world_face.specs.declared.Io.{Io}
use Rattle.world_face.specs.declared.Io.TheVariants.{Done, End, NotYet, Failed}
use Rattle.world_face.specs.declared.Made.{Made}
use Rattle.world_face.specs.declared.Made.TheVariants.{Done as MadeDone, Failed as MadeFailed}

-- the number of its listener; those of its connections are drawn upward behind it
abbrev pub listener : ℕ
listener = 2 ^ 63

-- a line has at most so many octets, its line feed apart; ours
abbrev pub longest_line : ℕ
longest_line = 128

-- the octets of one reply at most; ours
abbrev pub longest_reply : ℕ
longest_reply = 280000

-- whether its listener is open, which connection is, how many there have been, the octets of lines that came and weren't answered, and what is left of the reply
pub record Talk : Type 0 where
  pub listening : Bool
  pub peer : Option ℕ
  pub had : ℕ
  pub kept : List ℕ
  pub left : List ℕ

-- the control before it listens
abbrev pub silent : Talk
silent = record { listening = false; peer = None; had = 0; kept = []; left = [] }

-- the number of the next connection
abbrev pub next_peer : Talk → ℕ
next_peer t = listener + 1 + t.had

-- a connection that is over leaves no line and no reply
abbrev pub hung_up : Talk → Talk
hung_up t = record { listening = t.listening; peer = None; had = t.had; kept = []; left = [] }

abbrev pub after_listen : Made → Talk → Talk
after_listen MadeDone t = record { listening = true; peer = t.peer; had = t.had; kept = t.kept; left = t.left }
after_listen MadeFailed t = t

abbrev pub after_accept : Accepted → Talk → Talk
after_accept (From peer) t = record { listening = t.listening; peer = Some (next_peer t); had = t.had + 1; kept = []; left = [] }
after_accept NotYetAccepted t = t
after_accept AcceptFailed t = t

-- how many octets the first line has, where it is whole; it, without the line feed that ends it, and what is behind that
abbrev pub line_end : List ℕ → Option ℕ
line_end octets = position (λ c. c == 10) octets

abbrev pub line_and_rest : List ℕ → ℕ → List ℕ × List ℕ
line_and_rest octets n = (take n octets, drop (n + 1) octets)

abbrev pub first_line : List ℕ → Option (List ℕ × List ℕ)
first_line octets = option_map (line_and_rest octets) (line_end octets)

abbrev pub has_line : List ℕ → Bool
has_line octets = is_some (line_end octets)

-- more octets than a line has, and no line feed among them
abbrev pub is_endless : List ℕ → Bool
is_endless octets = nat_le (longest_line + 1) (length octets) && not (has_line octets)

-- how many octets a read asks for
abbrev pub free : List ℕ → ℕ
free kept = longest_line + 1 - length kept

-- a read that is the last one: it answered End or Failed, or brought a line that doesn't end
abbrev pub is_last : Io → List ℕ → Bool
is_last (Done n) kept = is_endless kept
is_last End kept = true
is_last NotYet kept = false
is_last Failed kept = true

abbrev pub with_kept : List ℕ → Talk → Talk
with_kept kept t = record { listening = t.listening; peer = t.peer; had = t.had; kept = kept; left = t.left }

abbrev pub after_read : Io → List ℕ → Talk → Talk
after_read answer octets t = if is_last answer (t.kept ++ octets) then hung_up t else with_kept (t.kept ++ octets) t

-- the octets that a write offers, those of one call (`most_to_flow`); and what is left after it; a write that fails is the last call but the close
abbrev pub most_at_once : ℕ
most_at_once = 16384

abbrev pub with_left : List ℕ → Talk → Talk
with_left left t = record { listening = t.listening; peer = t.peer; had = t.had; kept = t.kept; left = left }

abbrev pub after_write : Io → Talk → Talk
after_write (Done n) t = with_left (drop n t.left) t
after_write End t = t
after_write NotYet t = t
after_write Failed t = hung_up t

abbrev pub fails : Io → Bool
fails Failed = true
fails _ = false

-- the close that follows where a call was the last one
abbrev pub closed_if : Bool → ℕ → List Entry
closed_if true socket = Close socket ∷ []
closed_if false socket = []

-- nothing is left of a reply
abbrev pub is_out : Talk → Bool
is_out t = length t.left == 0

-- a line is to be answered now: a connection is open, a line is whole, and no reply is left
abbrev pub is_to_answer : Talk → Bool
is_to_answer t = is_out t && is_some t.peer && has_line t.kept

-- What is waited for: a peer where no connection is open, and the listener is; of a connection lines where no reply is left, and else that some of it is taken.
abbrev pub listener_want : Bool → Option Want
listener_want true = Some (record { of = Listener listener; read = true; write = false })
listener_want false = None

abbrev pub peer_want : ℕ → Bool → Want
peer_want socket out = record { of = Tcp socket; read = out; write = not out }

abbrev pub want_by : Option ℕ → Talk → Option Want
want_by None t = listener_want t.listening
want_by (Some socket) t = Some (peer_want socket (is_out t))

abbrev pub want_of : Talk → Option Want
want_of t = want_by t.peer t

-- the line that is taken out, and what stays
abbrev pub rest_of : List ℕ → Option (List ℕ × List ℕ) → List ℕ
rest_of kept None = kept
rest_of kept (Some split) = split.1

abbrev pub after_line : Talk → Talk
after_line t = with_kept (rest_of t.kept (first_line t.kept)) t

-- what is left of a reply, and how many octets can be put behind it without moving it
pub record Pending : Type 0 where
  pub left : List ℕ
  pub room : ℕ

-- at the end both sockets are closed, the listener first; a list of calls has its newest first
abbrev pub peer_closed : Option ℕ → List Entry
peer_closed None = []
peer_closed (Some socket) = Close socket ∷ []

abbrev pub all_closed : Talk → List Entry
all_closed t = peer_closed t.peer ++ closed_if t.listening listener

abbrev pub deaf : Talk → Talk
deaf t = record { listening = false; peer = t.peer; had = t.had; kept = t.kept; left = t.left }

abbrev pub over : Talk → Talk
over t = record { listening = false; peer = None; had = t.had; kept = []; left = [] }
