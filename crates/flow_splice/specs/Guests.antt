-- What a segment of the guest changes of a flow.
use Rattle.std.specs.Prelude.{ℕ, ◌≤◌, List, ◌∷◌, Bool, true, false, ◌&&◌, ◌||◌, not, nat_eq, if◌then◌else◌}
use Rattle.tcp_segment.specs.Tcp.{Tcp}
use Rattle.tcp_receive.specs.Received.{next_number}
use Rattle.tcp_connection.specs.Checks.{is_ack, is_fin, is_rst, is_syn}
use Rattle.tcp_connection.specs.Connection.{Connection}
use Rattle.tcp_connection.specs.Segments.{after_segment, change_at, down_after_segment, up_after_segment}
use Rattle.tcp_connection.specs.declared.Change.{Change}
use Rattle.tcp_connection.specs.declared.Change.TheVariants.{Nothing, GuestReset, Finished, Unfit}
use Rattle.world_face.specs.Journal.{Entry}
use Rattle.spec_flow.specs.Settings.{Settings}
use Rattle.spec_flow.specs.Event.{Arrives, At, Story}
use Rattle.seq_space.specs.Places.{is_ahead}
use Rattle.sim_connection.specs.Seen.{segment_of}
use Rattle.flow_splice.specs.Follows.{Follows}
use Rattle.flow_splice.specs.Serves.{Serves}
use Rattle.flow_splice.specs.Splice.{Splice, is_open}
use Rattle.flow_splice.specs.declared.Place.TheVariants.{Empty, InTimeWait}

-- the connection and its buffers take a segment
abbrev pub heard : Splice → Tcp → ℕ → Splice
heard f tcp now = record f {
  conn = after_segment f.conn f.up f.down tcp now;
  up = up_after_segment f.conn f.up f.down tcp;
  down = down_after_segment f.conn f.up f.down tcp;
  last = now;
}

abbrev pub is_unfit : Change → Bool
is_unfit Nothing = false
is_unfit GuestReset = false
is_unfit Finished = false
is_unfit Unfit = true

-- the segment is to be answered by a reset, as one without a flow
abbrev pub turns_away : Splice → Tcp → ℕ → Bool
turns_away f tcp now = is_open f && is_unfit (change_at f.conn f.up f.down tcp now)

-- a TIME-WAIT is ended by a reset at the next expected number, and by a SYN ahead of it
abbrev pub ends_time_wait : Connection → Tcp → Bool
ends_time_wait c tcp =
    (is_rst tcp && nat_eq tcp.seq (next_number c.received)) || (is_syn tcp && not (is_ack tcp) && not (is_rst tcp) && is_ahead tcp.seq (next_number c.received))

-- and begins anew with FIN and ACK
abbrev pub renews : Tcp → Bool
renews tcp = is_fin tcp && is_ack tcp && not (is_syn tcp) && not (is_rst tcp)

-- in TIME-WAIT
abbrev pub heard_in_time_wait : Splice → (since : ℕ) → Tcp → ℕ → Splice
heard_in_time_wait f since tcp now =
    if ends_time_wait f.conn tcp then record f { place = Empty }
    else record (heard f tcp now) { place = InTimeWait (if renews tcp then now else since) }

-- After every story that a flow followed, and the arrival of a segment: that what was made then are events of the flow, which follows the story.
abbrev pub Hears : (old new : Splice) → Tcp → (now : ℕ) → List Entry → Type 0
Hears old new tcp now made =
    (s : Settings) (past : Story) (before ident : ℕ) (ended known : Bool) → before ≤ now → Follows s old past before
    → Serves s new true ended known ident now (At now (Arrives (segment_of tcp)) ∷ past) made
