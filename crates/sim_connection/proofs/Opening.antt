-- A flow is opened.
use Rattle.std.proofs.Common.{refl, ◌≡◌, ℕ, ◌-◌, ◌≤◌, ◌^◌, [], ◌∷◌, true, arith, inr}
use Rattle.retransmit.specs.Resending.{IsSteady, at_rest}
use Rattle.sock_buffers.specs.Downward.{downward}
use Rattle.sock_buffers.specs.Upward.{empty}
use Rattle.tcp_segment.specs.Tcp.{Tcp}
use Rattle.tcp_connection.specs.Connection.{HasBuffers, from_guest, to_guest}
use Rattle.spec_flow.specs.Settings.{Settings}
use Rattle.spec_flow.specs.Event.{Connects, Accepts, At}
use Rattle.spec_flow.specs.Windows.{mss}
use Rattle.spec_flow.specs.Segments.{segment_of}
use Rattle.sim_halves.proofs.InTime.{opens, accepts}
use Rattle.sim_halves.proofs.Rests.{opens_ends}
use Rattle.sim_halves.proofs.Steps.{opened}
use Rattle.sim_connection.specs.Holding.{Goes, Holds}
use Rattle.sim_connection.specs.Seen.{part_of}
use Rattle.sim_connection.proofs.Going.{nothing_to_close}

steady_at_rest : IsSteady at_rest
steady_at_rest = record {
  few = omega arith;
  rests = λ is. refl;
  doubled = omega arith;
  longest = omega arith;
  range = tt;
}

module _ (s : Settings) (m ours most size : ℕ) (scales : s.scales ≡ true) (few : s.ring ≤ 2 ^ 20) where
  -- the guest's SYN came, and the host is asked to connect
  module _ (syn : Tcp) (fits : most ≡ mss s (At m (Connects ours (segment_of syn)) ∷ [])) where
    connects_goes : Goes s (At m (Connects ours (segment_of syn)) ∷ []) m
    connects_goes = record {
      story = tt;
      moment = omega arith;
      lawful = (refl, tt);
      dutiful = (nothing_to_close [] refl, tt);
      open_yet = refl;
      well = refl;
      free = nothing_to_close (At m (Connects ours (segment_of syn)) ∷ []) refl;
    }

    pub connects_holds : HasBuffers (from_guest syn.seq ours most syn.scale s.ring s.congestion) (empty s.ring) (downward [] 0 size)
        → Holds s (from_guest syn.seq ours most syn.scale s.ring s.congestion) (empty s.ring) (downward [] 0 size) (At m (Connects ours (segment_of syn)) ∷ []) m
    connects_holds buffers = record {
      suits = record { ring = refl; congestion = refl; scales = scales; few = few };
      buffers = buffers;
      within = omega arith;
      goes = connects_goes;
      opened = record {
        live = refl;
        ours = refl;
        connects = refl;
        out = refl;
        unsent = λ is. refl;
        sent = λ is. absurd cc;
        answered = refl;
        owes = λ is. absurd cc;
        calls = λ is. absurd cc;
        quiet = λ is. refl;
        called = λ is. absurd cc;
        theirs = refl;
        scale = refl;
        mss = λ is. fits;
        calling = λ is. absurd cc;
      };
      awaits = λ is. absurd cc;
      receives = λ is. record {
        follows = opened s.ring 0 0 syn.seq;
        due = λ none due. due;
        once = λ is. absurd cc;
        ends = opens_ends m ours (segment_of syn) (part_of (from_guest syn.seq ours most syn.scale s.ring s.congestion) (empty s.ring)) refl refl (λ i x is. absurd cc);
        current = inr refl;
        sure = λ is. absurd cc;
        host_ended = refl;
        told = λ conforming. refl;
        answered = λ is. absurd cc;
        prompted = λ is. absurd cc;
        updated = λ none is. absurd cc;
      };
      gives = record {
        keeps = record { first = refl; before = refl; held = refl; ended = refl; sent = refl; acked = refl };
        fin_acked = refl;
        fin_out = refl;
        window = refl;
        alone = λ is. refl;
        resends = opens m ours (segment_of syn);
        counts = λ base is. absurd cc;
        calls = record { counted = omega arith; early = λ yet is. refl; syn_early = λ yet owes runs. refl };
        steady = steady_at_rest;
        unset = λ is. refl;
        set = λ is gone. absurd cc;
        owes_syn = λ is over. absurd cc;
        syn_again = λ is owed. absurd cc;
        again = λ is. absurd cc;
      };
    }

  -- a peer's connection was accepted, and our SYN is owed
  module _ (fits : most ≡ s.mtu - 40) where
    accepts_goes : Goes s (At m (Accepts ours) ∷ []) m
    accepts_goes = record {
      story = tt;
      moment = omega arith;
      lawful = (refl, tt);
      dutiful = (nothing_to_close [] refl, tt);
      open_yet = refl;
      well = refl;
      free = nothing_to_close (At m (Accepts ours) ∷ []) refl;
    }

    pub accepts_holds : HasBuffers (to_guest ours most s.ring s.congestion) (empty s.ring) (downward [] 0 size)
        → Holds s (to_guest ours most s.ring s.congestion) (empty s.ring) (downward [] 0 size) (At m (Accepts ours) ∷ []) m
    accepts_holds buffers = record {
      suits = record { ring = refl; congestion = refl; scales = scales; few = few };
      buffers = buffers;
      within = omega arith;
      goes = accepts_goes;
      opened = record {
        live = refl;
        ours = refl;
        connects = refl;
        out = refl;
        unsent = λ is. absurd cc;
        sent = λ is. absurd cc;
        answered = refl;
        owes = λ is yet none. refl;
        calls = λ is. refl;
        quiet = λ is. refl;
        called = λ is no_call. absurd cc;
        theirs = refl;
        scale = refl;
        mss = λ is. absurd cc;
        calling = λ is. fits;
      };
      awaits = λ is. record {
        theirs = refl;
        guest = refl;
        received = refl;
        held = refl;
        kept = refl;
        ack_owed = refl;
        told = refl;
        edge = refl;
        host_ended = refl;
        untold = refl;
        end_acknowledged = refl;
        ours_first = refl;
        unasked = refl;
      };
      receives = λ is. absurd cc;
      gives = record {
        keeps = record { first = refl; before = refl; held = refl; ended = refl; sent = refl; acked = refl };
        fin_acked = refl;
        fin_out = refl;
        window = refl;
        alone = λ is. refl;
        resends = accepts m ours;
        counts = λ base is. absurd cc;
        calls = record { counted = omega arith; early = λ yet is. refl; syn_early = λ yet owes runs. refl };
        steady = steady_at_rest;
        unset = λ is. refl;
        set = λ is gone. absurd cc;
        owes_syn = λ is over. absurd cc;
        syn_again = λ is owed gone. absurd cc;
        again = λ is. absurd cc;
      };
    }
