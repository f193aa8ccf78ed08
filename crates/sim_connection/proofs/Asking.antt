-- The host is asked whether it connected, and the network for the guest's address.
use Rattle.std.proofs.Common.{refl, ◌≡◌, ℕ, ◌≤◌, List, ◌∷◌, Bool, true, false, not, ◌||◌, None, Some, if◌then◌else◌, ap, sym, ◌∙◌}
use Rattle.sock_buffers.specs.Downward.{Downward}
use Rattle.sock_buffers.specs.Upward.{Upward}
use Rattle.tcp_connection.specs.Connection.{Connection, HasBuffers, has_gone, is_opening, is_synchronized}
use Rattle.tcp_connection.specs.declared.Stage.{Stage}
use Rattle.tcp_connection.specs.declared.Stage.TheVariants as stage
use Rattle.spec_flow.specs.Settings.{Settings}
use Rattle.spec_flow.specs.Event.{AsksAddress, At, Connected, ConnectsYet, Story, Event}
use Rattle.spec_flow.specs.Host.{Down, answered}
use Rattle.spec_flow.specs.Flow.{is_accepted, is_closed, is_connecting, has_connected}
use Rattle.spec_flow.specs.Lawful.{AskConnected}
use Rattle.sim_halves.proofs.Acts.{may_ask, must_ask}
use Rattle.sim_halves.proofs.Resent.{IsQuiet}
use Rattle.sim_connection.specs.Holding.{Goes, Holds, is_calls, is_at_connecting}
use Rattle.sim_connection.specs.Same.{SameGuest, SameHost, SameStart}
use Rattle.sim_connection.proofs.Going.{comes, does, nothing_to_close}
use Rattle.sim_connection.proofs.Quiet.{awaits_on, gives_as, gives_on, opened_on, receives_beside, receives_on}
use Rattle.sim_halves.proofs.Unheard.{uncalled_unheard}

module _ (s : Settings) (c : Connection) (up : Upward) (down : Downward) (past : Story) (now m : ℕ) (on : now ≤ m) where
  -- an event that leaves everything as it is
  quietly : (e : Event) → IsQuiet e → SameStart past (At m e ∷ past) → SameGuest s past (At m e ∷ past) → SameHost s past (At m e ∷ past)
      → Goes s (At m e ∷ past) m → Holds s c up down past now → Holds s c up down (At m e ∷ past) m
  quietly e silent start same_guest same_host goes h = record {
    suits = h.suits;
    buffers = h.buffers;
    within = h.within;
    goes = goes;
    opened = opened_on s c past (At m e ∷ past) start (ap (λ (d : List Down). answered d) same_host.host) h.opened;
    awaits = λ is. awaits_on s c up past (At m e ∷ past) start same_guest (h.awaits is);
    receives = λ is. receives_on s c up past m e silent start.accepted same_guest (h.receives is);
    gives = gives_on s c down past now m e silent on start.out same_host h.gives;
  }

  -- the host hasn't connected yet
  pub connects_yet : is_at_connecting c.stage ≡ true → Holds s c up down past now → Holds s c up down (At m ConnectsYet ∷ past) m
  connects_yet joins h = quietly ConnectsYet tt
      (record { ours = refl; connecting = refl; out = refl; accepted = refl; theirs = refl; unasked = refl })
      (record { guest = refl; ended = refl; edge = refl; prompted = refl; answered = refl })
      (record { host = refl; window = refl; fin_out = refl })
      (does s past now m ConnectsYet AskConnected h.goes on (λ o. o) refl (may_ask s past m h.goes.well h.goes.open_yet (h.opened.connects ∙ joins))
      (must_ask s past m h.goes.free) h.goes.open_yet refl refl)
      h

  -- a request for the guest's address went out
  pub asks_address : Holds s c up down past now → Holds s c up down (At m AsksAddress ∷ past) m
  asks_address h = quietly AsksAddress tt
      (record { ours = refl; connecting = refl; out = refl; accepted = refl; theirs = refl; unasked = refl })
      (record { guest = refl; ended = refl; edge = refl; prompted = refl; answered = refl })
      (record { host = refl; window = refl; fin_out = refl })
      (comes s past now m AsksAddress h.goes on (λ o. o) refl h.goes.open_yet refl (nothing_to_close (At m AsksAddress ∷ past) refl))
      h

  -- it has
  any_or_true : (a b : Bool) → not ((a || true) || b) ≡ false
  any_or_true true b = refl
  any_or_true false b = refl

  connected_goes : is_connecting past ≡ true → Goes s past now → Goes s (At m Connected ∷ past) m
  connected_goes connects g = does s past now m Connected AskConnected g on (λ o. o) refl (may_ask s past m g.well g.open_yet connects) (must_ask s past m g.free) g.open_yet refl refl

  pub connects_now : c.stage ≡ stage.Connecting → HasBuffers (record c { stage = stage.SynReceived; syn_owed = true }) up down
      → Holds s c up down past now → Holds s (record c { stage = stage.SynReceived; syn_owed = true }) up down (At m Connected ∷ past) m
  connects_now is buffers h =
      let o = h.opened in
      let known : is_calls c.stage ≡ false = ap (λ (st : Stage). is_calls st) is in
      let unsent : has_gone c.sendings ≡ false = o.unsent (ap (λ (st : Stage). is_at_connecting st) is) in
      let opening : is_opening c.stage ≡ true = ap (λ (st : Stage). is_opening st) is in
      let g = gives_on s c down past now m Connected tt on refl (record { host = refl; window = refl; fin_out = refl }) h.gives in
      let r = receives_on s c up past m Connected tt refl (record { guest = refl; ended = refl; edge = refl; prompted = refl; answered = refl }) (h.receives known) in
      record {
        suits = record { ring = h.suits.ring; congestion = h.suits.congestion; scales = h.suits.scales; few = h.suits.few };
        buffers = buffers;
        within = h.within;
        goes = connected_goes (o.connects ∙ ap (λ (st : Stage). is_at_connecting st) is) h.goes;
        opened = record {
          live = refl;
          ours = o.ours;
          connects = any_or_true (is_accepted past) (is_closed past);
          out = o.out;
          unsent = λ no. absurd cc;
          sent = λ no. absurd cc;
          answered = o.answered ∙ ap (λ (st : Stage). is_synchronized st) is;
          owes = λ no opening_now none. refl;
          calls = λ no. absurd cc;
          quiet = λ no. absurd cc;
          called = λ accepted no. let not_it = sym (ap (λ (b : Bool). not (b || has_connected past || is_closed past)) accepted) ∙ o.connects ∙ ap (λ (st : Stage). is_at_connecting st) is in absurd cc;
          theirs = o.theirs ∙ ap (λ (b : Bool). if b then None else Some c.received.first) known;
          scale = o.scale;
          mss = λ no. o.mss known;
          calling = λ no. absurd cc;
        };
        awaits = λ no. absurd cc;
        receives = λ no. receives_beside s c (record c { stage = stage.SynReceived; syn_owed = true }) up (At m Connected ∷ past) (λ yes. absurd cc) r;
        gives = gives_as s c (record c { stage = stage.SynReceived; syn_owed = true }) down (At m Connected ∷ past) m (sym opening) refl refl refl refl
            (λ owed gone opening_now. let not_it = sym gone ∙ unsent in absurd cc) (λ owed. refl) (λ opening_now owed runs. uncalled_unheard (At m Connected ∷ past) (o.answered ∙ ap (λ (st : Stage). is_synchronized st) is) (o.out ∙ unsent)) g;
      }
