-- A segment arrives at a flow that calls its guest: the guest's SYN, or another.
use Rattle.std.proofs.Common.{refl, ◌≡◌, ℕ, ◌-◌, ◌≤◌, List, [], ◌∷◌, Bool, true, false, not, ◌&&◌, Option, None, Some, is_some, if◌then◌else◌, min, max, arith, ap, subst, sym, ◌∙◌, inr, unwrap_or}
use Rattle.std.specs.Option.{option_map, option_or}
use Rattle.retransmit.specs.Resending.{Resending}
use Rattle.seq_space.specs.Places.{number_of}
use Rattle.sock_buffers.specs.Downward.{Downward}
use Rattle.sock_buffers.specs.Kept.{Octets}
use Rattle.sock_buffers.specs.Upward.{Upward}
use Rattle.tcp_segment.specs.Tcp.{Tcp, mss_of}
use Rattle.tcp_transmit.specs.Transmission.{Transmission}
use Rattle.tcp_connection.specs.Connection.{Connection, HasBuffers, is_synchronized}
use Rattle.tcp_connection.specs.Segments.{greeted}
use Rattle.tcp_connection.specs.declared.Stage.{Stage}
use Rattle.tcp_connection.specs.declared.Stage.TheVariants as stage
use Rattle.spec_flow.specs.Settings.{Settings}
use Rattle.spec_flow.specs.Event.{Arrives, At, Segment, Story}
use Rattle.spec_flow.specs.Guest.{Known, Up}
use Rattle.spec_flow.specs.Host.{is_acceptable}
use Rattle.spec_flow.specs.Flow.{confirms, greets, guest, host, syn_is_out, their_number, their_syn}
use Rattle.spec_flow.specs.Windows.{mss}
use Rattle.spec_flow.specs.Dutiful.{MustClose}
use Rattle.spec_flow.proofs.Sides.{guest_greeted, guest_unknown}
use Rattle.spec_flow.specs.Segments.{segment_of}
use Rattle.sim_halves.specs.Ends.{Ends}
use Rattle.sim_halves.specs.Follows.{Follows}
use Rattle.sim_halves.specs.Part.{Part, part}
use Rattle.sim_halves.proofs.Greeted.{greets_ends, greets_follows}
use Rattle.sim_connection.specs.Holding.{Goes, Holds, Receives, is_calls}
use Rattle.sim_connection.specs.Seen.{kept_at}
use Rattle.sim_connection.proofs.Going.{comes as comes_on, nothing_to_close}
use Rattle.sim_connection.proofs.Quiet.{awaits_beside, opened_on}
use Rattle.sim_connection.proofs.Unheeded.{answered_same, follows_owed, gives_after}

pub unknown_is : (o : Option Segment) → o ≡ None → is_some (option_map (λ (seg : Segment). seg.number) o) ≡ false
unknown_is o is = rw is refl

module _ (s : Settings) (c : Connection) (up : Upward) (down : Downward) (past : Story) (now m : ℕ) (tcp : Tcp) (on : now ≤ m) (h : Holds s c up down past now) (at : c.stage ≡ stage.SynSent) where
  abbrev seg : Segment
  seg = segment_of tcp

  abbrev after : Story
  after = At m (Arrives seg) ∷ past

  calls : is_calls c.stage ≡ true
  calls = ap (λ (st : Stage). is_calls st) at

  pub unknown : their_syn past ≡ None
  unknown = (h.awaits calls).theirs

  not_known : is_some (their_number past) ≡ false
  not_known = unknown_is (their_syn past) unknown

  -- ---- another segment

  all_and : (a b d e f g : Bool) → e ≡ false → g ≡ false → (a && not b && d && (if e then not f else g)) ≡ false
  all_and a b d e f g e_is g_is = rw (e_is, g_is) (last a (not b) d)
    where
      last : (a b d : Bool) → (a && b && d && false) ≡ false
      last true true true = refl
      last true true false = refl
      last true false d = refl
      last false b d = refl

  module _ (not_greeted : greets past seg ≡ false) where
    unconfirmed : confirms past seg ≡ false
    unconfirmed = all_and seg.ack seg.rst (syn_is_out past) (is_some (their_number past)) seg.syn (greets past seg) not_known not_greeted

    none : (confirms past seg && is_acceptable (host past) seg.acknowledgement) ≡ false
    none = ap (λ (b : Bool). b && is_acceptable (host past) seg.acknowledgement) unconfirmed

    still_unknown : their_syn after ≡ their_syn past
    still_unknown = ap (λ (o : Option Segment). option_or o (if greets past seg then Some seg else None)) unknown ∙ ap
        (λ (b : Bool). option_or None (if b then Some seg else None)) not_greeted ∙ sym unknown

    same_guest : guest after ≡ guest past
    same_guest = guest_unknown m past seg not_known not_greeted

    free : MustClose after → ⊥
    free must = let known = must.4 in let not_it = sym known ∙ not_known in absurd cc

    pub waits_on : HasBuffers c up down → Holds s c up down after m
    waits_on buffers =
        let g = gives_after s c up down past now m seg on h none c.syn_owed c.ack_owed (λ so. so) in
        record {
          suits = h.suits;
          buffers = buffers;
          within = h.within;
          goes = comes_on s past now m (Arrives seg) h.goes on (λ so. so) refl h.goes.open_yet refl free;
          opened = opened_on s c past after (record { ours = refl; connecting = refl; out = refl; accepted = refl; theirs = still_unknown; unasked = refl })
              (answered_same s c up down past now m seg on h none) h.opened;
          awaits = λ is. awaits_beside s c c up past after still_unknown same_guest refl refl refl (h.awaits is);
          receives = λ is. let not_it = sym is ∙ calls in absurd cc;
          gives = g;
        }

  -- ---- the guest's SYN

  module _ (is_greeted : greets past seg ≡ true) (rst : seg.rst ≡ false) where
    pub known_now : their_syn after ≡ Some seg
    known_now = ap (λ (o : Option Segment). option_or o (if greets past seg then Some seg else None)) unknown ∙ ap (λ (b : Bool). option_or None (if b then Some seg else None)) is_greeted

    begun : guest after ≡ Known seg.number ∷ []
    begun = guest_greeted m past seg h.goes.open_yet not_known is_greeted ∙ ap (λ (g : List Up). Known seg.number ∷ g) (h.awaits calls).guest

    abbrev first_part : (owed : Bool) → Part
    first_part owed = part 0 0 tcp.seq 0 false up.held up.written up.size c.host_ended owed (kept_at 0 up.kept)

    part_is : part 0 0 tcp.seq 0 false [] 0 s.ring false false (kept_at 0 []) ≡ first_part false
    part_is =
        let a = h.awaits calls in
        let f = h.buffers.fills in
        let none_taken : c.received.taken ≡ 0 = ap (λ r. r.taken) a.received in
        let none_written : up.written ≡ 0 = let filled = f.taken in omega (arith, none_taken, filled) in
        ap (λ (zs : List ℕ). part 0 0 tcp.seq 0 false zs 0 s.ring false false (kept_at 0 [])) (sym a.held)
        ∙ ap (λ (k : ℕ). part 0 0 tcp.seq 0 false up.held k s.ring false false (kept_at 0 [])) (sym none_written)
        ∙ ap (λ (k : ℕ). part 0 0 tcp.seq 0 false up.held up.written k false false (kept_at 0 [])) (sym (h.buffers.size ∙ h.suits.ring))
        ∙ ap (λ (b : Bool). part 0 0 tcp.seq 0 false up.held up.written up.size b false (kept_at 0 [])) (sym a.host_ended)
        ∙ ap (λ (os : Octets). part 0 0 tcp.seq 0 false up.held up.written up.size c.host_ended false (kept_at 0 os)) (sym a.kept)

    first_follows : Follows s.ring (first_part true) (guest after)
    first_follows = follows_owed s.ring (first_part false) true (guest after) (λ is. absurd cc)
        (subst (λ (p : Part). Follows s.ring p (guest after)) part_is (greets_follows past m seg unknown (h.awaits calls).guest h.goes.open_yet is_greeted s.ring 0 0))

    no_kept : (i x : ℕ) → kept_at 0 up.kept i ≡ Some x → ⊥
    no_kept i x is = let found = ap (λ (os : Octets). kept_at 0 os i) (sym (h.awaits calls).kept) ∙ is in absurd cc

    first_ends : Ends after (first_part true) c.end_acknowledged c.ours_first (number_of tcp.seq 0)
    first_ends =
        let a = h.awaits calls in
        subst (λ (b : Bool). Ends after (first_part true) b c.ours_first (number_of tcp.seq 0)) (sym a.end_acknowledged)
        (subst (λ (b : Bool). Ends after (first_part true) false b (number_of tcp.seq 0)) (sym a.ours_first)
        (greets_ends past m seg unknown (h.awaits calls).guest h.goes.open_yet is_greeted (first_part true) refl refl no_kept))

    -- the guest's stream begins
    pub greeted_receives : (st : Stage) (tr : Transmission) (sy : Resending) (so fa : Bool) → is_synchronized st ≡ is_synchronized st
        → Receives s (record (greeted c tcp) { stage = st; transmission = tr; syn = sy; syn_owed = so; fin_acked = fa }) up after
    greeted_receives st tr sy so fa same =
        let a = h.awaits calls in
        record {
          follows = first_follows;
          due = λ is. absurd cc;
          once = λ is none. absurd cc;
          ends = first_ends;
          current = inr (ap (λ (n : ℕ). n) refl);
          sure = λ is. let not_it = sym is ∙ a.end_acknowledged in absurd cc;
          host_ended = a.untold ∙ sym a.host_ended;
          told = λ conforming. a.edge ∙ sym a.told;
          answered = λ is none. let not_it = sym is ∙ a.end_acknowledged in absurd cc;
          prompted = λ is. refl;
          updated = λ none yes_. absurd cc;
        }

    -- how far it is opened
    pub most_now : min c.transmission.mss (mss_of tcp.mss) ≡ mss s after
    most_now =
        let told : mss s after ≡ min (max 64 (unwrap_or tcp.mss 536)) (s.mtu - 40) = ap
        (λ (o : Option Segment). min (max 64 (unwrap_or (elim o [ None ↦ None | Some syn ↦ syn.mss ]) 536)) (s.mtu - 40)) known_now in
        let ours : c.transmission.mss ≡ s.mtu - 40 = h.opened.calling calls in
        omega (arith, told, ours)

    pub goes_greeted : Goes s after m
    goes_greeted = comes_on s past now m (Arrives seg) h.goes on (λ so. so) refl h.goes.open_yet refl (nothing_to_close after (ap (λ (b : Bool). if b then Some seg else None) rst))
