-- Events that leave a part of the story as it is.
use Rattle.std.proofs.Common.{refl, ◌≡◌, ℕ, ◌<◌, ◌≤◌, List, ◌∷◌, Bool, true, false, Option, None, Some, if◌then◌else◌, IsTrue, nat_eq, ◌+◌, min, max, unwrap_or, ◌-◌, arith, ap, subst, sym, ◌∙◌}
use Rattle.retransmit.specs.Resending.{IsSteady, Resending, is_expired, is_off}
use Rattle.sock_buffers.specs.Downward.{Downward}
use Rattle.sock_buffers.specs.Upward.{Upward}
use Rattle.tcp_transmit.specs.Transmission.{Transmission, is_owed_again, is_sent, octets_read}
use Rattle.tcp_connection.specs.Connection.{Connection, has_gone, is_opening, shift_of, is_synchronized}
use Rattle.tcp_connection.specs.Owing.{told}
use Rattle.tcp_connection.specs.declared.Sendings.{Sendings}
use Rattle.spec_flow.specs.Settings.{Settings}
use Rattle.spec_flow.specs.Event.{Segment, Event, At, Story}
use Rattle.spec_flow.specs.Guest.{AckIsDue, Conforming, Up, was_acked}
use Rattle.spec_flow.specs.Host.{Down, answered}
use Rattle.spec_flow.specs.Flow.{guest, has_connected, host, is_accepted, is_under_way, their_number, their_syn, syn_is_out}
use Rattle.spec_flow.specs.Windows.{mss, right_edge, their_scale}
use Rattle.spec_flow.specs.Close.{host_was_ended}
use Rattle.spec_flow.specs.Dutiful.{oldest_unheard}
use Rattle.sim_halves.specs.Ends.{IsCurrent}
use Rattle.sim_halves.specs.Follows.{Follows}
use Rattle.sim_halves.specs.Received.{received as taken_of}
use Rattle.sim_halves.specs.Resends.{HasReason, Resends}
use Rattle.sim_halves.specs.Sends.{Keeps}
use Rattle.sim_halves.proofs.Reasons.{reason_stays, reason_later}
use Rattle.sim_halves.proofs.Resent.{IsQuiet, later, quiet}
use Rattle.sim_halves.proofs.Rests.{quiet_ends}
use Rattle.sim_halves.proofs.Unheard.{quiet_unheard}
use Rattle.sim_connection.specs.Holding.{Awaits, CountsSince, Gives, Holds, IsOpened, Receives, is_calls, is_at_connecting}
use Rattle.sim_connection.specs.Same.{SameGuest, SameHost, SameStart}
use Rattle.sim_connection.specs.Seen.{count_of, outward_of, part_of, resending_of, timer_of, window_by}
use Rattle.sim_connection.proofs.Counting.{counts_on, quiet_same}
use Rattle.sim_connection.proofs.Going.{later as goes_later}
use Rattle.sim_connection.proofs.Unanswered.{calls_as, calls_on, resending_as}

pub same_number : (past next : Story) → their_syn next ≡ their_syn past → their_number next ≡ their_number past
same_number past next is = rw is refl

pub same_scale : (past next : Story) → their_syn next ≡ their_syn past → their_scale next ≡ their_scale past
same_scale past next is = ap (λ (o : Option Segment). elim o [ None ↦ None | Some syn ↦ syn.scale ]) is

pub same_mss : (s : Settings) (past next : Story) → their_syn next ≡ their_syn past → mss s next ≡ mss s past
same_mss s past next is = ap (λ (o : Option Segment). min (max 64 (unwrap_or (elim o [ None ↦ None | Some syn ↦ syn.mss ]) 536)) (s.mtu - 40)) is

pub same_under_way : (past next : Story) → host next ≡ host past → syn_is_out next ≡ syn_is_out past → is_under_way next ≡ is_under_way past
same_under_way past next host_is out_is = rw (host_is, out_is) refl

-- ---- the beginning stays

pub opened_on : (s : Settings) (c : Connection) (past next : Story) → SameStart past next → answered (host next) ≡ answered (host past) → IsOpened s c past → IsOpened s c next
opened_on s c past next same answered_is o = record {
  live = o.live;
  ours = same.ours ∙ o.ours;
  connects = same.connecting ∙ o.connects;
  out = same.out ∙ o.out;
  unsent = o.unsent;
  sent = o.sent;
  answered = answered_is ∙ o.answered;
  owes = o.owes;
  calls = λ is. same.accepted ∙ o.calls is;
  quiet = o.quiet;
  called = λ is. o.called (sym same.accepted ∙ is);
  theirs = same_number past next same.theirs ∙ o.theirs;
  scale = o.scale ∙ ap shift_of (sym (same_scale past next same.theirs));
  mss = λ is. o.mss is ∙ sym (same_mss s past next same.theirs);
  calling = o.calling;
}

-- ---- the guest's stream stays

pub receives_on : (s : Settings) (c : Connection) (up : Upward) (past : Story) (m : ℕ) (e : Event) → IsQuiet e → is_accepted (At m e ∷ past) ≡ is_accepted past → SameGuest s past (At m e ∷ past)
    → Receives s c up past → Receives s c up (At m e ∷ past)
receives_on s c up past m e silent accepted same r = record {
  follows = subst (λ (g : List Up). Follows s.ring (part_of c up) g) (sym same.guest) r.follows;
  due = λ none. subst (λ (g : List Up). AckIsDue g → ⊥) (sym same.guest) (r.due none);
  once = λ is none. subst (λ (g : List Up). IsTrue (was_acked g)) (sym same.guest) (r.once (sym accepted ∙ is) none);
  ends = quiet_ends past (part_of c up) (part_of c up) c.end_acknowledged c.ours_first c.acknowledged m e silent refl (λ i x is. is) r.ends;
  current = subst (λ (g : List Up). IsCurrent g (taken_of c.received.first c.received.taken c.received.ended) c.acknowledged) (sym same.guest) r.current;
  sure = r.sure;
  host_ended = same.ended ∙ r.host_ended;
  told = λ conforming. same.edge ∙ r.told (subst (λ (g : List Up). Conforming g) same.guest conforming);
  answered = λ is none. same.answered ∙ r.answered is none;
  prompted = λ is. same.prompted ∙ r.prompted is;
  updated = λ none is. r.updated (sym same.prompted ∙ none) is;
}

-- ---- the host's stream stays

pub gives_on : (s : Settings) (c : Connection) (down : Downward) (past : Story) (now m : ℕ) (e : Event) → IsQuiet e → now ≤ m → syn_is_out (At m e ∷ past) ≡ syn_is_out past →
    SameHost s past (At m e ∷ past)
    → Gives s c down past now → Gives s c down (At m e ∷ past) m
gives_on s c down past now m e silent on out same g = record {
  keeps = subst (λ (h : List Down). Keeps (outward_of c.transmission down) h) (sym same.host) g.keeps;
  fin_acked = g.fin_acked;
  fin_out = same.fin_out ∙ g.fin_out;
  window = same.window ∙ g.window;
  alone = g.alone;
  resends = subst (λ (b : Bool). Resends (At m e ∷ past) m (timer_of (resending_of c)) (count_of b (resending_of c)) (resending_of c).estimate.wait)
      (sym (same_under_way past (At m e ∷ past) same.host out))
      (quiet past m e now (timer_of (resending_of c)) (count_of (is_under_way past) (resending_of c)) (resending_of c).estimate.wait silent on g.resends);
  counts = let same = quiet_same past m e silent in counts_on past (At m e ∷ past) c.transmission.resend.timer same.0 same.1 (omega (arith, g.resends.moment, on)) g.counts;
  calls = calls_on c past (At m e ∷ past) (quiet_unheard past m e silent) g.calls;
  steady = g.steady;
  unset = g.unset;
  set = g.set;
  owes_syn = g.owes_syn;
  syn_again = λ is owed gone. reason_later (At m e ∷ past) now m on (reason_stays past m now e silent (g.syn_again is owed gone));
  again = λ is under. reason_later (At m e ∷ past) now m on (reason_stays past m now e silent (g.again is under));
}

-- ---- time passes

pub gives_later : (s : Settings) (c : Connection) (down : Downward) (past : Story) (now m : ℕ) → now ≤ m → Gives s c down past now → Gives s c down past m
gives_later s c down past now m on g = record {
  keeps = g.keeps;
  fin_acked = g.fin_acked;
  fin_out = g.fin_out;
  window = g.window;
  alone = g.alone;
  resends = later past now m (timer_of (resending_of c)) (count_of (is_under_way past) (resending_of c)) (resending_of c).estimate.wait on g.resends;
  counts = g.counts;
  calls = g.calls;
  steady = g.steady;
  unset = g.unset;
  set = g.set;
  owes_syn = g.owes_syn;
  syn_again = λ is owed gone. reason_later past now m on (g.syn_again is owed gone);
  again = λ is under. reason_later past now m on (g.again is under);
}

pub holds_later : (s : Settings) (c : Connection) (up : Upward) (down : Downward) (past : Story) (now m : ℕ) → now ≤ m → Holds s c up down past now → Holds s c up down past m
holds_later s c up down past now m on h = record {
  suits = h.suits;
  buffers = h.buffers;
  within = h.within;
  goes = goes_later s past now m on h.goes;
  opened = h.opened;
  awaits = h.awaits;
  receives = h.receives;
  gives = gives_later s c down past now m on h.gives;
}

-- ---- another connection of which the same holds

pub gives_as : (s : Settings) (c d : Connection) (down : Downward) (past : Story) (now : ℕ) → is_opening d.stage ≡ is_opening c.stage → d.transmission ≡ c.transmission → d.syn ≡ c.syn
    → d.sendings ≡ c.sendings → d.fin_acked ≡ c.fin_acked → (d.syn_owed ≡ true → has_gone c.sendings ≡ true → is_opening c.stage ≡ true → HasReason past now) → (c.syn_owed ≡ true → d.syn_owed ≡ true)
    → (is_opening c.stage ≡ true → d.syn_owed ≡ true → is_expired c.syn.timer ≡ false → oldest_unheard past ≡ 0)
    → Gives s c down past now → Gives s d down past now
gives_as s c d down past now open_is t_is syn_is gone_is fin_is reason still owes g = record {
  keeps = subst (λ (t : Transmission). Keeps (outward_of t down) (host past)) (sym t_is) g.keeps;
  fin_acked = fin_is ∙ g.fin_acked ∙ ap (λ (t : Transmission). nat_eq t.acked (octets_read down + 1)) (sym t_is);
  fin_out = g.fin_out ∙ ap (λ (t : Transmission). is_sent t.end) (sym t_is);
  window = g.window ∙ ap (λ (t : Transmission). window_by t.window) (sym t_is);
  alone = λ is. ap (λ (t : Transmission). t.cwnd) t_is ∙ g.alone is;
  resends = subst (λ (r : Resending). Resends past now (timer_of r) (count_of (is_under_way past) r) r.estimate.wait) (sym (resending_as c d open_is t_is syn_is)) g.resends;
  counts = subst (λ (t : Transmission). CountsSince past t.resend.timer) (sym t_is) g.counts;
  calls = calls_as c d past past refl open_is t_is syn_is owes g.calls;
  steady = subst (λ (r : Resending). IsSteady r) (sym syn_is) g.steady;
  unset = λ none. ap (λ (r : Resending). is_off r.timer) syn_is ∙ g.unset (ap (λ (n : Sendings). has_gone n) (sym gone_is) ∙ none);
  set = λ opening gone. ap (λ (r : Resending). is_off r.timer) syn_is ∙ g.set (sym open_is ∙ opening) (ap (λ (n : Sendings). has_gone n) (sym gone_is) ∙ gone);
  owes_syn = λ opening over. still (g.owes_syn (sym open_is ∙ opening) (ap (λ (r : Resending). is_expired r.timer) (sym syn_is) ∙ over));
  syn_again = λ opening owed gone. reason owed (ap (λ (n : Sendings). has_gone n) (sym gone_is) ∙ gone) (sym open_is ∙ opening);
  again = λ owed under. g.again (ap (λ (t : Transmission). is_owed_again t) (sym t_is) ∙ owed) (subst (λ (t : Transmission). t.acked < t.sent) t_is under);
}

-- ---- another connection of which a part is the same

-- how far it is opened
pub opened_beside : (s : Settings) (c d : Connection) (past : Story) → d.received.first ≡ c.received.first → d.transmission.mss ≡ c.transmission.mss → (c.syn_owed ≡ true → d.syn_owed ≡ true)
    → (is_at_connecting c.stage ≡ true → d.ack_owed ≡ false) → IsOpened s c past → IsOpened s (record d { ours = c.ours; stage = c.stage; sendings = c.sendings; scale = c.scale }) past
opened_beside s c d past first most owed quiet o = record {
  live = o.live;
  ours = o.ours;
  connects = o.connects;
  out = o.out;
  unsent = o.unsent;
  sent = o.sent;
  answered = o.answered;
  owes = λ apart opening none. owed (o.owes apart opening none);
  calls = o.calls;
  quiet = quiet;
  called = o.called;
  theirs = o.theirs ∙ ap (λ (n : ℕ). if is_calls c.stage then None else Some n) (sym first);
  scale = o.scale;
  mss = λ is. most ∙ o.mss is;
  calling = λ is. most ∙ o.calling is;
}

-- what it keeps of the guest's stream, where another stage, sending half and SYN are those of a second connection
abbrev pub beside : (c d : Connection) → Connection
beside c d = record c { stage = d.stage; transmission = d.transmission; syn = d.syn; sendings = d.sendings; syn_owed = d.syn_owed }

pub receives_beside : (s : Settings) (c d : Connection) (up : Upward) (past : Story) → (is_synchronized d.stage ≡ true → is_synchronized c.stage ≡ true) → Receives s c up past →
    Receives s (beside c d) up past
receives_beside s c d up past still r = record {
  follows = r.follows;
  due = r.due;
  once = r.once;
  ends = r.ends;
  current = r.current;
  sure = r.sure;
  host_ended = r.host_ended;
  told = r.told;
  answered = r.answered;
  prompted = r.prompted;
  updated = λ none yes. r.updated none (still yes);
}

pub awaits_beside : (s : Settings) (c d : Connection) (up : Upward) (past next : Story) → their_syn next ≡ their_syn past → guest next ≡ guest past → right_edge s next ≡ right_edge s past
    → host_was_ended next ≡ host_was_ended past → has_connected next ≡ has_connected past → Awaits s c up past → Awaits s (beside c d) up next
awaits_beside s c d up past next theirs_is guest_is edge_is ended_is asked_is a = record {
  theirs = theirs_is ∙ a.theirs;
  guest = guest_is ∙ a.guest;
  received = a.received;
  held = a.held;
  kept = a.kept;
  ack_owed = a.ack_owed;
  told = a.told;
  edge = edge_is ∙ a.edge;
  host_ended = a.host_ended;
  untold = ended_is ∙ a.untold;
  end_acknowledged = a.end_acknowledged;
  ours_first = a.ours_first;
  unasked = asked_is ∙ a.unasked;
}

pub awaits_on : (s : Settings) (c : Connection) (up : Upward) (past next : Story) → SameStart past next → SameGuest s past next → Awaits s c up past → Awaits s c up next
awaits_on s c up past next start same a = awaits_beside s c c up past next start.theirs same.guest same.edge same.ended start.unasked a

-- ---- another sending half

pub receives_sending : (s : Settings) (c : Connection) (t : Transmission) (up : Upward) (past : Story) → Receives s c up past → Receives s (record c { transmission = t }) up past
receives_sending s c t up past r = receives_beside s c (record c { transmission = t }) up past (λ is. is) r

pub awaits_sending : (s : Settings) (c : Connection) (t : Transmission) (up : Upward) (past : Story) → Awaits s c up past → Awaits s (record c { transmission = t }) up past
awaits_sending s c t up past a = awaits_beside s c (record c { transmission = t }) up past past refl refl refl refl refl a

pub opened_sending : (s : Settings) (c : Connection) (t : Transmission) (past : Story) → t.mss ≡ c.transmission.mss → IsOpened s c past → IsOpened s (record c { transmission = t }) past
opened_sending s c t past most o = opened_beside s c (record c { transmission = t }) past refl most (λ is. is) o.quiet o

-- what was told changes nothing of how far it is opened
pub opened_told : (s : Settings) (c : Connection) (up : Upward) (shift : ℕ) (past : Story) → IsOpened s c past → IsOpened s (told c up shift) past
opened_told s c up shift past o = opened_beside s c (told c up shift) past refl refl (λ is. is) (λ is. refl) o

-- another size of pieces
pub gives_most : (s : Settings) (c : Connection) (k : ℕ) (down : Downward) (past : Story) (now : ℕ) → Gives s c down past now → Gives s
    (record c { transmission = record c.transmission { mss = k } }) down past now
gives_most s c k down past now g = record {
  keeps = g.keeps;
  fin_acked = g.fin_acked;
  fin_out = g.fin_out;
  window = g.window;
  alone = g.alone;
  resends = g.resends;
  counts = g.counts;
  calls = record { counted = g.calls.counted; early = g.calls.early; syn_early = g.calls.syn_early };
  steady = g.steady;
  unset = g.unset;
  set = g.set;
  owes_syn = g.owes_syn;
  syn_again = g.syn_again;
  again = g.again;
}
