-- A segment that takes another SYN for ours is the same to a flow and to its story.
use Rattle.std.proofs.Common.{refl, ◌≡◌, ℕ, ◌+◌, ◌%◌, ◌^◌, ◌<◌, ◌≤◌, ◌∷◌, Bool, true, false, not, ◌&&◌, ◌||◌, None, Some, if◌then◌else◌, nat_eq, arith, ap, sym, ◌∙◌, inl, inr, ◌⊎◌}
use Rattle.std.proofs.lemmas.Bool.Decides.{nat_tests}
use Rattle.seq_space.specs.Places.{number_of}
use Rattle.sock_buffers.specs.Downward.{Downward}
use Rattle.sock_buffers.specs.Upward.{Upward}
use Rattle.tcp_receive.specs.Received.{next_number as next_expected}
use Rattle.tcp_segment.specs.Tcp.{Tcp}
use Rattle.tcp_connection.specs.Checks.{is_ack, is_in_window, is_next, is_rst, is_syn, verdict_answering, verdict_by, verdict_calling, verdict_early, verdict_synchronized}
use Rattle.tcp_connection.specs.Connection.{Connection, has_gone, is_synchronized}
use Rattle.tcp_connection.specs.Segments.{arrived, change_at, change_by, heard, is_done, is_past, opened}
use Rattle.tcp_connection.specs.declared.Change.TheVariants.{Nothing, Finished}
use Rattle.tcp_connection.specs.declared.Stage.{Stage}
use Rattle.tcp_connection.specs.declared.Stage.TheVariants as stage
use Rattle.tcp_connection.specs.declared.Verdict.{Verdict}
use Rattle.tcp_connection.specs.declared.Verdict.TheVariants.{Ignored, Resets, Unacceptable, Repeats, Challenged, Greets, Heeded}
use Rattle.spec_flow.specs.Settings.{Settings}
use Rattle.spec_flow.specs.Event.{Arrives, At, Segment, Story}
use Rattle.spec_flow.specs.Host.{Confirmed, answered, is_acceptable}
use Rattle.spec_flow.specs.Flow.{confirms, host, is_closed, next_number, our_number, push, syn_is_out}
use Rattle.spec_flow.specs.Segments.{segment_of}
use Rattle.spec_flows.specs.Flows.{Flow, with_event}
use Rattle.spec_flows.specs.SegmentVerdicts.{is_mistaken}
use Rattle.sim_connection.specs.Holding.{Holds, is_at_connecting, is_live}
use Rattle.sim_connection.proofs.Arriving.{Means, is_greeted, is_heard, is_opened, means, resets, rests, turns_away as resets_ours, waits}
use Rattle.sim_connection.proofs.Greeting.{waits_on}
use Rattle.sim_connection.proofs.Unheeded.{answered_same}
use Rattle.flow_splice.specs.Follows.{Follows, FollowsAt}
use Rattle.flow_splice.specs.Guests.{is_unfit, turns_away}
use Rattle.flow_splice.specs.Splice.{Splice, is_in_use}
use Rattle.flow_splice.specs.declared.Place.{Place}
use Rattle.flow_splice.specs.declared.Place.TheVariants.{Empty, InUse, InTimeWait}

-- ---- by the connection

module _ (c : Connection) (up : Upward) (down : Downward) (tcp : Tcp) (now : ℕ) where
  -- with what is asked beside it: an acknowledgement of another number than the one after our SYN's, and no reset
  abbrev is_other : Bool → Bool
  is_other so = so && is_ack tcp && not (is_rst tcp) && not (nat_eq tcp.ack (number_of c.ours 0))

  -- the verdict turns the segment away
  abbrev unfit : Verdict → Bool
  unfit v = is_unfit (change_by v c up down tcp now)

  early_fits : unfit (verdict_early c tcp) ≡ false
  early_fits = by (is_rst tcp && is_next c tcp)
    where
      by : (b : Bool) → unfit (if b then Resets else Ignored) ≡ false
      by true = refl
      by false = refl

  heeded_fits : unfit Heeded ≡ false
  heeded_fits = by (is_past (opened c) down tcp) (is_done (arrived (heard c down tcp now) up tcp))
    where
      by : (past done : Bool) → is_unfit (if past then Nothing else (if done then Finished else Nothing)) ≡ false
      by true done = refl
      by false true = refl
      by false false = refl

  synchronized_fits : unfit (verdict_synchronized c up tcp) ≡ false
  synchronized_fits = by (is_rst tcp) (is_next c tcp) (is_in_window c up tcp) (is_syn tcp) (is_ack tcp)
    where
      by : (rst next within syn ack : Bool) → unfit (if rst then (if next then Resets else (if within then Challenged else Ignored)) else
          (if syn then Challenged else (if ack then Heeded else Ignored))) ≡ false
      by true true within syn ack = refl
      by true false true syn ack = refl
      by true false false syn ack = refl
      by false next within true ack = refl
      by false next within false true = heeded_fits
      by false next within false false = refl

  calling_is : unfit (verdict_calling c tcp) ≡ is_other (has_gone c.sendings && true)
  calling_is = by (is_rst tcp) (has_gone c.sendings) (is_ack tcp) (nat_eq tcp.ack (number_of c.ours 0)) (is_syn tcp)
    where
      by : (rst out ack ours syn : Bool)
          → unfit (if rst then (if ack && ours then Resets else Ignored) else
          (if not out then Ignored else (if ack && not (ack && ours) then Unacceptable else (if syn then Greets else Ignored)))) ≡ (out && true && ack && not rst && not ours)
      by true true true true syn = refl
      by true true true false syn = refl
      by true true false ours syn = refl
      by true false true true syn = refl
      by true false true false syn = refl
      by true false false ours syn = refl
      by false false ack ours syn = refl
      by false true true true true = refl
      by false true true true false = refl
      by false true true false syn = refl
      by false true false ours true = refl
      by false true false ours false = refl

  answering_is : unfit (verdict_answering c up tcp) ≡ is_other (has_gone c.sendings && true)
  answering_is = by (has_gone c.sendings) (is_syn tcp) (nat_eq (number_of tcp.seq 0) (next_expected c.received)) (is_ack tcp) (is_rst tcp) (nat_eq tcp.ack (number_of c.ours 0))
    where
      by : (out syn same ack rst ours : Bool)
          → unfit (if not out then verdict_early c tcp else (if syn && not ack && not rst && same then Repeats else
          (if ack && not rst && not (ack && ours) then Unacceptable else verdict_synchronized c up tcp))) ≡ (out && true && ack && not rst && not ours)
      by false syn same ack rst ours = early_fits
      by true true same true true ours = synchronized_fits
      by true true same true false true = synchronized_fits
      by true true same true false false = refl
      by true true same false true ours = synchronized_fits
      by true true true false false ours = refl
      by true true false false false ours = synchronized_fits
      by true false same true true ours = synchronized_fits
      by true false same true false true = synchronized_fits
      by true false same true false false = refl
      by true false same false rst ours = synchronized_fits

  -- an open connection turns a segment away exactly where our SYN is out and wasn't answered, and the segment acknowledges another number
  unfit_is : is_live c.stage ≡ true → (is_at_connecting c.stage ≡ true → has_gone c.sendings ≡ false) → is_unfit (change_at c up down tcp now) ≡ is_other
      (has_gone c.sendings && not (is_synchronized c.stage))
  unfit_is = by c.stage
    where
      not_out : (out : Bool) → out ≡ false → false ≡ is_other (out && true)
      not_out true none = absurd cc
      not_out false none = refl

      not_yet : (out : Bool) → false ≡ is_other (out && false)
      not_yet true = refl
      not_yet false = refl

      by : (st : Stage) → is_live st ≡ true → (is_at_connecting st ≡ true → has_gone c.sendings ≡ false) → unfit (verdict_by st c up tcp) ≡ is_other (has_gone c.sendings && not (is_synchronized st))
      by stage.Connecting live unsent = early_fits ∙ not_out (has_gone c.sendings) (unsent refl)
      by stage.SynSent live unsent = calling_is
      by stage.SynReceived live unsent = answering_is
      by stage.Synchronized live unsent = synchronized_fits ∙ not_yet (has_gone c.sendings)
      by stage.TimeWait live unsent = absurd cc
      by (stage.Resets seq ack) live unsent = absurd cc
      by stage.Closed live unsent = absurd cc

-- ---- by the story

-- what was answered stays so
answered_on : (m : ℕ) (past : Story) (seg : Segment) → answered (host past) ≡ true → answered (host (At m (Arrives seg) ∷ past)) ≡ true
answered_on m past seg is = by (confirms past seg)
  where
    or_so : (a b : Bool) → b ≡ true → (a || b) ≡ true
    or_so true b so = refl
    or_so false b so = so

    by : (b : Bool) → answered (push (if b then Some (Confirmed seg.acknowledgement) else None) (host past)) ≡ true
    by true = or_so (is_acceptable (host past) seg.acknowledgement) (answered (host past)) is
    by false = is

module _ (s : Settings) (c : Connection) (up : Upward) (down : Downward) (f : Flow) (before now : ℕ) (tcp : Tcp) (on : before ≤ now) (ack_fits : tcp.ack < 2 ^ 32)
    (h : Holds s c up down f.story before) where
  abbrev seg : Segment
  seg = segment_of tcp

  abbrev after : Story
  after = At now (Arrives seg) ∷ f.story

  abbrev other : Bool → Bool
  other = is_other c up down tcp now

  -- whether our SYN was answered is as the connection had it before, or this is no acknowledgement of another number
  abbrev Agrees : Type 0
  Agrees = ((so : Bool) → other so ≡ false) ⊎ (answered (host after) ≡ is_synchronized c.stage)

  answered_then : Agrees
  answered_then = by (means s c up down f.story before now tcp on h ack_fits)
    where
      a_reset : (b rst ours : Bool) → rst ≡ true → (b && not rst && not ours) ≡ false
      a_reset true rst ours is = rw is refl
      a_reset false rst ours is = refl

      no_other : (so ack rst ours : Bool) → (ack ≡ true → ours ≡ true) → (so && ack && not rst && not ours) ≡ false
      no_other false ack rst ours is = refl
      no_other true false rst ours is = refl
      no_other true true true ours is = refl
      no_other true true false ours is = rw (is refl) refl

      by_reset : seg.rst ≡ true → (so : Bool) → other so ≡ false
      by_reset rst so = a_reset (so && is_ack tcp) (is_rst tcp) (nat_eq tcp.ack (number_of c.ours 0)) rst

      by_number : (seg.ack ≡ true → tcp.ack ≡ number_of c.ours 0) → (so : Bool) → other so ≡ false
      by_number number so = no_other so (is_ack tcp) (is_rst tcp) (nat_eq tcp.ack (number_of c.ours 0)) (λ ack. let same = number ack in grind (arith, nat_tests))

      by : Means s c up down f.story before now tcp on h → Agrees
      by (rests syn_owed ack_owed c_is u_is d_is keeps only calm known quiet) = inr (answered_same s c up down f.story before now seg on h quiet.none ∙ h.opened.answered)
      by (waits c_is u_is d_is at none) = inr ((waits_on s c up down f.story before now tcp on h at none h.buffers).opened.answered)
      by (resets is known rst number) = inl (by_reset rst)
      by (resets_ours is calls rst ack number) = inl (by_reset rst)
      by (is_greeted is at out greets_it rst syn number) = inl (by_number number)
      by (is_opened is at out number ack rst syn) = inl (by_number (λ so. number))
      by (is_heard is at ack rst syn) =
          let synchronized : is_synchronized c.stage ≡ true = ap (λ (st : Stage). is_synchronized st) at in
          inr (answered_on now f.story seg (h.opened.answered ∙ synchronized) ∙ sym synchronized)

  after_ours : next_number (our_number f.story) ≡ number_of c.ours 0
  after_ours = ap (λ (n : ℕ). next_number n) h.opened.ours ∙ ap (λ (n : ℕ). n % 2 ^ 32) (let more : c.ours + 1 ≡ c.ours + 1 + 0 = omega arith in more)

  -- by the story of an open flow a segment is mistaken exactly where its connection turns it away
  open_mistaken : is_mistaken seg (Some (with_event now (Arrives seg) f)) ≡ other (has_gone c.sendings && not (is_synchronized c.stage))
  open_mistaken =
      ap (λ (b : Bool). not b && syn_is_out f.story && not (answered (host after)) && is_ack tcp && not (is_rst tcp) && not (nat_eq tcp.ack (next_number (our_number f.story)))) h.goes.open_yet
      ∙ ap (λ (b : Bool). b && not (answered (host after)) && is_ack tcp && not (is_rst tcp) && not (nat_eq tcp.ack (next_number (our_number f.story)))) h.opened.out
      ∙ ap (λ (n : ℕ). has_gone c.sendings && not (answered (host after)) && is_ack tcp && not (is_rst tcp) && not (nat_eq tcp.ack n)) after_ours
      ∙ same_so answered_then
    where
      same_so : Agrees → other (has_gone c.sendings && not (answered (host after))) ≡ other (has_gone c.sendings && not (is_synchronized c.stage))
      same_so (inl none) = none (has_gone c.sendings && not (answered (host after))) ∙ sym (none (has_gone c.sendings && not (is_synchronized c.stage)))
      same_so (inr is) = ap (λ (b : Bool). other (has_gone c.sendings && not b)) is

-- ---- of every flow

-- A segment is to be answered by a reset by its flow exactly where it takes another SYN for ours, by the story.
pub mistaken_is : (s : Settings) (p : Splice) (f : Flow) (tcp : Tcp) (before now : ℕ) → before ≤ now → tcp.ack < 2 ^ 32 → Follows s p f.story before
    → is_mistaken (segment_of tcp) (Some (with_event now (Arrives (segment_of tcp)) f)) ≡ turns_away p tcp now
mistaken_is s p f tcp before now on ack_fits follows = by p.place p.shut follows
  where
    unfit : Bool
    unfit = is_unfit (change_at p.conn p.up p.down tcp now)

    closed_none : is_closed f.story ≡ true → is_mistaken (segment_of tcp) (Some (with_event now (Arrives (segment_of tcp)) f)) ≡ false
    closed_none closed = rw closed refl

    by : (x : Place) (b : Bool) → FollowsAt x b s p f.story before → is_mistaken (segment_of tcp) (Some (with_event now (Arrives (segment_of tcp)) f)) ≡ (is_in_use x && not b && unfit)
    by Empty b free = closed_none free.over.closed
    by InUse true owing = closed_none owing.over.closed
    by InUse false open_yet =
        let h = open_yet.holds in
        open_mistaken s p.conn p.up p.down f before now tcp on ack_fits h ∙ sym (unfit_is p.conn p.up p.down tcp now h.opened.live h.opened.unsent)
    by (InTimeWait since) b in_time_wait = closed_none in_time_wait.time_waits.over.closed
