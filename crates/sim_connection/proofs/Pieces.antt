-- A piece of the host's stream goes out.
use Rattle.std.proofs.Common.{refl, ◌≡◌, ℕ, ◌+◌, ◌-◌, ◌^◌, ◌<◌, ◌≤◌, List, [], ◌∷◌, length, Bool, true, false, not, ◌&&◌, ◌||◌, None, Some, if◌then◌else◌, IsTrue, nat_le, nat_lt, max, min}
use Rattle.std.proofs.Common.{ℤ, pos, ◌+ℤ◌, int_le, arith, ap, subst, sym, ◌∙◌, drop, take, length-take, length-drop, is_some, inl, inr, ◌⊎◌}
use Rattle.std.proofs.lemmas.Bool.Decides.{nat_tests}
use Rattle.std.proofs.lemmas.Int.{ints}
use Rattle.retransmit.specs.Resending.{Resending, after_sent as resend_sent, counted, doublings, is_expired, is_off, set_unless_running}
use Rattle.retransmit.specs.declared.Timer.{Timer}
use Rattle.retransmit.specs.declared.Timer.TheVariants as timer
use Rattle.sock_buffers.specs.Downward.{Downward}
use Rattle.sock_buffers.specs.Upward.{Upward}
use Rattle.tcp_transmit.specs.Pieces.{end_of, fresh, next, numbers, oldest, piece_owed, probe, piece}
use Rattle.tcp_transmit.specs.Timing.{after_sent, goes_again}
use Rattle.tcp_transmit.specs.Transmission.{Transmission, edge_of, end_places, is_owed_again, is_sent, octets_read, is_unsent}
use Rattle.tcp_transmit.specs.declared.End.{End}
use Rattle.tcp_transmit.specs.declared.End.TheVariants as our_end
use Rattle.tcp_transmit.specs.declared.Piece.{Piece}
use Rattle.tcp_transmit.proofs.Owed.{Lies, next_again, next_lies, next_probes, next_window}
use Rattle.tcp_connection.specs.Connection.{Connection, HasBuffers, is_opening, is_synchronized}
use Rattle.tcp_connection.specs.Hosts.{is_open}
use Rattle.tcp_connection.specs.Owing.{data_gone, told}
use Rattle.tcp_connection.specs.Windows.{our_shift}
use Rattle.tcp_connection.specs.declared.Owed.TheVariants.{Data}
use Rattle.spec_flow.specs.Settings.{Settings}
use Rattle.spec_flow.specs.Windows.{mss}
use Rattle.spec_flow.specs.Event.{At, Departs, Segment, Story}
use Rattle.spec_flow.specs.Guest.{is_empty}
use Rattle.spec_flow.specs.Host.{acked, answered, got, got_end, our_place, sent}
use Rattle.spec_flow.specs.Flow.{host, is_under_way, syn_is_out}
use Rattle.spec_flow.specs.Close.{fin_is_out}
use Rattle.spec_flow.specs.Lawful.{HasHeaderOf, Send, SendsAgainWithReason, SendsEndAfterAll, is_overdue, is_prompted}
use Rattle.sim_halves.specs.Resends.{Resends, Timer as FlowTimer, Until}
use Rattle.sim_halves.specs.Sends.{Keeps, Outward}
use Rattle.sim_halves.proofs.Gone.{first_goes, next_goes, oldest_goes, oldest_goes_anyway}
use Rattle.sim_halves.proofs.Reasons.{oldest_may_go, reason_later}
use Rattle.sim_halves.proofs.Sendings.{rises, sent_once}
use Rattle.sim_connection.specs.Holding.{Gives, Holds, is_calls}
use Rattle.sim_connection.specs.Seen.{count_of, outward_of, timer_by, timer_of}
use Rattle.sim_connection.specs.Sending.{octets_of, segment_out}
use Rattle.sim_connection.proofs.Counting.{counts_on, now_counts, sent_counts}
use Rattle.sim_connection.proofs.Leaving.{leaves_goes, leaves_kept, leaves_received, near_sent, read_is, stands}
use Rattle.sim_connection.proofs.Quiet.{opened_on, opened_sending, opened_told, receives_sending}
use Rattle.sim_connection.proofs.Watching.{under_way_is}
use Rattle.sim_halves.proofs.Unheard.{further_unheard, piece_unheard, unsent_unheard}
use Rattle.spec_flow.specs.Dutiful.{oldest_unheard}

-- ---- what is owed

pub some_numbers : (t : Transmission) (down : Downward) (p : Piece) → piece_owed t down ≡ Some p → (p ≡ next t down) × (0 < numbers (next t down))
some_numbers t down p is = by (nat_lt 0 (numbers (next t down))) refl is
  where
    same_piece : Some (next t down) ≡ Some p → p ≡ next t down
    same_piece same = cc

    by : (b : Bool) → nat_lt 0 (numbers (next t down)) ≡ b → (if b then Some (next t down) else None) ≡ Some p → (p ≡ next t down) × (0 < numbers (next t down))
    by true some is = (same_piece is, grind (arith, nat_tests))
    by false none is = absurd cc

fresh_place : (t : Transmission) (down : Downward) → is_owed_again t ≡ false → (next t down).place ≡ t.sent
fresh_place t down is = ap (λ (b : Bool). (if b then (if nat_lt t.acked t.sent then oldest t down else probe t down) else fresh t down).place) is

long_of : (p : Piece) → p.length + (if p.fin then 1 else 0) ≡ numbers p
long_of p = by p.fin
  where
    by : (b : Bool) → p.length + (if b then 1 else 0) ≡ (if b then p.length + 1 else p.length)
    by true = refl
    by false = omega arith

-- it has no more octets than go in a segment
piece_within : (t : Transmission) (down : Downward) → 64 ≤ t.mss → (next t down).length ≤ t.mss
piece_within t down some = by (is_owed_again t) (nat_lt t.acked t.sent) (nat_lt t.sent (octets_read down))
  where
    by : (a b d : Bool) → (if a then (if b then oldest t down else (if d then piece t.sent 1 false else piece t.sent 0 (is_unsent t.end))) else fresh t down).length ≤ t.mss
    by true true d = omega arith
    by true false true = omega (arith, some)
    by true false false = omega arith
    by false b d = omega arith

-- the end of what is owed is known where its FIN is
fin_places : (e : End) → end_places e ≡ 1 → is_open e ≡ false
fin_places our_end.Open is = absurd cc
fin_places our_end.Unsent is = refl
fin_places our_end.Sent is = refl

-- ---- timers

runs_after : (t : Timer) (now : ℕ) → is_expired (set_unless_running t now) ≡ false
runs_after timer.Off now = refl
runs_after (timer.Since base) now = refl
runs_after (timer.Expired at) now = refl

sent_running : (r : Resending) (again : Bool) (now : ℕ) → is_expired (resend_sent r again now).timer ≡ false
sent_running r true now = refl
sent_running r false now = runs_after r.timer now

module _ (s : Settings) (c : Connection) (up : Upward) (down : Downward) (past : Story) (now m : ℕ) (on : now ≤ m) (h : Holds s c up down past now)
    (known : is_calls c.stage ≡ false) (opening : is_opening c.stage ≡ false) (synchronized : is_synchronized c.stage ≡ true)
    (p : Piece) (p_is : p ≡ next c.transmission down) (some : 0 < numbers p) where
  abbrev t : Transmission
  t = c.transmission

  abbrev seg : Segment
  seg = segment_out s.mru c up down (Data p)

  abbrev after : Story
  after = At m (Departs seg) ∷ past

  lies : Lies t.end down.first t.acked t.sent (octets_read down) p
  lies = subst (λ (q : Piece). Lies t.end down.first t.acked t.sent (octets_read down) q) (sym p_is) (next_lies t down h.buffers.feeds (subst (λ (q : Piece). 0 < numbers q) p_is some))

  long : length (octets_of down p) ≡ p.length
  long = let low = lies.low in let high = lies.high in
      length-take p.length (drop (p.place - down.first) down.octets) ∙ ap (λ (n : ℕ). min p.length n) (length-drop (p.place - down.first) down.octets) ∙ omega (arith, low, high)

  whole : length (octets_of down p) + (if p.fin then 1 else 0) ≡ numbers p
  whole = ap (λ (n : ℕ). n + (if p.fin then 1 else 0)) long ∙ long_of p

  cut : octets_of down p ≡ take (length (octets_of down p)) (drop (p.place - down.first) down.octets)
  cut = sym (ap (λ (n : ℕ). take n (drop (p.place - down.first) down.octets)) long)

  -- no more than the guest takes in a segment
  within : length (octets_of down p) ≤ mss s past
  within =
      let few : p.length ≤ t.mss = subst (λ (q : Piece). q.length ≤ t.mss) (sym p_is) (piece_within t down h.buffers.feeds.sound.least) in
      let same : t.mss ≡ mss s past = h.opened.mss known in
      omega (arith, long, few, same)

  -- by which of the three it is owed
  data Kind : Type 0 where
    again : t.acked < t.sent → p.place ≡ t.acked → end_of p ≤ t.sent → is_owed_again t ≡ true → Kind
    first : t.acked ≡ t.sent → p.place ≡ t.sent → (is_off t.resend.timer ≡ true) ⊎ (is_expired t.resend.timer ≡ true) → Kind
    further : t.acked < t.sent → p.place ≡ t.sent → is_owed_again t ≡ false → Kind

  kind : Kind
  kind = by (is_owed_again t) (nat_lt t.acked t.sent) refl refl
    where
      order : t.acked ≤ t.sent
      order = h.buffers.feeds.sound.order

      some_next : 0 < numbers (next t down)
      some_next = subst (λ (q : Piece). 0 < numbers q) p_is some

      by_expired : (e f : Bool) → t.early ≡ f → (e || f) ≡ true → t.acked ≡ t.sent → e ≡ true
      by_expired true f early owed at = refl
      by_expired false true early owed at = let under = h.buffers.feeds.sound.early early in absurd (omega arith)
      by_expired false false early owed at = absurd cc

      by_off : (b : Bool) → is_off t.resend.timer ≡ b → t.acked ≡ t.sent → is_owed_again t ≡ false → (b ≡ true) ⊎ (is_expired t.resend.timer ≡ true)
      by_off true off at none = inl refl
      by_off false runs at none =
          let closed = (h.buffers.feeds.rests at runs).0 in
          let within = next_window t down none some_next in
          let place = fresh_place t down none in
          let shut : edge_of t.window ≤ t.sent = shut_is (is_some t.window) (edge_of t.window) t.sent closed in
          absurd (omega (arith, within, place, shut, some_next))
        where
          shut_is : (b : Bool) (edge out : ℕ) → (b && nat_le edge out) ≡ true → edge ≤ out
          shut_is true edge out is = grind (arith, nat_tests)
          shut_is false edge out is = absurd cc

      by : (b d : Bool) → is_owed_again t ≡ b → nat_lt t.acked t.sent ≡ d → Kind
      by true true owed under =
          let low : t.acked < t.sent = grind (arith, nat_tests) in
          let g = next_again t down h.buffers.feeds owed low some_next in
          again low (ap (λ (q : Piece). q.place) p_is ∙ g.place) (subst (λ (q : Piece). end_of q ≤ t.sent) (sym p_is) g.within) owed
      by true false owed rests =
          let at : t.acked ≡ t.sent = grind (arith, nat_tests) in
          let g = next_probes t down owed at some_next in
          first at (ap (λ (q : Piece). q.place) p_is ∙ g.place) (inr (by_expired (is_expired t.resend.timer) t.early refl owed at))
      by false true none under = further (grind (arith, nat_tests)) (ap (λ (q : Piece). q.place) p_is ∙ fresh_place t down none) none
      by false false none rests =
          let at : t.acked ≡ t.sent = grind (arith, nat_tests) in
          first at (ap (λ (q : Piece). q.place) p_is ∙ fresh_place t down none) (by_off (is_off t.resend.timer) refl at none)

  -- ---- its place

  near : Kind → t.sent < p.place + 2 ^ 31
  near (again under place within owed) = let few = near_sent s c up down past now h in omega (arith, few, place)
  near (first at place off) = omega (arith, place)
  near (further under place none) = omega (arith, place)

  low : down.first ≤ p.place
  low = lies.low

  joins : p.place ≤ t.sent
  joins = lies.start

  kept : Keeps (outward_of (after_sent t p m) down) (host after)
  kept = subst (λ (o : Outward). Keeps o (host after)) same
      (leaves_kept s c up down past now m seg on h known (h.opened.sent synchronized) refl refl refl refl refl refl refl p.place refl low joins (near kind) cut)
    where
      ended_same : (b : Bool) → p.fin ≡ b → not (is_open t.end) ≡ not (is_open (if b then our_end.Sent else t.end))
      ended_same true is = ap not (fin_places t.end (lies.last is).1)
      ended_same false is = refl

      same : record (outward_of t down) { sent = max t.sent (p.place + (length (octets_of down p) + (if p.fin then 1 else 0))) } ≡ outward_of (after_sent t p m) down
      same = ap (λ (n : ℕ). record (outward_of t down) { sent = max t.sent (p.place + n) }) whole
          ∙ ap (λ (b : Bool). record (outward_of t down) { ended = b; sent = max t.sent (end_of p) }) (ended_same p.fin refl)

  at_place : our_place (host past) seg.number ≡ pos p.place
  at_place = stands s c up down past now m seg on h known (h.opened.sent synchronized) refl refl refl refl refl refl refl p.place refl low joins (near kind) cut

  -- ---- its reason

  answered_now : answered (host past) ≡ true
  answered_now = h.opened.answered ∙ synchronized

  some_octets : (xs : List ℕ) (fin : Bool) → 0 < length xs + (if fin then 1 else 0) → (is_empty xs && not fin) ≡ false
  some_octets [] true is = refl
  some_octets [] false is = absurd (omega arith)
  some_octets (x ∷ xs) true is = refl
  some_octets (x ∷ xs) false is = refl

  new_reason : (b p_ d : Bool) (z : ℤ) (sent_ : ℕ) → int_le z (pos sent_) ≡ false → IsTrue (b || not (int_le z (pos sent_)) || p_ || d)
  new_reason b p_ d z sent_ is = rw is (by b p_ d)
    where
      by : (b p_ d : Bool) → IsTrue (b || true || p_ || d)
      by true p_ d = refl
      by false p_ d = refl

  past_all : (place_ k sent_ : ℕ) → sent_ ≤ place_ → 0 < k → int_le (pos place_ +ℤ pos k) (pos sent_) ≡ false
  past_all place_ k sent_ high more = grind (arith, nat_tests, ints)

  is_new : t.sent ≤ p.place → SendsAgainWithReason past m (Send seg)
  is_new high = new_reason false (is_prompted past) (is_overdue m past seg) (our_place (host past) seg.number +ℤ pos (length (octets_of down p) + (if p.fin then 1 else 0))) (sent (host past))
      (ap (λ (z : ℤ). int_le (z +ℤ pos (length (octets_of down p) + (if p.fin then 1 else 0))) (pos (sent (host past)))) at_place
      ∙ past_all p.place (length (octets_of down p) + (if p.fin then 1 else 0)) (sent (host past)) (omega (arith, high, h.gives.keeps.sent)) (omega (arith, some, whole)))

  reason : Kind → SendsAgainWithReason past m (Send seg)
  reason (again under place within owed) =
      oldest_may_go past m seg refl (some_octets (octets_of down p) p.fin (omega (arith, some, whole))) answered_now (at_place ∙ ap pos (place ∙ h.gives.keeps.acked))
      (sent_once s past h.goes.lawful (acked (host past)) (omega (arith, under, h.gives.keeps.acked, h.gives.keeps.sent)))
      (reason_later past now m on (h.gives.again owed under))
  reason (first at place off) = is_new (omega (arith, place))
  reason (further under place none) = is_new (omega (arith, place))

  end_after : SendsEndAfterAll past (Send seg)
  end_after = by p.fin refl
    where
      by : (b : Bool) → p.fin ≡ b → IsTrue (b && not false) → IsTrue (got_end (host past)) × (our_place (host past) seg.number +ℤ pos (length (octets_of down p)) ≡ pos (length (got (host past))))
      by true is fin = (
        sym h.gives.keeps.ended ∙ ap not (fin_places t.end (lies.last is).1),
        rw at_place (let last = (lies.last is).0 in let all = read_is t down (host past) h.gives.keeps in omega (arith, ints, last, all, long)),
      )
      by false is fin = absurd cc

  not_alone : (xs : List ℕ) (fin : Bool) → 0 < length xs + (if fin then 1 else 0) → IsTrue (true && true && not fin && is_empty xs) → ⊥
  not_alone xs true is alone = absurd cc
  not_alone [] false is alone = absurd (omega arith)
  not_alone (x ∷ xs) false is alone = absurd cc

  header : HasHeaderOf past seg
  header = record {
    carries = λ is. answered_now;
    acknowledges = ((λ is. refl), (λ is. absurd cc));
    next = λ is. absurd (not_alone (octets_of down p) p.fin (omega (arith, some, whole)) is);
    window = λ is. absurd cc;
  }

  -- ---- the timer

  order : t.acked ≤ t.sent
  order = h.buffers.feeds.sound.order

  past_way : is_under_way past ≡ nat_lt t.acked t.sent
  past_way = under_way_is s c down past h.opened h.gives.keeps opening

  after_way : is_under_way after ≡ true
  after_way =
      let more : t.acked < max t.sent (end_of p) = lies.under_way in
      let tested : nat_lt t.acked (max t.sent (end_of p)) ≡ true = grind (arith, nat_tests) in
      ap (λ (b : Bool). if b then nat_lt (acked (host after)) (sent (host after)) else syn_is_out after) answered_now
      ∙ ap (λ (a : ℕ). nat_lt a (sent (host after))) (sym kept.acked)
      ∙ ap (λ (n : ℕ). nat_lt t.acked n) (sym kept.sent)
      ∙ tested

  tested_again : p.place < t.sent → goes_again t p ≡ true
  tested_again less = grind (arith, nat_tests)

  tested_new : t.sent ≤ p.place → goes_again t p ≡ false
  tested_new high = grind (arith, nat_tests)

  -- the timer after a sending
  abbrev Running : Resending → Type 0
  Running r = Resends after m (timer_of r) (count_of (is_under_way after) r) r.estimate.wait

  abbrev Ran : Resending → Type 0
  Ran r = Resends past now (timer_of r) (count_of (is_under_way past) r) r.estimate.wait

  ran : Ran t.resend
  ran = subst (λ (b : Bool). Ran (if b then c.syn else t.resend)) opening h.gives.resends

  ran_under : t.acked < t.sent → Resends past now (timer_of t.resend) (doublings t.resend.timer t.resend.resent) t.resend.estimate.wait
  ran_under under =
      let tested : nat_lt t.acked t.sent ≡ true = grind (arith, nat_tests) in
      subst (λ (b : Bool). Resends past now (timer_of t.resend) (count_of b t.resend) t.resend.estimate.wait) (past_way ∙ tested) ran

  counts : (r : Resending) (k : ℕ) → doublings r.timer r.resent ≡ k → Resends after m (timer_of r) k r.estimate.wait → Running r
  counts r k is running = subst (λ (b : Bool). Resends after m (timer_of r) (count_of b r) r.estimate.wait) (sym after_way)
      (subst (λ (j : ℕ). Resends after m (timer_of r) j r.estimate.wait) (sym is) running)

  went_again : (tm : Timer) (k w : ℕ) → is_off tm ≡ false → t.acked < t.sent → p.place ≡ t.acked → Resends past now (timer_by tm w) (doublings tm k) w → Resends after m
      (Until (m + w)) (counted tm k) w
  went_again timer.Off k w off under place r = absurd cc
  went_again (timer.Since base) k w off under place r =
      oldest_goes_anyway past seg m refl refl p.place (numbers p) at_place whole answered_now (omega (arith, place, h.gives.keeps.acked))
      (omega (arith, place, some, h.gives.keeps.acked)) now (base + w) k w
      (omega (arith, under, h.gives.keeps.acked, h.gives.keeps.sent)) (rises past h.goes.story) (omega (arith, h.goes.moment, on)) r
  went_again (timer.Expired at) k w off under place r =
      oldest_goes past seg m refl refl p.place (numbers p) at_place whole answered_now (omega (arith, place, h.gives.keeps.acked)) (omega (arith, place, some, h.gives.keeps.acked)) now (k + 1) w
      (omega (arith, under, h.gives.keeps.acked, h.gives.keeps.sent)) (rises past h.goes.story) (omega (arith, h.goes.moment, on)) on r

  starts_now : (tm : Timer) (w : ℕ) → (is_off tm ≡ true) ⊎ (is_expired tm ≡ true) → timer_by (set_unless_running tm m) w ≡ Until (m + w)
  starts_now timer.Off w is = refl
  starts_now (timer.Since base) w (inl is) = absurd cc
  starts_now (timer.Since base) w (inr is) = absurd cc
  starts_now (timer.Expired at) w is = refl

  starts_even : (tm : Timer) (resent : ℕ) → doublings (set_unless_running tm m) resent ≡ resent
  starts_even timer.Off resent = refl
  starts_even (timer.Since base) resent = refl
  starts_even (timer.Expired at) resent = refl

  stays : (tm : Timer) → is_off tm ≡ false → is_expired tm ≡ false → set_unless_running tm m ≡ tm
  stays timer.Off off run = absurd cc
  stays (timer.Since base) off run = refl
  stays (timer.Expired at) off run = absurd cc

  not_either : (a b : Bool) → (a || b) ≡ false → a ≡ false
  not_either true b is = absurd cc
  not_either false b is = refl

  runs_on : Kind → Running (resend_sent t.resend (goes_again t p) m)
  runs_on (again under place within owed) =
      subst (λ (b : Bool). Running (resend_sent t.resend b m)) (sym (tested_again (omega (arith, place, under))))
      (counts (resend_sent t.resend true m) (counted t.resend.timer t.resend.resent) refl
      (went_again t.resend.timer t.resend.resent t.resend.estimate.wait (h.buffers.feeds.sound.set under) under place (ran_under under)))
  runs_on (first at place off) =
      subst (λ (b : Bool). Running (resend_sent t.resend b m)) (sym (tested_new (omega (arith, place))))
      (counts (resend_sent t.resend false m) 0 (starts_even t.resend.timer t.resend.resent ∙ h.buffers.feeds.sound.begins at)
      (subst (λ (q : FlowTimer). Resends after m q 0 t.resend.estimate.wait) (sym (starts_now t.resend.timer t.resend.estimate.wait off))
      (first_goes past seg m refl refl p.place (numbers p) at_place whole answered_now (omega (arith, place, at, h.gives.keeps.acked))
      (omega (arith, place, at, some, h.gives.keeps.acked)) now (timer_of t.resend) (count_of (is_under_way past) t.resend) t.resend.estimate.wait
      (omega (arith, at, h.gives.keeps.acked, h.gives.keeps.sent)) (rises past h.goes.story) (omega (arith, h.goes.moment, on)) ran)))
  runs_on (further under place none) =
      subst (λ (b : Bool). Running (resend_sent t.resend b m)) (sym (tested_new (omega (arith, place))))
      (counts (resend_sent t.resend false m) (doublings t.resend.timer t.resend.resent) (ap (λ (tm : Timer). doublings tm t.resend.resent) still)
      (subst (λ (tm : Timer). Resends after m (timer_by tm t.resend.estimate.wait) (doublings t.resend.timer t.resend.resent) t.resend.estimate.wait) (sym still)
      (next_goes past seg m refl refl p.place (numbers p) at_place whole answered_now now (timer_of t.resend) (doublings t.resend.timer t.resend.resent) t.resend.estimate.wait
      (omega (arith, place, under, h.gives.keeps.acked)) (omega (arith, place, h.gives.keeps.sent)) on (ran_under under))))
    where
      still : set_unless_running t.resend.timer m ≡ t.resend.timer
      still = stays t.resend.timer (h.buffers.feeds.sound.set under) (not_either (is_expired t.resend.timer) t.early none)

  -- ---- how often the guest was called

  before : oldest_unheard past ≤ t.resend.resent + 1
  before = subst (λ (b : Bool). oldest_unheard past ≤ (if b then c.syn else t.resend).resent + 1) opening h.gives.calls.counted

  one_more : oldest_unheard after ≤ 1 + oldest_unheard past
  one_more = piece_unheard past seg m refl refl

  called_again : (tm : Timer) (early : Bool) → t.resend.timer ≡ tm → t.early ≡ early → (is_expired tm || early) ≡ true → oldest_unheard after ≤ counted t.resend.timer t.resend.resent + 1
  called_again (timer.Expired at) early is so owed =
      let more : counted t.resend.timer t.resend.resent ≡ t.resend.resent + 1 = ap (λ (q : Timer). counted q t.resend.resent) is in omega (arith, more, one_more, before)
  called_again timer.Off true is so owed = let none = h.gives.calls.early opening so in omega (arith, none, one_more)
  called_again (timer.Since base) true is so owed = let none = h.gives.calls.early opening so in omega (arith, none, one_more)
  called_again timer.Off false is so owed = absurd cc
  called_again (timer.Since base) false is so owed = absurd cc

  called : Kind → oldest_unheard after ≤ (resend_sent t.resend (goes_again t p) m).resent + 1
  called (again under place within owed) = subst (λ (b : Bool). oldest_unheard after ≤ (resend_sent t.resend b m).resent + 1) (sym (tested_again (omega (arith, place, under))))
      (called_again t.resend.timer t.early refl refl owed)
  called (first at place off) =
      let none = unsent_unheard past answered_now (omega (arith, at, h.gives.keeps.acked, h.gives.keeps.sent)) in
      omega (arith, none, one_more)
  called (further under place none) = subst (λ (b : Bool). oldest_unheard after ≤ (resend_sent t.resend b m).resent + 1) (sym (tested_new (omega (arith, place))))
      (let same = further_unheard past seg m refl refl p.place at_place (omega (arith, place, under, h.gives.keeps.acked)) in omega (arith, same, before))

  -- ---- all of it

  none_left : is_owed_again (after_sent t p m) ≡ true → ⊥
  none_left owed = let not_it = sym owed ∙ by (is_expired (resend_sent t.resend (goes_again t p) m).timer) (sent_running t.resend (goes_again t p) m) in absurd cc
    where
      by : (b : Bool) → b ≡ false → (b || false) ≡ false
      by b is = rw is refl

  fin_now : (b : Bool) → p.fin ≡ b → ((b && not false && not false) || fin_is_out past) ≡ is_sent (if b then our_end.Sent else t.end)
  fin_now true is = refl
  fin_now false is = h.gives.fin_out

  piece_gives : Gives s (data_gone (told c up (our_shift c)) p m) down after m
  piece_gives =
      let g = h.gives in
      record {
        keeps = kept;
        fin_acked = g.fin_acked;
        fin_out = fin_now p.fin refl;
        window = g.window;
        alone = g.alone;
        resends = subst (λ (b : Bool). Running (if b then c.syn else resend_sent t.resend (goes_again t p) m)) (sym opening) (runs_on kind);
        counts = sent_counts after t.resend (goes_again t p) m (now_counts after m (omega (arith, h.goes.moment, on), rises past h.goes.story) refl)
            (counts_on past after t.resend.timer refl refl (omega (arith, h.goes.moment, on)) g.counts);
        calls = record {
          counted = subst (λ (b : Bool). oldest_unheard after ≤ (if b then c.syn else resend_sent t.resend (goes_again t p) m).resent + 1) (sym opening) (called kind);
          early = λ yet is. absurd cc;
          syn_early = λ yet owes runs. let not_it = sym yet ∙ opening in absurd cc;
        };
        steady = g.steady;
        unset = g.unset;
        set = g.set;
        owes_syn = g.owes_syn;
        syn_again = λ yet owed gone. let not_it = sym yet ∙ opening in absurd cc;
        again = λ owed under. absurd (none_left owed);
      }

  pub piece_goes : HasBuffers (data_gone (told c up (our_shift c)) p m) up down → Holds s (data_gone (told c up (our_shift c)) p m) up down after m
  piece_goes buffers = record {
    suits = record { ring = h.suits.ring; congestion = h.suits.congestion; scales = h.suits.scales; few = h.suits.few };
    buffers = buffers;
    within = h.within;
    goes = leaves_goes s c up down past now m seg on h known (h.opened.sent synchronized) refl refl refl refl refl refl refl p.place refl low joins (near kind) cut within
        (reason kind) end_after header;
    opened = opened_sending s (told c up (our_shift c)) (after_sent t p m) after refl
        (opened_told s c up (our_shift c) after (opened_on s c past after (record { ours = refl; connecting = refl; out = refl; accepted = refl; theirs = refl; unasked = refl }) refl h.opened));
    awaits = λ is. let not_it = sym is ∙ known in absurd cc;
    receives = λ is. receives_sending s (told c up (our_shift c)) (after_sent t p m) up after
        (leaves_received s c up down past now m seg on h known (h.opened.sent synchronized) refl refl refl refl refl refl refl p.place refl low joins (near kind) cut);
    gives = piece_gives;
  }
