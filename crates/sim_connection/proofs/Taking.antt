-- The octets and the FIN of a segment that is heeded, against the flow's story.
use Rattle.std.proofs.Common.{refl, ◌≡◌, ℕ, ◌+◌, ◌-◌, ◌^◌, ◌<◌, ◌≤◌, List, [], ◌∷◌, ◌++◌, length, Bool, true, false, not, ◌&&◌, ◌||◌, Option, None, Some, is_some, if◌then◌else◌, IsTrue}
use Rattle.std.proofs.Common.{◌↔◌, nat_eq, nat_le, ℤ, pos, negsuc, ◌+ℤ◌, ◌<ℤ◌, arith, ap, subst, sym, ◌∙◌, inl, inr, ◌⊎◌, slice_get}
use Rattle.retransmit.specs.Resending.{Resending}
use Rattle.seq_space.specs.Places.{number_of, shifted_place}
use Rattle.sock_buffers.specs.Kept.{octet_at}
use Rattle.sock_buffers.specs.Upward.{Upward}
use Rattle.tcp_receive.specs.Coming.{Comes}
use Rattle.tcp_receive.specs.Received.{Fills, Received, next_number, place_in, places_taken, up_after}
use Rattle.tcp_segment.specs.Tcp.{Tcp}
use Rattle.tcp_transmit.specs.Transmission.{Transmission}
use Rattle.tcp_connection.specs.Checks.{is_fin}
use Rattle.tcp_connection.specs.Connection.{Connection}
use Rattle.tcp_connection.specs.Segments.{count_taken, is_end_taken, is_to_acknowledge, received_after}
use Rattle.tcp_connection.specs.declared.Stage.{Stage}
use Rattle.spec_flow.specs.Settings.{Settings}
use Rattle.spec_flow.specs.Event.{Arrives, At, Segment, Story}
use Rattle.spec_flow.specs.Guest.{AckIsDue, Came, Conforming, Up, ackd, is_empty, octet_at as octet_in, was_acked}
use Rattle.spec_flow.specs.Flow.{guest, is_closed, is_heeded, is_plain, their_number}
use Rattle.spec_flow.specs.Dutiful.{fin_is_answered}
use Rattle.spec_flow.proofs.Sides.{guest_came}
use Rattle.spec_flow.proofs.Streams.{earlier}
use Rattle.spec_flow.specs.Segments.{segment_of}
use Rattle.sim_halves.specs.Ends.{Ends, IsCurrent}
use Rattle.sim_halves.specs.Follows.{Follows}
use Rattle.sim_halves.specs.Part.{Part, part}
use Rattle.sim_halves.specs.Received.{Has, received as taken_of, places_taken as places_of}
use Rattle.sim_halves.proofs.Due.{came_due}
use Rattle.sim_halves.proofs.EndSteps.{heeds}
use Rattle.sim_halves.proofs.Resets.{came_current}
use Rattle.sim_halves.proofs.Taking.{came}
use Rattle.sim_connection.specs.Holding.{Receives}
use Rattle.sim_connection.specs.Seen.{kept_at, part_of}
use Rattle.sim_connection.proofs.Coming.{brings, count_now, counted, end_is, held_now, keeps_now, none_owed, sized, taken_now, takes_all, takes_none}

or_off : (a b : Bool) → b ≡ false → (a || b) ≡ a
or_off true b is = refl
or_off false b is = is

no_octets : (o : ℤ) (i x : ℕ) → octet_in o [] i ≡ Some x → ⊥
no_octets (pos k) i x is = by (nat_le k i) is
  where
    by : (b : Bool) → (if b then slice_get [] (i - k) else None) ≡ Some x → ⊥
    by true so = absurd cc
    by false so = absurd cc
no_octets (negsuc k) i x is = absurd cc

module _ (s : Settings) (c : Connection) (up : Upward) (past : Story) (m : ℕ) (tcp : Tcp) (fits : tcp.seq < 2 ^ 32) (few : length tcp.body ≤ 2 ^ 31) (open_yet : is_closed past ≡ false)
    (known : their_number past ≡ Some c.received.first) (plain : is_plain (segment_of tcp) ≡ true) (heeded : is_heeded past (segment_of tcp) ≡ true)
    (counts : (not (segment_of tcp).syn && not (segment_of tcp).rst) ≡ true)
    (r : Receives s c up past) (comes : Comes c.received tcp.seq tcp.body up (up_after c.received tcp.seq tcp.body up))
    (within : length (up_after c.received tcp.seq tcp.body up).held ≤ (up_after c.received tcp.seq tcp.body up).size)
    (fills : Fills c.received up) (fills_now : Fills (received_after c.received tcp.seq tcp.body (is_fin tcp) up) (up_after c.received tcp.seq tcp.body up)) where
  abbrev seg : Segment
  seg = segment_of tcp

  abbrev after : Story
  after = At m (Arrives seg) ∷ past

  abbrev later : Upward
  later = up_after c.received tcp.seq tcp.body up

  abbrev ys : List ℕ
  ys = taken_now c.received tcp.seq tcp.body up comes

  abbrev now_received : Received
  now_received = received_after c.received tcp.seq tcp.body (is_fin tcp) up

  abbrev took : Bool
  took = is_end_taken c.received tcp.seq tcp.body (is_fin tcp) (c.received.taken + count_taken c.received tcp.seq tcp.body up)

  taken_is : now_received.taken ≡ c.received.taken + length ys
  taken_is = ap (λ (k : ℕ). c.received.taken + k) (counted c.received tcp.seq tcp.body up comes)

  same : guest after ≡ Came seg.number seg.octets seg.fin true ∷ guest past
  same = guest_came m past seg open_yet (ap (λ (o : Option ℕ). is_some o) known) plain ∙ ap (λ (b : Bool). Came seg.number seg.octets seg.fin b ∷ guest past) heeded

  took_is : IsTrue took ↔ (IsTrue (is_fin tcp) × (c.received.ended ≡ false) × ((place_in c.received tcp.seq +ℤ pos (length tcp.body)) ≡ pos (c.received.taken + length ys)))
  took_is = subst (λ (k : ℕ). IsTrue took ↔ (IsTrue (is_fin tcp) × (c.received.ended ≡ false) × ((place_in c.received tcp.seq +ℤ pos (length tcp.body)) ≡ pos k))) taken_is
      (end_is c.received tcp.seq tcp.body (is_fin tcp) (c.received.taken + count_taken c.received tcp.seq tcp.body up))

  none_after : c.received.ended ≡ true → ys ≡ []
  none_after over = (takes_none c.received tcp.seq tcp.body up comes over).0

  kept_before : c.received.ended ≡ true → (i x : ℕ) → kept_at now_received.taken later.kept i ≡ Some x → kept_at c.received.taken up.kept i ≡ Some x
  kept_before over i x is =
      let count : now_received.taken ≡ c.received.taken = taken_is ∙ ap (λ (zs : List ℕ). c.received.taken + length zs) (none_after over) ∙ omega arith in
      ap (λ (k : ℕ). octet_at up.kept (i - k)) (sym count) ∙ ap (λ (u : Upward). octet_at u.kept (i - now_received.taken)) (sym (takes_none c.received tcp.seq tcp.body up comes over).1) ∙ is

  -- of an empty segment nothing is taken
  no_more : length tcp.body ≡ 0 → length ys ≡ 0
  no_more none = by ys refl
    where
      no_body : (xs : List ℕ) → length xs ≡ 0 → xs ≡ []
      no_body [] is = refl
      no_body (x ∷ xs) is = absurd (omega arith)

      kept_none : (x : ℕ) → Has (kept_at c.received.taken up.kept) (place_in c.received tcp.seq) [] c.received.taken (c.received.taken + 0) x → ⊥
      kept_none x (inl is) = let at : c.received.taken + 0 - c.received.taken ≡ 0 = omega arith in
          let found = sym fills.next ∙ ap (λ (j : ℕ). octet_at up.kept j) (sym at) ∙ is in absurd cc
      kept_none x (inr (low, is)) = no_octets (place_in c.received tcp.seq) (c.received.taken + 0) x is

      by : (zs : List ℕ) → ys ≡ zs → length zs ≡ 0
      by [] is = refl
      by (z ∷ zs) is = absurd (kept_none z (subst (λ (xs : List ℕ). Has (kept_at c.received.taken up.kept) (place_in c.received tcp.seq) xs c.received.taken
          (c.received.taken + 0) z) (no_body tcp.body none)
          (brings c.received tcp.seq tcp.body up comes 0 z (ap (λ (ws : List ℕ). slice_get ws 0) is))))

  -- with such an acknowledgement owed, and whatever else
  module _ (owed : Bool) (only : owed ≡ false → (c.ack_owed || is_to_acknowledge c.received tcp.seq tcp.body (is_fin tcp)) ≡ false) where
    quiet : owed ≡ false → (c.ack_owed ≡ false) × (length tcp.body ≡ 0) × (is_fin tcp ≡ false) × (place_in c.received tcp.seq <ℤ pos (places_taken c.received) → ⊥)
    quiet none = none_owed c.received tcp.seq tcp.body (is_fin tcp) c.ack_owed (only none)

    abbrev q : Part
    q = part 0 0 c.received.first now_received.taken now_received.ended later.held later.written later.size c.host_ended owed (kept_at now_received.taken later.kept)

    q_is : q ≡ part 0 0 c.received.first (c.received.taken + length ys) (c.received.ended || took) (up.held ++ ys) up.written up.size c.host_ended owed (kept_at now_received.taken later.kept)
    q_is =
        ap (λ (k : ℕ). part 0 0 c.received.first k now_received.ended later.held later.written later.size c.host_ended owed (kept_at now_received.taken later.kept)) taken_is
        ∙ ap (λ (zs : List ℕ). part 0 0 c.received.first (c.received.taken + length ys) now_received.ended zs later.written later.size c.host_ended owed
        (kept_at now_received.taken later.kept)) (held_now c.received tcp.seq tcp.body up comes)
        ∙ ap (λ (k : ℕ). part 0 0 c.received.first (c.received.taken + length ys) now_received.ended (up.held ++ ys) k later.size c.host_ended owed
        (kept_at now_received.taken later.kept)) (sized c.received tcp.seq tcp.body up).1
        ∙ ap (λ (k : ℕ). part 0 0 c.received.first (c.received.taken + length ys) now_received.ended (up.held ++ ys) up.written k c.host_ended owed
        (kept_at now_received.taken later.kept)) (sized c.received tcp.seq tcp.body up).0

    follows_now : Follows s.ring q (guest after)
    follows_now = subst (λ (g : List Up). Follows s.ring q g) (sym same)
        (came s.ring (guest past) (part_of c up) q tcp.seq tcp.body (is_fin tcp) fits took ys q_is
        (λ over. (none_after over, kept_before over))
        (λ yet. (
          keeps_now c.received tcp.seq tcp.body up comes now_received taken_is fills_now,
          brings c.received tcp.seq tcp.body up comes,
          takes_all c.received tcp.seq tcp.body up comes yet,
          omega (arith, within, count_now c.received tcp.seq tcp.body up comes, (sized c.received tcp.seq tcp.body up).0),
        ))
        took_is
        (λ none. ((quiet none).0, nothing none, (quiet none).2))
        r.follows)
      where
        nothing : owed ≡ false → length ys ≡ 0
        nothing none = no_more (quiet none).1

    due_now : owed ≡ false → AckIsDue (guest after) → ⊥
    due_now none due =
        came_due (guest past) (taken_of c.received.first c.received.taken c.received.ended) tcp.seq tcp.body (is_fin tcp) true c.ack_owed owed fits r.follows.first r.ends.low r.follows.acknowledged
        (λ so. ((quiet so).0, λ yet. ((quiet so).1, (quiet so).2, (quiet so).3))) r.due none (subst (λ (g : List Up). AckIsDue g) same due)

    ends_now : Ends after q c.end_acknowledged c.ours_first c.acknowledged
    ends_now =
        heeds past (part_of c up) q c.end_acknowledged c.ours_first c.acknowledged m seg ys took
        (guest_came m past seg open_yet (ap (λ (o : Option ℕ). is_some o) known) plain) r.follows.first refl taken_is refl fits few r.ends
        counts_all
        (brings c.received tcp.seq tcp.body up comes)
        (keeps_now c.received tcp.seq tcp.body up comes now_received taken_is fills_now)
        (λ over. ap length (none_after over))
        (λ yet. let low : ackd (guest past) ≤ (if c.received.ended then c.received.taken + 1 else c.received.taken) = r.follows.acknowledged in
        subst (λ (b : Bool). ackd (guest past) ≤ (if b then c.received.taken + 1 else c.received.taken)) yet low)
        took_is.0
      where
        all_four : (a b d e : Bool) → (a && b) ≡ true → d ≡ true → e ≡ false → (a && b && d && not e) ≡ true
        all_four true true true false one two three = refl
        all_four true true true true one two three = absurd cc
        all_four true true false e one two three = absurd cc
        all_four true false d e one two three = absurd cc
        all_four false b d e one two three = absurd cc

        counts_all : (not seg.syn && not seg.rst && is_some (their_number past) && not (is_closed past)) ≡ true
        counts_all = all_four (not seg.syn) (not seg.rst) (is_some (their_number past)) (is_closed past) counts (ap (λ (o : Option ℕ). is_some o) known) open_yet

  current_now : IsCurrent (guest after) (taken_of c.received.first now_received.taken now_received.ended) c.acknowledged
  current_now = subst (λ (g : List Up). IsCurrent g (taken_of c.received.first now_received.taken now_received.ended) c.acknowledged) (sym same)
      (came_current (guest past) (taken_of c.received.first c.received.taken c.received.ended)
      (taken_of c.received.first now_received.taken now_received.ended) c.acknowledged tcp.seq tcp.body (is_fin tcp) true refl
      (something (is_fin tcp) (is_empty tcp.body) refl refl) r.current)
    where
      empty_long : (xs : List ℕ) → is_empty xs ≡ true → length xs ≡ 0
      empty_long [] is = refl
      empty_long (x ∷ xs) is = absurd cc

      unended : is_fin tcp ≡ false → (c.received.ended || took) ≡ c.received.ended
      unended none = or_off c.received.ended took (by (is_fin tcp) (not c.received.ended) (nat_eq (shifted_place tcp.seq c.received.first c.received.taken + length tcp.body)
          (c.received.taken + count_taken c.received tcp.seq tcp.body up + 2 ^ 31)) none)
        where
          by : (a b d : Bool) → a ≡ false → (a && b && d) ≡ false
          by a b d is = rw is refl

      something : (a b : Bool) → is_fin tcp ≡ a → is_empty tcp.body ≡ b → (places_of (taken_of c.received.first now_received.taken now_received.ended) ≡ places_of
          (taken_of c.received.first c.received.taken c.received.ended)) ⊎ IsTrue (true && (a || not b))
      something true b fin_is empty_is = inr refl
      something false false fin_is empty_is = inr refl
      something false true fin_is empty_is =
          let count : now_received.taken ≡ c.received.taken = taken_is ∙ ap (λ (k : ℕ). c.received.taken + k) (no_more (empty_long tcp.body empty_is)) ∙ omega arith in
          inl (ap (λ (k : ℕ). if now_received.ended then k + 1 else k) count ∙ ap (λ (b : Bool). if b then c.received.taken + 1 else c.received.taken) (unended fin_is))

  sure_now : c.end_acknowledged ≡ true → (now_received.ended ≡ true) × (c.acknowledged ≡ next_number now_received)
  sure_now is =
      let two = r.sure is in
      let count : now_received.taken ≡ c.received.taken = taken_is ∙ ap (λ (zs : List ℕ). c.received.taken + length zs) (none_after two.0) ∙ omega arith in
      let over : now_received.ended ≡ c.received.ended = by c.received.ended two.0 in (
        over ∙ two.0,
        two.1 ∙ ap (λ (b : Bool). number_of c.received.first (if b then c.received.taken + 1 else c.received.taken)) (sym over)
            ∙ ap (λ (k : ℕ). number_of c.received.first (if now_received.ended then k + 1 else k)) (sym count),
      )
    where
      by : (b : Bool) → b ≡ true → (b || took) ≡ b
      by true so = refl
      by false so = absurd cc

  answers : (b : Bool) → b ≡ false → fin_is_answered past ≡ true → (not (b && seg.ack && not seg.syn && not seg.rst) && fin_is_answered past) ≡ true
  answers b is so = rw (is, so) refl

  -- the guest's stream after it
  pub taken_receives : (st : Stage) (tr : Transmission) (sy : Resending) (so owed fa : Bool) → (owed ≡ false → (c.ack_owed || is_to_acknowledge c.received tcp.seq tcp.body (is_fin tcp)) ≡ false)
      → Receives s (record c { stage = st; received = now_received; transmission = tr; syn = sy; syn_owed = so; ack_owed = owed; fin_acked = fa }) later after
  taken_receives st tr sy so owed fa only = record {
    follows = follows_now owed only;
    due = due_now owed only;
    once = λ is none. subst (λ (g : List Up). IsTrue (was_acked g)) (sym same) (r.once is (quiet owed only none).0);
    ends = ends_now owed only;
    current = current_now;
    sure = sure_now;
    host_ended = r.host_ended;
    told = λ conforming. r.told (earlier (Came seg.number seg.octets seg.fin true) (guest past) (subst (λ (g : List Up). Conforming g) same conforming));
    answered = λ is none. answers (is_fin tcp) (quiet owed only none).2 (r.answered is (quiet owed only none).0);
    prompted = λ is. refl;
    updated = λ none yes_. absurd cc;
  }
