-- A segment of the guest arrives, and is what the order of checks says.
use Rattle.std.proofs.Common.{refl, ◌≡◌, ℕ, ◌+◌, ◌^◌, ◌%◌, ◌<◌, ◌≤◌, ◌∷◌, Bool, true, false, not, ◌&&◌, ◌||◌, Option, None, Some, is_some, if◌then◌else◌, nat_eq, nat_le, int_le, ℤ, pos}
use Rattle.std.proofs.Common.{negsuc, ◌+ℤ◌, arith, ap, sym, ◌∙◌, inl, inr, ◌⊎◌}
use Rattle.std.proofs.lemmas.Bool.Decides.{nat_tests}
use Rattle.seq_space.specs.Places.{number_of}
use Rattle.seq_space.proofs.Numbers.{place_is}
use Rattle.sock_buffers.specs.Downward.{Downward}
use Rattle.sock_buffers.specs.Upward.{Upward}
use Rattle.tcp_receive.specs.Received.{next_number}
use Rattle.tcp_segment.specs.Tcp.{Tcp}
use Rattle.tcp_connection.specs.Checks.{acknowledges_syn, is_ack, is_in_window, is_next, is_rst, is_same_syn, is_syn, verdict_answering, verdict_by, verdict_early, verdict_of, verdict_synchronized}
use Rattle.tcp_connection.specs.Connection.{Connection, HasBuffers, has_gone, is_opening, is_synchronized}
use Rattle.tcp_connection.specs.Segments.{after_segment, conn_by, down_after_segment, down_by, up_after_segment, up_by}
use Rattle.tcp_connection.specs.declared.Stage.{Stage}
use Rattle.tcp_connection.specs.declared.Stage.TheVariants as stage
use Rattle.tcp_connection.specs.declared.Verdict.{Verdict}
use Rattle.tcp_connection.specs.declared.Verdict.TheVariants.{Ignored, Resets, Unacceptable, Repeats, Challenged, Greets, Heeded}
use Rattle.spec_flow.specs.Settings.{Settings}
use Rattle.spec_flow.specs.Event.{Arrives, At, Segment, Story}
use Rattle.spec_flow.specs.Host.{acked, answered, is_acceptable, not_past_sent, our_first, our_place, sent}
use Rattle.spec_flow.specs.Flow.{confirms, greets, host, is_closed, is_heeded, next_number as number_after, our_number, syn_is_out, their_number}
use Rattle.spec_flow.specs.Close.{renews}
use Rattle.spec_flow.proofs.Sides.{our_first_is}
use Rattle.spec_flow.specs.Segments.{segment_of}
use Rattle.sim_halves.proofs.Segments.{number_from}
use Rattle.sim_connection.specs.Holding.{Holds, is_calls, is_at_connecting, is_live}
use Rattle.sim_connection.proofs.Unheeded.{stays}
use Rattle.sim_connection.proofs.Watching.{synchronized_is}

-- ---- tests

equal_is : (a b : ℕ) → a ≡ b → nat_eq a b ≡ true
equal_is a b is = grind (arith, nat_tests)

-- what of a segment is needed to leave the flow as it is
pub record Quiet (c : Connection) (past : Story) (seg : Segment) : Type 0 where
  pub none : (confirms past seg && is_acceptable (host past) seg.acknowledgement) ≡ false
  pub unheeded : is_heeded past seg ≡ false
  pub apart : seg.rst ≡ true → seg.number ≡ next_number c.received → ⊥
  pub calm : c.end_acknowledged ≡ true → renews seg ≡ false

and_four : (a b d e : Bool) → (a ≡ false) ⊎ ((b ≡ true) ⊎ ((d ≡ false) ⊎ (e ≡ false))) → (a && not b && d && e) ≡ false
and_four false b d e is = refl
and_four true true d e is = refl
and_four true false false e is = refl
and_four true false true e (inl is) = absurd cc
and_four true false true e (inr (inl is)) = absurd cc
and_four true false true e (inr (inr (inl is))) = absurd cc
and_four true false true e (inr (inr (inr is))) = is

heed_none : (a b d e f g i j : Bool) → (d ≡ false) ⊎ ((e ≡ false) ⊎ ((f ≡ true) ⊎ ((g ≡ true) ⊎ (j ≡ false)))) → (not a && b && d && e && not f && not g && i && j) ≡ false
heed_none true b d e f g i j is = refl
heed_none false false d e f g i j is = refl
heed_none false true false e f g i j is = refl
heed_none false true true false f g i j is = refl
heed_none false true true true true g i j is = refl
heed_none false true true true false true i j is = refl
heed_none false true true true false false false j is = refl
heed_none false true true true false false true j (inl is) = absurd cc
heed_none false true true true false false true j (inr (inl is)) = absurd cc
heed_none false true true true false false true j (inr (inr (inl is))) = absurd cc
heed_none false true true true false false true j (inr (inr (inr (inl is)))) = absurd cc
heed_none false true true true false false true j (inr (inr (inr (inr is)))) = is

first_none : (a b : Bool) → a ≡ false → (a && b) ≡ false
first_none a b is = rw is refl

last_none : (a b : Bool) → b ≡ false → (a && b) ≡ false
last_none true b is = is
last_none false b is = refl

module _ (s : Settings) (c : Connection) (up : Upward) (down : Downward) (past : Story) (now m : ℕ) (tcp : Tcp) (on : now ≤ m) (h : Holds s c up down past now) where
  abbrev seg : Segment
  seg = segment_of tcp

  abbrev after : Story
  after = At m (Arrives seg) ∷ past

  -- the guest's end isn't acknowledged before our SYN is
  not_ended : is_calls c.stage ≡ false → is_opening c.stage ≡ true → c.end_acknowledged ≡ true → renews seg ≡ false
  not_ended known opening is = let not_it = sym ((h.receives known).sure is).0 ∙ h.buffers.sound.unended opening in absurd cc

  -- nothing is looked at before our SYN went out
  unsent_quiet : is_calls c.stage ≡ false → syn_is_out past ≡ false → (seg.rst ≡ true → seg.number ≡ next_number c.received → ⊥) → Quiet c past seg
  unsent_quiet known unsent apart = record {
    none = first_none (confirms past seg) (is_acceptable (host past) seg.acknowledgement)
        (and_four seg.ack seg.rst (syn_is_out past) (if is_some (their_number past) then not seg.syn else greets past seg) (inr (inr (inl unsent))));
    unheeded = heed_none (is_closed past) (is_some (their_number past)) (syn_is_out past) seg.ack seg.syn seg.rst (not_past_sent (host past) seg.acknowledgement)
        (answered (host past) || nat_eq seg.acknowledgement (number_after (our_number past))) (inl unsent);
    apart = apart;
    calm = λ is. not_ended known (opening_by (is_opening c.stage) refl) is;
  }
    where
      opening_by : (b : Bool) → is_opening c.stage ≡ b → b ≡ true
      opening_by true is = refl
      opening_by false is = let not_it = sym (h.opened.out ∙ h.opened.sent (synchronized_is c.stage h.opened.live is)) ∙ unsent in absurd cc

  -- one with RST, SYN or without ACK
  flag_quiet : is_calls c.stage ≡ false → (seg.ack ≡ false) ⊎ ((seg.syn ≡ true) ⊎ (seg.rst ≡ true)) → (seg.rst ≡ true → seg.number ≡ next_number c.received → ⊥) → Quiet c past seg
  flag_quiet known flag apart = record {
    none = first_none (confirms past seg) (is_acceptable (host past) seg.acknowledgement) (by flag);
    unheeded = by_heed flag;
    apart = apart;
    calm = λ is. no_renewal flag;
  }
    where
      renews_none : (a b d e : Bool) → (b ≡ false) ⊎ ((d ≡ true) ⊎ (e ≡ true)) → (a && b && not d && not e) ≡ false
      renews_none false b d e is = refl
      renews_none true false d e is = refl
      renews_none true true true e is = refl
      renews_none true true false e (inl is) = absurd cc
      renews_none true true false e (inr (inl is)) = absurd cc
      renews_none true true false true (inr (inr is)) = refl
      renews_none true true false false (inr (inr is)) = absurd cc

      no_renewal : (seg.ack ≡ false) ⊎ ((seg.syn ≡ true) ⊎ (seg.rst ≡ true)) → renews seg ≡ false
      no_renewal is = renews_none seg.fin seg.ack seg.syn seg.rst is

      is_known : is_some (their_number past) ≡ true
      is_known = ap (λ (n : Option ℕ). is_some n) (h.opened.theirs ∙ ap (λ (b : Bool). if b then None else Some c.received.first) known)

      if_known : (b d e : Bool) → b ≡ true → d ≡ true → (if b then not d else e) ≡ false
      if_known b d e b_is d_is = rw (b_is, d_is) refl

      by : (seg.ack ≡ false) ⊎ ((seg.syn ≡ true) ⊎ (seg.rst ≡ true)) → confirms past seg ≡ false
      by (inl is) = and_four seg.ack seg.rst (syn_is_out past) (if is_some (their_number past) then not seg.syn else greets past seg) (inl is)
      by (inr (inl is)) = and_four seg.ack seg.rst (syn_is_out past) (if is_some (their_number past) then not seg.syn else greets past seg)
          (inr (inr (inr (if_known (is_some (their_number past)) seg.syn (greets past seg) is_known is))))
      by (inr (inr is)) = and_four seg.ack seg.rst (syn_is_out past) (if is_some (their_number past) then not seg.syn else greets past seg) (inr (inl is))

      heed : (seg.ack ≡ false) ⊎ ((seg.syn ≡ true) ⊎ (seg.rst ≡ true)) → (syn_is_out past ≡ false) ⊎
          ((seg.ack ≡ false) ⊎ ((seg.syn ≡ true) ⊎ ((seg.rst ≡ true) ⊎ ((answered (host past) || nat_eq seg.acknowledgement (number_after (our_number past))) ≡ false))))
      heed (inl is) = inr (inl is)
      heed (inr (inl is)) = inr (inr (inl is))
      heed (inr (inr is)) = inr (inr (inr (inl is)))

      by_heed : (seg.ack ≡ false) ⊎ ((seg.syn ≡ true) ⊎ (seg.rst ≡ true)) → is_heeded past seg ≡ false
      by_heed so = heed_none (is_closed past) (is_some (their_number past)) (syn_is_out past) seg.ack seg.syn seg.rst (not_past_sent (host past) seg.acknowledgement)
          (answered (host past) || nat_eq seg.acknowledgement (number_after (our_number past))) (heed so)

  not_next : is_next c tcp ≡ false → seg.number ≡ next_number c.received → ⊥
  not_next is number = let same = equal_is seg.number (next_number c.received) number in let not_it = sym same ∙ is in absurd cc

  -- an acknowledgement of another number than our SYN's, before that is acknowledged
  stranger_quiet : c.stage ≡ stage.SynReceived → tcp.ack < 2 ^ 32 → seg.ack ≡ true → seg.rst ≡ false → acknowledges_syn c tcp ≡ false → Quiet c past seg
  stranger_quiet at fits ack rst other = record {
    none = last_none (confirms past seg) (is_acceptable (host past) tcp.ack) (by (is_acceptable (host past) tcp.ack) refl);
    unheeded = heed_none (is_closed past) (is_some (their_number past)) (syn_is_out past) seg.ack seg.syn seg.rst (not_past_sent (host past) tcp.ack)
        (answered (host past) || nat_eq tcp.ack (number_after (our_number past)))
        (inr (inr (inr (inr (either (answered (host past)) (nat_eq tcp.ack (number_after (our_number past))) (h.opened.answered ∙ ap (λ (st : Stage). is_synchronized st) at) different)))));
    apart = λ is. let not_it = sym is ∙ rst in absurd cc;
    calm = λ is. not_ended (ap (λ (st : Stage). is_calls st) at) (ap (λ (st : Stage). is_opening st) at) is;
  }
    where
      either : (a b : Bool) → a ≡ false → b ≡ false → (a || b) ≡ false
      either a b a_is b_is = rw (a_is, b_is) refl

      and_second : (a b : Bool) → (a && b) ≡ false → a ≡ true → b ≡ false
      and_second true b is so = is
      and_second false b is so = absurd cc

      not_ours : nat_eq tcp.ack (number_of c.ours 0) ≡ false
      not_ours = and_second (is_ack tcp) (nat_eq tcp.ack (number_of c.ours 0)) other ack

      after_is : number_after (our_number past) ≡ number_of c.ours 0
      after_is = ap (λ (n : ℕ). number_after n) h.opened.ours ∙ ap (λ (n : ℕ). n % 2 ^ 32) (let more : c.ours + 1 ≡ c.ours + 1 + 0 = omega arith in more)

      different : nat_eq tcp.ack (number_after (our_number past)) ≡ false
      different = ap (λ (n : ℕ). nat_eq tcp.ack n) after_is ∙ not_ours

      none_sent : sent (host past) ≡ 0
      none_sent = let unsent = h.buffers.sound.unsent (ap (λ (st : Stage). is_opening st) at) in omega (arith, unsent, h.gives.keeps.sent)

      none_acked : acked (host past) ≡ 0
      none_acked = let unsent = h.buffers.sound.unsent (ap (λ (st : Stage). is_opening st) at) in let order = h.buffers.feeds.sound.order in omega (arith, unsent, order, h.gives.keeps.acked)

      zero_of : (z : ℤ) (a b : ℕ) → a ≡ 0 → b ≡ 0 → (int_le (pos a) z && int_le z (pos b)) ≡ true → z ≡ pos 0
      zero_of (pos n) a b a_is b_is is = ap pos (in_nats a n b a_is b_is is)
        where
          in_nats : (a n b : ℕ) → a ≡ 0 → b ≡ 0 → (nat_le a n && nat_le n b) ≡ true → n ≡ 0
          in_nats a n b a_is b_is is = grind (arith, nat_tests)
      zero_of (negsuc n) a b a_is b_is is = absurd cc

      by : (b : Bool) → is_acceptable (host past) tcp.ack ≡ b → b ≡ false
      by false is = refl
      by true is =
          let at_zero = zero_of (our_place (host past) tcp.ack) (acked (host past)) (sent (host past)) none_acked none_sent is in
          let same = number_from tcp.ack (our_first (host past)) (sent (host past)) 0 0 (our_place (host past) tcp.ack)
          (place_is tcp.ack (our_first (host past)) (sent (host past)) fits) (ap (λ (z : ℤ). z +ℤ pos 0) (sym at_zero)) in
          let small : (tcp.ack + 0) % 2 ^ 32 ≡ tcp.ack = omega (arith, fits) in
          let ours : number_of (our_first (host past)) 0 ≡ number_of c.ours 0 = ap (λ (f : ℕ). number_of f 0) (our_first_is past ∙ h.opened.ours) in
          let not_it = sym (equal_is tcp.ack (number_of c.ours 0) (sym small ∙ same ∙ ours)) ∙ not_ours in absurd cc

  -- ---- what it is

  pub data Means : Type 0 where
    -- the connection stays as it is, but for what it owes
    rests : (syn_owed ack_owed : Bool) → after_segment c up down tcp m ≡ record c { syn_owed = syn_owed; ack_owed = ack_owed } → up_after_segment c up down tcp ≡ up →
        down_after_segment c up down tcp ≡ down
        → (c.syn_owed ≡ true → syn_owed ≡ true) → (ack_owed ≡ false → c.ack_owed ≡ false) → (is_at_connecting c.stage ≡ true → ack_owed ≡ false) → is_calls c.stage ≡ false → Quiet c past seg → Means
    -- the guest is called on
    waits : after_segment c up down tcp m ≡ c → up_after_segment c up down tcp ≡ up → down_after_segment c up down tcp ≡ down → c.stage ≡ stage.SynSent → greets past seg ≡ false → Means
    -- the guest resets it: at the next number, or by the acknowledgement of our SYN
    resets : verdict_of c up tcp ≡ Resets → is_calls c.stage ≡ false → seg.rst ≡ true → seg.number ≡ next_number c.received → Means
    turns_away : verdict_of c up tcp ≡ Resets → is_calls c.stage ≡ true → seg.rst ≡ true → seg.ack ≡ true → seg.acknowledgement ≡ number_of c.ours 0 → Means
    -- the guest's SYN
    is_greeted : verdict_of c up tcp ≡ Greets → c.stage ≡ stage.SynSent → has_gone c.sendings ≡ true → greets past seg ≡ true → seg.rst ≡ false → seg.syn ≡ true →
        (seg.ack ≡ true → tcp.ack ≡ number_of c.ours 0) → Means
    -- the acknowledgement of our SYN
    is_opened : verdict_of c up tcp ≡ Heeded → c.stage ≡ stage.SynReceived → has_gone c.sendings ≡ true → tcp.ack ≡ number_of c.ours 0 → seg.ack ≡ true → seg.rst ≡ false → seg.syn ≡ false → Means
    -- one of the stream
    is_heard : verdict_of c up tcp ≡ Heeded → c.stage ≡ stage.Synchronized → seg.ack ≡ true → seg.rst ≡ false → seg.syn ≡ false → Means

  as_ignored : verdict_of c up tcp ≡ Ignored → is_calls c.stage ≡ false → Quiet c past seg → Means
  as_ignored is known quiet = rests c.syn_owed c.ack_owed (ap (λ (v : Verdict). conn_by v c up down tcp m) is) (ap (λ (v : Verdict). up_by v c up down tcp) is)
      (ap (λ (v : Verdict). down_by v c down tcp) is) (λ so. so) (λ so. so) h.opened.quiet known quiet

  as_unacceptable : verdict_of c up tcp ≡ Unacceptable → is_calls c.stage ≡ false → Quiet c past seg → Means
  as_unacceptable is known quiet = rests c.syn_owed c.ack_owed (ap (λ (v : Verdict). conn_by v c up down tcp m) is) (ap (λ (v : Verdict). up_by v c up down tcp) is)
      (ap (λ (v : Verdict). down_by v c down tcp) is) (λ so. so) (λ so. so) h.opened.quiet known quiet

  as_repeats : verdict_of c up tcp ≡ Repeats → is_calls c.stage ≡ false → Quiet c past seg → Means
  as_repeats is known quiet = rests true c.ack_owed (ap (λ (v : Verdict). conn_by v c up down tcp m) is) (ap (λ (v : Verdict). up_by v c up down tcp) is)
      (ap (λ (v : Verdict). down_by v c down tcp) is) (λ so. refl) (λ so. so) h.opened.quiet known quiet

  as_challenged : verdict_of c up tcp ≡ Challenged → is_at_connecting c.stage ≡ false → is_calls c.stage ≡ false → Quiet c past seg → Means
  as_challenged is granted known quiet = rests c.syn_owed true (ap (λ (v : Verdict). conn_by v c up down tcp m) is) (ap (λ (v : Verdict). up_by v c up down tcp) is)
      (ap (λ (v : Verdict). down_by v c down tcp) is) (λ so. so) (λ so. absurd cc) (λ so. let not_it = sym so ∙ granted in absurd cc) known quiet

  equals : (a b : ℕ) → nat_eq a b ≡ true → a ≡ b
  equals a b is = grind (arith, nat_tests)

  -- before our SYN went out
  early_means : verdict_of c up tcp ≡ verdict_early c tcp → is_calls c.stage ≡ false → has_gone c.sendings ≡ false → Means
  early_means at known unsent = by (is_rst tcp) (is_next c tcp) refl refl
    where
      by : (a b : Bool) → is_rst tcp ≡ a → is_next c tcp ≡ b → Means
      by true true rst next = resets (at ∙ ap (λ (x : Bool). if x && is_next c tcp then Resets else Ignored) rst ∙ ap (λ (x : Bool). if true && x then Resets else Ignored) next)
          known rst (equals tcp.seq (next_number c.received) next)
      by true false rst next = as_ignored (at ∙ ap (λ (x : Bool). if x && is_next c tcp then Resets else Ignored) rst ∙ ap (λ (x : Bool). if true && x then Resets else Ignored) next) known
          (unsent_quiet known (h.opened.out ∙ unsent) (λ is. not_next next))
      by false b rst next = as_ignored (at ∙ ap (λ (x : Bool). if x && is_next c tcp then Resets else Ignored) rst) known
          (unsent_quiet known (h.opened.out ∙ unsent) (λ is number. let not_it = sym is ∙ rst in absurd cc))

  -- once both SYNs are known
  synchronized_means : verdict_of c up tcp ≡ verdict_synchronized c up tcp → is_at_connecting c.stage ≡ false → is_calls c.stage ≡ false
      → (verdict_of c up tcp ≡ Heeded → seg.ack ≡ true → seg.rst ≡ false → seg.syn ≡ false → Means) → Means
  synchronized_means at granted known heeds = by (is_rst tcp) (is_next c tcp) (is_in_window c up tcp) (is_syn tcp) (is_ack tcp) refl refl refl refl refl
    where
      abbrev_is : (a b d e f : Bool) → is_rst tcp ≡ a → is_next c tcp ≡ b → is_in_window c up tcp ≡ d → is_syn tcp ≡ e → is_ack tcp ≡ f
          → verdict_of c up tcp ≡ (if a then (if b then Resets else (if d then Challenged else Ignored)) else (if e then Challenged else (if f then Heeded else Ignored)))
      abbrev_is a b d e f a_is b_is d_is e_is f_is = at ∙ rw (a_is, b_is, d_is, e_is, f_is) refl

      by : (a b d e f : Bool) → is_rst tcp ≡ a → is_next c tcp ≡ b → is_in_window c up tcp ≡ d → is_syn tcp ≡ e → is_ack tcp ≡ f → Means
      by true true d e f a_is b_is d_is e_is f_is = resets (abbrev_is true true d e f a_is b_is d_is e_is f_is) known a_is (equals tcp.seq (next_number c.received) b_is)
      by true false true e f a_is b_is d_is e_is f_is = as_challenged (abbrev_is true false true e f a_is b_is d_is e_is f_is) granted known (flag_quiet known (inr (inr a_is)) (λ is. not_next b_is))
      by true false false e f a_is b_is d_is e_is f_is = as_ignored (abbrev_is true false false e f a_is b_is d_is e_is f_is) known (flag_quiet known (inr (inr a_is)) (λ is. not_next b_is))
      by false b d true f a_is b_is d_is e_is f_is = as_challenged (abbrev_is false b d true f a_is b_is d_is e_is f_is) granted known
          (flag_quiet known (inr (inl e_is)) (λ is number. let not_it = sym is ∙ a_is in absurd cc))
      by false b d false true a_is b_is d_is e_is f_is = heeds (abbrev_is false b d false true a_is b_is d_is e_is f_is) f_is a_is e_is
      by false b d false false a_is b_is d_is e_is f_is = as_ignored (abbrev_is false b d false false a_is b_is d_is e_is f_is) known
          (flag_quiet known (inl f_is) (λ is number. let not_it = sym is ∙ a_is in absurd cc))

  -- ---- by how far it is opened

  module _ (ack_fits : tcp.ack < 2 ^ 32) where
    connects_means : c.stage ≡ stage.Connecting → Means
    connects_means at = early_means (ap (λ (st : Stage). verdict_by st c up tcp) at) (ap (λ (st : Stage). is_calls st) at) (h.opened.unsent (ap (λ (st : Stage). is_at_connecting st) at))

    greets_by : (a b d e f : Bool) → seg.syn ≡ a → seg.rst ≡ b → syn_is_out past ≡ d → (not seg.ack || nat_eq tcp.ack (number_after (our_number past))) ≡ e
        → greets past seg ≡ (a && not b && d && true && e)
    greets_by a b d e f a_is b_is d_is e_is =
        ap (λ (x : Bool). x && not seg.rst && syn_is_out past && not (is_closed past) && (not seg.ack || nat_eq tcp.ack (number_after (our_number past)))) a_is
        ∙ ap (λ (x : Bool). a && not x && syn_is_out past && not (is_closed past) && (not seg.ack || nat_eq tcp.ack (number_after (our_number past)))) b_is
        ∙ ap (λ (x : Bool). a && not b && x && not (is_closed past) && (not seg.ack || nat_eq tcp.ack (number_after (our_number past)))) d_is
        ∙ ap (λ (x : Bool). a && not b && d && not x && (not seg.ack || nat_eq tcp.ack (number_after (our_number past)))) h.goes.open_yet
        ∙ ap (λ (x : Bool). a && not b && d && true && x) e_is

    after_ours : number_after (our_number past) ≡ number_of c.ours 0
    after_ours = ap (λ (n : ℕ). number_after n) h.opened.ours ∙ ap (λ (n : ℕ). n % 2 ^ 32) (let more : c.ours + 1 ≡ c.ours + 1 + 0 = omega arith in more)

    ours_by : (a b : Bool) → seg.ack ≡ a → acknowledges_syn c tcp ≡ b → (not seg.ack || nat_eq tcp.ack (number_after (our_number past))) ≡ (not a || b)
    ours_by true b a_is b_is =
        ap (λ (x : Bool). not x || nat_eq tcp.ack (number_after (our_number past))) a_is ∙ ap (λ (n : ℕ). nat_eq tcp.ack n) after_ours
        ∙ sym (ap (λ (x : Bool). x && nat_eq tcp.ack (number_of c.ours 0)) a_is) ∙ b_is
    ours_by false b a_is b_is = ap (λ (x : Bool). not x || nat_eq tcp.ack (number_after (our_number past))) a_is

    both_of : (a b : Bool) → (a && b) ≡ true → (a ≡ true) × (b ≡ true)
    both_of true true is = (refl, refl)
    both_of true false is = absurd cc
    both_of false b is = absurd cc

    five : (a b d : Bool) → (a && not b && d && true && false) ≡ false
    five true true d = refl
    five true false true = refl
    five true false false = refl
    five false b d = refl

    calls_means : c.stage ≡ stage.SynSent → Means
    calls_means at = by (is_rst tcp) (acknowledges_syn c tcp) (has_gone c.sendings) (is_ack tcp) (is_syn tcp) refl refl refl refl refl
      where
        calls : is_calls c.stage ≡ true
        calls = ap (λ (st : Stage). is_calls st) at

        verdict_is : (a b d e f : Bool) → is_rst tcp ≡ a → acknowledges_syn c tcp ≡ b → has_gone c.sendings ≡ d → is_ack tcp ≡ e → is_syn tcp ≡ f
            → verdict_of c up tcp ≡ (if a then (if b then Resets else Ignored) else (if not d then Ignored else (if e && not b then Unacceptable else (if f then Greets else Ignored))))
        verdict_is a b d e f a_is b_is d_is e_is f_is = ap (λ (st : Stage). verdict_by st c up tcp) at ∙ rw (a_is, b_is, d_is, e_is, f_is) refl

        waiting : (v : Verdict) → verdict_of c up tcp ≡ v → (v ≡ Ignored) ⊎ (v ≡ Unacceptable) → greets past seg ≡ false → Means
        waiting v is (inl so) none = waits (ap (λ (v : Verdict). conn_by v c up down tcp m) (is ∙ so)) (ap (λ (v : Verdict). up_by v c up down tcp) (is ∙ so))
            (ap (λ (v : Verdict). down_by v c down tcp) (is ∙ so)) at none
        waiting v is (inr so) none = waits (ap (λ (v : Verdict). conn_by v c up down tcp m) (is ∙ so)) (ap (λ (v : Verdict). up_by v c up down tcp) (is ∙ so))
            (ap (λ (v : Verdict). down_by v c down tcp) (is ∙ so)) at none

        greets_is : (a b d e f : Bool) → is_rst tcp ≡ a → acknowledges_syn c tcp ≡ b → has_gone c.sendings ≡ d → is_ack tcp ≡ e → is_syn tcp ≡ f → greets past seg ≡
            (f && not a && d && true && (not e || b))
        greets_is a b d e f a_is b_is d_is e_is f_is = greets_by f a d (not e || b) true f_is a_is (h.opened.out ∙ d_is) (ours_by e b e_is b_is)

        fin_five : (f a : Bool) → (f && not a && false && true && true) ≡ false
        fin_five true true = refl
        fin_five true false = refl
        fin_five false a = refl

        no_syn : (f a d g : Bool) → a ≡ true → (f && not a && d && true && g) ≡ false
        no_syn true a d g is = rw is refl
        no_syn false a d g is = refl

        not_gone : (f g : Bool) → (f && true && false && true && g) ≡ false
        not_gone true g = refl
        not_gone false g = refl

        by : (a b d e f : Bool) → is_rst tcp ≡ a → acknowledges_syn c tcp ≡ b → has_gone c.sendings ≡ d → is_ack tcp ≡ e → is_syn tcp ≡ f → Means
        by true true d e f a_is b_is d_is e_is f_is =
            let two = both_of (is_ack tcp) (nat_eq tcp.ack (number_of c.ours 0)) b_is in
            turns_away (verdict_is true true d e f a_is b_is d_is e_is f_is) calls a_is two.0 (equals tcp.ack (number_of c.ours 0) two.1)
        by true false d e f a_is b_is d_is e_is f_is = waiting Ignored (verdict_is true false d e f a_is b_is d_is e_is f_is) (inl refl)
            (greets_is true false d e f a_is b_is d_is e_is f_is ∙ no_syn f true d (not e || false) refl)
        by false b false e f a_is b_is d_is e_is f_is = waiting Ignored (verdict_is false b false e f a_is b_is d_is e_is f_is) (inl refl)
            (greets_is false b false e f a_is b_is d_is e_is f_is ∙ not_gone f (not e || b))
        by false false true true f a_is b_is d_is e_is f_is = waiting Unacceptable (verdict_is false false true true f a_is b_is d_is e_is f_is) (inr refl)
            (greets_is false false true true f a_is b_is d_is e_is f_is ∙ five f false true)
        by false true true true false a_is b_is d_is e_is f_is = waiting Ignored (verdict_is false true true true false a_is b_is d_is e_is f_is) (inl refl)
            (greets_is false true true true false a_is b_is d_is e_is f_is)
        by false b true false false a_is b_is d_is e_is f_is = waiting Ignored (verdict_is false b true false false a_is b_is d_is e_is f_is) (inl refl)
            (greets_is false b true false false a_is b_is d_is e_is f_is)
        by false true true true true a_is b_is d_is e_is f_is =
            is_greeted (verdict_is false true true true true a_is b_is d_is e_is f_is) at d_is (greets_is false true true true true a_is b_is d_is e_is f_is) a_is f_is
            (λ so. equals tcp.ack (number_of c.ours 0) (both_of (is_ack tcp) (nat_eq tcp.ack (number_of c.ours 0)) b_is).1)
        by false b true false true a_is b_is d_is e_is f_is =
            is_greeted (verdict_is false b true false true a_is b_is d_is e_is f_is) at d_is (greets_is false b true false true a_is b_is d_is e_is f_is) a_is f_is
            (λ so. let not_it = sym so ∙ e_is in absurd cc)

    answers_means : c.stage ≡ stage.SynReceived → Means
    answers_means at = by_gone (has_gone c.sendings) refl
      where
        known : is_calls c.stage ≡ false
        known = ap (λ (st : Stage). is_calls st) at

        granted : is_at_connecting c.stage ≡ false
        granted = ap (λ (st : Stage). is_at_connecting st) at

        at_verdict : verdict_of c up tcp ≡ verdict_answering c up tcp
        at_verdict = ap (λ (st : Stage). verdict_by st c up tcp) at

        opening : verdict_of c up tcp ≡ Heeded → acknowledges_syn c tcp ≡ true → has_gone c.sendings ≡ true → seg.ack ≡ true → seg.rst ≡ false → seg.syn ≡ false → Means
        opening is ours gone ack rst syn = is_opened is at gone (equals tcp.ack (number_of c.ours 0) (both_of (is_ack tcp) (nat_eq tcp.ack (number_of c.ours 0)) ours).1) ack rst syn

        same_syn_flags : (a b d e : Bool) → (a && not b && not d && e) ≡ true → (b ≡ false) × (d ≡ false)
        same_syn_flags true false false e is = (refl, refl)
        same_syn_flags true true d e is = absurd cc
        same_syn_flags true false true e is = absurd cc
        same_syn_flags false b d e is = absurd cc

        by_ack : (a b d : Bool) → is_ack tcp ≡ a → is_rst tcp ≡ b → acknowledges_syn c tcp ≡ d → has_gone c.sendings ≡ true
            → verdict_of c up tcp ≡ (if a && not b && not d then Unacceptable else verdict_synchronized c up tcp) → Means
        by_ack true false false a_is b_is d_is gone is = as_unacceptable is known (stranger_quiet at ack_fits a_is b_is d_is)
        by_ack true false true a_is b_is d_is gone is = synchronized_means is granted known (λ so ack rst syn. opening so d_is gone ack rst syn)
        by_ack true true d a_is b_is d_is gone is = synchronized_means is granted known (λ so ack rst syn. let not_it = sym rst ∙ b_is in absurd cc)
        by_ack false b d a_is b_is d_is gone is = synchronized_means is granted known (λ so ack rst syn. let not_it = sym ack ∙ a_is in absurd cc)

        by_same : (b : Bool) → is_same_syn c tcp ≡ b → has_gone c.sendings ≡ true
            → verdict_of c up tcp ≡ (if b then Repeats else (if is_ack tcp && not (is_rst tcp) && not (acknowledges_syn c tcp) then Unacceptable else verdict_synchronized c up tcp)) → Means
        by_same true same gone is =
            let flags = same_syn_flags (is_syn tcp) (is_ack tcp) (is_rst tcp) (nat_eq (number_of tcp.seq 0) (next_number c.received)) same in
            as_repeats is known (flag_quiet known (inl flags.0) (λ rst number. let not_it = sym rst ∙ flags.1 in absurd cc))
        by_same false same gone is = by_ack (is_ack tcp) (is_rst tcp) (acknowledges_syn c tcp) refl refl refl gone is

        by_gone : (b : Bool) → has_gone c.sendings ≡ b → Means
        by_gone true gone =
            by_same (is_same_syn c tcp) refl gone
            (at_verdict ∙ ap (λ (b : Bool). if not b then verdict_early c tcp else
            (if is_same_syn c tcp then Repeats else (if is_ack tcp && not (is_rst tcp) && not (acknowledges_syn c tcp) then Unacceptable else verdict_synchronized c up tcp))) gone)
        by_gone false gone =
            early_means (at_verdict ∙ ap (λ (b : Bool). if not b then verdict_early c tcp else
            (if is_same_syn c tcp then Repeats else (if is_ack tcp && not (is_rst tcp) && not (acknowledges_syn c tcp) then Unacceptable else verdict_synchronized c up tcp))) gone) known gone

    -- what a segment is to a live connection
    pub means : Means
    means = by c.stage refl h.opened.live
      where
        by : (st : Stage) → c.stage ≡ st → is_live st ≡ true → Means
        by stage.Connecting at live = connects_means at
        by stage.SynSent at live = calls_means at
        by stage.SynReceived at live = answers_means at
        by stage.Synchronized at live =
            synchronized_means (ap (λ (st : Stage). verdict_by st c up tcp) at) (ap (λ (st : Stage). is_at_connecting st) at) (ap (λ (st : Stage). is_calls st) at)
            (λ so ack rst syn. is_heard so at ack rst syn)
        by stage.TimeWait at live = absurd cc
        by (stage.Resets seq ack) at live = absurd cc
        by stage.Closed at live = absurd cc

    -- one after which the connection stays as it is
    pub rests_holds : (syn_owed ack_owed : Bool) → (c.syn_owed ≡ true → syn_owed ≡ true) → (ack_owed ≡ false → c.ack_owed ≡ false) →
        (is_at_connecting c.stage ≡ true → ack_owed ≡ false) → is_calls c.stage ≡ false → Quiet c past seg
        → HasBuffers (record c { syn_owed = syn_owed; ack_owed = ack_owed }) up down → Holds s (record c { syn_owed = syn_owed; ack_owed = ack_owed }) up down after m
    rests_holds syn_owed ack_owed keeps only calm known q buffers = stays s c up down past now m seg on h q.none known q.unheeded q.apart syn_owed ack_owed keeps only calm (λ none. q.calm) buffers
