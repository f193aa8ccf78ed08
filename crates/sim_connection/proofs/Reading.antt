-- Octets of the host are read, and its end.
use Rattle.std.proofs.Common.{refl, ◌≡◌, ℕ, ◌+◌, ◌≤◌, List, ◌∷◌, ◌++◌, length, true, false, not, nat_eq, nat_lt, arith, ap, sym, ◌∙◌, length-append}
use Rattle.std.proofs.lemmas.Bool.Decides.{nat_tests}
use Rattle.sock_buffers.specs.Downward.{Downward}
use Rattle.sock_buffers.specs.Upward.{Upward}
use Rattle.tcp_transmit.specs.Timing.{watched_over, watched}
use Rattle.tcp_transmit.specs.Transmission.{IsSentOf, Transmission, is_sent, octets_read, places}
use Rattle.tcp_transmit.specs.declared.End.{End}
use Rattle.tcp_transmit.specs.declared.End.TheVariants as our_end
use Rattle.tcp_connection.specs.Connection.{Connection, HasBuffers}
use Rattle.tcp_connection.specs.Hosts.{is_open}
use Rattle.spec_flow.specs.Settings.{Settings}
use Rattle.spec_flow.specs.Event.{At, Reads, ReadsEnd, Story}
use Rattle.spec_flow.specs.Host.{got_end}
use Rattle.spec_flow.specs.Flow.{host, is_under_way}
use Rattle.spec_flow.specs.Lawful.{Read}
use Rattle.spec_flow.proofs.HostLaws.{InOrder, in_order}
use Rattle.sim_halves.proofs.Acts.{may_read, must_read}
use Rattle.sim_halves.proofs.Reasons.{reason_later, reason_stays}
use Rattle.sim_halves.proofs.Resent.{quiet}
use Rattle.sim_halves.proofs.Sendings.{rises}
use Rattle.sim_halves.proofs.SendSteps.{reads as reads_step, reads_end as end_step}
use Rattle.sim_connection.specs.Holding.{Gives, Holds, is_at_connecting}
use Rattle.sim_connection.specs.Seen.{count_of, outward_of, resending_of, timer_of}
use Rattle.sim_connection.proofs.Going.{does}
use Rattle.sim_connection.proofs.Quiet.{awaits_on, awaits_sending, opened_on, opened_sending, receives_on, receives_sending}
use Rattle.sim_connection.proofs.Watching.{gives_watched, under_way_is, watched_mss}
use Rattle.sim_connection.proofs.Unanswered.{calls_on}
use Rattle.sim_connection.proofs.Counting.{counts_on}

-- the host has not ended its stream
still_open : (e : End) → is_open e ≡ true → e ≡ our_end.Open
still_open our_end.Open is = refl
still_open our_end.Unsent is = absurd cc
still_open our_end.Sent is = absurd cc

sent_within : (e : End) (sent octets : ℕ) → is_open e ≡ true → IsSentOf e sent octets → sent ≤ octets
sent_within our_end.Open sent octets is all = all
sent_within our_end.Unsent sent octets is all = all
sent_within our_end.Sent sent octets is all = absurd cc

not_all : (acked n k : ℕ) → acked ≤ n → n ≤ k → nat_eq acked (k + 1) ≡ nat_eq acked (n + 1)
not_all acked n k low on = let a : nat_eq acked (k + 1) ≡ false = grind (arith, nat_tests) in let b : nat_eq acked (n + 1) ≡ false = grind (arith, nat_tests) in a ∙ sym b

module _ (s : Settings) (c : Connection) (up : Upward) (down : Downward) (past : Story) (now m : ℕ) (on : now ≤ m) (h : Holds s c up down past now)
    (yet : is_open c.transmission.end ≡ true) (joined : is_at_connecting c.stage ≡ false) where
  none_ended : got_end (host past) ≡ false
  none_ended = sym h.gives.keeps.ended ∙ ap not yet

  order : InOrder (host past)
  order = in_order s past h.goes.lawful

  -- the buffer with these octets
  abbrev pub with_octets : List ℕ → Downward
  with_octets xs = record down { octets = down.octets ++ xs }

  read_gives : (xs : List ℕ) → Gives s c (with_octets xs) (At m (Reads xs) ∷ past) m
  read_gives xs =
      let g = h.gives in
      let feeds = h.buffers.feeds in
      let low = sent_within c.transmission.end c.transmission.sent (octets_read down) yet feeds.all in
      record {
        keeps = reads_step (outward_of c.transmission down) (host past) xs order none_ended g.keeps;
        fin_acked = g.fin_acked ∙ sym (not_all c.transmission.acked (octets_read down) (octets_read (with_octets xs)) (omega (arith, low, feeds.sound.order))
            (omega (arith, length-append down.octets xs)));
        fin_out = g.fin_out;
        window = g.window;
        alone = g.alone;
        resends = quiet past m (Reads xs) now (timer_of (resending_of c)) (count_of (is_under_way past) (resending_of c)) (resending_of c).estimate.wait tt on g.resends;
        counts = counts_on past (At m (Reads xs) ∷ past) c.transmission.resend.timer refl refl (omega (arith, g.resends.moment, on)) g.counts;
        calls = calls_on c past (At m (Reads xs) ∷ past) refl g.calls;
        steady = g.steady;
        unset = g.unset;
        set = g.set;
        owes_syn = g.owes_syn;
        syn_again = λ is owed gone. reason_later (At m (Reads xs) ∷ past) now m on (reason_stays past m now (Reads xs) tt (g.syn_again is owed gone));
        again = λ is under. reason_later (At m (Reads xs) ∷ past) now m on (reason_stays past m now (Reads xs) tt (g.again is under));
      }

  -- octets that fit were read
  pub reads : (xs : List ℕ) → length (down.octets ++ xs) ≤ s.ring → HasBuffers (record c { transmission = watched_over c.transmission (with_octets xs) m }) up (with_octets xs)
      → Holds s (record c { transmission = watched_over c.transmission (with_octets xs) m }) up (with_octets xs) (At m (Reads xs) ∷ past) m
  reads xs fits buffers =
      let o = opened_on s c past (At m (Reads xs) ∷ past) (record { ours = refl; connecting = refl; out = refl; accepted = refl; theirs = refl; unasked = refl }) refl h.opened in
      let g = read_gives xs in
      record {
        suits = record { ring = h.suits.ring; congestion = h.suits.congestion; scales = h.suits.scales; few = h.suits.few };
        buffers = buffers;
        within = fits;
        goes = does s past now m (Reads xs) Read h.goes on (λ none. none) refl (may_read s past m none_ended h.goes.well h.goes.open_yet (h.opened.connects ∙ joined))
            (must_read s past m h.goes.free) h.goes.open_yet refl refl;
        opened = opened_sending s c (watched_over c.transmission (with_octets xs) m) (At m (Reads xs) ∷ past)
            (watched_mss c.transmission down (nat_lt c.transmission.sent (places c.transmission (with_octets xs))) m) o;
        awaits = λ is. awaits_sending s c (watched_over c.transmission (with_octets xs) m) up (At m (Reads xs) ∷ past)
            (awaits_on s c up past (At m (Reads xs) ∷ past) (record { ours = refl; connecting = refl; out = refl; accepted = refl; theirs = refl; unasked = refl })
            (record { guest = refl; ended = refl; edge = refl; prompted = refl; answered = refl }) (h.awaits is));
        receives = λ is. receives_sending s c (watched_over c.transmission (with_octets xs) m) up (At m (Reads xs) ∷ past)
            (receives_on s c up past m (Reads xs) tt refl (record { guest = refl; ended = refl; edge = refl; prompted = refl; answered = refl }) (h.receives is));
        gives = gives_watched s c (with_octets xs) (At m (Reads xs) ∷ past) m (nat_lt c.transmission.sent (places c.transmission (with_octets xs))) h.buffers.feeds.sound.steady
            (omega (arith, h.goes.moment, on), rises past h.goes.story) refl
            (λ is. under_way_is s c (with_octets xs) (At m (Reads xs) ∷ past) o g.keeps is) g;
      }

  -- the end was read
  ended_gives : Gives s (record c { transmission = record c.transmission { end = our_end.Unsent } }) down (At m ReadsEnd ∷ past) m
  ended_gives =
      let g = h.gives in
      record {
        keeps = end_step (outward_of c.transmission down) (host past) g.keeps;
        fin_acked = g.fin_acked;
        fin_out = g.fin_out ∙ ap is_sent (still_open c.transmission.end yet);
        window = g.window;
        alone = g.alone;
        resends = quiet past m ReadsEnd now (timer_of (resending_of c)) (count_of (is_under_way past) (resending_of c)) (resending_of c).estimate.wait tt on g.resends;
        counts = counts_on past (At m ReadsEnd ∷ past) c.transmission.resend.timer refl refl (omega (arith, g.resends.moment, on)) g.counts;
        calls = let k = calls_on c past (At m ReadsEnd ∷ past) refl g.calls in record { counted = k.counted; early = k.early; syn_early = k.syn_early };
        steady = g.steady;
        unset = g.unset;
        set = g.set;
        owes_syn = g.owes_syn;
        syn_again = λ is owed gone. reason_later (At m ReadsEnd ∷ past) now m on (reason_stays past m now ReadsEnd tt (g.syn_again is owed gone));
        again = λ is under. reason_later (At m ReadsEnd ∷ past) now m on (reason_stays past m now ReadsEnd tt (g.again is under));
      }

  abbrev pub unsent_end : Transmission
  unsent_end = record c.transmission { end = our_end.Unsent }

  pub reads_end : HasBuffers (record c { transmission = watched unsent_end true m }) up down
      → Holds s (record c { transmission = watched unsent_end true m }) up down (At m ReadsEnd ∷ past) m
  reads_end buffers =
      let o = opened_on s c past (At m ReadsEnd ∷ past) (record { ours = refl; connecting = refl; out = refl; accepted = refl; theirs = refl; unasked = refl }) refl h.opened in
      let g = ended_gives in
      let ended_c : Connection = record c { transmission = unsent_end } in
      record {
        suits = record { ring = h.suits.ring; congestion = h.suits.congestion; scales = h.suits.scales; few = h.suits.few };
        buffers = buffers;
        within = h.within;
        goes = does s past now m ReadsEnd Read h.goes on (λ none. none) refl (may_read s past m none_ended h.goes.well h.goes.open_yet (h.opened.connects ∙ joined))
            (must_read s past m h.goes.free) h.goes.open_yet refl refl;
        opened = opened_sending s c (watched unsent_end true m) (At m ReadsEnd ∷ past) (watched_mss unsent_end down true m) o;
        awaits = λ is. awaits_sending s c (watched unsent_end true m) up (At m ReadsEnd ∷ past)
            (awaits_on s c up past (At m ReadsEnd ∷ past) (record { ours = refl; connecting = refl; out = refl; accepted = refl; theirs = refl; unasked = refl })
            (record { guest = refl; ended = refl; edge = refl; prompted = refl; answered = refl }) (h.awaits is));
        receives = λ is. receives_sending s c (watched unsent_end true m) up (At m ReadsEnd ∷ past)
            (receives_on s c up past m ReadsEnd tt refl (record { guest = refl; ended = refl; edge = refl; prompted = refl; answered = refl }) (h.receives is));
        gives = gives_watched s ended_c down (At m ReadsEnd ∷ past) m true h.buffers.feeds.sound.steady (omega (arith, h.goes.moment, on), rises past h.goes.story) refl
            (λ is. under_way_is s ended_c down (At m ReadsEnd ∷ past) (opened_sending s c unsent_end (At m ReadsEnd ∷ past) refl o) g.keeps is) g;
      }
