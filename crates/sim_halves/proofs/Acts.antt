-- What is to be shown before each act, and nothing else: of the sentences of the law those that speak of it.
use Rattle.std.proofs.Common.{◌≡◌, ℕ, List, Bool, true, false}
use Rattle.spec_flow.specs.Settings.{Settings}
use Rattle.spec_flow.specs.Event.{Segment, Story}
use Rattle.spec_flow.specs.Host.{got_end}
use Rattle.spec_flow.specs.Flow.{host, is_closed, is_connecting}
use Rattle.spec_flow.specs.Close.{host_failed}
use Rattle.spec_flow.specs.Lawful.{May, AskConnected, Write, EndHost, Read, Send, Close, HasCause, WritesWhatTheGuestSent, WritesWhatCame, SendsWhatTheHostSent, SendsAgainWithReason}
use Rattle.spec_flow.specs.Lawful.{EndsAfterAll, SendsEndAfterAll, AcknowledgesWhatCame, ResetsWhereOwed, SendsNothingAfterClose, OpensAfterHost, OpensWithSyn, AsksUntilConnected}
use Rattle.spec_flow.specs.Lawful.{HasHeaderOf, SendsItsHeader, SendsItsOptions, SendsWithinMss, ResetsAtWhatCame, Act, ReadsToTheEnd, ClosesWithCause, ClosesAfterFailure, CallsOpenSocket}
use Rattle.spec_flow.specs.Dutiful.{Must, MustClose, OffersEnough, TellsRoom}

module _ (s : Settings) (past : Story) (now : ℕ) where
  -- ---- what may be done

  -- what the law says of segments is nothing of a call
  abbrev Silent : Act → Type 0
  Silent act =
      SendsWhatTheHostSent past act × SendsWithinMss s past act × SendsAgainWithReason past now act × SendsEndAfterAll past act × AcknowledgesWhatCame past act × ResetsAtWhatCame past act
      × ResetsWhereOwed past act × SendsNothingAfterClose past act × OpensAfterHost past act × OpensWithSyn past act × SendsItsHeader past act × SendsItsOptions s past act

  -- an act is a call on the host's socket
  abbrev IsCall : Act → Type 0
  IsCall (Send seg) = ⊥
  IsCall _ = Unit {0}

  silent : (act : Act) → IsCall act → Silent act
  silent AskConnected call = (tt, tt, tt, tt, tt, tt, tt, tt, tt, tt, tt, tt)
  silent (Write xs) call = (tt, tt, tt, tt, tt, tt, tt, tt, tt, tt, tt, tt)
  silent EndHost call = (tt, tt, tt, tt, tt, tt, tt, tt, tt, tt, tt, tt)
  silent Read call = (tt, tt, tt, tt, tt, tt, tt, tt, tt, tt, tt, tt)
  silent (Close directly ended known) call = (tt, tt, tt, tt, tt, tt, tt, tt, tt, tt, tt, tt)
  silent (Send seg) call = absurd call

  may_call : (act : Act) → IsCall act → WritesWhatTheGuestSent past act → WritesWhatCame past act → EndsAfterAll past act → ReadsToTheEnd past act → ClosesWithCause past now act →
      ClosesAfterFailure past act
      → CallsOpenSocket past act → AsksUntilConnected past act → May s past now act
  may_call act call guest_sent came after open_end cause fine open_yet asks =
      let none = silent act call in
      record {
        writes_what_the_guest_sent = guest_sent;
        writes_what_came = came;
        sends_what_the_host_sent = none.0;
        sends_within_mss = none.1;
        sends_again_with_reason = none.2;
        ends_after_all = after;
        sends_end_after_all = none.3;
        reads_to_the_end = open_end;
        acknowledges_what_came = none.4;
        resets_at_what_came = none.5;
        closes_with_cause = cause;
        closes_after_failure = fine;
        calls_open_socket = open_yet;
        resets_where_owed = none.6;
        sends_nothing_after_close = none.7;
        opens_after_host = none.8;
        opens_with_syn = none.9;
        asks_until_connected = asks;
        sends_its_header = none.10;
        sends_its_options = none.11;
      }

  pub may_ask : host_failed past ≡ false → is_closed past ≡ false → is_connecting past ≡ true → May s past now AskConnected
  may_ask fine open_yet connects = may_call AskConnected tt tt tt tt tt tt fine open_yet connects

  pub may_write : (xs : List ℕ) → WritesWhatTheGuestSent past (Write xs) → WritesWhatCame past (Write xs) → host_failed past ≡ false → is_closed past ≡ false →
      is_connecting past ≡ false → May s past now (Write xs)
  may_write xs guest_sent came fine open_yet connected = may_call (Write xs) tt guest_sent came tt tt tt fine open_yet connected

  pub may_end : EndsAfterAll past EndHost → host_failed past ≡ false → is_closed past ≡ false → is_connecting past ≡ false → May s past now EndHost
  may_end after fine open_yet connected = may_call EndHost tt tt tt after tt tt fine open_yet connected

  pub may_read : got_end (host past) ≡ false → host_failed past ≡ false → is_closed past ≡ false → is_connecting past ≡ false → May s past now Read
  may_read open_end fine open_yet connected = may_call Read tt tt tt tt open_end tt fine open_yet connected

  pub may_close : (directly ended known : Bool) → HasCause directly ended known now past → is_closed past ≡ false → May s past now (Close directly ended known)
  may_close directly ended known cause open_yet = may_call (Close directly ended known) tt tt tt tt tt cause tt open_yet tt

  pub may_send : (seg : Segment) → SendsWhatTheHostSent past (Send seg) → SendsWithinMss s past (Send seg) → SendsAgainWithReason past now (Send seg) → SendsEndAfterAll past
      (Send seg) → AcknowledgesWhatCame past (Send seg) → ResetsAtWhatCame past (Send seg)
      → host_failed past ≡ false → ResetsWhereOwed past (Send seg) → SendsNothingAfterClose past (Send seg) → OpensAfterHost past (Send seg) → OpensWithSyn past (Send seg) →
      HasHeaderOf past seg → SendsItsOptions s past (Send seg)
      → May s past now (Send seg)
  may_send seg host_sent within reason end came reset fine owed quiet after syn header options = record {
    writes_what_the_guest_sent = tt;
    writes_what_came = tt;
    sends_what_the_host_sent = host_sent;
    sends_within_mss = within;
    sends_again_with_reason = reason;
    ends_after_all = tt;
    sends_end_after_all = end;
    reads_to_the_end = tt;
    acknowledges_what_came = came;
    resets_at_what_came = reset;
    closes_with_cause = tt;
    closes_after_failure = fine;
    calls_open_socket = tt;
    resets_where_owed = owed;
    sends_nothing_after_close = quiet;
    opens_after_host = after;
    opens_with_syn = syn;
    asks_until_connected = tt;
    sends_its_header = header;
    sends_its_options = options;
  }

  -- ---- what must be done

  pub must_ask : (MustClose past → ⊥) → Must s past now AskConnected
  must_ask none = record { sends_its_room = tt; offers_what_was_acknowledged = tt; closes_after_reset = none }

  pub must_write : (xs : List ℕ) → OffersEnough past xs → (MustClose past → ⊥) → Must s past now (Write xs)
  must_write xs enough none = record { sends_its_room = tt; offers_what_was_acknowledged = enough; closes_after_reset = none }

  pub must_end : (MustClose past → ⊥) → Must s past now EndHost
  must_end none = record { sends_its_room = tt; offers_what_was_acknowledged = tt; closes_after_reset = none }

  pub must_read : (MustClose past → ⊥) → Must s past now Read
  must_read none = record { sends_its_room = tt; offers_what_was_acknowledged = tt; closes_after_reset = none }

  pub must_close : (directly ended known : Bool) → Must s past now (Close directly ended known)
  must_close directly ended known = record { sends_its_room = tt; offers_what_was_acknowledged = tt; closes_after_reset = tt }

  pub must_send : (seg : Segment) → TellsRoom s past now seg → (MustClose past → ⊥) → Must s past now (Send seg)
  must_send seg room none = record { sends_its_room = room; offers_what_was_acknowledged = tt; closes_after_reset = none }
