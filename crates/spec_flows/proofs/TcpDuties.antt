-- Calls of three runs that may come, but not as they must be: no proof of them can be.
use Rattle.std.proofs.Common.{◌≡◌, ℕ, false, List, take, Some, IsTrue, refl, arith}
use Rattle.world_face.specs.Journal.{Entry, Call, CallNow, CallClose, CallLinkWrite, CallTcpRead, CallTcpWrite}
use Rattle.world_face.specs.Frames.{encoding, missing, is_too_long, encoded_length}
use Rattle.slirp_settings.specs.Addresses.{Config}
use Rattle.slirp_settings.specs.Settings.{usual}
use Rattle.tlv_table.specs.Reading.{read_on}
use Rattle.spec_flow.specs.CheckDuty.{must}
use Rattle.spec_flow.specs.Computed.{is_conforming}
use Rattle.spec_flow.specs.Dutiful.{Must}
use Rattle.spec_flow.specs.Event.{Story}
use Rattle.spec_flow.specs.Flow.{guest}
use Rattle.spec_flow.specs.Lawful.{Act, AskConnected}
use Rattle.spec_flow.specs.Settings.{Settings}
use Rattle.spec_flow.proofs.ExactDuty.{refutes_duty}
use Rattle.spec_flows.specs.Book.{book}
use Rattle.spec_flows.specs.Flows.{Flow, flow_of}
use Rattle.spec_flows.specs.Laws.{MayFlow, flow_settings}
use Rattle.spec_flows.proofs.Writing.{hex, run}
use Rattle.spec_flows.proofs.TcpRows.{late}
use Rattle.spec_flows.proofs.TcpPairs.{two_flows}
use Rattle.spec_flows.proofs.TcpResets.{reset}

refuted : {s : Settings} {past : Story} {now : ℕ} {act : Act} → Must s past now act → IsTrue (is_conforming (guest past)) → must s past now act ≡ false → ⊥
refuted {s} {past} {now} {act} done fair fails = refutes_duty s past now act fair fails done

-- a SYN-ACK that tells a guest less room than there is
pub no_less_room : MayFlow usual (run (take 12 late)) (CallLinkWrite
    (hex "0000003a52540012345652550a00020208004500002c000000004006acb6c00002070a00020f00500fa00003d090000003e96012fffee5940000020405b4")) → ⊥
unfolding missing encoding is_too_long encoded_length read_on
no_less_room may = refuted may.must refl refl

other_size : ◌≡◌ {A = ℕ} 1000 16384 → ⊥
other_size is = omega (arith, is)

-- a read of fewer octets than there is room for
pub no_small_read : MayFlow usual (run (take 13 late)) (CallTcpRead 0 1000) → ⊥
unfolding missing encoding is_too_long encoded_length read_on
no_small_read may = other_size may.must.1

-- a write of fewer octets than were acknowledged
pub no_small_write : MayFlow usual (run (take 27 two_flows)) (CallTcpWrite 0 (hex "0304")) → ⊥
unfolding missing encoding is_too_long encoded_length read_on
no_small_write may = refuted may.must refl refl

-- where another call than its close comes a flow needn't be closed
stays : {f : Flow} (config : Config) (past : List Entry) (call : Call) (n : ℕ) → flow_of n (book config past).flows ≡ Some f → (call ≡ CallClose n → ⊥) → MayFlow config past call →
    Must (flow_settings config) f.story 0 AskConnected
stays {f} config past call n found other may = record { sends_its_room = tt; offers_what_was_acknowledged = tt; closes_after_reset = λ closes. other (may.at_once n f found closes) }

not_a_close : CallNow ≡ CallClose 0 → ⊥
not_a_close is = cc

-- the clock is asked before the close that follows a reset at the next number
pub no_call_before_the_close : MayFlow usual (run (take 23 reset)) CallNow → ⊥
unfolding missing encoding is_too_long encoded_length read_on
no_call_before_the_close may = refuted (stays usual (run (take 23 reset)) CallNow 0 refl not_a_close may) refl refl
