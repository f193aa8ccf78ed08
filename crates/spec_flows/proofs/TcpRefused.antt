-- What the test refuses of four runs is refused by the law: no proof of it can be.
use Rattle.std.proofs.Common.{◌≡◌, ℕ, Bool, true, false, [], take, Option, Some, None, refl, ap, arith}
use Rattle.world_face.specs.Journal.{Call, CallWait, CallLinkWrite, CallConnect, CallTcpWrite}
use Rattle.world_face.specs.Frames.{encoding, missing, is_too_long, encoded_length}
use Rattle.slirp_settings.specs.Addresses.{endpoint}
use Rattle.slirp_settings.specs.Settings.{usual}
use Rattle.tlv_table.specs.Reading.{read_on}
use Rattle.spec_flows.specs.Laws.{MayFlow}
use Rattle.spec_flows.proofs.Writing.{hex, run}
use Rattle.spec_flows.proofs.TcpRows.{late}
use Rattle.spec_flows.proofs.TcpPairs.{two_flows}

not_both : {b : Bool} → b ≡ false → b ≡ true → ⊥
not_both {b} off on = cc

-- the SYN-ACK before the host connected
pub no_syn_ack : MayFlow usual (run (take 6 late)) (CallLinkWrite
    (hex "0000003a52540012345652550a00020208004500002c000000004006acb6c00002070a00020f00500fa00003d090000003e96012ffffe5930000020405b4")) → ⊥
unfolding missing encoding is_too_long encoded_length read_on
no_syn_ack may = not_both refl (may.touches.opens_after_host refl)

-- octets of a flow on the socket of another
pub no_other_octets : MayFlow usual (run (take 27 two_flows)) (CallTcpWrite 1 (hex "03040506070809")) → ⊥
unfolding missing encoding is_too_long encoded_length read_on
no_other_octets may = may.touches.writes_what_came 0 3 refl

other_port : ◌≡◌ {A = ℕ} 80 81 → ⊥
other_port is = omega (arith, is)

-- another port of the host than the guest asked for
pub no_other_port : MayFlow usual (run (take 5 late)) (CallConnect 0 (endpoint 3221225991 81)) → ⊥
unfolding missing encoding is_too_long encoded_length read_on
no_other_port may = other_port (ap port may.touches)
  where
    port : Option Call → ℕ
    port (Some (CallConnect socket to)) = to.port
    port _ = 0

-- a wait in place of the connection
pub no_wait : MayFlow usual (run (take 5 late)) (CallWait [] None) → ⊥
unfolding missing encoding is_too_long encoded_length read_on
no_wait may = not_both refl (ap waits may.due)
  where
    waits : Call → Bool
    waits (CallWait wants timeout) = false
    waits _ = true
