-- What isn't asked, and headers that the state of a flow doesn't have: no proof that such a call may be made can be.
use Rattle.std.proofs.Common.{◌≡◌, ℕ, Bool, true, false, List, [], ◌∷◌, ◌++◌, take, Some, None, refl, arith}
use Rattle.poll_list.specs.declared.Who.TheVariants.{Link, Listener, Tcp}
use Rattle.world_face.specs.declared.Io.TheVariants.{Done, End}
use Rattle.world_face.specs.declared.Waited.TheVariants.{Ready}
use Rattle.world_face.specs.Journal.{Entry, CallConnected, CallLinkWrite, CallTcpEnd, CallTcpRead, Now, Wait, LinkRead, LinkWrite, TcpRead}
use Rattle.world_face.specs.Frames.{encoding, missing, is_too_long, encoded_length}
use Rattle.slirp_settings.specs.Settings.{usual}
use Rattle.tlv_table.specs.Reading.{read_on}
use Rattle.spec_flows.specs.Laws.{MayFlow}
use Rattle.spec_flows.proofs.Openings.{called, connected_at, opened, ten_taken}
use Rattle.spec_flows.proofs.TcpFailures.{failed_read}
use Rattle.spec_flows.proofs.TcpForwards.{forwarding, visited}
use Rattle.spec_flows.proofs.TcpRows.{late}
use Rattle.spec_flows.proofs.Writing.{hex, run, want}

not_both : {b : Bool} → b ≡ false → b ≡ true → ⊥
not_both {b} off on = cc

on_false : {b : Bool} → b ≡ true → b ≡ false → ⊥
on_false {b} on off = cc

not_zero : (n : ℕ) → n ≡ 0 → n ≡ 4660 → ⊥
not_zero n none some = omega (arith, none, some)

not_none : (n : ℕ) → n ≡ 0 → n ≡ 3735928559 → ⊥
not_none n none some = omega (arith, none, some)

-- ---- whether a host has connected

-- ten octets are acknowledged, and the host takes octets: it has connected, and isn't asked again
pub asks_again : MayFlow usual (run (opened ++ ten_taken ++ Wait (want Link true false ∷ want (Tcp 0) true true ∷ []) None Ready (want (Tcp 0) false true ∷ []) ∷ Now 1030 ∷ [])) (CallConnected 0) → ⊥
unfolding missing encoding is_too_long encoded_length read_on
asks_again may = not_both refl may.touches.asks_until_connected

-- both ends came
abbrev pub both_came : List Entry
both_came =
    called
    ++ connected_at 1000
    ++ Wait (want Link true false ∷ want (Tcp 0) true false ∷ []) (Some 1000) Ready (want Link true false ∷ [])
    ∷ Now 1000
    ∷ LinkRead 4 (Done 4) (hex "00000036")
    ∷ LinkRead 54 (Done 54) (hex "52550a000202525400123456080045000028000300004006acb70a00020fc00002070fa00050000003e90003d0915010fffffd500000")
    ∷ Wait (want Link true false ∷ want (Tcp 0) true false ∷ []) None Ready (want (Tcp 0) true false ∷ [])
    ∷ Now 1000
    ∷ TcpRead 0 16384 End []
    ∷ LinkWrite (hex "0000003652540012345652550a000202080045000028000100004006acb9c00002070a00020f00500fa00003d091000003e95011fffffd4f0000") (Done 58)
    ∷ Wait (want Link true false ∷ []) (Some 1000) Ready (want Link true false ∷ [])
    ∷ Now 1000
    ∷ LinkRead 4 (Done 4) (hex "00000036")
    ∷ LinkRead 54 (Done 54) (hex "52550a000202525400123456080045000028000300004006acb70a00020fc00002070fa00050000003e90003d0925011fffffd4e0000")
    ∷ LinkWrite (hex "0000003652540012345652550a000202080045000028000200004006acb8c00002070a00020f00500fa00003d092000003ea5010fffffd4e0000") (Done 58)
    ∷ Wait (want Link true false ∷ want (Tcp 0) false true ∷ []) None Ready (want (Tcp 0) false true ∷ [])
    ∷ Now 1000
    ∷ []

-- the guest's end is acknowledged: the host is told it, and isn't asked again in its place
pub asks_in_place_of_the_end : MayFlow usual (run both_came) (CallConnected 0) → ⊥
unfolding missing encoding is_too_long encoded_length read_on
asks_in_place_of_the_end may = not_both refl may.touches.asks_until_connected

-- a host that was asked to connect, and hasn't yet, is neither read nor ended
pub reads_before_it_connected : MayFlow usual (run (take 6 late)) (CallTcpRead 0 16384) → ⊥
unfolding missing encoding is_too_long encoded_length read_on
reads_before_it_connected may = on_false refl may.touches.asks_until_connected

pub ends_before_it_connected : MayFlow usual (run (take 6 late)) (CallTcpEnd 0) → ⊥
unfolding missing encoding is_too_long encoded_length read_on
ends_before_it_connected may = on_false refl may.touches.asks_until_connected

-- ---- headers

-- our SYN, which has no ACK, with an acknowledgement number
pub numbered_syn : MayFlow forwarding (run (take 10 visited))
    (CallLinkWrite (hex "0000003e52540012345652550a00020208004500003000000000400662b80a0002020a00020f9c400016000004e2deadbeef7002ffff2d390000020405b401030300")) → ⊥
unfolding missing encoding is_too_long encoded_length read_on
numbered_syn may = not_none _ (may.touches.sends_its_header.acknowledges.1 refl) refl

-- the owed reset with a window
pub windowed_reset : MayFlow usual (run (take 18 failed_read))
    (CallLinkWrite (hex "0000003652540012345652550a000202080045000028000100004006acb9c00002070a00020f00500fa00003d091000003e950141234eb180000")) → ⊥
unfolding missing encoding is_too_long encoded_length read_on
windowed_reset may = not_zero _ (may.touches.sends_its_header.window refl) refl

-- octets of the host before the guest answered our SYN, and without ACK
abbrev early : List Entry
early = take 11 visited
    ++ Wait (want Link true false ∷ want (Listener 0) true false ∷ want (Tcp 1) true false ∷ []) (Some 1000) Ready (want (Tcp 1) true false ∷ [])
    ∷ Now 11
    ∷ TcpRead 1 16384 (Done 2) (hex "6869")
    ∷ []

pub early_octets : MayFlow forwarding (run early) (CallLinkWrite (hex "0000003852540012345652550a00020208004500002a00010000400662bd0a0002020a00020f9c400016000004e3000000005008ffff8e2700006869")) → ⊥
unfolding missing encoding is_too_long encoded_length read_on
early_octets may = not_both refl (may.touches.sends_its_header.carries refl)
