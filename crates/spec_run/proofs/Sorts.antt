-- The kind that a socket has by the datagram for which it was opened is that of its entry, but that one for a question is no port's.
use Rattle.std.proofs.Common.{◌≡◌, ℕ, ◌==◌, nat_lt, Bool, true, false, List, [], ◌∷◌, Option, Some, None, if◌then◌else◌, refl}
use Rattle.world_face.specs.Journal.{Entry, Connect, Listen, UdpOpen, Accept}
use Rattle.slirp_settings.specs.Addresses.{Config}
use Rattle.spec_trace.specs.Moments.{waits}
use Rattle.spec_trace.specs.Sockets.{Association, DnsSocket, Forward, Kind, datagram_kind, is_flow, kind_of}
use Rattle.spec_run.specs.Datagrams.{Errand, asks_a_name}
use Rattle.spec_run.specs.Errands.{errand_left}
use Rattle.spec_run.specs.Names.{datagram_kind_for, kind_for}

no_flow : (waited : Bool) (port : ℕ) → is_flow (Some (datagram_kind waited port)) ≡ false
no_flow true port = by (port == 0)
  where
    by : (z : Bool) → is_flow (Some (if z then Association else Forward)) ≡ false
    by true = refl
    by false = refl
no_flow false port = refl

no_flow_for : (config : Config) (waited : Bool) (port : ℕ) (o : Option Errand) → is_flow (Some (datagram_kind_for config waited port o)) ≡ false
no_flow_for config waited port None = no_flow waited port
no_flow_for config waited port (Some errand) = by (asks_a_name config errand)
  where
    by : (b : Bool) → is_flow (Some (if b then DnsSocket else datagram_kind waited port)) ≡ false
    by true = refl
    by false = no_flow waited port

either : (b : Bool) (one other before now : Option Kind) → is_flow one ≡ is_flow other → is_flow before ≡ is_flow now → is_flow (if b then one else before) ≡ is_flow (if b then other else now)
either true one other before now first second = first
either false one other before now first second = second

both_none : (one other : Bool) → one ≡ false → other ≡ false → one ≡ other
both_none true other is was = cc
both_none false true is was = cc
both_none false false is was = refl

-- one of a flow is one of a flow
pub same_flow : (config : Config) (n : ℕ) (past : List Entry) → is_flow (kind_for config n past) ≡ is_flow (kind_of n past)
same_flow config n [] = refl
same_flow config n (Connect socket to answer ∷ past) = either (socket == n) _ _ (kind_for config n past) (kind_of n past) refl (same_flow config n past)
same_flow config n (Listen socket at answer ∷ past) = either (socket == n) _ _ (kind_for config n past) (kind_of n past) refl (same_flow config n past)
same_flow config n (UdpOpen socket at answer ∷ past) =
    either (socket == n) _ _ (kind_for config n past) (kind_of n past)
    (both_none _ _ (no_flow_for config (nat_lt 0 (waits past)) at.port (errand_left config past)) (no_flow (nat_lt 0 (waits past)) at.port)) (same_flow config n past)
same_flow config n (Accept listener socket answer ∷ past) = either (socket == n) _ _ (kind_for config n past) (kind_of n past) refl (same_flow config n past)
same_flow config n (_ ∷ past) = same_flow config n past
