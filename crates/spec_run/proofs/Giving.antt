-- Ports of the host that are given to guests lead where the settings say.
use Rattle.std.proofs.Common.{◌∙◌, ◌≡◌, ℕ, ◌==◌, ◌&&◌, nat_lt, Bool, true, false, List, [], ◌∷◌, Option, Some, if◌then◌else◌, refl, ap, sym}
use Rattle.world_face.specs.Journal.{Entry, Accept, Connect, Listen, UdpOpen}
use Rattle.slirp_settings.specs.Addresses.{Config}
use Rattle.spec_trace.specs.Moments.{waits}
use Rattle.spec_trace.specs.Sockets.{Kind, Association as OfAssociation, Flow as OfFlow, Forward as OfForward, Listener as OfListener, datagram_kind, kind_of}
use Rattle.spec_run.specs.Ports.{given_port, last_port, opened_for, port_for}

other_kind : (b : Bool) (k : Kind) (before : Option Kind) → (Some k ≡ Some OfForward → ⊥) → (if b then Some k else before) ≡ Some OfForward → before ≡ Some OfForward
other_kind true k before other is = absurd (other is)
other_kind false k before other is = is

no_flow : Some OfFlow ≡ Some OfForward → ⊥
no_flow is = cc

no_listener : Some OfListener ≡ Some OfForward → ⊥
no_listener is = cc

pub leads : (config : Config) (n : ℕ) (past : List Entry) → kind_of n past ≡ Some OfForward → opened_for config n past ≡ given_port config n
leads config n [] is = cc
leads config n (Connect s to answer ∷ past) is = leads config n past (other_kind (s == n) OfFlow (kind_of n past) no_flow is)
leads config n (Accept listener s answer ∷ past) is = leads config n past (other_kind (s == n) OfFlow (kind_of n past) no_flow is)
leads config n (Listen s at answer ∷ past) is = leads config n past (other_kind (s == n) OfListener (kind_of n past) no_listener is)
leads config n (UdpOpen s at answer ∷ past) is = by (s == n) (nat_lt 0 (waits past)) (at.port == 0) refl refl is (λ before. leads config n past before)
  where
    by : (b w z : Bool) → nat_lt 0 (waits past) ≡ w → (at.port == 0) ≡ z → (if b then Some (datagram_kind w at.port) else kind_of n past) ≡ Some OfForward →
        (kind_of n past ≡ Some OfForward → opened_for config n past ≡ given_port config n)
        → (if b then port_for config at.port n past else opened_for config n past) ≡ given_port config n
    by true true true waited any is before = (let same : Some OfAssociation ≡ Some OfForward = sym (ap (λ (z : Bool). Some (if z then OfAssociation else OfForward)) any) ∙ is in cc)
    by true false true unwaited any is before =
        ap (λ (z : Bool). if z && nat_lt 0 (waits past) then last_port config past else given_port config n) any ∙ ap (λ (w : Bool). if w then last_port config past else given_port config n) unwaited
    by true w false waits_so named is before = ap (λ (z : Bool). if z && nat_lt 0 (waits past) then last_port config past else given_port config n) named
    by false w z waits_so port_so is before = before is
leads config n (_ ∷ past) is = leads config n past is
