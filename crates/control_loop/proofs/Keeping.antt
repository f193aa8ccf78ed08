-- In a turn, and at the end, the network opens no named port of the host and closes none before the end: with what was added and taken back so far no such call is lawful.
use Rattle.std.proofs.Common.{◌≡◌, ℕ, ◌≤◌, ◌==◌, ◌||◌, nat_lt, if◌then◌else◌, Bool, true, false, List, [], ◌∷◌, ◌++◌, Option, Some, None, refl, sym, ◌∙◌, ap, arith}
use Rattle.std.proofs.lemmas.Bool.Decides.{nat_tests}
use Rattle.std.proofs.lemmas.Bool.{true≢false}
use Rattle.net_octets.specs.declared.Endpoint.{Endpoint}
use Rattle.world_face.specs.Journal.{CallUdpOpen, Entry, call_of, Accept, Close, Connect, Listen, Now, UdpOpen}
use Rattle.slirp_settings.specs.Addresses.{Config, forward_on}
use Rattle.spec_trace.specs.Moments.{waits}
use Rattle.spec_trace.specs.Sockets.{Kind, Association, Flow, Forward, Listener, datagram_kind, is_among, is_forward, is_listener, kind_of, next_number}
use Rattle.spec_run.specs.Datagrams.{Errand}
use Rattle.spec_run.specs.Errands.{errand_left}
use Rattle.spec_run.specs.Laws.{Lawful, May}
use Rattle.spec_run.specs.Names.{datagram_kind_for, kind_for}
use Rattle.spec_run.specs.Said.{is_given}
use Rattle.spec_run.proofs.OpenPorts.{closes_given_after_the_end}
use Rattle.spec_run.proofs.OpenSockets.{IsGone, closes_open, gone_by}
use Rattle.spec_run.proofs.Phases.{AsksAfterWaits, asks_after_waits, at_any_port}
use Rattle.spec_control.proofs.Early.{listens_at_first, opens_at_first}
use Rattle.control_loop.proofs.Off.{rises}
use Rattle.control_loop.proofs.Stretch.{AllKeepTo, KeepsTo}

-- ---- a port of the host that is given to a guest is one by what its entry makes it, too

abbrev is_port : Option Kind → Bool
is_port kind = is_listener kind || is_forward kind

named_kind : (config : Config) (waited : Bool) (port : ℕ) → is_port (Some (datagram_kind waited port)) ≡ true → is_given (Some (datagram_kind waited port)) ≡ true
named_kind config true port is = by (port == 0) is
  where
    by : (z : Bool) → is_port (Some (if z then Association else Forward)) ≡ true → is_given (Some (if z then Association else Forward)) ≡ true
    by true is = cc
    by false is = refl
named_kind config false port is = refl

any_port : (waited : Bool) (port : ℕ) → waited ≡ true → port ≡ 0 → is_port (Some (datagram_kind waited port)) ≡ true → ⊥
any_port waited port late any is =
    true≢false (sym is ∙ ap (λ w. is_port (Some (datagram_kind w port))) late ∙ ap (λ p. is_port (Some (if p == 0 then Association else Forward))) any)

opened_port : (config : Config) (past : List Entry) (socket : ℕ) (at : Endpoint) → May config past (CallUdpOpen socket at) → (o : Option Errand) → errand_left config past ≡ o
    → AsksAfterWaits (waits past) o → is_port (Some (datagram_kind (nat_lt 0 (waits past)) at.port)) ≡ true
    → is_given (Some (datagram_kind_for config (nat_lt 0 (waits past)) at.port o)) ≡ true
opened_port config past socket at may None left waited is = named_kind config (nat_lt 0 (waits past)) at.port is
opened_port config past socket at may (Some errand) left waited is =
    absurd (any_port (nat_lt 0 (waits past)) at.port (grind (arith, nat_tests, waited)) (at_any_port config past socket at errand waited left may) is)

of_one : (b : Bool) (one other before now : Option Kind) → (is_port one ≡ true → is_given other ≡ true) → (is_port before ≡ true → is_given now ≡ true)
    → is_port (if b then one else before) ≡ true → is_given (if b then other else now) ≡ true
of_one true one other before now first second is = first is
of_one false one other before now first second is = second is

given_for : (config : Config) (n : ℕ) (past : List Entry) → Lawful config past → is_port (kind_of n past) ≡ true → is_given (kind_for config n past) ≡ true
given_for config n [] lawful is = cc
given_for config n (Connect socket to answer ∷ past) lawful is =
    of_one (socket == n) (Some Flow) (Some Flow) (kind_of n past) (kind_for config n past) (λ never. cc) (given_for config n past lawful.1) is
given_for config n (Listen socket at answer ∷ past) lawful is =
    of_one (socket == n) (Some Listener) (Some Listener) (kind_of n past) (kind_for config n past) (λ it. refl) (given_for config n past lawful.1) is
given_for config n (Accept from socket answer ∷ past) lawful is =
    of_one (socket == n) (Some Flow) (Some Flow) (kind_of n past) (kind_for config n past) (λ never. cc) (given_for config n past lawful.1) is
given_for config n (UdpOpen socket at answer ∷ past) lawful is =
    of_one (socket == n) _ _ (kind_of n past) (kind_for config n past)
    (opened_port config past socket at lawful.0 (errand_left config past) refl (asks_after_waits config past lawful.1)) (given_for config n past lawful.1) is
given_for config n (_ ∷ past) lawful is = given_for config n past lawful.1 is

-- ---- a call

-- no number that is still to be drawn has a forward, and what was taken back is closed
pub record Settled (config : Config) (past : List Entry) : Type 0 where
  pub later : (n : ℕ) → next_number past ≤ n → forward_on config n ≡ None
  pub gone : (n : ℕ) → is_among n config.removed ≡ true → IsGone n past

not_removed : (config : Config) (past : List Entry) (socket : ℕ) → Settled config past → May config past (call_of (Close socket)) → is_among socket config.removed ≡ false
not_removed config past socket settled may = by (is_among socket config.removed) refl
  where
    by : (b : Bool) → is_among socket config.removed ≡ b → b ≡ false
    by true is = absurd (true≢false (sym (closes_open config past socket may) ∙ (settled.gone socket is).shut))
    by false is = refl

settled_on : (config : Config) (e : Entry) (past : List Entry) → May config past (call_of e) → Settled config past → Settled config (e ∷ past)
settled_on config e past may settled = record {
  later = λ n above. settled.later n (omega (arith, above, rises e past));
  gone = λ n is. gone_by config n e past may (settled.gone n is);
}

keeps_by : (listening control : Bool) (config : Config) (e : Entry) (past : List Entry) → Lawful config past → May config past (call_of e) → listening ≡ control → Settled config past
    → KeepsTo listening control config past e
keeps_by listening control config (Now told) past lawful may asks settled = asks
keeps_by listening control config (Listen socket at answer) past lawful may asks settled =
    λ named. listens_at_first config past socket at (settled.later socket (grind (arith, nat_tests, may.socket))) may
keeps_by listening control config (UdpOpen socket at answer) past lawful may asks settled =
    λ named. opens_at_first config past socket at (settled.later socket (grind (arith, nat_tests, may.socket))) named may
keeps_by listening control config (Close socket) past lawful may asks settled =
    λ given. closes_given_after_the_end config past socket (not_removed config past socket settled may) lawful may (given_for config socket past lawful given)
keeps_by listening control config _ past lawful may asks settled = tt

pub settled_yet : (config : Config) (seen past : List Entry) → Lawful config (seen ++ past) → Settled config past → Settled config (seen ++ past)
settled_yet config [] past lawful settled = settled
settled_yet config (e ∷ seen) past lawful settled = settled_on config e (seen ++ past) lawful.0 (settled_yet config seen past lawful.1 settled)

pub record KeepOn (listening control : Bool) (config : Config) (seen past : List Entry) : Type 0 where
  pub keep : AllKeepTo listening control config seen past
  pub settled : Settled config (seen ++ past)

pub keep_on : (listening control : Bool) (config : Config) (seen past : List Entry) → Lawful config (seen ++ past) → listening ≡ control → Settled config past → KeepOn listening control config seen past
keep_on listening control config [] past lawful asks settled = record { keep = tt; settled = settled }
keep_on listening control config (e ∷ seen) past lawful asks settled =
    let before = keep_on listening control config seen past lawful.1 asks settled in
    record {
      keep = (keeps_by listening control config e (seen ++ past) lawful.1 lawful.0 asks before.settled, before.keep);
      settled = settled_on config e (seen ++ past) lawful.0 before.settled;
    }
