use Rattle.std.proofs.Common.{◌≡◌, ℕ, List, [], ◌∷◌, ◌++◌, length, take, None, Some, refl, sym, ◌∙◌, ap}
use Rattle.world_face.specs.Journal.{Entry, UdpRecv, filled_got}
use Rattle.world_face.specs.declared.Got.TheVariants.{From, NotYet, Failed}
use Rattle.world_face.proofs.Telling.{makes_none, makes_one, makes_then}
use Rattle.dns_relay.specs.Relaying.{OnNone, OnQuestion, calls_after, passed}
use Rattle.dns_relay.specs.State.{RelayState}
use Rattle.dns_relay.proofs.Keeping.{found_is}
use Rattle.dns_relay.proofs.relay.Relay.answer.Goals as goal

pub returns-in-From-clause-hears : goal.returns-in-From-clause-hears
returns-in-From-clause-hears g c =
    let old = c.args.self.now in
    let q = c.as_question-question.result in
    let peer = c.in-From.peer in
    let answer = From peer c.in-From.length in
    let octets = take c.in-From.length c.udp_recv.new.into in
    let asked : Entry = UdpRecv c.args.s (length c.args.into.now) answer octets in
    let found = found_is c.args.s c.self.inside.list c.args.self.now.list (ap (λ (s : RelayState). s.list) c.self.view_is) (Some c.in-Some.socket) c.in-Some.ensures ∙ ap Some (sym c.as_question-question.ensures) in
    let whole : length octets ≡ c.in-From.length = c.in-From.ensures.allowed.1.0 in
    makes_then _ _ _ _ _ _ (makes_one _ _ asked (λ made. ◌≡◌ {A = List Entry} made (asked ∷ [])) c.in-From.ensures (λ allowed. refl)) c.receive_answer.ensures.calls
    (λ first second recv calls. OnQuestion q answer found (ap (λ (m : List Entry). m ++ first) calls ∙ ap (λ (m : List Entry). calls_after old q answer octets ++ m) recv)
    (ap (λ (s : RelayState). s.list) c.receive_answer.ensures.list)
    (c.receive_answer.ensures.reply ∙ ap (λ (n : ℕ). passed old q (From peer n) octets) whole))

pub returns-in-NotYet-clause-hears : goal.returns-in-NotYet-clause-hears
returns-in-NotYet-clause-hears g c =
    let found = found_is c.args.s c.self.inside.list c.args.self.now.list (ap (λ (s : RelayState). s.list) c.self.view_is) (Some c.in-Some.socket) c.in-Some.ensures ∙ ap Some (sym c.as_question-question.ensures) in
    makes_one _ _ (UdpRecv c.args.s (length c.args.into.now) NotYet (filled_got NotYet c.udp_recv.new.into)) _ c.in-NotYet.ensures
    (λ allowed. OnQuestion c.as_question-question.result NotYet found refl refl refl)

pub returns-in-Failed-clause-hears : goal.returns-in-Failed-clause-hears
returns-in-Failed-clause-hears g c =
    let found = found_is c.args.s c.self.inside.list c.args.self.now.list (ap (λ (s : RelayState). s.list) c.self.view_is) (Some c.in-Some.socket) c.in-Some.ensures ∙ ap Some (sym c.as_question-question.ensures) in
    makes_one _ _ (UdpRecv c.args.s (length c.args.into.now) Failed (filled_got Failed c.udp_recv.new.into)) _ c.in-Failed.ensures
    (λ allowed. OnQuestion c.as_question-question.result Failed found refl refl refl)

pub returns-in_default-clause-hears : goal.returns-in_default-clause-hears
returns-in_default-clause-hears g c =
    let found = found_is c.args.s c.self.inside.list c.args.self.now.list (ap (λ (s : RelayState). s.list) c.self.view_is) None c.in_default.ensures in
    makes_none _ _ (OnNone found refl refl refl)
