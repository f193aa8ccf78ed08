use Rattle.std.proofs.Common.{◌≡◌, false, sym, ◌∙◌, ap, subst}
use Rattle.world_face.proofs.Telling.{brings_none}
use Rattle.spec_run.specs.Datagrams.{ForFiles, ForLeases, GoesTo, Ignored, Refused, datagram_verdict, is_to_names}
use Rattle.slirp_core.specs.Datagrams.{datagram_of}
use Rattle.slirp_core.specs.Holds.{Holds, flowing}
use Rattle.slirp_core.specs.State.{SlirpState}
use Rattle.slirp_core.proofs.Taking.{goes_out, ignored, is_for_files, is_for_leases, refused}
use Rattle.slirp_core.proofs.Telling.{from_more}
use Rattle.slirp_core.proofs.network.Slirp.take_udp.Goals as goal

pub returns-in-Ignored-clause-makes : goal.returns-in-Ignored-clause-makes
returns-in-Ignored-clause-makes g c config at link =
    let old = c.args.self.now in
    let d = datagram_of c.args.datagram.now in
    let is : Ignored ≡ datagram_verdict old.config d = c.in-Ignored.ensures.datagram_verdict ∙ ap (λ (s : SlirpState). datagram_verdict s.config d) c.self.view_is in
    brings_none (λ past came. ignored old d config at link c.requires.none past came is)

pub returns-in-Refused-clause-makes : goal.returns-in-Refused-clause-makes
returns-in-Refused-clause-makes g c config at link =
    let old = c.args.self.now in
    let d = datagram_of c.args.datagram.now in
    let is : Refused ≡ datagram_verdict old.config d = c.in-Refused.ensures.datagram_verdict ∙ ap (λ (s : SlirpState). datagram_verdict s.config d) c.self.view_is in
    brings_none (λ past came. subst (λ (s : SlirpState). Holds config at s (flowing false s.flows) link past) (sym c.tell_about.ensures)
    (refused old d config at link c.requires.none past came is))

pub returns-in-Leases-clause-makes : goal.returns-in-Leases-clause-makes
returns-in-Leases-clause-makes g c config at link =
    let old = c.args.self.now in
    let d = datagram_of c.args.datagram.now in
    let is : ForLeases ≡ datagram_verdict old.config d = c.in-Leases.ensures.datagram_verdict ∙ ap (λ (s : SlirpState). datagram_verdict s.config d) c.self.view_is in
    brings_none (λ past came. subst (λ (s : SlirpState). Holds config at s (flowing false s.flows) link past) (sym c.take_message.ensures)
    (is_for_leases old d config at link c.requires.none past came is))

pub returns-in-Files-clause-makes : goal.returns-in-Files-clause-makes
returns-in-Files-clause-makes g c config at link =
    let old = c.args.self.now in
    let d = datagram_of c.args.datagram.now in
    let is : ForFiles ≡ datagram_verdict old.config d = c.in-Files.ensures.datagram_verdict ∙ ap (λ (s : SlirpState). datagram_verdict s.config d) c.self.view_is in
    from_more _ _ _ _ _ (λ past came. is_for_files old d config at link c.requires.none past came is) (c.take_file.ensures.makes config at link)

-- a question to the name server
pub ask-requires-clause-name : goal.ask-requires-clause-name
ask-requires-clause-name g c =
    let d = datagram_of c.args.datagram.now in
    ap (λ (s : SlirpState). is_to_names s.config d) (sym c.self.view_is) ∙ c.in-Question.ensures.named.0

pub returns-in-Question-clause-makes : goal.returns-in-Question-clause-makes
returns-in-Question-clause-makes g c config at link =
    let old = c.args.self.now in
    let d = datagram_of c.args.datagram.now in
    let to = c.in-Question.to in
    let is : GoesTo to ≡ datagram_verdict old.config d = c.in-Question.ensures.datagram_verdict ∙ ap (λ (s : SlirpState). datagram_verdict s.config d) c.self.view_is in
    from_more _ _ _ _ _ (λ past came. goes_out old d config at link c.requires.none past came to is) (c.ask.ensures.makes config at false link)

-- any other
pub send-requires-clause-other : goal.send-requires-clause-other
send-requires-clause-other g c =
    let d = datagram_of c.args.datagram.now in
    ap (λ (s : SlirpState). is_to_names s.config d) (sym c.self.view_is) ∙ c.in-Out.ensures.named

pub returns-in-Out-clause-makes : goal.returns-in-Out-clause-makes
returns-in-Out-clause-makes g c config at link =
    let old = c.args.self.now in
    let d = datagram_of c.args.datagram.now in
    let to = c.in-Out.to in
    let is : GoesTo to ≡ datagram_verdict old.config d = c.in-Out.ensures.datagram_verdict ∙ ap (λ (s : SlirpState). datagram_verdict s.config d) c.self.view_is in
    from_more _ _ _ _ _ (λ past came. goes_out old d config at link c.requires.none past came to is) (c.send.ensures.makes config at false link)
