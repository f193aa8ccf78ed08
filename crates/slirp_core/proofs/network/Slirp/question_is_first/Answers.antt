use Rattle.std.proofs.Common.{sym, subst}
use Rattle.rules_udp.specs.Associations.{numbers}
use Rattle.slirp_core.specs.Firsts.{IsQuestionFirst, NoQuestionFirst}
use Rattle.slirp_core.specs.State.{SlirpState}
use Rattle.slirp_core.proofs.Least.{among_rising, first_is_least, no_question_first, question_is_under, question_isnt_under}
use Rattle.slirp_core.proofs.network.Slirp.question_is_first.Goals as goal

pub returns-in-Some-clause-yes : goal.returns-in-Some-clause-yes
returns-in-Some-clause-yes c less =
    let i = c.self.inside in
    let others = c.rising-in-Some in
    subst (λ (s : SlirpState). IsQuestionFirst s.associations s.questions) c.self.view_is
    (question_is_under i.associations.list i.questions.list c.rising.result.now c.rising.ensures.all c.rising.ensures.rising c.in-Some.field-0.now (sym c.in-Some.ensures.value)
    (λ m among. c.is_under.ensures.yes less m (among_rising (numbers i.associations.list) others.result.now others.ensures.all m among)))

pub returns-in-Some-clause-no : goal.returns-in-Some-clause-no
returns-in-Some-clause-no c not_less =
    let i = c.self.inside in
    let others = c.rising-in-Some in
    let found = c.is_under.ensures.no not_less in
    let among = (first_is_least (numbers i.associations.list) others.result.now others.ensures.all others.ensures.rising found.0 found.1).0 in
    subst (λ (s : SlirpState). NoQuestionFirst s.associations s.questions) c.self.view_is
    (question_isnt_under i.associations.list i.questions.list c.rising.result.now c.rising.ensures.all c.rising.ensures.rising c.in-Some.field-0.now
    (sym c.in-Some.ensures.value) found.0 among found.2)

pub returns-in-None-clause-no : goal.returns-in-None-clause-no
returns-in-None-clause-no c is =
    let i = c.self.inside in
    subst (λ (s : SlirpState). NoQuestionFirst s.associations s.questions) c.self.view_is
    (no_question_first i.associations.list i.questions.list c.rising.result.now c.rising.ensures.all (sym c.in-None.ensures.value))
