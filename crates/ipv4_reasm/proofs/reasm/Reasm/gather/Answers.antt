use Rattle.std.proofs.Common.{sym, ◌∙◌, subst}
use Rattle.ipv4_head.specs.Sets.{Key, part_of}
use Rattle.ipv4_reasm.specs.Areas.{key_by}
use Rattle.ipv4_reasm.specs.Answers.{IsAnswered}
use Rattle.ipv4_reasm.proofs.Answering.{gathered_none, gathered_some}
use Rattle.ipv4_reasm.proofs.reasm.Reasm.gather.Goals as goal

pub returns-in-Some-clause-answered : goal.returns-in-Some-clause-answered
returns-in-Some-clause-answered c = λ sets stand.
    subst (λ (k : Key). IsAnswered c.args.now k (part_of c.args.part.now) sets c.join.new.self c.join.result) c.key_of-key.ensures
    (gathered_some c.args.now (key_by c.key_of-key.result) (part_of c.args.part.now) sets c.args.self.now c.join.new.self c.join.result c.in-Some.i c.requires.even c.requires.end stand
    (sym c.find.ensures ∙ c.in-Some.is) c.join.ensures.clash c.join.ensures.put)

pub returns-in-None-clause-answered : goal.returns-in-None-clause-answered
returns-in-None-clause-answered c = λ sets stand.
    let s = c.start.ensures.began in
    subst (λ (k : Key). IsAnswered c.args.now k (part_of c.args.part.now) sets c.start.new.self c.start.result) c.key_of-key.ensures
    (gathered_none c.args.now (key_by c.key_of-key.result) (part_of c.args.part.now) sets c.args.self.now c.start.new.self c.start.result s.0 c.requires.even c.requires.end stand
    (sym c.find.ensures ∙ c.in-None.is) s.1.0 s.1.1 s.1.2)
