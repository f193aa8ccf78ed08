use Rattle.std.proofs.Common.{sym, ◌∙◌, arith}
use Rattle.ipv4_reasm.proofs.Answering.{area_of}
use Rattle.ipv4_reasm.proofs.reasm.Reasm.join.Goals as goal

pub returns-clause-within : goal.returns-clause-within
returns-clause-within c = λ area is.
    let at = area_of c.args.i area c.put-whole.result (sym c.answer_of.ensures ∙ is) in
    let count = c.put-whole.ensures.count in
    let within = c.requires.area in
    omega arith
