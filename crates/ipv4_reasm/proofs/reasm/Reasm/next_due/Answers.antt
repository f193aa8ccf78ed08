use Rattle.std.proofs.Common.{List, take, ap, ◌∙◌, subst}
use Rattle.std.proofs.lemmas.Option.{IfSome_then}
use Rattle.ipv4_reasm.specs.Areas.{Gathered}
use Rattle.ipv4_reasm.specs.Answers.{IsLeastDue}
use Rattle.ipv4_reasm.proofs.Dues.{due_of_sets}
use Rattle.ipv4_reasm.proofs.reasm.Reasm.next_due.Goals as goal

pub returns-clause-due : goal.returns-clause-due
returns-clause-due c = λ sets stand.
    let held = ap (take c.self.inside.count) c.deref.ensures.value ∙ c.self.view_is in
    IfSome_then c.first_due.result c.first_due.ensures.due (λ at due. due_of_sets c.args.self.now sets at stand (subst (λ (l : List Gathered). IsLeastDue l at) held due))
