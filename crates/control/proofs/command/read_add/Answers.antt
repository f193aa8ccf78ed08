use Rattle.std.proofs.Common.{◌≡◌, ◌++◌, Some, codes, sym, ◌∙◌}
use Rattle.std.proofs.lemmas.Bool.Decides.{Decides-eqb}
use Rattle.std.proofs.lemmas.Result.{err_from_is_err_and}
use Rattle.std.proofs.lemmas.Slice.Eq.{strip_prefix_is}
use Rattle.control.proofs.Encoding.{portless, rule_of}
use Rattle.control.proofs.command.read_add.Goals as goal

pub returns-in_err-forward-clause-refused : goal.returns-in_err-forward-clause-refused
returns-in_err-forward-clause-refused c = let p = err_from_is_err_and c.from_residual.result c.from_residual.ensures.1 in rw (p.1) (λ forward add.
    let encoded : c.args.line.now ≡ codes "add " ++ c.in-Some.rule.now = strip_prefix_is Decides-eqb c.args.line.now (codes "add ") (Some c.in-Some.rule) c.in-Some.ensures.cases in
    c.in_err-forward.ensures.refused forward (rule_of c.args.guest.0 c.args.line.now c.in-Some.rule.now forward encoded add))

pub returns-then-has_no_port-clause-refused : goal.returns-then-has_no_port-clause-refused
returns-then-has_no_port-clause-refused c =
    let encoded : c.args.line.now ≡ codes "add " ++ c.in-Some.rule.now = strip_prefix_is Decides-eqb c.args.line.now (codes "add ") (Some c.in-Some.rule) c.in-Some.ensures.cases in
    portless c.args.guest.0 c.args.line.now c.in-Some.rule.now c.in_ok-forward.forward encoded c.in_ok-forward.ensures.rule (sym c.has_no_port.ensures ∙ c.if-has_no_port.true)
