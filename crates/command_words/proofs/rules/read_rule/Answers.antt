use Rattle.std.proofs.Common.{◌≡◌, ◌≢◌, ◌++◌, ℕ, List, Some, None, codes}
use Rattle.std.proofs.lemmas.Bool.Decides.{Decides-eqb}
use Rattle.std.proofs.lemmas.Slice.Eq.{strip_prefix_is}
use Rattle.command_words.proofs.Finding.{on_err}
use Rattle.command_words.proofs.Ruled.{behind_refused, bare_refused}
use Rattle.command_words.proofs.rules.read_rule.Goals as goal

pub returns-in-Some-clause-refused : goal.returns-in-Some-clause-refused
returns-in-Some-clause-refused c =
    let is : c.args.text.now ≡ codes "hostfwd=" ++ c.in-Some.behind.now = strip_prefix_is Decides-eqb c.args.text.now (codes "hostfwd=") (Some c.in-Some.behind) c.in-Some.ensures.cases in
    on_err c.read_forward.result _ _ (λ none. behind_refused c.args.text.now c.in-Some.behind.now c.args.dhcp_start.0 is none) c.read_forward.ensures.refused

pub returns-in-None-clause-refused : goal.returns-in-None-clause-refused
returns-in-None-clause-refused c =
    let other : (behind : List ℕ) → c.args.text.now ≢ codes "hostfwd=" ++ behind = strip_prefix_is Decides-eqb c.args.text.now (codes "hostfwd=") None c.in-None.ensures.cases in
    on_err c.read_forward-in-None.result _ _ (λ none. bare_refused c.args.text.now c.args.dhcp_start.0 other none) c.read_forward-in-None.ensures.refused
