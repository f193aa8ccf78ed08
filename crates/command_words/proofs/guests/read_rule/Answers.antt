use Rattle.std.proofs.Common.{◌≡◌, ◌≢◌, ◌++◌, ℕ, List, codes, rules, sym, ◌∙◌, ap}
use Rattle.command_words.proofs.Finding.{on_err}
use Rattle.command_words.proofs.Guested.{behind_refused}
use Rattle.command_words.proofs.guests.read_rule.Goals as goal

pub returns-in-Some-clause-refused : goal.returns-in-Some-clause-refused
returns-in-Some-clause-refused c =
    let is : c.args.text.now ≡ codes "guestfwd=" ++ c.in-Some.behind.now = search rules in
    on_err c.read_forward.result _ _ (λ none. behind_refused c.args.text.now c.as_bytes.result.now (is ∙ ap (λ (t : List ℕ). codes "guestfwd=" ++ t)
    (sym c.as_bytes.ensures.value)) none) c.read_forward.ensures.refused

pub returns-in-None-clause-refused : goal.returns-in-None-clause-refused
returns-in-None-clause-refused c =
    let other : (behind : List ℕ) → c.args.text.now ≢ codes "guestfwd=" ++ behind = search rules in
    λ f r. other r.0 r.1
