use Rattle.std.proofs.Common.{◌≡◌, ◌≢◌, ◌++◌, ℕ, List, codes, rules, sym, ap}
use Rattle.address_text.specs.Rules.{is_guest_word}
use Rattle.command_words.proofs.Sorted.{not_guest}
use Rattle.command_words.proofs.guests.is_guest_word.Goals as goal

pub returns-in-Some : goal.returns-in-Some
returns-in-Some c =
    let is : c.args.word.now ≡ codes "guestfwd=" ++ c.in-Some.field-0.now = search rules in
    sym (ap is_guest_word is)

pub returns-in-None : goal.returns-in-None
returns-in-None c =
    let other : (behind : List ℕ) → c.args.word.now ≢ codes "guestfwd=" ++ behind = search rules in
    sym (not_guest c.args.word.now other)
