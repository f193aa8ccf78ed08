use Rattle.std.proofs.Common.{[], ◌∷◌, map, string_bytes, refl, sym, ◌∙◌, ap}
use Rattle.command_words.proofs.Driven.{begins_none, begins_one, drives_at_end, drives_behind_one, drives_more, drives_no_number, drives_no_octets}
use Rattle.command_words.proofs.drive_of.Goals as goal

pub returns-in_default-number_of-clause-refused : goal.returns-in_default-number_of-clause-refused
returns-in_default-number_of-clause-refused c =
    let number = string_bytes c.in-Some.number.now in (
      [],
      number,
      map string_bytes c.in-Some.behind.now,
      ap (map string_bytes) c.in-Some.ensures.cases.0,
      refl,
      begins_none,
      (λ begins. drives_no_number number begins.0 c.in_default-number_of.ensures.refused begins.1),
    )

pub returns-in_default-number_of-2-clause-refused : goal.returns-in_default-number_of-2-clause-refused
returns-in_default-number_of-2-clause-refused c =
    let number = string_bytes c.in-Some.number.now in
    let octets = string_bytes c.in-Some-split_first.octets.now in
    let words = ap (map string_bytes) (c.in-Some.ensures.cases.0 ∙ ap (λ rest. c.in-Some.number.now ∷ rest) c.in-Some-split_first.ensures.cases.0) in (
      number ∷ [],
      octets,
      map string_bytes c.in-Some-split_first.behind.now,
      words,
      refl,
      begins_one number c.in-Ok.number c.in-Ok.ensures.number,
      (λ begins. drives_no_octets number octets begins.0 c.in_default-number_of-2.ensures.refused begins.1),
    )

pub returns-then-not-is_empty-clause-refused : goal.returns-then-not-is_empty-clause-refused
returns-then-not-is_empty-clause-refused c =
    let words = ap (map string_bytes) (c.in-Some.ensures.cases.0 ∙ ap (λ rest. c.in-Some.number.now ∷ rest) c.in-Some-split_first.ensures.cases.0) in
    drives_more string_bytes _ (string_bytes c.in-Some.number.now) (string_bytes c.in-Some-split_first.octets.now) c.in-Ok.number c.in-Ok-number_of.octets c.in-Ok.ensures.number
    c.in-Ok-number_of.ensures.number c.in-Some-split_first.behind.now words (sym c.is_empty.ensures ∙ c.if-not-is_empty.true)

pub returns-in_default-clause-refused : goal.returns-in_default-clause-refused
returns-in_default-clause-refused c = drives_at_end string_bytes c.args.words.now c.in_default.ensures.cases

pub returns-in_default-split_first-clause-refused : goal.returns-in_default-split_first-clause-refused
returns-in_default-split_first-clause-refused c =
    drives_behind_one string_bytes (map string_bytes c.args.words.now) (string_bytes c.in-Some.number.now) c.in-Ok.number c.in-Some.behind.now c.in-Ok.ensures.number
    (ap (map string_bytes) c.in-Some.ensures.cases.0) c.in_default-split_first.ensures.cases
