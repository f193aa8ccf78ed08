-- A part less is left.
use Rattle.std.proofs.Common.{◌≡◌, ℕ, Bool, true, false, ◌&&◌, List, [], Option, Some, None, refl, sym, ◌∙◌, ap}
use Rattle.std.specs.List.{list_all}
use Rattle.std.specs.Option.{option_map}
use Rattle.rules_tftp.specs.Packets.{is_part, parts_from}
use Rattle.tftp_server.specs.Reading.{cut, parts_of}
use Rattle.tftp_server.proofs.Cutting.{parts_after, parts_by}
use Rattle.tftp_server.proofs.packets.are_parts.Goals as goal

all_in : (rest : List ℕ) (c : Option (List ℕ × List ℕ)) → cut 47 rest ≡ c → list_all is_part (parts_from [] rest) ≡ list_all is_part (parts_after [] rest c)
all_in rest c is = ap (list_all is_part) (parts_by [] rest ∙ ap (parts_after [] rest) is)

and_true : (a b : Bool) → a ≡ true → (a && b) ≡ b
and_true true b is = refl
and_true false b is = cc

and_false : (a b : Bool) → a ≡ false → (a && b) ≡ false
and_false false b is = refl
and_false true b is = cc

pub loop-part-preserved : goal.loop-part-preserved
loop-part-preserved c =
    let part = c.in-Some.part.now in
    let behind = c.in-Some.behind.now in
    let all = all_in c.loop-part.rest.now (Some (part, behind)) (sym c.cut.ensures.parts ∙ ap (option_map parts_of) c.in-Some.is) in
    sym (all ∙ and_true (is_part part) (list_all is_part (parts_from [] behind)) (sym c.is_part.ensures ∙ c.if-not-is_part.false)) ∙ c.loop-part.invariant

pub returns : goal.returns
returns c =
    let rest = c.loop-part.rest.now in
    let all = all_in rest None (sym c.cut.ensures.parts ∙ ap (option_map parts_of) c.in_default.is) in
    c.is_part-2.ensures ∙ last (is_part rest) ∙ sym all ∙ c.loop-part.invariant
  where
    last : (b : Bool) → b ≡ (b && true)
    last true = refl
    last false = refl

pub returns-then-not-is_part : goal.returns-then-not-is_part
returns-then-not-is_part c =
    let part = c.in-Some.part.now in
    let behind = c.in-Some.behind.now in
    let all = all_in c.loop-part.rest.now (Some (part, behind)) (sym c.cut.ensures.parts ∙ ap (option_map parts_of) c.in-Some.is) in
    sym (all ∙ and_false (is_part part) (list_all is_part (parts_from [] behind)) (sym c.is_part.ensures ∙ c.if-not-is_part.true)) ∙ c.loop-part.invariant
