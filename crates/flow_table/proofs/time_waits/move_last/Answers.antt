use Rattle.std.proofs.Common.{◌<◌, ◌++◌, ◌∷◌, [], ℕ, None, Some, cond, ◌==◌, length, sym, ◌∙◌, ap, arith, eqb-true}
use Rattle.std.specs.List.{position_or_len, remove}
use Rattle.std.proofs.lemmas.Bool.{lt-ltb}
use Rattle.std.proofs.lemmas.Slice.{put_mid-rotated}
use Rattle.std.proofs.lemmas.Option.{cond_some, slice_get_within}
use Rattle.std.proofs.lemmas.List.Quantifiers.{position-Some}
use Rattle.flow_table.proofs.Keeping.{first_place}
use Rattle.flow_table.proofs.time_waits.move_last.Goals as goal

pub returns-in-Some : goal.returns-in-Some
returns-in-Some c =
    let time_wait_order = c.args.time_wait_order.now in
    let slot = c.args.slot in
    let is_slot = λ (other : ℕ). other == slot in
    let found = sym c.place_in.ensures ∙ c.in-Some.is in
    let told = position-Some is_slot time_wait_order c.in-Some.at slot found in
    put_mid-rotated c.in-Some.at _ time_wait_order c.rotate_left.new.self slot told.0 (omega arith) c.rotate_left.ensures.after
    ∙ ap (λ x. remove time_wait_order c.in-Some.at ++ x ∷ []) (eqb-true _ slot told.1)
    ∙ ap (λ at. remove time_wait_order at ++ slot ∷ []) (sym (cond_some _ (position_or_len is_slot time_wait_order) c.in-Some.at found).1)

-- a number that stands there has a first place
pub returns-in_default : goal.returns-in_default
returns-in_default c =
    let time_wait_order = c.args.time_wait_order.now in
    let at = position_or_len (λ (other : ℕ). other == c.args.slot) time_wait_order in
    let within : at < length time_wait_order = slice_get_within time_wait_order at c.args.slot (first_place time_wait_order c.args.slot c.requires.0 c.requires.1) in
    absurd (c.in_default.not-Some at (c.place_in.ensures ∙ ap (λ b. cond b (Some at) None) (lt-ltb at (length time_wait_order) within)))
