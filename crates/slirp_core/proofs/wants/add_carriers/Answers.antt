use Rattle.std.proofs.Common.{◌≡◌, ◌+◌, ◌++◌, List, ℕ, length, ◌∙◌, ap, arith}
use Rattle.slirp_core.specs.Pumps.{merged}
use Rattle.slirp_core.proofs.Merging.{length_merged}
use Rattle.slirp_core.proofs.wants.add_carriers.Goals as goal

-- as many as the three rows have
as_many : (given some others peers all : List ℕ) → peers ≡ merged given some → all ≡ merged peers others → length all ≡ length given + length some + length others
as_many given some others peers all one two =
    let first = ap length one in
    let second = ap length two in
    let both = length_merged given some in
    let three = length_merged peers others in
    omega (arith, first, second, both, three)

pub add_sockets-requires-clause-room : goal.add_sockets-requires-clause-room
add_sockets-requires-clause-room c =
    let many = as_many c.args.carriers.forwards.now c.args.carriers.associations.now c.args.carriers.questions.now c.as_slice.result.now c.as_slice-2.result.now
    (c.as_slice.ensures.value ∙ c.merge.ensures.items ∙ ap (λ l. l ++ merged c.args.carriers.forwards.now c.args.carriers.associations.now) c.clear.ensures)
    (c.as_slice-2.ensures.value ∙ c.merge-2.ensures.items ∙ ap (λ l. l ++ merged c.as_slice.result.now c.args.carriers.questions.now) c.clear-2.ensures) in
    let few = c.requires.most in
    let room = c.requires.room in
    omega (arith, many, few.1, few.2, room)

pub returns-clause-room : goal.returns-clause-room
returns-clause-room c =
    let many = as_many c.args.carriers.forwards.now c.args.carriers.associations.now c.args.carriers.questions.now c.as_slice.result.now c.as_slice-2.result.now
    (c.as_slice.ensures.value ∙ c.merge.ensures.items ∙ ap (λ l. l ++ merged c.args.carriers.forwards.now c.args.carriers.associations.now) c.clear.ensures)
    (c.as_slice-2.ensures.value ∙ c.merge-2.ensures.items ∙ ap (λ l. l ++ merged c.as_slice.result.now c.args.carriers.questions.now) c.clear-2.ensures) in
    let few = c.requires.most in
    let room = c.add_sockets.ensures.room in
    omega (arith, many, few.1, few.2, room)
