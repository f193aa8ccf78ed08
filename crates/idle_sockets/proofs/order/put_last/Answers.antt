use Rattle.std.proofs.Common.{ℕ, ◌<◌, ◌==◌, None, List, length, get_or, if◌then◌else◌, sym, ◌∙◌, ap, subst}
use Rattle.idle_sockets.specs.Links.{neighbours, neighbours_of}
use Rattle.idle_sockets.specs.declared.order.Neighbours.{Neighbours}
use Rattle.idle_sockets.proofs.Ordering.{once}
use Rattle.idle_sockets.proofs.Tabling.{neighbours_set}
use Rattle.idle_sockets.proofs.order.put_last.Goals as goal

pub returns-in-Some-clause-links : goal.returns-in-Some-clause-links
returns-in-Some-clause-links c k some =
    let numbers = c.args.numbers.now.items in
    let mid = c.set_side.new.links.items in
    let n = c.args.number in
    let place = c.in-Some.place in
    let x = neighbours c.args.last None in
    let few = subst (λ (l : List ℕ). place < length l) c.as_slice.ensures.value c.in-Some.ensures.0 in
    let here = sym (ap (λ (l : List ℕ). get_or l place 0) c.as_slice.ensures.value) ∙ c.in-Some.ensures.1 in
    ap (λ (l : List Neighbours). neighbours_of numbers l k) c.put.ensures
    ∙ neighbours_set numbers mid n place x few (c.set_side.ensures.beside ∙ c.requires.beside) here (once n numbers c.requires.rise) k
    ∙ ap (λ (r : Neighbours). if n == k then x else r) (c.set_side.ensures.links k some)
