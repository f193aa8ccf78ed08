use Rattle.std.proofs.Common.{List, ℕ, ◌<◌, None, length, get_or, sym, ◌∙◌, ap, subst}
use Rattle.idle_sockets.specs.Links.{neighbours}
use Rattle.idle_sockets.specs.Numbers.{times}
use Rattle.idle_sockets.specs.declared.order.Neighbours.{Neighbours}
use Rattle.idle_sockets.proofs.Ordering.{once}
use Rattle.idle_sockets.proofs.Tabling.{neighbours_found, neighbours_missing}
use Rattle.idle_sockets.proofs.order.neighbours_of.Goals as goal

pub returns-in-Some : goal.returns-in-Some
returns-in-Some c =
    let numbers = c.args.numbers.now.items in
    let links = c.args.links.now.items in
    let place = c.in-Some.place in
    let few = subst (λ (l : List ℕ). place < length l) c.as_slice.ensures.value c.in-Some.ensures.0 in
    let here = sym (ap (λ (l : List ℕ). get_or l place 0) c.as_slice.ensures.value) ∙ c.in-Some.ensures.1 in
    ap (λ (l : List Neighbours). get_or l place (neighbours None None)) c.as_slice-in-Some.ensures.value
    ∙ sym (neighbours_found numbers links c.args.number place (neighbours None None) few c.requires.beside here (once c.args.number numbers c.requires.rise))

pub returns-in-None : goal.returns-in-None
returns-in-None c =
    let numbers = c.args.numbers.now.items in
    sym (neighbours_missing numbers c.args.links.now.items c.args.number (ap (times c.args.number) (sym c.as_slice.ensures.value) ∙ c.in-None.ensures))
