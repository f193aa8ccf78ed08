use Rattle.std.proofs.Common.{◌≡◌, ℕ, ◌<◌, None, Option, List, length, get_or, set, sym, ◌∙◌, ap, subst}
use Rattle.idle_sockets.specs.Links.{neighbours, neighbours_of, on_side, with_side}
use Rattle.idle_sockets.specs.declared.order.Neighbours.{Neighbours}
use Rattle.idle_sockets.proofs.Ordering.{once}
use Rattle.idle_sockets.proofs.Tabling.{side_set}
use Rattle.idle_sockets.proofs.order.set_side.Goals as goal

pub returns-in-Some-place_of-clause-links : goal.returns-in-Some-place_of-clause-links
returns-in-Some-place_of-clause-links c k some =
    let numbers = c.args.numbers.now.items in
    let links = c.args.links.now.items in
    let side = c.args.side in
    let other = c.args.neighbour in
    let n = c.in-Some.number in
    let place = c.in-Some-place_of.place in
    let few = subst (λ (l : List ℕ). place < length l) c.as_slice.ensures.value c.in-Some-place_of.ensures.0 in
    let here = sym (ap (λ (l : List ℕ). get_or l place 0) c.as_slice.ensures.value) ∙ c.in-Some-place_of.ensures.1 in
    let put = subst (λ (l : List Neighbours). ◌≡◌ {A = List Neighbours} c.put.new.links.items (set links place (on_side side other (get_or l place (neighbours None None)))))
    c.as_slice-in-Some-place_of.ensures.value (c.put.ensures ∙ ap (λ (x : Neighbours). set links place x) c.on_side-neighbours.ensures) in
    side_set side numbers links c.put.new.links.items n place (neighbours None None) other few c.requires.beside here (once n numbers c.requires.rise) put k
    ∙ ap (λ (o : Option ℕ). with_side side o other k (neighbours_of numbers links k)) (sym c.in-Some.is)
