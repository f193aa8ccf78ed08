use Rattle.std.proofs.lemmas.List.Sorted.{IsNonDecreasingBy-from_sort}
use Rattle.std.proofs.Common.{IsTrue, ◌↔◌, subst, List, ℕ, IsPermutation}
use Rattle.std.specs.List.Sorted.{IsStrictlyIncreasing}
use Rattle.replay.proofs.Apart.{apart_is}
use Rattle.replay.proofs.reported.are_apart.Goals as goal

pub returns : goal.returns
returns c =
    let sorted = c.sort_unstable.new.self.items in
    let rising = subst (λ (ks : List ℕ). IsTrue c.rises.result ↔ IsStrictlyIncreasing ks) c.deref.ensures.value c.rises.ensures in
    let moved = subst (λ (ks : List ℕ). IsPermutation ks sorted) c.in_ok-keys.ensures c.sort_unstable.ensures.permutation in
    apart_is c.args.items.now sorted c.rises.result moved (IsNonDecreasingBy-from_sort (λ x. x) sorted c.sort_unstable.ensures.sorted) rising
