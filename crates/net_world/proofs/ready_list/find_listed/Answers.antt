use Rattle.std.proofs.Common.{rules, ℕ, subst}
use Rattle.std.specs.List.Sorted.{IsBinarySearchResult}
use Rattle.std.proofs.lemmas.List.Sorted.{answers_always}
use Rattle.net_world.specs.Tables.{rank_of, by_rank}
use Rattle.net_world.specs.declared.ready_list.Listed.{Listed}
use Rattle.net_world.proofs.ready_list.find_listed.Goals as goal

pub returns-clause-position : goal.returns-clause-position
returns-clause-position c =
    let by_key = c.binary_search_by_key.ensures.position (λ (l : Listed). rank_of l.of) (answers_always _ _ _ (λ f a r g called. search rules)) in
    subst (λ (r : ℕ × ℕ). IsBinarySearchResult (λ (l : Listed). by_rank (rank_of l.of) r) c.args.readable.now c.binary_search_by_key.result) c.rank.ensures by_key
