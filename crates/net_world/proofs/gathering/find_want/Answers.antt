use Rattle.std.proofs.Common.{rules, ℕ, subst}
use Rattle.std.specs.List.Sorted.{IsBinarySearchResult}
use Rattle.std.proofs.lemmas.List.Sorted.{answers_always}
use Rattle.poll_list.specs.declared.Want.{Want}
use Rattle.net_world.specs.Tables.{rank_of, by_rank}
use Rattle.net_world.proofs.gathering.find_want.Goals as goal

pub returns-clause-position : goal.returns-clause-position
returns-clause-position c =
    let by_key = c.binary_search_by_key.ensures.position (λ (w : Want). rank_of w.of) (answers_always _ _ _ (λ f a r g called. search rules)) in
    subst (λ (r : ℕ × ℕ). IsBinarySearchResult (λ (w : Want). by_rank (rank_of w.of) r) c.args.wants.now c.binary_search_by_key.result) c.rank.ensures by_key
