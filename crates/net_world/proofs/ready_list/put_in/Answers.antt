use Rattle.std.proofs.Common.{◌<◌, ◌≤◌, List, Ok, Err, length, true, false, sym, subst, arith}
use Rattle.std.specs.List.Sorted.{IsBinarySearchResult}
use Rattle.net_world.specs.declared.ready_list.Listed.{Listed}
use Rattle.net_world.specs.Tables.{rank_of, by_rank, Lists}
use Rattle.net_world.proofs.Standing.{found_alone, inserted, lists_in}
use Rattle.net_world.proofs.ready_list.put_in.Goals as goal

pub unreachable-requires : goal.unreachable-requires
unreachable-requires c =
    let found = subst (λ (ls : List Listed). IsBinarySearchResult (λ (l : Listed). by_rank (rank_of l.of) (rank_of c.args.listed.of)) ls (Ok c.in_default.field-0)) c.deref.ensures.value c.in_default.ensures.position in
    let below = subst (λ (ls : List Listed). c.in_default.field-0 < length ls) c.deref.ensures.value c.in_default.ensures.range in
    found_alone c.args.readable.now.items c.args.listed c.in_default.field-0 below (λ other h of. absurd (c.requires.alone other h of)) found

pub returns-clause-lists : goal.returns-clause-lists
returns-clause-lists c =
    let found = subst (λ (ls : List Listed). IsBinarySearchResult (λ (l : Listed). by_rank (rank_of l.of) (rank_of c.args.listed.of)) ls (Err c.in-Err.at)) c.deref.ensures.value c.in-Err.ensures.position in
    let fits = subst (λ (ls : List Listed). c.in-Err.at ≤ length ls) c.deref.ensures.value c.in-Err.ensures.range in
    let lists = lists_in c.args.readable.now.items c.args.listed c.in-Err.at fits c.requires.rise (λ other h of. absurd (c.requires.alone other h of)) found in
    let put = inserted c.insert-put.result _ _ _ (c.insert-put.ensures.succeeds (omega (arith, c.requires.room, c.args.readable.now.ok.0))) c.insert-put.ensures.items in
    subst (λ (ls : List Listed). Lists c.args.readable.now.items ls c.args.listed false true) (sym put) lists
